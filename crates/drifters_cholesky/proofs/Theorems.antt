-- The theorem that specs/Cholesky.antt states: what the factorisation reads. Assumes nothing.
use mathlib.Core.Path.{◌≡◌, refl, ap, ◌∙◌}
use mathlib.Core.List.{List}
use Prim.Native.Nat.{ℕ, zero, suc, ◌≤◌, ◌<◌}
use native.Mathlib.Nat.{le_of_suc-le-suc, le_refl, le_step}
use lib.Ieee.{Float}
use Rattle.drifters_matrix.specs.Matrix.{at}
use Rattle.drifters_cholesky.specs.Cholesky.{Factor, none, lower, factor_entry, factor_columns, factor_rows, cholesky, LowerOnly}

-- entry (i, j) of the factor rests on that of the matrix alone
entry_agrees : (n : ℕ) (a b : List Float) (i j : ℕ) (f : Factor) → at n a i j ≡ at n b i j → factor_entry n a i j f ≡ factor_entry n b i j f
unfolding factor_entry
entry_agrees n a b i j none e = refl
entry_agrees n a b i j (lower l) e = rw e

columns_agree : (n : ℕ) (a b : List Float) (i j : ℕ) (f : Factor) → ((k : ℕ) → k < j → at n a i k ≡ at n b i k) → factor_columns n a i j f ≡ factor_columns n b i j f
unfolding factor_columns
columns_agree n a b i zero f h = refl
columns_agree n a b i (suc j) f h =
    ap (factor_entry n a i j) (columns_agree n a b i j f (λ k p. h k (le_step p))) ∙ entry_agrees n a b i j (factor_columns n b i j f) (h j (le_refl (suc j)))

rows_agree : (n : ℕ) (a b : List Float) (i : ℕ) → ((p q : ℕ) → p < i → q ≤ p → at n a p q ≡ at n b p q) → factor_rows n a i ≡ factor_rows n b i
unfolding factor_rows
rows_agree n a b zero h = refl
rows_agree n a b (suc i) h =
    ap (factor_columns n a i (suc i)) (rows_agree n a b i (λ p q l. h p q (le_step l)))
    ∙ columns_agree n a b i (suc i) (factor_rows n b i) (λ k l. h i k (le_refl (suc i)) (le_of_suc-le-suc l))

pub lower_only : LowerOnly
unfolding cholesky
lower_only n a b h = rows_agree n a b n h
