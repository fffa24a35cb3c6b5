-- The laws of the factorisation: what a step of the loops of `cholesky_into` does. Assumes nothing.
use mathlib.Core.Path.{◌≡◌, refl, sym, ap, ◌∙◌, subst}
use mathlib.Core.Bool.{Bool, true, false, not, ◌||◌, cond}
use mathlib.Core.List.{List}
use Prim.Native.Nat.{ℕ, zero, suc, ◌+◌, ◌-◌, ◌*◌, ◌≤◌, ◌<◌}
use native.Mathlib.Nat.{add-zero, add-suc, add-sub_of_le}
use native.Mathlib.Numerals.{add-one}
use borrow.Author.Tests.{eq-eqb, ne_eqb}
use lib.Dec.{eqb}
use lib.ListN.{set}
use lib.Ieee.{Float, le}
use Rattle.drifters_real.specs.Scalar.{◌⊘◌, plus_zero}
use Rattle.drifters_real.specs.Real.{sqrt, is_finite}
use Rattle.drifters_matrix.specs.Matrix.{at}
use Rattle.drifters_cholesky.specs.Cholesky.{bad_pivot, Factor, none, lower, reduced, factor_entry, factor_columns, factor_rows, cholesky}

-- the two tests of a pivot, made one after the other
pub not_finite_bad : (x : Float) {t : Bool} → t ≡ is_finite x → not t ≡ true → bad_pivot x ≡ true
not_finite_bad x e h = ap (λ b. b || le x plus_zero) (sym (ap not e) ∙ h)

pub finite_bad : (x : Float) {t : Bool} → t ≡ is_finite x → not t ≡ false → bad_pivot x ≡ le x plus_zero
finite_bad x e h = ap (λ b. b || le x plus_zero) (sym (ap not e) ∙ h)

-- entry (i, j), with the entries before it in l, and s the entry less its products
module _ (n : ℕ) (a : List Float) (i j : ℕ) (f : Factor) (l : List Float) (s : Float) (e : factor_columns n a i j f ≡ lower l) (r : s ≡ reduced n a l i j) where
  next : factor_columns n a i (j + 1) f ≡
      cond (eqb i j) (cond (bad_pivot s) none (lower (set l (i * n + j) (sqrt s)))) (lower (set l (i * n + j) (s ⊘ at n l j j)))
  unfolding factor_columns factor_entry
  next = rw (add-one, e, r)

  pub stop : i ≡ j → bad_pivot s ≡ true → factor_columns n a i (j + 1) f ≡ none
  stop p b = next ∙ rw (eq-eqb i j p, b)

  pub pivot : i ≡ j → bad_pivot s ≡ false → factor_columns n a i (j + 1) f ≡ lower (set l (i * n + j) (sqrt s))
  pivot p b = next ∙ rw (eq-eqb i j p, b)

  pub quotient : (i ≡ j → ⊥) → factor_columns n a i (j + 1) f ≡ lower (set l (i * n + j) (s ⊘ at n l j j))
  quotient p = next ∙ rw (ne_eqb i j p)

pub factor_rows_next : (n : ℕ) (a : List Float) (i : ℕ) → factor_rows n a (i + 1) ≡ factor_columns n a i (i + 1) (factor_rows n a i)
unfolding factor_rows
factor_rows_next n a i = rw add-one

-- none stays none
columns_stay_none : (n : ℕ) (a : List Float) (i j : ℕ) → factor_columns n a i j none ≡ none
unfolding factor_columns factor_entry
columns_stay_none n a i zero = refl
columns_stay_none n a i (suc j) = rw (columns_stay_none n a i j)

rows_stay_none : (n : ℕ) (a : List Float) (i m : ℕ) → factor_rows n a i ≡ none → factor_rows n a (i + m) ≡ none
unfolding factor_rows
rows_stay_none n a i zero e = rw add-zero e
rows_stay_none n a i (suc m) e = rw (add-suc, rows_stay_none n a i m e) (columns_stay_none n a (i + m) (suc (i + m)))

pub stops : (n : ℕ) (a : List Float) (i : ℕ) → i < n → factor_columns n a i (i + 1) (factor_rows n a i) ≡ none → cholesky n a ≡ none
unfolding cholesky
stops n a i h e =
    subst (λ (m : ℕ). factor_rows n a m ≡ none) (add-sub_of_le (subst (λ (m : ℕ). m ≤ n) (sym (add-one i)) h)) (rows_stay_none n a (i + 1) (n - (i + 1)) (factor_rows_next n a i ∙ e))
