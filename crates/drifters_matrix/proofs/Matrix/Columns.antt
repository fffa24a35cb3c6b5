-- A matrix written column by column. Assumes nothing.
use mathlib.Core.Path.{◌≡◌, ap, ◌∙◌}
use mathlib.Core.List.{List}
use Prim.Native.Nat.{ℕ, ◌+◌, ◌*◌, ◌/◌, ◌%◌, ◌<◌}
use native.Mathlib.Nat.{add-zero, add_assoc, div-lt_iff_lt-mul, div-add-mod', lt_of_lt_of_le, le_trans}
use native.Mathlib.Omega.{arith}
use borrow.Author.Count.{below_more}
use lib.ListN.{length, set}
use lib.Seq.{get_or-set_same, get_or-set_other}
use lib.Ieee.{Float, nan}
use Rattle.std.proofs.lemmas.Nat.{div-mul-add, mod-mul-add, same_from_place}
use Rattle.drifters_matrix.specs.Matrix.{at, matrix}
use Rattle.drifters_matrix.proofs.Matrix.Grid.{at_in, row_in, matrix_is}

-- What a loop that writes a matrix of r rows and c columns column by column keeps: the entries before (j, i), which stands in row j of
-- column i, are those of f. Counted in that order, entry n is in row n % r of column n / r.
pub record Columns (r c : ℕ) (f : ℕ → ℕ → Float) (i j : ℕ) (l : List Float) : Type 0 where
  pub filled : (n : ℕ) → n < i * r + j → at c l (n % r) (n / r) ≡ f (n % r) (n / r)

pub columns_set : {r c : ℕ} {f : ℕ → ℕ → Float} {i j : ℕ} {l : List Float} {v : Float} → Columns r c f i j l → i < c → j < r → j * c + i < length l → v ≡ f j i →
    Columns r c f i (j + 1) (set l (j * c + i) v)
columns_set {r} {c} {f} {i} {j} {l} {v} w h k s e =
    record {
      filled = rw (← add_assoc)
          (below_more (λ n. at c (set l (j * c + i) v) (n % r) (n / r) ≡ f (n % r) (n / r)) (i * r + j)
          (λ n q. get_or-set_other l (j * c + i) (n % r * c + n / r) v nan
          (λ z.
          let y = same_from_place (n % r) (n / r) j i c ((div-lt_iff_lt-mul positive).1 (lt_of_lt_of_le q (le_trans (omega arith) (row_in i c r h)))) h z in
          omega (arith, q, div-add-mod' n r, ap (λ m. m * r) y.1, y.0))
          ∙ w.filled n q)
          (rw (mod-mul-add i r j k, div-mul-add i r j k) (get_or-set_same l (j * c + i) v nan s ∙ e)));
    }
  where
    positive : 0 < r
    positive = omega arith

pub columns_done : {r c : ℕ} {f : ℕ → ℕ → Float} {i : ℕ} {l : List Float} → Columns r c f i 0 l → i ≡ c → length l ≡ r * c → l ≡ matrix r c f
columns_done {r} {c} {f} {i} {l} w e s =
    matrix_is r c f l s
    (λ p q h k. rw (mod-mul-add q r p h, div-mul-add q r p h) at (w.filled (q * r + p) (rw (add-zero, e) (at_in q p c r k h))))
