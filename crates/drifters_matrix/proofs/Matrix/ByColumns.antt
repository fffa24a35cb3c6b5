-- A matrix of which a loop sets one column after the other, each a block of one column. Assumes nothing.
use mathlib.Core.Path.{◌≡◌, sym, ap, ◌∙◌}
use mathlib.Core.Bool.{true, cond}
use mathlib.Core.List.{List, []}
use mathlib.Core.Logic.{⊎_elim}
use Prim.Native.Nat.{ℕ, ◌+◌, ◌-◌, ◌*◌, ◌≤◌, ◌<◌}
use native.Mathlib.Nat.{eq-or-lt_of_le}
use native.Mathlib.Omega.{arith}
use borrow.Author.Tests.{lt-ltb, le-ltb, le-leb, lt-leb}
use lib.Dec.{ltb}
use lib.ListN.{get_or, length-replicate, get_or-replicate}
use lib.Ieee.{Float, nan}
use Rattle.drifters_real.specs.Scalar.{plus_zero}
use Rattle.drifters_matrix.specs.Matrix.{tab, at, matrix, zeros, in_block, set_block, from_columns}
use Rattle.drifters_matrix.proofs.Matrix.Tab.{get_d_tab}
use Rattle.drifters_matrix.proofs.Matrix.Grid.{at_in, entry, lt_or_le, matrix_is, matrix_ext}
use Rattle.drifters_matrix.proofs.Matrix.Block.{fits, set_is}

-- the first k columns are those of `cols`, the others zeros
abbrev pub first_columns : (r c k : ℕ) → (ℕ → List Float) → List Float
first_columns r c k cols = matrix r c (λ i j. cond (ltb j k) (get_or (cols j) i nan) plus_zero)

-- before the first step
pub no_columns : (r c : ℕ) (cols : ℕ → List Float) → zeros (r * c) ≡ first_columns r c 0 cols
no_columns r c cols =
    matrix_is r c _ (zeros (r * c)) (length-replicate (r * c) plus_zero)
    (λ i j h k. rw (le-ltb j 0 (omega arith)) (get_or-replicate (r * c) (i * c + j) plus_zero nan (at_in i j r c h k)))

-- one step: column k is set
pub next_column : (r c k : ℕ) (cols : ℕ → List Float) → k < c →
    set_block r c r 1 0 k (first_columns r c k cols) (cols k) ≡ first_columns r c (k + 1) cols
next_column r c k cols l =
    sym (set_is r c r 1 0 k (first_columns r c k cols) (cols k) true (fits r c r 1 0 k (omega arith) (omega arith)))
    ∙ matrix_ext r c _ _
    (λ i j a b. ap (cond (in_block r 1 0 k i j) (at 1 (cols k) (i - 0) (j - k))) (entry r c (early k) i j a b) ∙ at_column i j a)
  where
    early : ℕ → ℕ → ℕ → Float
    early n i j = cond (ltb j n) (get_or (cols j) i nan) plus_zero

    at_column : (i j : ℕ) → i < r → cond (in_block r 1 0 k i j) (at 1 (cols k) (i - 0) (j - k)) (early k i j) ≡ early (k + 1) i j
    at_column i j a =
        rw (le-leb 0 i (omega arith), lt-ltb i (0 + r) (omega arith))
        (⊎_elim
        (λ (x : j < k). rw (lt-leb k j x, lt-ltb j k x, lt-ltb j (k + 1) (omega arith)))
        (λ (x : k ≤ j). ⊎_elim
        (λ (y : k ≡ j).
        let z : (i - 0) * 1 + (j - k) ≡ i = omega arith in
        rw (le-leb k j x, lt-ltb j (k + 1) (omega arith)) (ap (λ n. get_or (cols k) n nan) z ∙ ap (λ n. get_or (cols n) i nan) y))
        (λ (y : k < j). rw (le-leb k j x, le-ltb j (k + 1) (omega arith), le-ltb j k x))
        (eq-or-lt_of_le x))
        (lt_or_le j k))

-- after the last step
pub all_columns : (r c : ℕ) (cols : ℕ → List Float) → first_columns r c c cols ≡ matrix r c (λ i j. get_or (cols j) i nan)
all_columns r c cols = matrix_ext r c _ _ (λ i j h k. rw (lt-ltb j c k))

-- the matrix of the columns f 0, f 1, .., f (c - 1)
pub columns_are : (r c : ℕ) {columns : List (List Float)} (f : ℕ → List Float) → columns ≡ tab c f → from_columns r c columns ≡ matrix r c (λ i j. get_or (f j) i nan)
unfolding from_columns
columns_are r c f e = matrix_ext r c _ _ (λ i j h k. ap (λ l. get_or l i nan) (ap (λ m. get_or m j []) e ∙ get_d_tab c f j [] k))
