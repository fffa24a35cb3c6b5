-- The theorem that specs/Matrix.antt states: what symmetrizing leaves. Assumes nothing.
use mathlib.Core.Path.{◌≡◌, sym, ◌∙◌}
use mathlib.Core.Bool.{cond}
use mathlib.Core.List.{List}
use mathlib.Core.Logic.{⊎_elim}
use Prim.Native.Nat.{ℕ, ◌≤◌, ◌<◌}
use native.Mathlib.Nat.{eq-or-lt_of_le, le_of_lt}
use borrow.Author.Tests.{lt-ltb, le-ltb}
use lib.Dec.{ltb}
use lib.Ieee.{Float}
use Rattle.drifters_matrix.specs.Matrix.{at, mean, symmetrize, Mirrored}
use Rattle.drifters_matrix.proofs.Matrix.Grid.{entry, lt_or_le}

-- entry (i, j) of a symmetrized matrix
abbrev symmetric : ℕ → List Float → ℕ → ℕ → Float
symmetric n m i j = cond (ltb i j) (mean n m i j) (cond (ltb j i) (mean n m j i) (at n m i j))

above : (n : ℕ) (m : List Float) (i j : ℕ) → i < j → symmetric n m i j ≡ symmetric n m j i
above n m i j h = rw (lt-ltb i j h, le-ltb j i (le_of_lt h))

swap : (n : ℕ) (m : List Float) (i j : ℕ) → symmetric n m i j ≡ symmetric n m j i
swap n m i j =
    ⊎_elim
    (λ (h : i < j). above n m i j h)
    (λ (h : j ≤ i). ⊎_elim (λ (e : j ≡ i). rw e) (λ (l : j < i). sym (above n m j i l)) (eq-or-lt_of_le h))
    (lt_or_le i j)

pub mirrored : Mirrored
unfolding symmetrize
mirrored n m i j h k = entry n n (symmetric n m) i j h k ∙ swap n m i j ∙ sym (entry n n (symmetric n m) j i k h)
