-- What the loop over the terms of a series keeps, for whole matrices and for blocks. Assumes nothing.
use mathlib.Core.Path.{◌≡◌}
use mathlib.Core.List.{List}
use Prim.Native.Nat.{ℕ, suc, ◌+◌, ◌-◌, ◌≤◌}
use native.Mathlib.Omega.{arith}
use lib.IntN.{pos}
use lib.Ieee.{Float, binary64, of_int}
use Rattle.drifters_real.specs.Scalar.{◌⊘◌, one}

-- before round k the terms 1 to k - 1 are added, and term is the last of them
pub record Added (terms sums : ℕ → List Float) (k : ℕ) (term psi : List Float) : Type 0 where
  pub first : 1 ≤ k
  pub last : k ≤ 16
  pub term_is : term ≡ terms (k - 1)
  pub psi_is : psi ≡ sums (k - 1)

-- one term more, made by `times` and added by `plus`
pub added_next : {terms sums : ℕ → List Float} {k : ℕ} {term psi term' psi' : List Float} (times : List Float → Float → List Float) (plus : List Float → List Float → List Float) →
    ((k : ℕ) → terms (suc k) ≡ times (terms k) (one ⊘ of_int binary64 (pos (suc k + 1)))) → ((k : ℕ) → sums (suc k) ≡ plus (sums k) (terms (suc k))) →
    Added terms sums k term psi → k ≤ 15 → term' ≡ times term (one ⊘ of_int binary64 (pos (k + 1))) → psi' ≡ plus psi term' → Added terms sums (k + 1) term' psi'
added_next {terms} {sums} {k} {term} {psi} {term'} {psi'} times plus term-next sum_next h b e z =
    let j : k + 1 - 1 ≡ suc (k - 1) = omega (arith, h.first) in
    let d : suc (k - 1) + 1 ≡ k + 1 = omega (arith, h.first) in
    let made : term' ≡ terms (suc (k - 1)) = rw (term-next, d, ← h.term_is) e in
    record { first = omega arith; last = omega arith; term_is = rw j made; psi_is = rw (j, sum_next, ← made, ← h.psi_is) z }
