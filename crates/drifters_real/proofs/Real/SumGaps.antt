-- The rule's sums grow with the square, and so stay near each other up to any bound of it at which the test of `Intervals` passes.
use Rattle.std.proofs.Common.{ℕ, ◌+◌, ◌*◌, ◌≤◌, T, zero-le, mul-le-mul_left}
use Rattle.drifters_real.specs.Real.{term, sinc_plus, sinc_minus, cos_plus, cos_minus}
use Rattle.drifters_real.proofs.Real.Terms.{term_mono}
use Rattle.drifters_real.proofs.Real.PowerSums.{sum_le}
use Rattle.drifters_real.proofs.Real.Intervals.{Close, tested_to, sound}

pub sinc_plus_mono : (x y : ℕ) → x ≤ y → sinc_plus x ≤ sinc_plus y
unfolding sinc_plus
sinc_plus_mono x y h = sum_le (λ i. term x (2 * i)) (λ i. term y (2 * i)) 16 (λ i _. term_mono x y (2 * i) h)

pub sinc_minus_mono : (x y : ℕ) → x ≤ y → sinc_minus x ≤ sinc_minus y
unfolding sinc_minus
sinc_minus_mono x y h = sum_le (λ i. term x (2 * i + 1)) (λ i. term y (2 * i + 1)) 16 (λ i _. term_mono x y (2 * i + 1) h)

pub cos_plus_mono : (x y : ℕ) → x ≤ y → cos_plus x ≤ cos_plus y
unfolding cos_plus
cos_plus_mono x y h = sum_le (λ i. (4 * i + 1) * term x (2 * i)) (λ i. (4 * i + 1) * term y (2 * i)) 16 (λ i _. mul-le-mul_left (4 * i + 1) (term_mono x y (2 * i) h))

pub cos_minus_mono : (x y : ℕ) → x ≤ y → cos_minus x ≤ cos_minus y
unfolding cos_minus
cos_minus_mono x y h = sum_le (λ i. (4 * i + 3) * term x (2 * i + 1)) (λ i. (4 * i + 3) * term y (2 * i + 1)) 16 (λ i _. mul-le-mul_left (4 * i + 3) (term_mono x y (2 * i + 1) h))

-- for every square of at most X, where the test up to X passes
pub sinc_close : (X lim x : ℕ) → T (tested_to sinc_plus sinc_minus lim X) → x ≤ X → Close sinc_plus sinc_minus lim x
sinc_close X lim x t h = sound sinc_plus sinc_minus sinc_plus_mono sinc_minus_mono lim 16 0 X x t zero-le h

pub cos_close : (X lim x : ℕ) → T (tested_to cos_plus cos_minus lim X) → x ≤ X → Close cos_plus cos_minus lim x
cos_close X lim x t h = sound cos_plus cos_minus cos_plus_mono cos_minus_mono lim 16 0 X x t zero-le h
