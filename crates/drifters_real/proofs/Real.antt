-- The three theorems of specs/Real.antt, and below this module the laws that the proofs of math/real.rt share.
pub mod Compare
pub mod Newton
pub mod WholeRoot
pub mod RootStep
pub mod Patterns
pub mod SquareRoot
pub mod NearestRoot
pub mod Terms
pub mod PowerSums
pub mod Intervals
pub mod SumGaps
pub mod LimbProducts
pub mod SumLoop
pub mod Rounding
pub mod Zeros
pub mod Angle
pub mod AngleSquare
pub mod Error
pub mod ProductError
pub mod Bounds
use Rattle.std.proofs.Common.{◌≡◌, false, pos, refl}
use lib.Ieee.{fin, size, units, round, mul, le, of_bits}
use Rattle.drifters_real.specs.Real.{whole_root, smallest_values, sqrt_units, sqrt, sum_of, angle, square, term, sinc_plus, sinc_minus, cos_plus, cos_minus, difference, sinc_of_square, cos_of_square, in_range, sin, cos, SqrtNearest, CosineBound, SineBound}
use Rattle.drifters_real.proofs.Real.NearestRoot.{sqrt_nearest_lem}
use Rattle.drifters_real.proofs.Real.Bounds.{cosine_bound_lem, sine_bound_lem}

pub sqrt_nearest : SqrtNearest
sqrt_nearest = sqrt_nearest_lem

pub cosine_bound : CosineBound
cosine_bound = cosine_bound_lem

pub sine_bound : SineBound
sine_bound = sine_bound_lem

-- some values
pub sqrt_of_four : sqrt (fin false 1 (pos 2)) ≡ fin false 1 (pos 1)
unfolding sqrt sqrt_units smallest_values whole_root size units
sqrt_of_four = refl

pub sin_of_zero : sin (fin false 0 (pos 0)) ≡ fin false 0 (pos 0)
unfolding sin in_range angle square sinc_of_square difference sinc_plus sinc_minus sum_of term of_bits le mul round
sin_of_zero = refl

pub cos_of_zero : cos (fin false 0 (pos 0)) ≡ fin false 1 (pos 0)
unfolding cos in_range angle square cos_of_square difference cos_plus cos_minus sum_of term of_bits le round
cos_of_zero = refl
