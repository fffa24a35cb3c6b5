-- Port of filter.rs: the filter's propagation and updates, with their refusals. An update is given its alpha, the share of inflation along the
-- innovation; the original keeps one in the filter and reads it there. Definitions only.
use Rattle.std.specs.Prelude.{ℕ, ◌*◌, Bool, ◌&&◌, cond, List, Float, Option, Some, None, Result, Ok, Err}
use Rattle.std.specs.Float.{binary64}
use Rattle.std.specs.Float.Ieee.{le, of_bits}
use Rattle.drifters_real.specs.Scalar.{◌⊗◌, half}
use Rattle.drifters_real.specs.Real.{abs}
use Rattle.drifters_matrix.specs.Matrix.{transpose, matmul, mul_transpose, scaled, symmetrize, add_matrix}
use Rattle.drifters_cholesky.specs.Cholesky.{Factor, definite, entries_of, cholesky, solve}
use Rattle.drifters_core.specs.Vec3.{to_array, norm, normalized, skew, sub_vec3, mul_mat3_vec3}
use Rattle.drifters_core.specs.declared.math.vec3.Vec3.{Vec3}
use Rattle.drifters_eqf.specs.Answer.{Answer, Nis, Fine, Refused, turn_refusal, pivot_refusal, refusal_number}
use Rattle.drifters_eqf.specs.declared.answer.Refusal.{Refusal}
use Rattle.drifters_symmetry.specs.Group.{compose, scaled_algebra, from_array21, exp, default_state, from_state, act_state}
use Rattle.drifters_symmetry.specs.Lift.{lift}
use Rattle.drifters_symmetry.specs.Linear.{state_matrix, direction_output_matrix, position_output_matrix, velocity_output_matrix, transported_direction, transported_position, transported_velocity}
use Rattle.drifters_covariance.specs.Covariance.{transition, process_noise, joseph, reset_sigma}
use Rattle.drifters_gcu.specs.Gcu.{nis, inflate}
use Rattle.drifters_symmetry.specs.declared.group.Symmetry.{Symmetry}
use Rattle.drifters_symmetry.specs.declared.group.Algebra.{Algebra}
use Rattle.drifters_symmetry.specs.declared.group.State.{State}
use Rattle.drifters_symmetry.specs.declared.lift.Input.{Input}
use Rattle.drifters_covariance.specs.declared.covariance.ProcessNoise.{ProcessNoise}
use Rattle.drifters_eqf.specs.declared.filter.EqFilter.{EqFilter}
use Rattle.drifters_eqf.specs.declared.filter.Updated.{Updated}
use Rattle.drifters_eqf.specs.declared.filter.Measurement3.{Measurement3}

-- 8.0: the largest norm of a rotation vector whose exponential is taken
abbrev pub turn_limit : Float
turn_limit = of_bits binary64 0x4020_0000_0000_0000

-- the norms of both rotation vectors of u are numbers at most that; refusal 'turn' (docs/MANUAL.md) is that they are not
unfoldable pub turn_fits : Algebra → Bool
turn_fits u = le (norm u.c.omega) turn_limit && le (norm u.e) turn_limit

-- an answer with the filter beside it
pub record Answered : Type 0 where
  pub answer : Answer
  pub filter : EqFilter

-- a refusal, beside the filter as it was
abbrev pub refuse : ℕ → EqFilter → Answered
refuse n f = record { answer = Refused n; filter = f }

-- what a propagation of the filter f gives: the filter after it, or a refusal, and the caller still has f
abbrev pub answered_propagation : EqFilter → Result EqFilter Refusal → Answered
answered_propagation f (Ok after) = record { answer = Fine; filter = after }
answered_propagation f (Err r) = refuse (refusal_number r) f

-- what an update of the filter f gives, in the same way
abbrev pub answered_update : EqFilter → Result Updated Refusal → Answered
answered_update f (Ok u) = record { answer = Nis u.nis; filter = u.filter }
answered_update f (Err r) = refuse (refusal_number r) f

-- a filter of its parts
abbrev pub filter_of : Symmetry → List Float → Vec3 → EqFilter
filter_of x sigma gravity = record { x = x; sigma = record { «data» = sigma }; gravity = gravity }

-- the filter of an initial state and covariance
unfoldable pub new : State → List Float → Vec3 → EqFilter
new initial sigma gravity = filter_of (from_state initial) sigma gravity

-- the estimate
unfoldable pub nav_state : EqFilter → State
nav_state f = act_state f.x default_state

-- ---- propagation

-- the algebra element of the half step, lifted at the estimate
unfoldable pub half_step : EqFilter → Input → Float → Algebra
half_step f u dt = scaled_algebra (lift (nav_state f) u f.gravity) (half ⊗ dt)

-- the observer's state half a step on, where the lift is taken again: it changes over the step, and so the step is second order in dt
unfoldable pub midpoint : EqFilter → Input → Float → Symmetry
midpoint f u dt = compose f.x (exp (half_step f u dt))

-- the algebra element of the full step, lifted at the midpoint
unfoldable pub full_step : EqFilter → Input → Float → Algebra
full_step f u dt = scaled_algebra (lift (act_state (midpoint f u dt) default_state) u f.gravity) dt

-- the covariance after propagation: x is the observer's new state, the estimate the old one; |dt|, since noise adds backwards in time too
unfoldable pub propagated_sigma : EqFilter → Input → Float → ProcessNoise → List Float
propagated_sigma f u dt q =
    let x = compose f.x (exp (full_step f u dt)) in
    let phi = transition (state_matrix (midpoint f u dt) u f.gravity) dt in
    let noise = process_noise x (nav_state f) q in
    symmetrize 21 (add_matrix 441 (mul_transpose 21 21 21 (matmul 21 21 21 phi f.sigma.«data») phi) (scaled 441 noise (abs dt)))

-- the filter after propagation
unfoldable pub propagated : EqFilter → Input → Float → ProcessNoise → EqFilter
propagated f u dt q = record {
  x = compose f.x (exp (full_step f u dt));
  sigma = record { «data» = propagated_sigma f u dt q };
  gravity = f.gravity;
}

-- propagation over dt; refused where the turn of the half step, or then of the full step, does not fit
unfoldable pub propagate : EqFilter → Input → Float → ProcessNoise → Answered
propagate f u dt q =
    cond (turn_fits (half_step f u dt))
    (cond (turn_fits (full_step f u dt)) (record { answer = Fine; filter = propagated f u dt q }) (refuse turn_refusal f))
    (refuse turn_refusal f)

-- ---- updates, of w measured numbers: c is the w by 21 output matrix, y the innovation, noise w by w

-- c sigma cᵀ
unfoldable pub projected : ℕ → EqFilter → List Float → List Float
projected w f c = mul_transpose w 21 w (matmul w 21 21 c f.sigma.«data») c

-- the factor of the raw innovation covariance
unfoldable pub raw_factor : ℕ → EqFilter → List Float → List Float → Factor
raw_factor w f c noise = cholesky w (add_matrix (w * w) (projected w f c) noise)

-- the factor of the inflated innovation covariance
unfoldable pub inflated_factor : ℕ → EqFilter → List Float → List Float → List Float → Float → Factor
inflated_factor w f c y noise alpha = cholesky w (inflate w y (projected w f c) noise alpha)

-- the 21 by w gain sigma cᵀ S⁻¹ for the inflated S, as the transpose of a solve (S is symmetric but for rounding): a solve rounds less than an inverse
unfoldable pub gain : ℕ → EqFilter → List Float → List Float → List Float → Float → List Float
gain w f c y noise alpha = transpose w 21 (solve w 21 (entries_of w (inflated_factor w f c y noise alpha)) (matmul w 21 21 c f.sigma.«data»))

-- what an update of any width applies to the filter, for the gain k: k y, k c and k noise kᵀ
pub record Correction : Type 0 where
  pub delta : List Float
  pub kc : List Float
  pub noise : List Float

-- the correction of a gain k
unfoldable pub correction : ℕ → List Float → List Float → List Float → List Float → Correction
correction w k c y noise = record {
  delta = matmul 21 w 1 k y;
  kc = matmul 21 w 21 k c;
  noise = mul_transpose 21 w 21 (matmul 21 w w k noise) k;
}

-- ---- what no width enters: a correction applied

-- the algebra element of a correction
unfoldable pub step : Correction → Algebra
step u = from_array21 u.delta

-- the filter after a correction: the error is then measured from the new estimate, so the covariance is moved to its coordinates, the reset
unfoldable pub corrected : EqFilter → Correction → EqFilter
corrected f u = record {
  x = compose (exp (step u)) f.x;
  sigma = record { «data» = symmetrize 21 (reset_sigma (step u) (joseph f.sigma.«data» u.kc u.noise)) };
  gravity = f.gravity;
}

-- a correction applied, with the normalised innovation squared r for an answer; refused where its turn does not fit
unfoldable pub applied : EqFilter → Float → Correction → Answered
applied f r u = cond (turn_fits (step u)) (record { answer = Nis r; filter = corrected f u }) (refuse turn_refusal f)

-- ---- the update of w numbers

-- refused where a factor is missing; the answer is from the raw factor, since inflation hides how unexpected the innovation is
unfoldable pub update : ℕ → EqFilter → List Float → List Float → List Float → Float → Answered
update w f c y noise alpha =
    cond (definite (raw_factor w f c noise))
    (cond (definite (inflated_factor w f c y noise alpha))
    (applied f (nis w (entries_of w (raw_factor w f c noise)) y) (correction w (gain w f c y noise alpha) c y noise))
    (refuse pivot_refusal f))
    (refuse pivot_refusal f)

-- what an update measures: its output matrix and its innovation
pub record Measurement : Type 0 where
  pub output : List Float
  pub innovation : List Float

-- the same of three numbers, as the code has it
abbrev pub measurement3 : Measurement3 → Measurement
measurement3 m = record { output = m.output.«data»; innovation = to_array m.innovation }

-- the update by a measurement of w numbers
abbrev pub update_by : ℕ → EqFilter → Measurement → List Float → Float → Answered
update_by w f m noise alpha = update w f m.output m.innovation noise alpha

-- an antenna position, measured
unfoldable pub measured_position : Symmetry → Vec3 → Measurement
measured_position x antenna =
    let transported = transported_position x in
    record { output = position_output_matrix antenna transported; innovation = to_array (sub_vec3 transported antenna) }

-- an antenna velocity, measured at the rate that built it
unfoldable pub measured_velocity : Symmetry → Vec3 → Vec3 → Measurement
measured_velocity x antenna omega =
    let transported = transported_velocity x omega in
    record { output = velocity_output_matrix antenna transported (mul_mat3_vec3 x.c.rotation omega); innovation = to_array (sub_vec3 transported antenna) }

-- a unit vector, measured of a north that is one
abbrev pub measured_unit : Symmetry → Vec3 → Vec3 → Measurement
measured_unit x unit origin =
    let transported = transported_direction x unit in
    record { output = direction_output_matrix origin transported; innovation = to_array (mul_mat3_vec3 (skew origin) transported) }

-- what two normalised vectors give: a measurement, or none where one of them is none
abbrev pub measured_units : Symmetry → Option Vec3 → Option Vec3 → Option Measurement
measured_units x (Some unit) (Some origin) = Some (measured_unit x unit origin)
measured_units x (Some unit) None = None
measured_units x None (Some origin) = None
measured_units x None None = None

-- a magnetometer direction, measured of a known north; none where the norm of one of them is not above 0
unfoldable pub measured_direction : Symmetry → Vec3 → Vec3 → Option Measurement
measured_direction x measured north = measured_units x (normalized measured) (normalized north)
