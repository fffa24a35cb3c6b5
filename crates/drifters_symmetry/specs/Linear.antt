-- Port of linear.rs: the linearised dynamics, the output matrices, and the measurements transported into the error frame. Definitions only.
use Rattle.std.specs.Prelude.{ℕ, List, Float}
use Rattle.drifters_real.specs.Scalar.{half}
use Rattle.drifters_matrix.specs.Matrix.{zeros, set_block}
use Rattle.drifters_core.specs.Vec3.{zero_vec3, skew, add_vec3, mul_vec3, mul_mat3_vec3}
use Rattle.drifters_core.specs.declared.math.vec3.Vec3.{Vec3}
use Rattle.drifters_matrix.specs.Shapes.{Mat3}
use Rattle.drifters_lie.specs.Lie.{identity3, matmul3, neg3, se23_tangent, pi, ad_se3, add_se3, add_se23, adjoint_apply_se23}
use Rattle.drifters_symmetry.specs.Group.{attitude_offset, velocity_offset, position_offset, gyro_bias_offset, accel_bias_offset, lever_offset, mag_offset, inverse, act_direction, act_position, act_velocity}
use Rattle.drifters_symmetry.specs.declared.group.Symmetry.{Symmetry}
use Rattle.drifters_symmetry.specs.declared.lift.Input.{Input}

-- m with a 3 by 3 block at (r0, c0), m of 21 columns and r rows
abbrev pub set3 : ℕ → ℕ → ℕ → List Float → Mat3 → List Float
set3 r r0 c0 m src = set_block r 21 3 3 r0 c0 m src.«data»

-- the linearised dynamics at x, for the input u
unfoldable pub state_matrix : Symmetry → Input → Vec3 → List Float
state_matrix x u gravity =
    let m = set3 21 velocity_offset attitude_offset (zeros 441) (skew gravity) in
    let m = set3 21 position_offset velocity_offset m identity3 in
    let m = set3 21 attitude_offset gyro_bias_offset m identity3 in
    let m = set3 21 velocity_offset accel_bias_offset m identity3 in
    let m = set3 21 position_offset gyro_bias_offset m (skew x.c.position) in
    let w = se23_tangent u.omega u.accel zero_vec3 in
    let g = se23_tangent zero_vec3 gravity zero_vec3 in
    let m = set_block 21 21 6 6 gyro_bias_offset gyro_bias_offset m (ad_se3 (add_se3 x.gamma (pi (add_se23 (adjoint_apply_se23 x.c w) g)))) in
    let a3 = skew (add_vec3 (mul_mat3_vec3 x.c.rotation u.omega) x.gamma.omega) in
    let m = set3 21 lever_offset lever_offset m a3 in
    let m = set3 21 mag_offset mag_offset m a3 in
    let m = set3 21 mag_offset attitude_offset m (neg3 a3) in
    set3 21 mag_offset gyro_bias_offset m identity3

-- the skew matrix of the mean of two vectors
abbrev pub skew_mean : Vec3 → Vec3 → Mat3
skew_mean v w = skew (mul_vec3 (add_vec3 v w) half)

-- the output matrix of a direction
unfoldable pub direction_output_matrix : Vec3 → Vec3 → List Float
direction_output_matrix origin transported = set3 3 0 mag_offset (zeros 63) (matmul3 (skew origin) (skew_mean origin transported))

-- the output matrix of a position
unfoldable pub position_output_matrix : Vec3 → Vec3 → List Float
position_output_matrix origin transported =
    let m = set3 3 0 attitude_offset (zeros 63) (skew_mean origin transported) in
    let m = set3 3 0 position_offset m (neg3 identity3) in
    set3 3 0 lever_offset m identity3

-- the output matrix of a velocity
unfoldable pub velocity_output_matrix : Vec3 → Vec3 → Vec3 → List Float
velocity_output_matrix origin transported rate =
    let m = set3 3 0 attitude_offset (zeros 63) (skew_mean origin transported) in
    let m = set3 3 0 velocity_offset m (neg3 identity3) in
    set3 3 0 lever_offset m (skew rate)

-- a measured direction in the error frame
unfoldable pub transported_direction : Symmetry → Vec3 → Vec3
transported_direction x y = act_direction (inverse x) y

-- the predicted antenna position in the error frame
unfoldable pub transported_position : Symmetry → Vec3
transported_position x = act_position (inverse x) zero_vec3

-- the predicted antenna velocity in the error frame
unfoldable pub transported_velocity : Symmetry → Vec3 → Vec3
transported_velocity x omega = act_velocity (inverse x) zero_vec3 omega
