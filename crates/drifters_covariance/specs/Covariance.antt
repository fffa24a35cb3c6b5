-- Port of the covariance lines of filter.rs: the transition, the process noise, the Joseph form and the reset. Definitions only.
use Rattle.std.specs.Prelude.{ℕ, ◌+◌, List, ◌++◌, get_or, Float}
use Rattle.std.specs.Float.{nan}
use Rattle.drifters_real.specs.Scalar.{half}
use Rattle.drifters_matrix.specs.Matrix.{matrix, zeros, unit, matmul, mul_transpose, scaled, set_block, from_diagonal, identity, add_matrix, sub_matrix, neg_matrix}
use Rattle.drifters_core.specs.Vec3.{zero_vec3, to_array, cross, mul_mat3_vec3}
use Rattle.drifters_lie.specs.Lie.{transpose3, se23_tangent, to_array_se3, from_array_se3, bracket_se3, chi, adjoint_apply_se3}
use Rattle.drifters_lie.specs.declared.lie.Se3Tangent.{Se3Tangent}
use Rattle.drifters_symmetry.specs.Group.{attitude_offset, gyro_bias_offset, lever_offset, mag_offset, to_array21, ad, adjoint_apply}
use Rattle.drifters_symmetry.specs.declared.group.Symmetry.{Symmetry}
use Rattle.drifters_symmetry.specs.declared.group.Algebra.{Algebra}
use Rattle.drifters_symmetry.specs.declared.group.State.{State}
use Rattle.drifters_covariance.specs.declared.covariance.ProcessNoise.{ProcessNoise}

-- the transition matrix I + A dt + ½ (A dt)²
unfoldable pub transition : List Float → Float → List Float
transition a dt =
    let a_dt = scaled 441 a dt in
    add_matrix 441 (add_matrix 441 (identity 21) a_dt) (scaled 441 (matmul 21 21 21 a_dt a_dt) half)

-- the linear part of the lift at the state xi, for an input w with its acceleration as `nu`: the lift's four lines with `omega` for the rate, and in `c` nothing but w
unfoldable pub linear_lift : State → Se3Tangent → Algebra
linear_lift xi w = record {
  c = se23_tangent w.omega w.nu zero_vec3;
  gamma = bracket_se3 xi.bias w;
  delta = cross xi.lever w.omega;
  e = mul_mat3_vec3 (transpose3 xi.mag) w.omega;
}

-- column k of the input noise: the linear part of the lift at unit input k, transformed by the adjoint of x
unfoldable pub input_column : Symmetry → State → ℕ → List Float
input_column x estimate k = to_array21 (adjoint_apply x (linear_lift estimate (from_array_se3 (unit 6 k))))

-- column k of the bias noise, before its sign
unfoldable pub bias_column : Symmetry → ℕ → List Float
bias_column x k = to_array_se3 (adjoint_apply_se3 (chi x.c) (from_array_se3 (unit 6 k)))

-- The columns of the noise map are the densities in the order of `psd`, three to each: the first column of each.

-- the gyroscope's noise
abbrev pub gyro_column : ℕ
gyro_column = 0

-- the accelerometer's noise
abbrev pub accel_column : ℕ
accel_column = gyro_column + 3

-- the noise of the gyroscope's bias
abbrev pub gyro_bias_column : ℕ
gyro_bias_column = accel_column + 3

-- the noise of the accelerometer's bias
abbrev pub accel_bias_column : ℕ
accel_bias_column = gyro_bias_column + 3

-- the noise of the lever arm
abbrev pub lever_column : ℕ
lever_column = accel_bias_column + 3

-- the noise of the magnetometer's calibration
abbrev pub mag_column : ℕ
mag_column = lever_column + 3

-- the 21 by 18 matrix that maps the noise into normal coordinates; a block of six columns holds those of the gyroscope and the accelerometer
unfoldable pub noise_map : Symmetry → State → List Float
noise_map x estimate =
    let g = set_block 21 18 21 6 attitude_offset gyro_column (zeros 378) (matrix 21 6 (λ i k. get_or (input_column x estimate k) i nan)) in
    let g = set_block 21 18 6 6 gyro_bias_offset gyro_bias_column g (neg_matrix 36 (matrix 6 6 (λ i k. get_or (bias_column x k) i nan))) in
    let g = set_block 21 18 3 3 lever_offset lever_column g (neg_matrix 9 x.c.rotation.«data») in
    set_block 21 18 3 3 mag_offset mag_column g x.e.«data»

-- the densities by column: gyro rad²/s, accel (m/s)²/s, gyro_bias (rad/s)²/s, accel_bias (m/s²)²/s, lever m²/s, mag rad²/s
abbrev pub psd : ProcessNoise → List Float
psd q = to_array q.gyro ++ to_array q.accel ++ to_array q.gyro_bias ++ to_array q.accel_bias ++ to_array q.lever ++ to_array q.mag

-- the process noise in normal coordinates
unfoldable pub process_noise : Symmetry → State → ProcessNoise → List Float
process_noise x estimate q =
    let g = noise_map x estimate in
    mul_transpose 21 18 21 (matmul 21 18 18 g (from_diagonal 18 (psd q))) g

-- the Joseph form (I - kc) sigma (I - kc)ᵀ + noise, for kc the gain times the output matrix and noise the gain's share of the measurement noise, k noise kᵀ
unfoldable pub joseph : List Float → List Float → List Float → List Float
joseph sigma kc noise =
    let ikc = sub_matrix 441 (identity 21) kc in
    add_matrix 441 (mul_transpose 21 21 21 (matmul 21 21 21 ikc sigma) ikc) noise

-- the covariance after the reset I + ½ ad, which moves it into the coordinates of the error measured from the corrected estimate
unfoldable pub reset_sigma : Algebra → List Float → List Float
reset_sigma step sigma =
    let reset = add_matrix 441 (identity 21) (scaled 441 (ad step) half) in
    mul_transpose 21 21 21 (matmul 21 21 21 reset sigma) reset
