-- Port of group.rs: the symmetry group, its algebra, and its action on the state. Definitions only.
use Rattle.std.specs.Prelude.{ℕ, ◌+◌, List, ◌++◌, get_or, Float}
use Rattle.std.specs.Float.{nan}
use Rattle.drifters_matrix.specs.Matrix.{matrix, unit, matmul}
use Rattle.drifters_core.specs.Vec3.{zero_vec3, to_array, cross, add_vec3, sub_vec3, neg_vec3, mul_vec3, mul_mat3_vec3}
use Rattle.drifters_quat.specs.Quat.{from_rotation_vector, to_dcm}
use Rattle.drifters_core.specs.declared.math.vec3.Vec3.{Vec3}
use Rattle.drifters_lie.specs.Lie.{identity3, matmul3, transpose3, se23_tangent, se3_tangent, zero_se3_tangent, to_array_se23, scaled_se23, pi, to_array_se3, vec3_at, from_array_se3, scaled_se3, bracket_se3, add_se3, sub_se3, neg_se3, left_jacobian, identity_se23, compose_se23, inverse_se23, adjoint_apply_se23, chi, exp_se23, inverse_se3, adjoint_apply_se3}
use Rattle.drifters_adjoint.specs.Adjoint.{integrated_adjoint}
use Rattle.drifters_symmetry.specs.declared.group.Symmetry.{Symmetry}
use Rattle.drifters_symmetry.specs.declared.group.Algebra.{Algebra}
use Rattle.drifters_symmetry.specs.declared.group.State.{State}

-- The 21 coordinates of the error, and of its covariance: the error of the estimate in the normal coordinates of the group, three to each
-- part of an algebra element. Each offset is the place of the first of the three.

-- attitude, in rad: `omega` of `c`
abbrev pub attitude_offset : ℕ
attitude_offset = 0

-- velocity, in m/s: `nu` of `c`
abbrev pub velocity_offset : ℕ
velocity_offset = attitude_offset + 3

-- position, in m: `rho` of `c`
abbrev pub position_offset : ℕ
position_offset = velocity_offset + 3

-- gyroscope bias, in rad/s: `omega` of `gamma`
abbrev pub gyro_bias_offset : ℕ
gyro_bias_offset = position_offset + 3

-- accelerometer bias, in m/s²: `nu` of `gamma`
abbrev pub accel_bias_offset : ℕ
accel_bias_offset = gyro_bias_offset + 3

-- lever arm, in m: `delta`
abbrev pub lever_offset : ℕ
lever_offset = accel_bias_offset + 3

-- magnetometer calibration, in rad: `e`
abbrev pub mag_offset : ℕ
mag_offset = lever_offset + 3

-- the product; the rotation block A is `x.c.rotation`, and B is `chi x.c`
unfoldable pub compose : Symmetry → Symmetry → Symmetry
compose x y = record {
  c = compose_se23 x.c y.c;
  gamma = add_se3 x.gamma (adjoint_apply_se3 (chi x.c) y.gamma);
  delta = add_vec3 x.delta (mul_mat3_vec3 x.c.rotation y.delta);
  e = matmul3 x.e y.e;
}

-- the inverse
unfoldable pub inverse : Symmetry → Symmetry
inverse x = record {
  c = inverse_se23 x.c;
  gamma = neg_se3 (adjoint_apply_se3 (inverse_se3 (chi x.c)) x.gamma);
  delta = neg_vec3 (mul_mat3_vec3 (transpose3 x.c.rotation) x.delta);
  e = transpose3 x.e;
}

-- the 21 numbers of an algebra element
abbrev pub to_array21 : Algebra → List Float
to_array21 u = to_array_se23 u.c ++ to_array_se3 u.gamma ++ to_array u.delta ++ to_array u.e

-- every component times s
unfoldable pub scaled_algebra : Algebra → Float → Algebra
scaled_algebra u s = record { c = scaled_se23 u.c s; gamma = scaled_se3 u.gamma s; delta = mul_vec3 u.delta s; e = mul_vec3 u.e s }

-- from 21 numbers
abbrev pub from_array21 : List Float → Algebra
from_array21 v = record {
  c = se23_tangent (vec3_at v attitude_offset) (vec3_at v velocity_offset) (vec3_at v position_offset);
  gamma = se3_tangent (vec3_at v gyro_bias_offset) (vec3_at v accel_bias_offset);
  delta = vec3_at v lever_offset;
  e = vec3_at v mag_offset;
}

-- the Lie bracket
unfoldable pub bracket : Algebra → Algebra → Algebra
bracket u v =
    let a = u.c in
    let b = v.c in
    record {
      c = se23_tangent (cross a.omega b.omega)
          (sub_vec3 (cross a.omega b.nu) (cross b.omega a.nu))
          (sub_vec3 (cross a.omega b.rho) (cross b.omega a.rho));
      gamma = add_se3 (bracket_se3 u.gamma (pi b)) (bracket_se3 (pi a) v.gamma);
      delta = add_vec3 (cross u.delta b.omega) (cross a.omega v.delta);
      e = cross u.e v.e;
    }

-- the 21 by 21 matrix of the bracket with u: column k is the bracket with unit k
unfoldable pub ad : Algebra → List Float
ad u = matrix 21 21 (λ i k. get_or (to_array21 (bracket u (from_array21 (unit 21 k)))) i nan)

-- the exponential
unfoldable pub exp : Algebra → Symmetry
exp u = record {
  c = exp_se23 u.c;
  gamma = from_array_se3 (matmul 6 6 1 (integrated_adjoint (pi u.c)) (to_array_se3 u.gamma));
  delta = mul_mat3_vec3 (left_jacobian u.c.omega) u.delta;
  e = to_dcm (from_rotation_vector u.e);
}

-- the adjoint of x, applied to u
unfoldable pub adjoint_apply : Symmetry → Algebra → Algebra
adjoint_apply x u =
    let a = x.c.rotation in
    let b = chi x.c in
    record {
      c = adjoint_apply_se23 x.c u.c;
      gamma = add_se3 (bracket_se3 x.gamma (adjoint_apply_se3 b (pi u.c))) (adjoint_apply_se3 b u.gamma);
      delta = add_vec3 (cross x.delta (mul_mat3_vec3 a u.c.omega)) (mul_mat3_vec3 a u.delta);
      e = mul_mat3_vec3 x.e u.e;
    }

-- the origin of the state space
abbrev pub default_state : State
default_state = record { pose = identity_se23; bias = zero_se3_tangent; lever = zero_vec3; mag = identity3 }

-- the group element that takes the origin to xi
unfoldable pub from_state : State → Symmetry
from_state xi = record {
  c = xi.pose;
  gamma = neg_se3 (adjoint_apply_se3 (chi xi.pose) xi.bias);
  delta = neg_vec3 (mul_mat3_vec3 xi.pose.rotation xi.lever);
  e = matmul3 xi.pose.rotation xi.mag;
}

-- the action on the state
unfoldable pub act_state : Symmetry → State → State
act_state x xi =
    let at = transpose3 x.c.rotation in
    record {
      pose = compose_se23 xi.pose x.c;
      bias = adjoint_apply_se3 (inverse_se3 (chi x.c)) (sub_se3 xi.bias x.gamma);
      lever = mul_mat3_vec3 at (sub_vec3 xi.lever x.delta);
      mag = matmul3 (matmul3 at xi.mag) x.e;
    }

-- the action on a direction
unfoldable pub act_direction : Symmetry → Vec3 → Vec3
act_direction x y = mul_mat3_vec3 (transpose3 x.e) y

-- the action on a position
unfoldable pub act_position : Symmetry → Vec3 → Vec3
act_position x y = mul_mat3_vec3 (transpose3 x.c.rotation) (add_vec3 (sub_vec3 y x.c.position) x.delta)

-- the action on a velocity, at an angular rate
unfoldable pub act_velocity : Symmetry → Vec3 → Vec3 → Vec3
act_velocity x y omega = mul_mat3_vec3 (transpose3 x.c.rotation) (sub_vec3 (sub_vec3 y x.c.velocity) (cross x.delta omega))
