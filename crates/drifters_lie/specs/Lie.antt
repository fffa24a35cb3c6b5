-- Port of lie.rs: the Lie groups SE₂(3) and SE(3), their algebras, and the left Jacobian of SO(3). Definitions only.
use Rattle.std.specs.Prelude.{ℕ, ◌+◌, cond, List, ◌++◌, get_or, Float}
use Rattle.std.specs.Float.{nan, binary64}
use Rattle.std.specs.Float.Ieee.{lt, of_bits}
use Rattle.drifters_real.specs.Scalar.{◌⊕◌, ◌⊖◌, ◌⊗◌, ◌⊘◌, one, half}
use Rattle.drifters_real.specs.Real.{sqrt, sin, cos}
use Rattle.drifters_matrix.specs.Matrix.{zeros, transpose, matmul, scaled, set_block, identity, add_matrix, neg_matrix}
use Rattle.drifters_core.specs.Vec3.{vec3, zero_vec3, to_array, cross, norm_squared, skew, add_vec3, sub_vec3, neg_vec3, mul_vec3, mul_mat3_vec3}
use Rattle.drifters_quat.specs.Quat.{from_rotation_vector, to_dcm}
use Rattle.drifters_core.specs.declared.math.vec3.Vec3.{Vec3}
use Rattle.drifters_matrix.specs.Shapes.{Mat3}
use Rattle.drifters_lie.specs.declared.lie.Se23Tangent.{Se23Tangent}
use Rattle.drifters_lie.specs.declared.lie.Se3Tangent.{Se3Tangent}
use Rattle.drifters_lie.specs.declared.lie.Se23.{Se23}
use Rattle.drifters_lie.specs.declared.lie.Se3.{Se3}

-- ---- 3 by 3 matrices as records

-- the record of nine entries
abbrev pub mat3_of : List Float → Mat3
mat3_of m = record { «data» = m }

-- the identity
abbrev pub identity3 : Mat3
identity3 = mat3_of (identity 3)

-- the product
abbrev pub matmul3 : Mat3 → Mat3 → Mat3
matmul3 m n = mat3_of (matmul 3 3 3 m.«data» n.«data»)

-- the transpose
abbrev pub transpose3 : Mat3 → Mat3
transpose3 m = mat3_of (transpose 3 3 m.«data»)

-- the negative
abbrev pub neg3 : Mat3 → Mat3
neg3 m = mat3_of (neg_matrix 9 m.«data»)

-- ---- the algebras

-- an element of se₂(3) of its parts
abbrev pub se23_tangent : Vec3 → Vec3 → Vec3 → Se23Tangent
se23_tangent omega nu rho = record { omega = omega; nu = nu; rho = rho }

-- an element of se(3) of its parts
abbrev pub se3_tangent : Vec3 → Vec3 → Se3Tangent
se3_tangent omega nu = record { omega = omega; nu = nu }

-- the zero of se(3)
abbrev pub zero_se3_tangent : Se3Tangent
zero_se3_tangent = se3_tangent zero_vec3 zero_vec3

-- the nine numbers (omega, nu, rho)
abbrev pub to_array_se23 : Se23Tangent → List Float
to_array_se23 u = to_array u.omega ++ to_array u.nu ++ to_array u.rho

-- every part times s
unfoldable pub scaled_se23 : Se23Tangent → Float → Se23Tangent
scaled_se23 u s = se23_tangent (mul_vec3 u.omega s) (mul_vec3 u.nu s) (mul_vec3 u.rho s)

-- the part of se(3): omega and nu
abbrev pub pi : Se23Tangent → Se3Tangent
pi u = se3_tangent u.omega u.nu

-- the six numbers (omega, nu)
abbrev pub to_array_se3 : Se3Tangent → List Float
to_array_se3 u = to_array u.omega ++ to_array u.nu

-- three numbers from place i on, as a vector
abbrev pub vec3_at : List Float → ℕ → Vec3
vec3_at v i = vec3 (get_or v i nan) (get_or v (i + 1) nan) (get_or v (i + 2) nan)

-- six numbers from place i on, as an element of se(3)
abbrev pub se3_tangent_at : List Float → ℕ → Se3Tangent
se3_tangent_at v i = se3_tangent (vec3_at v i) (vec3_at v (i + 3))

-- from six numbers
abbrev pub from_array_se3 : List Float → Se3Tangent
from_array_se3 v = se3_tangent_at v 0

-- both parts times s
abbrev pub scaled_se3 : Se3Tangent → Float → Se3Tangent
scaled_se3 u s = se3_tangent (mul_vec3 u.omega s) (mul_vec3 u.nu s)

-- the Lie bracket of se(3)
unfoldable pub bracket_se3 : Se3Tangent → Se3Tangent → Se3Tangent
bracket_se3 u v = se3_tangent (cross u.omega v.omega) (add_vec3 (cross u.nu v.omega) (cross u.omega v.nu))

-- a 6 by 6 matrix of 3 by 3 blocks: p and r on the diagonal, q below
abbrev pub blocks6 : Mat3 → Mat3 → Mat3 → List Float
blocks6 p q r =
    let m = set_block 6 6 3 3 0 0 (zeros 36) p.«data» in
    let m = set_block 6 6 3 3 3 0 m q.«data» in
    set_block 6 6 3 3 3 3 m r.«data»

-- the matrix of the bracket with u
unfoldable pub ad_se3 : Se3Tangent → List Float
ad_se3 u = blocks6 (skew u.omega) (skew u.nu) (skew u.omega)

-- the sum in se(3)
unfoldable pub add_se3 : Se3Tangent → Se3Tangent → Se3Tangent
add_se3 u v = se3_tangent (add_vec3 u.omega v.omega) (add_vec3 u.nu v.nu)

-- the difference in se(3)
unfoldable pub sub_se3 : Se3Tangent → Se3Tangent → Se3Tangent
sub_se3 u v = se3_tangent (sub_vec3 u.omega v.omega) (sub_vec3 u.nu v.nu)

-- the negative in se(3)
unfoldable pub neg_se3 : Se3Tangent → Se3Tangent
neg_se3 u = se3_tangent (neg_vec3 u.omega) (neg_vec3 u.nu)

-- the sum in se₂(3)
unfoldable pub add_se23 : Se23Tangent → Se23Tangent → Se23Tangent
add_se23 u v = se23_tangent (add_vec3 u.omega v.omega) (add_vec3 u.nu v.nu) (add_vec3 u.rho v.rho)

-- ---- the left Jacobian, which lie.rs has last

-- 1.0e-4: the squared angle below which the series are used
abbrev pub small_angle_sq : Float
small_angle_sq = of_bits binary64 0x3f1a_36e2_eb1c_432d

-- 24.0
abbrev pub twenty_four : Float
twenty_four = of_bits binary64 0x4038_0000_0000_0000

-- 720.0
abbrev pub seven_hundred_twenty : Float
seven_hundred_twenty = of_bits binary64 0x4086_8000_0000_0000

-- 6.0
abbrev pub six : Float
six = of_bits binary64 0x4018_0000_0000_0000

-- 120.0
abbrev pub one_hundred_twenty : Float
one_hundred_twenty = of_bits binary64 0x405e_0000_0000_0000

-- 5040.0
abbrev pub five_thousand_forty : Float
five_thousand_forty = of_bits binary64 0x40b3_b000_0000_0000

-- the factor of the skew matrix, from the squared angle
unfoldable pub jacobian_a : Float → Float
jacobian_a theta2 =
    let t4 = theta2 ⊗ theta2 in
    let theta = sqrt theta2 in
    cond (lt theta2 small_angle_sq)
    (half ⊖ theta2 ⊘ twenty_four ⊕ t4 ⊘ seven_hundred_twenty)
    ((one ⊖ cos theta) ⊘ theta2)

-- the factor of the square of the skew matrix
unfoldable pub jacobian_b : Float → Float
jacobian_b theta2 =
    let t4 = theta2 ⊗ theta2 in
    let theta = sqrt theta2 in
    cond (lt theta2 small_angle_sq)
    (one ⊘ six ⊖ theta2 ⊘ one_hundred_twenty ⊕ t4 ⊘ five_thousand_forty)
    ((theta ⊖ sin theta) ⊘ (theta2 ⊗ theta))

-- the left Jacobian of SO(3)
unfoldable pub left_jacobian : Vec3 → Mat3
left_jacobian omega =
    let theta2 = norm_squared omega in
    let s = (skew omega).«data» in
    let s2 = matmul 3 3 3 s s in
    mat3_of (add_matrix 9 (add_matrix 9 (identity 3) (scaled 9 s (jacobian_a theta2))) (scaled 9 s2 (jacobian_b theta2)))

-- ---- SE₂(3)

-- the identity
abbrev pub identity_se23 : Se23
identity_se23 = record { rotation = identity3; velocity = zero_vec3; position = zero_vec3 }

-- the product
unfoldable pub compose_se23 : Se23 → Se23 → Se23
compose_se23 c d = record {
  rotation = matmul3 c.rotation d.rotation;
  velocity = add_vec3 (mul_mat3_vec3 c.rotation d.velocity) c.velocity;
  position = add_vec3 (mul_mat3_vec3 c.rotation d.position) c.position;
}

-- the inverse
unfoldable pub inverse_se23 : Se23 → Se23
inverse_se23 c = record {
  rotation = transpose3 c.rotation;
  velocity = neg_vec3 (mul_mat3_vec3 (transpose3 c.rotation) c.velocity);
  position = neg_vec3 (mul_mat3_vec3 (transpose3 c.rotation) c.position);
}

-- the adjoint of c, applied to u
unfoldable pub adjoint_apply_se23 : Se23 → Se23Tangent → Se23Tangent
adjoint_apply_se23 c u =
    let r_omega = mul_mat3_vec3 c.rotation u.omega in
    se23_tangent r_omega
    (add_vec3 (cross c.velocity r_omega) (mul_mat3_vec3 c.rotation u.nu))
    (add_vec3 (cross c.position r_omega) (mul_mat3_vec3 c.rotation u.rho))

-- the rotation with the velocity column
abbrev pub chi : Se23 → Se3
chi c = record { rotation = c.rotation; translation = c.velocity }

-- the exponential, with a matrix in the place of the left Jacobian
abbrev pub exp_with : Se23Tangent → Mat3 → Se23
exp_with u jacobian = record {
  rotation = to_dcm (from_rotation_vector u.omega);
  velocity = mul_mat3_vec3 jacobian u.nu;
  position = mul_mat3_vec3 jacobian u.rho;
}

-- the exponential
unfoldable pub exp_se23 : Se23Tangent → Se23
exp_se23 u = exp_with u (left_jacobian u.omega)

-- ---- SE(3)

-- the inverse
unfoldable pub inverse_se3 : Se3 → Se3
inverse_se3 b = record { rotation = transpose3 b.rotation; translation = neg_vec3 (mul_mat3_vec3 (transpose3 b.rotation) b.translation) }

-- the matrix of the adjoint
unfoldable pub adjoint_se3 : Se3 → List Float
adjoint_se3 b = blocks6 b.rotation (matmul3 (skew b.translation) b.rotation) b.rotation

-- the adjoint of b, applied to u
unfoldable pub adjoint_apply_se3 : Se3 → Se3Tangent → Se3Tangent
adjoint_apply_se3 b u =
    let r_omega = mul_mat3_vec3 b.rotation u.omega in
    se3_tangent r_omega (add_vec3 (cross b.translation r_omega) (mul_mat3_vec3 b.rotation u.nu))

-- the exponential
unfoldable pub exp_se3 : Se3Tangent → Se3
exp_se3 u = record { rotation = to_dcm (from_rotation_vector u.omega); translation = mul_mat3_vec3 (left_jacobian u.omega) u.nu }
