-- Port of math/quat.rs: quaternions, scalar first. Definitions only.
use Rattle.std.specs.Prelude.{Bool, ◌&&◌, cond, List, [], ◌∷◌, get_or, Float}
use Rattle.std.specs.Float.{nan, binary64}
use Rattle.std.specs.Float.Ieee.{neg, lt, of_bits}
use Rattle.drifters_real.specs.Scalar.{◌⊕◌, ◌⊖◌, ◌⊗◌, ◌⊘◌, plus_zero, one, two, half}
use Rattle.drifters_real.specs.Real.{sqrt, sin, cos, small_angle, is_finite}
use Rattle.drifters_core.specs.Vec3.{vec3, cross, norm, add_vec3, mul_vec3, mat3}
use Rattle.drifters_core.specs.declared.math.vec3.Vec3.{Vec3}
use Rattle.drifters_quat.specs.declared.math.quat.Quat.{Quat}
use Rattle.drifters_matrix.specs.Shapes.{Mat3}

-- 48.0, of the short form of the sine's half angle
abbrev pub forty_eight : Float
forty_eight = of_bits binary64 0x4048_0000_0000_0000

-- 8.0, of the short form of the cosine's half angle
abbrev pub eight : Float
eight = of_bits binary64 0x4020_0000_0000_0000

-- the quaternion of four components
abbrev pub quat : Float → Float → Float → Float → Quat
quat w x y z = record { w = w; x = x; y = y; z = z }

-- the identity rotation
abbrev pub identity_quat : Quat
identity_quat = quat one plus_zero plus_zero plus_zero

-- from a scalar and a vector part
abbrev pub from_parts : Float → Vec3 → Quat
from_parts w v = quat w v.x v.y v.z

-- the vector part
abbrev pub vector : Quat → Vec3
vector q = vec3 q.x q.y q.z

-- the components w, x, y, z
abbrev pub to_array : Quat → List Float
to_array q = q.w ∷ q.x ∷ q.y ∷ q.z ∷ []

-- from the components w, x, y, z
abbrev pub from_array : List Float → Quat
from_array a = quat (get_or a 0 nan) (get_or a 1 nan) (get_or a 2 nan) (get_or a 3 nan)

-- the Euclidean norm
unfoldable pub norm_quat : Quat → Float
norm_quat q = sqrt (q.w ⊗ q.w ⊕ q.x ⊗ q.x ⊕ q.y ⊗ q.y ⊕ q.z ⊗ q.z)

-- the quaternion over its norm; the identity where the norm is not above 0
unfoldable pub normalized_quat : Quat → Quat
normalized_quat q =
    cond (lt plus_zero (norm_quat q)) (quat (q.w ⊘ norm_quat q) (q.x ⊘ norm_quat q) (q.y ⊘ norm_quat q) (q.z ⊘ norm_quat q)) identity_quat

-- the conjugate
unfoldable pub conjugate : Quat → Quat
conjugate q = quat q.w (neg q.x) (neg q.y) (neg q.z)

-- v rotated: v + 2 w (u × v) + u × 2 (u × v), with the vector part u
unfoldable pub rotate : Quat → Vec3 → Vec3
rotate q v = let t = mul_vec3 (cross (vector q) v) two in add_vec3 (add_vec3 v (mul_vec3 t q.w)) (cross (vector q) t)

-- v rotated the other way
unfoldable pub rotate_inverse : Quat → Vec3 → Vec3
rotate_inverse q v = rotate (conjugate q) v

-- q, or its negative where the scalar part is below 0
unfoldable pub canonicalized : Quat → Quat
canonicalized q = cond (lt q.w plus_zero) (quat (neg q.w) (neg q.x) (neg q.y) (neg q.z)) q

-- the short form of the exponential, for an angle below `small_angle`
unfoldable pub short_rotation : Vec3 → Float → Quat
short_rotation phi angle =
    let a2 = angle ⊗ angle in normalized_quat (from_parts (one ⊖ a2 ⊘ eight) (mul_vec3 phi (half ⊖ a2 ⊘ forty_eight)))

-- the quaternion of a rotation vector
unfoldable pub from_rotation_vector : Vec3 → Quat
from_rotation_vector phi =
    let angle = norm phi in
    cond (lt angle small_angle)
    (short_rotation phi angle)
    (from_parts (cos (half ⊗ angle)) (mul_vec3 phi (sin (half ⊗ angle) ⊘ angle)))

-- the direction cosine matrix
unfoldable pub to_dcm : Quat → Mat3
to_dcm q =
    let w = q.w in
    let x = q.x in
    let y = q.y in
    let z = q.z in
    mat3
    (one ⊖ two ⊗ (y ⊗ y ⊕ z ⊗ z)) (two ⊗ (x ⊗ y ⊖ w ⊗ z)) (two ⊗ (x ⊗ z ⊕ w ⊗ y))
    (two ⊗ (x ⊗ y ⊕ w ⊗ z)) (one ⊖ two ⊗ (x ⊗ x ⊕ z ⊗ z)) (two ⊗ (y ⊗ z ⊖ w ⊗ x))
    (two ⊗ (x ⊗ z ⊖ w ⊗ y)) (two ⊗ (y ⊗ z ⊕ w ⊗ x)) (one ⊖ two ⊗ (x ⊗ x ⊕ y ⊗ y))

-- every component is finite
unfoldable pub finite_quat : Quat → Bool
finite_quat q = is_finite q.w && is_finite q.x && is_finite q.y && is_finite q.z

-- the Hamilton product
unfoldable pub mul_quat : Quat → Quat → Quat
mul_quat a b = quat
    (a.w ⊗ b.w ⊖ a.x ⊗ b.x ⊖ a.y ⊗ b.y ⊖ a.z ⊗ b.z)
    (a.w ⊗ b.x ⊕ a.x ⊗ b.w ⊕ a.y ⊗ b.z ⊖ a.z ⊗ b.y)
    (a.w ⊗ b.y ⊖ a.x ⊗ b.z ⊕ a.y ⊗ b.w ⊕ a.z ⊗ b.x)
    (a.w ⊗ b.z ⊕ a.x ⊗ b.y ⊖ a.y ⊗ b.x ⊕ a.z ⊗ b.w)
