-- The definitions of Quat.antt keep `LikeQuat`: the vector part has the signs of the axes, and the scalar part none. Assumes nothing.
use mathlib.Core.Path.{◌≡◌, refl, sym}
use mathlib.Core.Bool.{Bool, true, false}
use lib.Ieee.{Float, lt, unlike, of_bits}
use Rattle.drifters_real.specs.Scalar.{◌⊕◌, ◌⊖◌, ◌⊗◌, plus_zero, one, two, half}
use Rattle.drifters_real.specs.Real.{small_angle}
use Rattle.drifters_core.specs.Vec3.{norm}
use Rattle.drifters_quat.specs.Quat.{forty_eight, eight, identity_quat, from_parts, norm_quat, normalized_quat, short_rotation, from_rotation_vector, to_dcm}
use Rattle.drifters_demands.specs.Like.{Like, Signs, axis, LikeVec3, LikeQuat, LikeMatrix}
use Rattle.drifters_core.specs.declared.math.vec3.Vec3.{Vec3}
use Rattle.drifters_quat.specs.declared.math.quat.Quat.{Quat}
use Rattle.drifters_demands.proofs.Signs.Sign.{unlike_same, axis_1_2, axis_2_1, axis_2_0, axis_0_2, axis_0_1, axis_1_0}
use Rattle.drifters_demands.proofs.Signs.Like.{cond_keeps, like_as, like_refl, like_plus_zero}
use Rattle.drifters_demands.proofs.Signs.Ops.{like_add, like_sub, like_mul_as, like_unsigned_mul, like_square, like_div_same, like_div_equal}
use Rattle.drifters_demands.proofs.Signs.Compare.{like_lt, like_above, like_not_lt}
use Rattle.drifters_demands.proofs.Signs.Real.{like_sqrt, like_sin, like_cos}
use Rattle.drifters_demands.proofs.Signs.Vec3.{like_norm, like_mul_vec3, like_mat3}

pub like_identity_quat : {s : Signs} → LikeQuat s identity_quat identity_quat
like_identity_quat = record { w = like_refl; x = like_plus_zero; y = like_plus_zero; z = like_plus_zero }

pub like_from_parts : {s : Signs} {a a' : Float} {v v' : Vec3} → Like false a a' → LikeVec3 (axis s) v v' → LikeQuat s (from_parts a v) (from_parts a' v')
like_from_parts k h = record { w = k; x = h.x; y = h.y; z = h.z }

module _ {s : Signs} {p p' : Quat} (h : LikeQuat s p p') where
  pub like_norm_quat : Like false (norm_quat p) (norm_quat p')
  unfolding norm_quat
  like_norm_quat = like_sqrt (like_add (like_add (like_add (like_square h.w) (like_square h.x)) (like_square h.y)) (like_square h.z))

  pub like_normalized_quat : LikeQuat s (normalized_quat p) (normalized_quat p')
  unfolding normalized_quat
  like_normalized_quat =
      cond_keeps (LikeQuat s) (like_lt (like_refl {x = plus_zero}) like_norm_quat)
      (λ e.
      let n : norm_quat p ≡ norm_quat p' = like_above like_norm_quat e in
      record { w = like_div_equal h.w n; x = like_div_equal h.x n; y = like_div_equal h.y n; z = like_div_equal h.z n })
      (λ e. like_identity_quat)

-- ---- the exponential
pub like_short_rotation : {s : Signs} {v v' : Vec3} {a a' : Float} → LikeVec3 (axis s) v v' → Like false a a' → LikeQuat s (short_rotation v a) (short_rotation v' a')
unfolding short_rotation
like_short_rotation h k =
    like_normalized_quat
    (like_from_parts
    (like_sub like_refl (like_div_same eight (like_square k)))
    (like_mul_vec3 h (like_sub like_refl (like_div_same forty_eight (like_square k)))))

small_angle_above : lt plus_zero small_angle ≡ true
unfolding lt of_bits
small_angle_above = refl

-- an angle that is not below `small_angle` is no zero, so both runs divide by the same number
pub like_from_rotation_vector : {s : Signs} {v v' : Vec3} → LikeVec3 (axis s) v v' → LikeQuat s (from_rotation_vector v) (from_rotation_vector v')
unfolding from_rotation_vector
like_from_rotation_vector {s} {v} {v'} h =
    let n : Like false (norm v) (norm v') = like_norm h in
    let halved : Like false (half ⊗ norm v) (half ⊗ norm v') = like_unsigned_mul like_refl n in
    cond_keeps (LikeQuat s) (like_lt n (like_refl {x = small_angle}))
    (λ e. like_short_rotation h n)
    (λ e. like_from_parts (like_cos halved) (like_mul_vec3 h (like_div_equal (like_sin halved) (like_not_lt small_angle small_angle_above n e))))

-- ---- the direction cosine matrix
pub like_to_dcm : {s : Signs} {p p' : Quat} → LikeQuat s p p' → LikeMatrix (axis s) (axis s) 3 3 (to_dcm p).«data» (to_dcm p').«data»
unfolding to_dcm
like_to_dcm {s} h =
    like_mat3
    (on_diagonal (axis s 0) h.y h.z)
    (like_as (sym (axis_0_1 s)) (twice (like_sub (like_mul_as h.x h.y (axis_0_1 s)) (like_unsigned_mul h.w h.z))))
    (like_as (sym (axis_0_2 s)) (twice (like_add (like_mul_as h.x h.z (axis_0_2 s)) (like_unsigned_mul h.w h.y))))
    (like_as (sym (axis_1_0 s)) (twice (like_add (like_mul_as h.x h.y (axis_0_1 s)) (like_unsigned_mul h.w h.z))))
    (on_diagonal (axis s 1) h.x h.z)
    (like_as (sym (axis_1_2 s)) (twice (like_sub (like_mul_as h.y h.z (axis_1_2 s)) (like_unsigned_mul h.w h.x))))
    (like_as (sym (axis_2_0 s)) (twice (like_sub (like_mul_as h.x h.z (axis_0_2 s)) (like_unsigned_mul h.w h.y))))
    (like_as (sym (axis_2_1 s)) (twice (like_add (like_mul_as h.y h.z (axis_1_2 s)) (like_unsigned_mul h.w h.x))))
    (on_diagonal (axis s 2) h.x h.y)
  where
    twice : {t : Bool} {x x' : Float} → Like t x x' → Like t (two ⊗ x) (two ⊗ x')
    twice k = like_unsigned_mul like_refl k

    on_diagonal : {r t : Bool} {x x' y y' : Float} (u : Bool) → Like r x x' → Like t y y' → Like (unlike u u) (one ⊖ two ⊗ (x ⊗ x ⊕ y ⊗ y)) (one ⊖ two ⊗ (x' ⊗ x' ⊕ y' ⊗ y'))
    on_diagonal u j k = like_as (sym (unlike_same u)) (like_sub like_refl (twice (like_add (like_square j) (like_square k))))
