-- The definitions of Group.antt keep the relations of GroupRecords.antt. Assumes nothing.
use mathlib.Core.Path.{◌≡◌, refl, sym, ◌∙◌}
use mathlib.Core.Bool.{Bool, true, false}
use mathlib.Core.List.{List}
use Prim.Native.Nat.{ℕ, ◌<◌}
use lib.Dec.{lit<, eqb}
use borrow.Author.Tests.{eqb-true, eqb-false}
use lib.ListN.{get_or, get_or-replicate}
use lib.Seq.{get_or-set_other}
use lib.Ieee.{Float, nan}
use Rattle.drifters_real.specs.Scalar.{plus_zero, one}
use Rattle.drifters_matrix.specs.Matrix.{matrix, zeros, unit}
use Rattle.drifters_demands.specs.Like.{Like, Signs, axis, LikeList, LikeVec3, LikeMatrix}
use Rattle.drifters_core.specs.declared.math.vec3.Vec3.{Vec3}
use Rattle.drifters_demands.proofs.Signs.Sign.{unlike_same, signed_axis, signed_axis_is, signed_axis_add}
use Rattle.drifters_demands.proofs.Signs.Like.{like_as, like_refl, like_plus_zero}
use Rattle.drifters_demands.proofs.Signs.Matrix.{like_matrix, like_column, like_of_column, like_transpose, like_matmul, like_identity, like_mul_mat3_vec3, like_rotated}
use Rattle.drifters_demands.proofs.Signs.Vec3.{like_zero_vec3, like_to_array, like_add_vec3, like_sub_vec3, like_neg_vec3, like_mul_vec3, like_cross, like_cross_right, like_cross_left}
use Rattle.drifters_demands.proofs.Signs.Quat.{like_from_rotation_vector, like_to_dcm}
use Rattle.drifters_symmetry.specs.Group.{compose, inverse, to_array21, scaled_algebra, from_array21, bracket, ad, exp, adjoint_apply, default_state, act_state, act_direction, act_position, act_velocity}
use Rattle.drifters_symmetry.specs.declared.group.Symmetry.{Symmetry}
use Rattle.drifters_symmetry.specs.declared.group.Algebra.{Algebra}
use Rattle.drifters_symmetry.specs.declared.group.State.{State}
use Rattle.drifters_demands.proofs.Signs.GroupRecords.{LikeSymmetry, SignedAlgebra, LikeAlgebra, LikeState}
use Rattle.drifters_demands.proofs.Signs.Lie.{like_to_array_append, like_vec3_at, like_scaled_se23, like_pi, like_zero_se3_tangent, like_to_array_se3, like_from_array_se3, like_bracket_se3, like_add_se3, like_sub_se3, like_neg_se3, like_left_jacobian, like_identity_se23, like_compose_se23, like_inverse_se23, like_adjoint_apply_se23, like_chi, like_exp_se23, like_inverse_se3, like_adjoint_apply_se3, like_scaled_se3, like_integrated_adjoint}

-- ---- the group
module _ {s b t m : Signs} {x x' : Symmetry} (h : LikeSymmetry s b t m x x') where
  pub like_compose : {d n : Signs} {y y' : Symmetry} → LikeSymmetry b d m n y y' → LikeSymmetry s d t n (compose x y) (compose x' y')
  unfolding compose
  like_compose k = record {
    c = like_compose_se23 h.c k.c;
    gamma = like_add_se3 h.gamma (like_adjoint_apply_se3 (like_chi h.c) k.gamma);
    delta = like_add_vec3 h.delta (like_mul_mat3_vec3 h.c.rotation k.delta);
    e = like_matmul h.e k.e;
  }

  pub like_inverse : LikeSymmetry b s m t (inverse x) (inverse x')
  unfolding inverse
  like_inverse = record {
    c = like_inverse_se23 h.c;
    gamma = like_neg_se3 (like_adjoint_apply_se3 (like_inverse_se3 (like_chi h.c)) h.gamma);
    delta = like_neg_vec3 (like_mul_mat3_vec3 (like_transpose h.c.rotation) h.delta);
    e = like_transpose h.e;
  }

-- ---- the algebra as 21 numbers
pub like_to_array21 : {s : Signs} {t : Bool} {u u' : Algebra} → SignedAlgebra s s t u u' → LikeList (signed_axis s t) 21 (to_array21 u) (to_array21 u')
like_to_array21 {s} {t} h =
    let again = signed_axis_add s t in
    like_to_array_append again h.c.omega
    (like_to_array_append again h.c.nu
    (like_to_array_append again h.c.rho
    (like_to_array_append again h.gamma.omega
    (like_to_array_append again h.gamma.nu
    (like_to_array_append again h.delta
    (like_to_array h.e))))))

pub like_scaled_algebra : {s m : Signs} {u u' : Algebra} {t t' : Float} → LikeAlgebra s m u u' → Like false t t' → LikeAlgebra s m (scaled_algebra u t) (scaled_algebra u' t')
unfolding scaled_algebra
like_scaled_algebra h k = record { c = like_scaled_se23 h.c k; gamma = like_scaled_se3 h.gamma k; delta = like_mul_vec3 h.delta k; e = like_mul_vec3 h.e k }

pub like_from_array21 : {s : Signs} {t : Bool} {v v' : List Float} → LikeList (signed_axis s t) 21 v v' → SignedAlgebra s s t (from_array21 v) (from_array21 v')
like_from_array21 {s} {t} h =
    let part = like_vec3_at (signed_axis_add s t) h in
    record {
      c = record { omega = part 0 (lit< tt); nu = part 1 (lit< tt); rho = part 2 (lit< tt) };
      gamma = record { omega = part 3 (lit< tt); nu = part 4 (lit< tt) };
      delta = part 5 (lit< tt);
      e = part 6 (lit< tt);
    }

-- ---- the bracket, and matrices of columns
pub like_bracket : {s m : Signs} {t : Bool} {u u' v v' : Algebra} → LikeAlgebra s m u u' → SignedAlgebra s m t v v' → SignedAlgebra s m t (bracket u v) (bracket u' v')
unfolding bracket
like_bracket {t} h k = record {
  c = record {
    omega = like_cross_right t h.c.omega k.c.omega;
    nu = like_sub_vec3 (like_cross_right t h.c.omega k.c.nu) (like_cross_left t k.c.omega h.c.nu);
    rho = like_sub_vec3 (like_cross_right t h.c.omega k.c.rho) (like_cross_left t k.c.omega h.c.rho);
  };
  gamma = like_add_se3 (like_bracket_se3 h.gamma (like_pi k.c)) (like_bracket_se3 (like_pi h.c) k.gamma);
  delta = like_add_vec3 (like_cross_right t h.delta k.c.omega) (like_cross_right t h.c.omega k.delta);
  e = like_cross_right t h.e k.e;
}

-- the one has no sign, and the zeros every sign
pub like_unit : (s : Signs) (n k : ℕ) → LikeList (signed_axis s (axis s k)) n (unit n k) (unit n k)
like_unit s n k = record { entry = λ i I. place i I (eqb i k) refl }
  where
    place : (i : ℕ) → i < n → (b : Bool) → eqb i k ≡ b → Like (signed_axis s (axis s k) i) (get_or (unit n k) i nan) (get_or (unit n k) i nan)
    place i I true e = rw (eqb-true i k e) (like_as (sym (unlike_same (axis s k)) ∙ sym (signed_axis_is s (axis s k) k)) like_refl)
    place i I false e = rw (get_or-set_other (zeros n) k i one nan (eqb-false i k e), get_or-replicate n i plus_zero nan I) like_plus_zero

-- column k, made from unit k of the frame b, has the sign of axis k
pub like_columns : {s b : Signs} {r c : ℕ} {g g' : ℕ → List Float} → ((k : ℕ) → LikeList (signed_axis s (axis b k)) r (g k) (g' k))
    → LikeMatrix (axis s) (axis b) r c (matrix r c (λ i k. get_or (g k) i nan)) (matrix r c (λ i k. get_or (g' k) i nan))
like_columns {s} {b} h = like_matrix (λ i k I K. like_as (signed_axis_is s (axis b k) i) ((h k).entry i I))

pub like_ad : {s : Signs} {u u' : Algebra} → LikeAlgebra s s u u' → LikeMatrix (axis s) (axis s) 21 21 (ad u) (ad u')
unfolding ad
like_ad {s} h = like_columns (λ k. like_to_array21 (like_bracket h (like_from_array21 (like_unit s 21 k))))

-- ---- the exponential and the adjoint
pub like_exp : {b m : Signs} {u u' : Algebra} → LikeAlgebra b m u u' → LikeSymmetry b b m m (exp u) (exp u')
unfolding exp
like_exp h = record {
  c = like_exp_se23 h.c;
  gamma = like_from_array_se3 (like_of_column (like_matmul (like_integrated_adjoint (like_pi h.c)) (like_column (like_to_array_se3 h.gamma))));
  delta = like_mul_mat3_vec3 (like_left_jacobian h.c.omega) h.delta;
  e = like_to_dcm (like_from_rotation_vector h.e);
}

pub like_adjoint_apply : {s b r m : Signs} {t : Bool} {x x' : Symmetry} {u u' : Algebra} → LikeSymmetry s b r m x x' → SignedAlgebra b m t u u'
    → SignedAlgebra s r t (adjoint_apply x u) (adjoint_apply x' u')
unfolding adjoint_apply
like_adjoint_apply {t} h k = record {
  c = like_adjoint_apply_se23 h.c k.c;
  gamma =
      like_add_se3
      (like_bracket_se3 h.gamma (like_adjoint_apply_se3 (like_chi h.c) (like_pi k.c)))
      (like_adjoint_apply_se3 (like_chi h.c) k.gamma);
  delta = like_add_vec3 (like_cross_right t h.delta (like_rotated t h.c.rotation k.c.omega)) (like_rotated t h.c.rotation k.delta);
  e = like_rotated t h.e k.e;
}

-- ---- the state and the actions
pub like_default_state : {s : Signs} → LikeState s s s default_state default_state
like_default_state = record { pose = like_identity_se23; bias = like_zero_se3_tangent; lever = like_zero_vec3; mag = like_identity }

module _ {s b t m : Signs} {x x' : Symmetry} (h : LikeSymmetry s b t m x x') where
  pub like_act_state : {r : Signs} {xi xi' : State} → LikeState r s t xi xi' → LikeState r b m (act_state x xi) (act_state x' xi')
  unfolding act_state
  like_act_state k = record {
    pose = like_compose_se23 k.pose h.c;
    bias = like_adjoint_apply_se3 (like_inverse_se3 (like_chi h.c)) (like_sub_se3 k.bias h.gamma);
    lever = like_mul_mat3_vec3 (like_transpose h.c.rotation) (like_sub_vec3 k.lever h.delta);
    mag = like_matmul (like_matmul (like_transpose h.c.rotation) k.mag) h.e;
  }

  pub like_act_direction : {y y' : Vec3} → LikeVec3 (axis t) y y' → LikeVec3 (axis m) (act_direction x y) (act_direction x' y')
  unfolding act_direction
  like_act_direction k = like_mul_mat3_vec3 (like_transpose h.e) k

  pub like_act_position : {y y' : Vec3} → LikeVec3 (axis s) y y' → LikeVec3 (axis b) (act_position x y) (act_position x' y')
  unfolding act_position
  like_act_position k = like_mul_mat3_vec3 (like_transpose h.c.rotation) (like_add_vec3 (like_sub_vec3 k h.c.position) h.delta)

  pub like_act_velocity : {y y' omega omega' : Vec3} → LikeVec3 (axis s) y y' → LikeVec3 (axis s) omega omega' → LikeVec3 (axis b) (act_velocity x y omega) (act_velocity x' y' omega')
  unfolding act_velocity
  like_act_velocity k l = like_mul_mat3_vec3 (like_transpose h.c.rotation) (like_sub_vec3 (like_sub_vec3 k h.c.velocity) (like_cross h.delta l))
