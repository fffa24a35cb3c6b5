-- The definitions of Lie.antt keep the relations of GroupRecords.antt. Assumes nothing.
use mathlib.Core.Path.{◌≡◌, refl, sym, ap, ◌∙◌}
use mathlib.Core.Bool.{Bool, true, false}
use mathlib.Core.List.{List, ◌++◌}
use Prim.Native.Nat.{ℕ, zero, suc, ◌+◌, ◌*◌, ◌<◌}
use native.Mathlib.Nat.{add-zero}
use native.Mathlib.Omega.{arith}
use lib.Dec.{lit<}
use lib.ListN.{get_or}
use lib.Ieee.{Float, nan, lt, of_bits}
use Rattle.drifters_real.specs.Scalar.{◌⊗◌, plus_zero, two, half}
use Rattle.drifters_real.specs.Real.{sqrt}
use Rattle.drifters_matrix.specs.Matrix.{set_block}
use Rattle.drifters_core.specs.Vec3.{to_array, mul_mat3_vec3}
use Rattle.drifters_demands.specs.Like.{Like, Signs, axis, LikeList, LikeVec3, LikeMatrix}
use Rattle.drifters_core.specs.declared.math.vec3.Vec3.{Vec3}
use Rattle.drifters_matrix.specs.Shapes.{Mat3}
use Rattle.drifters_demands.proofs.Signs.Sign.{axis_add, signed_axis, signed_axis_add}
use Rattle.drifters_demands.proofs.Signs.Like.{cond_keeps, like_as, like_refl}
use Rattle.drifters_demands.proofs.Signs.Ops.{like_add, like_sub, like_square, like_div_same, like_div_equal}
use Rattle.drifters_demands.proofs.Signs.Compare.{like_lt, like_not_lt}
use Rattle.drifters_demands.proofs.Signs.Real.{like_sqrt, like_sin, like_cos, like_max}
use Rattle.drifters_demands.proofs.Signs.Matrix.{like_zeros, like_matrix_as, like_transpose, like_matmul, like_set_block, like_identity, like_mul_mat3_vec3, like_rotated}
use Rattle.drifters_demands.proofs.Signs.Vec3.{like_zero_vec3, like_to_array, like_add_vec3, like_sub_vec3, like_neg_vec3, like_mul_vec3, like_cross_right, like_norm_squared, like_skew, like_amax_vec3}
use Rattle.drifters_demands.proofs.Signs.Quat.{like_from_rotation_vector, like_to_dcm}
use Rattle.drifters_demands.proofs.Signs.Numeral.{scaled_of, add_matrix_of}
use Rattle.drifters_lie.specs.Lie.{zero_se3_tangent, scaled_se23, pi, to_array_se3, vec3_at, from_array_se3, scaled_se3, bracket_se3, blocks6, ad_se3, add_se3, sub_se3, neg_se3, add_se23, small_angle_sq, jacobian_a, jacobian_b, left_jacobian, identity_se23, compose_se23, inverse_se23, adjoint_apply_se23, chi, exp_se23, inverse_se3, adjoint_se3, adjoint_apply_se3, exp_se3}
use Rattle.drifters_adjoint.specs.Adjoint.{sixteenth, halvings, halved, series_term, series, doubled, most_halvings, integrated_adjoint}
use Rattle.drifters_lie.specs.declared.lie.Se23Tangent.{Se23Tangent}
use Rattle.drifters_lie.specs.declared.lie.Se3Tangent.{Se3Tangent}
use Rattle.drifters_lie.specs.declared.lie.Se23.{Se23}
use Rattle.drifters_lie.specs.declared.lie.Se3.{Se3}
use Rattle.drifters_demands.proofs.Signs.GroupRecords.{SignedSe3Tangent, SignedSe23Tangent, LikeSe3Tangent, LikeSe23Tangent, LikeSe23, LikeSe3}

-- ---- parts at multiples of three, where the signs of the axes begin anew
pub like_set_block_rows : {s : Signs} {τ υ : ℕ → Bool} {r c br bc : ℕ} {a a' e e' : List Float} (p o : ℕ) → ((j : ℕ) → j < bc → υ j ≡ τ (o + j))
    → LikeMatrix (axis s) τ r c a a' → LikeMatrix (axis s) υ br bc e e' → LikeMatrix (axis s) τ r c (set_block r c br bc (3 * p) o a e) (set_block r c br bc (3 * p) o a' e')
like_set_block_rows {s} p o f h k = like_set_block (3 * p) o h (like_matrix_as (λ i I. sym (axis_add s p i)) f k)

pub like_set_block_axis : {s b : Signs} {r c br bc : ℕ} {a a' e e' : List Float} (p q : ℕ) → LikeMatrix (axis s) (axis b) r c a a' → LikeMatrix (axis s) (axis b) br bc e e'
    → LikeMatrix (axis s) (axis b) r c (set_block r c br bc (3 * p) (3 * q) a e) (set_block r c br bc (3 * p) (3 * q) a' e')
like_set_block_axis {b} p q h k = like_set_block_rows p (3 * q) (λ j J. sym (axis_add b q j)) h k

-- a vector in front of a list, where the signs begin anew after every third
pub like_to_array_append : {σ : ℕ → Bool} → ((k i : ℕ) → σ (3 * k + i) ≡ σ i) → {n : ℕ} {v v' : Vec3} {a a' : List Float} → LikeVec3 σ v v' → LikeList σ n a a'
    → LikeList σ (suc (suc (suc n))) (to_array v ++ a) (to_array v' ++ a')
like_to_array_append {σ} again {n} {v} {v'} {a} {a'} h k = record { entry = place }
  where
    three : (i : ℕ) → 3 + i ≡ suc (suc (suc i))
    three i = omega arith

    place : (i : ℕ) → i < suc (suc (suc n)) → Like (σ i) (get_or (to_array v ++ a) i nan) (get_or (to_array v' ++ a') i nan)
    place zero I = h.x
    place (suc zero) I = h.y
    place (suc (suc zero)) I = h.z
    place (suc (suc (suc i))) I = like_as (sym (again 1 i) ∙ ap σ (three i)) (k.entry i (omega arith))

-- three numbers of a list as a vector, the signs beginning anew after every third
pub like_vec3_at : {σ : ℕ → Bool} → ((k i : ℕ) → σ (3 * k + i) ≡ σ i) → {n : ℕ} {v v' : List Float} → LikeList σ n v v' → (k : ℕ) → 3 * k + 2 < n
    → LikeVec3 σ (vec3_at v (3 * k)) (vec3_at v' (3 * k))
like_vec3_at {σ} again h k K = record {
  x = like_as (ap σ (sym (add-zero (3 * k))) ∙ again k 0) (h.entry (3 * k) (omega arith));
  y = like_as (again k 1) (h.entry (3 * k + 1) (omega arith));
  z = like_as (again k 2) (h.entry (3 * k + 2) K);
}

-- ---- the algebras
pub like_scaled_se23 : {s : Signs} {u u' : Se23Tangent} {t t' : Float} → LikeSe23Tangent s u u' → Like false t t' → LikeSe23Tangent s (scaled_se23 u t) (scaled_se23 u' t')
unfolding scaled_se23
like_scaled_se23 h k = record { omega = like_mul_vec3 h.omega k; nu = like_mul_vec3 h.nu k; rho = like_mul_vec3 h.rho k }

pub like_pi : {s : Signs} {t : Bool} {u u' : Se23Tangent} → SignedSe23Tangent s t u u' → SignedSe3Tangent s t (pi u) (pi u')
like_pi h = record { omega = h.omega; nu = h.nu }

pub like_zero_se3_tangent : {s : Signs} → LikeSe3Tangent s zero_se3_tangent zero_se3_tangent
like_zero_se3_tangent = record { omega = like_zero_vec3; nu = like_zero_vec3 }

pub like_to_array_se3 : {s : Signs} {t : Bool} {u u' : Se3Tangent} → SignedSe3Tangent s t u u' → LikeList (signed_axis s t) 6 (to_array_se3 u) (to_array_se3 u')
like_to_array_se3 {s} {t} h = like_to_array_append (signed_axis_add s t) h.omega (like_to_array h.nu)

pub like_from_array_se3 : {s : Signs} {t : Bool} {v v' : List Float} → LikeList (signed_axis s t) 6 v v' → SignedSe3Tangent s t (from_array_se3 v) (from_array_se3 v')
like_from_array_se3 {s} {t} h = record { omega = like_vec3_at (signed_axis_add s t) h 0 (lit< tt); nu = like_vec3_at (signed_axis_add s t) h 1 (lit< tt) }

pub like_bracket_se3 : {s : Signs} {t : Bool} {u u' v v' : Se3Tangent} → LikeSe3Tangent s u u' → SignedSe3Tangent s t v v' → SignedSe3Tangent s t (bracket_se3 u v) (bracket_se3 u' v')
unfolding bracket_se3
like_bracket_se3 {t} h k = record { omega = like_cross_right t h.omega k.omega; nu = like_add_vec3 (like_cross_right t h.nu k.omega) (like_cross_right t h.omega k.nu) }

pub like_blocks6 : {s b : Signs} {p p' q q' r r' : Mat3} → LikeMatrix (axis s) (axis b) 3 3 p.«data» p'.«data» → LikeMatrix (axis s) (axis b) 3 3 q.«data» q'.«data»
    → LikeMatrix (axis s) (axis b) 3 3 r.«data» r'.«data» → LikeMatrix (axis s) (axis b) 6 6 (blocks6 p q r) (blocks6 p' q' r')
like_blocks6 hp hq hr = like_set_block_axis 1 1 (like_set_block_axis 1 0 (like_set_block_axis 0 0 (like_zeros {r = 6} {c = 6}) hp) hq) hr

pub like_ad_se3 : {s : Signs} {u u' : Se3Tangent} → LikeSe3Tangent s u u' → LikeMatrix (axis s) (axis s) 6 6 (ad_se3 u) (ad_se3 u')
unfolding ad_se3
like_ad_se3 h = like_blocks6 (like_skew h.omega) (like_skew h.nu) (like_skew h.omega)

module _ {s : Signs} {t : Bool} {u u' v v' : Se3Tangent} (h : SignedSe3Tangent s t u u') (k : SignedSe3Tangent s t v v') where
  pub like_add_se3 : SignedSe3Tangent s t (add_se3 u v) (add_se3 u' v')
  unfolding add_se3
  like_add_se3 = record { omega = like_add_vec3 h.omega k.omega; nu = like_add_vec3 h.nu k.nu }

  pub like_sub_se3 : SignedSe3Tangent s t (sub_se3 u v) (sub_se3 u' v')
  unfolding sub_se3
  like_sub_se3 = record { omega = like_sub_vec3 h.omega k.omega; nu = like_sub_vec3 h.nu k.nu }

pub like_neg_se3 : {s : Signs} {u u' : Se3Tangent} → LikeSe3Tangent s u u' → LikeSe3Tangent s (neg_se3 u) (neg_se3 u')
unfolding neg_se3
like_neg_se3 h = record { omega = like_neg_vec3 h.omega; nu = like_neg_vec3 h.nu }

pub like_add_se23 : {s : Signs} {u u' v v' : Se23Tangent} → LikeSe23Tangent s u u' → LikeSe23Tangent s v v' → LikeSe23Tangent s (add_se23 u v) (add_se23 u' v')
unfolding add_se23
like_add_se23 h k = record { omega = like_add_vec3 h.omega k.omega; nu = like_add_vec3 h.nu k.nu; rho = like_add_vec3 h.rho k.rho }

-- ---- the left Jacobian
small_angle_sq_above : lt plus_zero small_angle_sq ≡ true
unfolding lt of_bits
small_angle_sq_above = refl

module _ {x x' : Float} (h : Like false x x') where
  -- a squared angle that is not below `small_angle_sq` is no zero, so both runs divide by the same number
  same_angle : lt x small_angle_sq ≡ false → x ≡ x'
  same_angle e = like_not_lt small_angle_sq small_angle_sq_above h e

  pub like_jacobian_a : Like false (jacobian_a x) (jacobian_a x')
  unfolding jacobian_a
  like_jacobian_a =
      cond_keeps (Like false) (like_lt h (like_refl {x = small_angle_sq}))
      (λ e. like_add (like_sub like_refl (like_div_same _ h)) (like_div_same _ (like_square h)))
      (λ e. like_div_equal (like_sub like_refl (like_cos (like_sqrt h))) (same_angle e))

  pub like_jacobian_b : Like false (jacobian_b x) (jacobian_b x')
  unfolding jacobian_b
  like_jacobian_b =
      cond_keeps (Like false) (like_lt h (like_refl {x = small_angle_sq}))
      (λ e. like_add (like_sub like_refl (like_div_same _ h)) (like_div_same _ (like_square h)))
      (λ e. like_div_equal (like_sub (like_sqrt h) (like_sin (like_sqrt h))) (ap (λ y. y ⊗ sqrt y) (same_angle e)))

pub like_left_jacobian : {s : Signs} {v v' : Vec3} → LikeVec3 (axis s) v v' → LikeMatrix (axis s) (axis s) 3 3 (left_jacobian v).«data» (left_jacobian v').«data»
unfolding left_jacobian
like_left_jacobian h =
    add_matrix_of
    (add_matrix_of like_identity refl (scaled_of (like_skew h) refl (like_jacobian_a (like_norm_squared h)))) refl
    (scaled_of (like_matmul (like_skew h) (like_skew h)) refl (like_jacobian_b (like_norm_squared h)))

-- ---- SE₂(3)
pub like_identity_se23 : {s : Signs} → LikeSe23 s s identity_se23 identity_se23
like_identity_se23 = record { rotation = like_identity; velocity = like_zero_vec3; position = like_zero_vec3 }

module _ {s b : Signs} {c c' : Se23} (h : LikeSe23 s b c c') where
  pub like_compose_se23 : {d : Signs} {e e' : Se23} → LikeSe23 b d e e' → LikeSe23 s d (compose_se23 c e) (compose_se23 c' e')
  unfolding compose_se23
  like_compose_se23 k = record {
    rotation = like_matmul h.rotation k.rotation;
    velocity = like_add_vec3 (like_mul_mat3_vec3 h.rotation k.velocity) h.velocity;
    position = like_add_vec3 (like_mul_mat3_vec3 h.rotation k.position) h.position;
  }

  pub like_inverse_se23 : LikeSe23 b s (inverse_se23 c) (inverse_se23 c')
  unfolding inverse_se23
  like_inverse_se23 = record {
    rotation = like_transpose h.rotation;
    velocity = like_neg_vec3 (like_mul_mat3_vec3 (like_transpose h.rotation) h.velocity);
    position = like_neg_vec3 (like_mul_mat3_vec3 (like_transpose h.rotation) h.position);
  }

  pub like_adjoint_apply_se23 : {t : Bool} {u u' : Se23Tangent} → SignedSe23Tangent b t u u' → SignedSe23Tangent s t (adjoint_apply_se23 c u) (adjoint_apply_se23 c' u')
  unfolding adjoint_apply_se23
  like_adjoint_apply_se23 {t} {u} {u'} k =
      let r_omega : LikeVec3 (signed_axis s t) (mul_mat3_vec3 c.rotation u.omega) (mul_mat3_vec3 c'.rotation u'.omega) = like_rotated t h.rotation k.omega in
      record {
        omega = r_omega;
        nu = like_add_vec3 (like_cross_right t h.velocity r_omega) (like_rotated t h.rotation k.nu);
        rho = like_add_vec3 (like_cross_right t h.position r_omega) (like_rotated t h.rotation k.rho);
      }

  pub like_chi : LikeSe3 s b (chi c) (chi c')
  like_chi = record { rotation = h.rotation; translation = h.velocity }

pub like_exp_se23 : {s : Signs} {u u' : Se23Tangent} → LikeSe23Tangent s u u' → LikeSe23 s s (exp_se23 u) (exp_se23 u')
unfolding exp_se23
like_exp_se23 h = record {
  rotation = like_to_dcm (like_from_rotation_vector h.omega);
  velocity = like_mul_mat3_vec3 (like_left_jacobian h.omega) h.nu;
  position = like_mul_mat3_vec3 (like_left_jacobian h.omega) h.rho;
}

-- ---- SE(3)
module _ {s b : Signs} {c c' : Se3} (h : LikeSe3 s b c c') where
  pub like_inverse_se3 : LikeSe3 b s (inverse_se3 c) (inverse_se3 c')
  unfolding inverse_se3
  like_inverse_se3 = record {
    rotation = like_transpose h.rotation;
    translation = like_neg_vec3 (like_mul_mat3_vec3 (like_transpose h.rotation) h.translation);
  }

  pub like_adjoint_se3 : LikeMatrix (axis s) (axis b) 6 6 (adjoint_se3 c) (adjoint_se3 c')
  unfolding adjoint_se3
  like_adjoint_se3 = like_blocks6 h.rotation (like_matmul (like_skew h.translation) h.rotation) h.rotation

  pub like_adjoint_apply_se3 : {t : Bool} {u u' : Se3Tangent} → SignedSe3Tangent b t u u' → SignedSe3Tangent s t (adjoint_apply_se3 c u) (adjoint_apply_se3 c' u')
  unfolding adjoint_apply_se3
  like_adjoint_apply_se3 {t} {u} {u'} k =
      let r_omega : LikeVec3 (signed_axis s t) (mul_mat3_vec3 c.rotation u.omega) (mul_mat3_vec3 c'.rotation u'.omega) = like_rotated t h.rotation k.omega in
      record { omega = r_omega; nu = like_add_vec3 (like_cross_right t h.translation r_omega) (like_rotated t h.rotation k.nu) }

pub like_exp_se3 : {s : Signs} {u u' : Se3Tangent} → LikeSe3Tangent s u u' → LikeSe3 s s (exp_se3 u) (exp_se3 u')
unfolding exp_se3
like_exp_se3 h = record {
  rotation = like_to_dcm (like_from_rotation_vector h.omega);
  translation = like_mul_mat3_vec3 (like_left_jacobian h.omega) h.nu;
}

-- ---- the integrated adjoint
pub like_scaled_se3 : {s : Signs} {w w' : Se3Tangent} {t t' : Float} → LikeSe3Tangent s w w' → Like false t t' → LikeSe3Tangent s (scaled_se3 w t) (scaled_se3 w' t')
like_scaled_se3 h k = record { omega = like_mul_vec3 h.omega k; nu = like_mul_vec3 h.nu k }

pub like_halvings : {s : Signs} {w w' : Se3Tangent} (n : ℕ) → LikeSe3Tangent s w w' → halvings n w ≡ halvings n w'
unfolding halvings
like_halvings zero h = refl
like_halvings {s = s} {w = w} {w' = w'} (suc n) h =
    cond_keeps (λ (p q : ℕ). p ≡ q) (like_lt (like_refl {x = sixteenth}) (like_max (like_amax_vec3 h.omega) (like_amax_vec3 h.nu)))
    (λ e. ap suc (like_halvings {s = s} {w = scaled_se3 w half} {w' = scaled_se3 w' half} n (like_scaled_se3 h like_refl)))
    (λ e. refl)

pub like_halved : {s : Signs} {w w' : Se3Tangent} (n : ℕ) → LikeSe3Tangent s w w' → LikeSe3Tangent s (halved n w) (halved n w')
unfolding halved
like_halved zero h = h
like_halved {s = s} {w = w} {w' = w'} (suc n) h = like_halved {s = s} {w = scaled_se3 w half} {w' = scaled_se3 w' half} n (like_scaled_se3 h like_refl)

module _ {σ : ℕ → Bool} {m m' : List Float} (h : LikeMatrix σ σ 6 6 m m') where
  pub like_series_term : (k : ℕ) → LikeMatrix σ σ 6 6 (series_term m k) (series_term m' k)
  unfolding series_term
  like_series_term zero = like_identity
  like_series_term (suc k) = scaled_of (like_matmul (like_series_term k) h) refl like_refl

  pub like_series : (k : ℕ) → LikeMatrix σ σ 6 6 (series m k) (series m' k)
  unfolding series
  like_series zero = like_identity
  like_series (suc k) = add_matrix_of (like_series k) refl (like_series_term (suc k))

pub like_doubled : {s : Signs} {w w' : Se3Tangent} {psi psi' : List Float} (n : ℕ) → LikeSe3Tangent s w w' → LikeMatrix (axis s) (axis s) 6 6 psi psi'
    → LikeMatrix (axis s) (axis s) 6 6 (doubled n w psi) (doubled n w' psi')
unfolding doubled
like_doubled zero h k = k
like_doubled {s = s} {w = w} {w' = w'} {psi = psi} {psi' = psi'} (suc n) h k =
    like_doubled {s = s} {w = scaled_se3 w two} {w' = scaled_se3 w' two} n (like_scaled_se3 h like_refl)
    (scaled_of (like_matmul (add_matrix_of like_identity refl (like_adjoint_se3 (like_exp_se3 h))) k) refl like_refl)

pub like_integrated_adjoint : {s : Signs} {v v' : Se3Tangent} → LikeSe3Tangent s v v' → LikeMatrix (axis s) (axis s) 6 6 (integrated_adjoint v) (integrated_adjoint v')
unfolding integrated_adjoint
like_integrated_adjoint {s} {v} {v'} h =
    let n : ℕ = halvings most_halvings v' in
    let w : LikeSe3Tangent s (halved n v) (halved n v') = like_halved n h in
    rw (like_halvings most_halvings h) (like_doubled n w (like_series (like_ad_se3 w) 15))
