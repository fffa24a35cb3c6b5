-- The definitions of Covariance.antt and Filter.antt keep `LikeMatrix` and `LikeFilter`, under half turns of each of the three frames. Assumes nothing.
use mathlib.Core.Path.{◌≡◌, refl, sym, ap₂, ◌∙◌}
use mathlib.Core.Bool.{Bool, false, ◌&&◌}
use mathlib.Core.List.{List}
use Prim.Native.Nat.{ℕ, ◌+◌, ◌*◌, ◌<◌}
use native.Mathlib.Omega.{arith}
use lib.Dec.{lit<}
use lib.Ieee.{Float}
use Rattle.std.specs.Prelude.{Option}
use Rattle.drifters_demands.specs.Like.{Like, Signs, axis, LikeList, LikeVec3, LikeMatrix, no_turn}
use Rattle.drifters_demands.specs.Turn.{then_signs}
use Rattle.drifters_core.specs.declared.math.vec3.Vec3.{Vec3}
use Rattle.drifters_demands.proofs.Signs.Sign.{unlike_same, axis_add, signed_axis}
use Rattle.drifters_demands.proofs.Signs.Like.{cond_keeps, like_as, like_refl}
use Rattle.drifters_demands.proofs.Signs.Ops.{like_mul}
use Rattle.drifters_demands.proofs.Signs.Compare.{like_le}
use Rattle.drifters_demands.proofs.Signs.Real.{like_abs}
use Rattle.drifters_demands.proofs.Signs.Vec3.{like_zero_vec3, like_to_array, like_sub_vec3, like_cross_right, like_norm, LikeNormalized, both_units, both_none, like_normalized, like_skew}
use Rattle.drifters_demands.proofs.Signs.Matrix.{like_zeros, like_column, like_of_column, like_transpose, like_add_matrix, like_matmul, like_mul_transpose, like_from_diagonal, like_identity, like_symmetrize, like_mul_mat3_vec3, like_rotated}
use Rattle.drifters_demands.proofs.Signs.Cholesky.{LikeFactor, like_cholesky, like_solve}
use Rattle.drifters_demands.proofs.Signs.Numeral.{scaled_of, neg_matrix_of, add_matrix_of, sub_matrix_of}
use Rattle.drifters_covariance.specs.Covariance.{transition, linear_lift, input_column, bias_column, noise_map, psd, process_noise, joseph, reset_sigma}
use Rattle.drifters_eqf.specs.Filter.{turn_fits, refuse, nav_state, half_step, midpoint, full_step, propagated_sigma, propagated, propagate, projected, raw_factor, inflated_factor, gain, Correction, correction, step, corrected, applied, update, measured_position, measured_velocity, measured_units, measured_direction}
use Rattle.drifters_lie.specs.declared.lie.Se3Tangent.{Se3Tangent}
use Rattle.drifters_symmetry.specs.declared.group.Symmetry.{Symmetry}
use Rattle.drifters_symmetry.specs.declared.group.Algebra.{Algebra}
use Rattle.drifters_symmetry.specs.declared.group.State.{State}
use Rattle.drifters_symmetry.specs.declared.lift.Input.{Input}
use Rattle.drifters_covariance.specs.declared.covariance.ProcessNoise.{ProcessNoise}
use Rattle.drifters_eqf.specs.declared.filter.EqFilter.{EqFilter}
use Rattle.drifters_demands.proofs.Signs.GroupRecords.{axis_no_turn, SignedSe3Tangent, SignedAlgebra, LikeSymmetry, LikeAlgebra, LikeState, LikeInput}
use Rattle.drifters_demands.proofs.Signs.FilterRecords.{LikeProcessNoise, LikeFilter, both_nis_lem, both_fine, both_refused_lem, LikeAnswered, LikeMeasurement, LikeMeasured, both_measured, both_unmeasured}
use Rattle.drifters_demands.proofs.Signs.Lie.{like_set_block_rows, like_to_array_append, like_to_array_se3, like_from_array_se3, like_bracket_se3, like_chi, like_adjoint_apply_se3}
use Rattle.drifters_demands.proofs.Signs.Group.{like_compose, like_to_array21, like_scaled_algebra, like_from_array21, like_unit, like_columns, like_ad, like_exp, like_adjoint_apply, like_default_state, like_act_state}
use Rattle.drifters_demands.proofs.Signs.Lift.{like_lift}
use Rattle.drifters_demands.proofs.Signs.Linear.{like_state_matrix, like_direction_output_matrix, like_position_output_matrix, like_velocity_output_matrix, like_transported_direction, like_transported_position, like_transported_velocity}
use Rattle.drifters_demands.proofs.Signs.Layout.{then_before, then_after}
use Rattle.drifters_demands.proofs.Signs.Gcu.{like_definite, like_entries_of, like_nis, like_inflate}

pub like_turn_fits : {s m : Signs} {u u' : Algebra} → LikeAlgebra s m u u' → turn_fits u ≡ turn_fits u'
unfolding turn_fits
like_turn_fits h = ap₂ ◌&&◌ (like_le (like_norm h.c.omega) like_refl) (like_le (like_norm h.e) like_refl)

pub like_refuse : {s b m : Signs} {f f' : EqFilter} {n : ℕ} → LikeFilter s b m f f' → LikeAnswered s b m (refuse n f) (refuse n f')
like_refuse h = record { answer = both_refused_lem; filter = h }

pub like_nav_state : {s b m : Signs} {f f' : EqFilter} → LikeFilter s b m f f' → LikeState s b m (nav_state f) (nav_state f')
unfolding nav_state
like_nav_state h = like_act_state h.x like_default_state

-- ---- propagation: the steps
module _ {s b m : Signs} {f f' : EqFilter} {u u' : Input} {dt dt' : Float} (F : LikeFilter s b m f f') (U : LikeInput b u u') (T : Like false dt dt') where
  pub like_half_step : LikeAlgebra b m (half_step f u dt) (half_step f' u' dt')
  unfolding half_step
  like_half_step = like_scaled_algebra (like_lift (like_nav_state F) U F.gravity) (like_mul like_refl T)

  pub like_midpoint : LikeSymmetry s b s m (midpoint f u dt) (midpoint f' u' dt')
  unfolding midpoint
  like_midpoint = like_compose F.x (like_exp like_half_step)

  pub like_full_step : LikeAlgebra b m (full_step f u dt) (full_step f' u' dt')
  unfolding full_step
  like_full_step = like_scaled_algebra (like_lift (like_act_state like_midpoint like_default_state) U F.gravity) T

pub like_transition : {σ : ℕ → Bool} {a a' : List Float} {dt dt' : Float} → LikeMatrix σ σ 21 21 a a' → Like false dt dt' → LikeMatrix σ σ 21 21 (transition a dt) (transition a' dt')
unfolding transition
like_transition h k =
    let a_dt = scaled_of h refl k in
    add_matrix_of (add_matrix_of like_identity refl a_dt) refl (scaled_of (like_matmul a_dt a_dt) refl like_refl)

-- ---- propagation: the noise
pub like_linear_lift : {s b m : Signs} {t : Bool} {xi xi' : State} {w w' : Se3Tangent} → LikeState s b m xi xi' → SignedSe3Tangent b t w w'
    → SignedAlgebra b m t (linear_lift xi w) (linear_lift xi' w')
unfolding linear_lift
like_linear_lift {t} h k = record {
  c = record { omega = k.omega; nu = k.nu; rho = like_zero_vec3 };
  gamma = like_bracket_se3 h.bias k;
  delta = like_cross_right t h.lever k.omega;
  e = like_rotated t (like_transpose h.mag) k.omega;
}

-- the signs of the noise map's columns: five times three in the body frame, the last three in the magnetometer's
abbrev pub noise_columns : Signs → Signs → ℕ → Bool
noise_columns b m = then_signs 15 (axis b) (axis m)

module _ {s b m : Signs} {x x' : Symmetry} (X : LikeSymmetry s b s m x x') where
  pub like_input_column : {r : Signs} {xi xi' : State} → LikeState r b m xi xi' → (k : ℕ) → LikeList (signed_axis s (axis b k)) 21 (input_column x xi k) (input_column x' xi' k)
  unfolding input_column
  like_input_column E k = like_to_array21 (like_adjoint_apply X (like_linear_lift E (like_from_array_se3 (like_unit b 6 k))))

  pub like_bias_column : (k : ℕ) → LikeList (signed_axis s (axis b k)) 6 (bias_column x k) (bias_column x' k)
  unfolding bias_column
  like_bias_column k = like_to_array_se3 (like_adjoint_apply_se3 (like_chi X.c) (like_from_array_se3 (like_unit b 6 k)))

  -- n columns from place 3 q on are in the body frame
  body_columns : (q n : ℕ) → 3 * q + n < 16 → (j : ℕ) → j < n → axis b j ≡ noise_columns b m (3 * q + j)
  body_columns q n N j J = sym (then_before 15 (axis b) (axis m) (3 * q + j) (omega (arith, N, J)) ∙ axis_add b q j)

  pub like_noise_map : {r : Signs} {xi xi' : State} → LikeState r b m xi xi' → LikeMatrix (axis s) (noise_columns b m) 21 18 (noise_map x xi) (noise_map x' xi')
  unfolding noise_map
  like_noise_map E =
      let a = like_set_block_rows 0 0 (body_columns 0 6 (lit< tt)) (like_zeros {r = 21} {c = 18}) (like_columns {r = 21} {c = 6} (like_input_column E)) in
      let a = like_set_block_rows 3 6 (body_columns 2 6 (lit< tt)) a (neg_matrix_of (like_columns {r = 6} {c = 6} like_bias_column) refl) in
      let a = like_set_block_rows 5 12 (body_columns 4 3 (lit< tt)) a (neg_matrix_of X.c.rotation refl) in
      like_set_block_rows 6 15 (λ j J. sym (then_after 15 (axis b) (axis m) j)) a X.e

pub like_psd : {q q' : ProcessNoise} → LikeProcessNoise q q' → LikeList (axis no_turn) 18 (psd q) (psd q')
like_psd h =
    like_to_array_append (axis_add no_turn) h.gyro
    (like_to_array_append (axis_add no_turn) h.accel
    (like_to_array_append (axis_add no_turn) h.gyro_bias
    (like_to_array_append (axis_add no_turn) h.accel_bias
    (like_to_array_append (axis_add no_turn) h.lever
    (like_to_array h.mag)))))

pub like_process_noise : {s b m r : Signs} {x x' : Symmetry} {xi xi' : State} {q q' : ProcessNoise} → LikeSymmetry s b s m x x' → LikeState r b m xi xi'
    → LikeProcessNoise q q' → LikeMatrix (axis s) (axis s) 21 21 (process_noise x xi q) (process_noise x' xi' q')
unfolding process_noise
like_process_noise {b} {m} X E Q =
    let map = like_noise_map X E in
    like_mul_transpose
    (like_matmul map (like_from_diagonal record { entry = λ i I. like_as (axis_no_turn i ∙ sym (unlike_same (noise_columns b m i))) ((like_psd Q).entry i I) }))
    map

-- ---- propagation
module _ {s b m : Signs} {f f' : EqFilter} {u u' : Input} {dt dt' : Float} {q q' : ProcessNoise}
    (F : LikeFilter s b m f f') (U : LikeInput b u u') (T : Like false dt dt') (Q : LikeProcessNoise q q') where
  pub like_propagated_sigma : LikeMatrix (axis s) (axis s) 21 21 (propagated_sigma f u dt q) (propagated_sigma f' u' dt' q')
  unfolding propagated_sigma
  like_propagated_sigma =
      let phi = like_transition (like_state_matrix (like_midpoint F U T) U F.gravity) T in
      let noise = like_process_noise (like_compose F.x (like_exp (like_full_step F U T))) (like_nav_state F) Q in
      like_symmetrize (add_matrix_of (like_mul_transpose (like_matmul phi F.sigma) phi) refl (scaled_of noise refl (like_abs T)))

  pub like_propagated : LikeFilter s b m (propagated f u dt q) (propagated f' u' dt' q')
  unfolding propagated
  like_propagated = record { x = like_compose F.x (like_exp (like_full_step F U T)); sigma = like_propagated_sigma; gravity = F.gravity }

  pub like_propagate : LikeAnswered s b m (propagate f u dt q) (propagate f' u' dt' q')
  unfolding propagate
  like_propagate =
      cond_keeps (LikeAnswered s b m) (like_turn_fits (like_half_step F U T))
      (λ e.
      cond_keeps (LikeAnswered s b m) (like_turn_fits (like_full_step F U T))
      (λ e. record { answer = both_fine; filter = like_propagated })
      (λ e. like_refuse F))
      (λ e. like_refuse F)

-- ---- updates, with any signs of the measured numbers
module _ {s b m : Signs} {σ : ℕ → Bool} {w : ℕ} {f f' : EqFilter} {c c' : List Float} (F : LikeFilter s b m f f') (C : LikeMatrix σ (axis s) w 21 c c') where
  pub like_projected : LikeMatrix σ σ w w (projected w f c) (projected w f' c')
  unfolding projected
  like_projected = like_mul_transpose (like_matmul C F.sigma) C

  pub like_raw_factor : {noise noise' : List Float} → LikeMatrix σ σ w w noise noise' → LikeFactor σ w w (raw_factor w f c noise) (raw_factor w f' c' noise')
  unfolding raw_factor
  like_raw_factor N = like_cholesky (like_add_matrix like_projected N)

  module _ {y y' noise noise' : List Float} {alpha alpha' : Float} (Y : LikeList σ w y y') (N : LikeMatrix σ σ w w noise noise') (A : Like false alpha alpha') where
    pub like_inflated_factor : LikeFactor σ w w (inflated_factor w f c y noise alpha) (inflated_factor w f' c' y' noise' alpha')
    unfolding inflated_factor
    like_inflated_factor = like_cholesky (like_inflate Y like_projected N A)

    pub like_gain : LikeMatrix (axis s) σ 21 w (gain w f c y noise alpha) (gain w f' c' y' noise' alpha')
    unfolding gain
    like_gain = like_transpose (like_solve (like_entries_of like_inflated_factor) (like_matmul C F.sigma))

-- two corrections are alike in the reference frame, whatever the width that they come from
pub record LikeCorrection (s : Signs) (u u' : Correction) : Type 0 where
  pub delta : LikeList (axis s) 21 u.delta u'.delta
  pub kc : LikeMatrix (axis s) (axis s) 21 21 u.kc u'.kc
  pub noise : LikeMatrix (axis s) (axis s) 21 21 u.noise u'.noise

pub like_correction : {s : Signs} {σ : ℕ → Bool} {w : ℕ} {k k' c c' y y' noise noise' : List Float} → LikeMatrix (axis s) σ 21 w k k' → LikeMatrix σ (axis s) w 21 c c'
    → LikeList σ w y y' → LikeMatrix σ σ w w noise noise' → LikeCorrection s (correction w k c y noise) (correction w k' c' y' noise')
unfolding correction
like_correction K C Y N = record {
  delta = like_of_column (like_matmul K (like_column Y));
  kc = like_matmul K C;
  noise = like_mul_transpose (like_matmul K N) K;
}

pub like_joseph : {τ : ℕ → Bool} {sigma sigma' kc kc' noise noise' : List Float} → LikeMatrix τ τ 21 21 sigma sigma' → LikeMatrix τ τ 21 21 kc kc'
    → LikeMatrix τ τ 21 21 noise noise' → LikeMatrix τ τ 21 21 (joseph sigma kc noise) (joseph sigma' kc' noise')
unfolding joseph
like_joseph S K N =
    let ikc = sub_matrix_of like_identity refl K in
    add_matrix_of (like_mul_transpose (like_matmul ikc S) ikc) refl N

pub like_reset_sigma : {s : Signs} {u u' : Algebra} {sigma sigma' : List Float} → LikeAlgebra s s u u' → LikeMatrix (axis s) (axis s) 21 21 sigma sigma'
    → LikeMatrix (axis s) (axis s) 21 21 (reset_sigma u sigma) (reset_sigma u' sigma')
unfolding reset_sigma
like_reset_sigma h S =
    let reset = add_matrix_of like_identity refl (scaled_of (like_ad h) refl like_refl) in
    like_mul_transpose (like_matmul reset S) reset

module _ {s b m : Signs} {f f' : EqFilter} {u u' : Correction} (F : LikeFilter s b m f f') (U : LikeCorrection s u u') where
  pub like_step : LikeAlgebra s s (step u) (step u')
  unfolding step
  like_step = like_from_array21 U.delta

  pub like_corrected : LikeFilter s b m (corrected f u) (corrected f' u')
  unfolding corrected
  like_corrected = record {
    x = like_compose (like_exp like_step) F.x;
    sigma = like_symmetrize (like_reset_sigma like_step (like_joseph F.sigma U.kc U.noise));
    gravity = F.gravity;
  }

  pub like_applied : {r r' : Float} → Like false r r' → LikeAnswered s b m (applied f r u) (applied f' r' u')
  unfolding applied
  like_applied h =
      cond_keeps (LikeAnswered s b m) (like_turn_fits like_step) (λ e. record { answer = both_nis_lem h; filter = like_corrected }) (λ e. like_refuse F)

pub like_update : {s b m : Signs} {σ : ℕ → Bool} {w : ℕ} {f f' : EqFilter} {c c' y y' noise noise' : List Float} {alpha alpha' : Float}
    → LikeFilter s b m f f' → LikeMatrix σ (axis s) w 21 c c' → LikeList σ w y y' → LikeMatrix σ σ w w noise noise' → Like false alpha alpha'
    → LikeAnswered s b m (update w f c y noise alpha) (update w f' c' y' noise' alpha')
unfolding update
like_update {s} {b} {m} F C Y N A =
    cond_keeps (LikeAnswered s b m) (like_definite (like_raw_factor F C N))
    (λ e.
    cond_keeps (LikeAnswered s b m) (like_definite (like_inflated_factor F C Y N A))
    (λ e. like_applied F (like_correction (like_gain F C Y N A) C Y N) (like_nis (like_entries_of (like_raw_factor F C N)) Y))
    (λ e. like_refuse F))
    (λ e. like_refuse F)

-- ---- what is measured
module _ {s b m : Signs} {x x' : Symmetry} (X : LikeSymmetry s b s m x x') where
  pub like_measured_position : {antenna antenna' : Vec3} → LikeVec3 (axis s) antenna antenna' → LikeMeasurement (axis s) s 3 (measured_position x antenna) (measured_position x' antenna')
  unfolding measured_position
  like_measured_position h =
      let transported = like_transported_position X in
      record { output = like_position_output_matrix h transported; innovation = like_to_array (like_sub_vec3 transported h) }

  pub like_measured_velocity : {antenna antenna' omega omega' : Vec3} → LikeVec3 (axis s) antenna antenna' → LikeVec3 (axis b) omega omega'
      → LikeMeasurement (axis s) s 3 (measured_velocity x antenna omega) (measured_velocity x' antenna' omega')
  unfolding measured_velocity
  like_measured_velocity h k =
      let transported = like_transported_velocity X k in
      record { output = like_velocity_output_matrix h transported (like_mul_mat3_vec3 X.c.rotation k); innovation = like_to_array (like_sub_vec3 transported h) }

  like_measured_units : {u u' o o' : Option Vec3} → LikeNormalized (axis m) u u' → LikeNormalized (axis s) o o'
      → LikeMeasured s (measured_units x u o) (measured_units x' u' o')
  like_measured_units (both_units unit) (both_units origin) =
      let transported = like_transported_direction X unit in
      both_measured record { output = like_direction_output_matrix origin transported; innovation = like_to_array (like_mul_mat3_vec3 (like_skew origin) transported) }
  like_measured_units (both_units unit) both_none = both_unmeasured
  like_measured_units both_none (both_units origin) = both_unmeasured
  like_measured_units both_none both_none = both_unmeasured

  pub like_measured_direction : {measured measured' north north' : Vec3} → LikeVec3 (axis m) measured measured' → LikeVec3 (axis s) north north'
      → LikeMeasured s (measured_direction x measured north) (measured_direction x' measured' north')
  unfolding measured_direction
  like_measured_direction h k = like_measured_units (like_normalized h) (like_normalized k)
