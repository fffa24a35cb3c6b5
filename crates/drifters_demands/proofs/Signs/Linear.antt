-- The definitions of Linear.antt keep `LikeMatrix` and `LikeVec3`: every coordinate of the error is in the reference frame. Assumes nothing.
use mathlib.Core.Path.{refl}
use Rattle.drifters_demands.specs.Like.{Signs, axis, LikeVec3, LikeMatrix}
use Rattle.drifters_core.specs.declared.math.vec3.Vec3.{Vec3}
use Rattle.drifters_demands.proofs.Signs.Like.{like_refl}
use Rattle.drifters_demands.proofs.Signs.Matrix.{like_zeros, like_identity, like_matmul, like_mul_mat3_vec3}
use Rattle.drifters_demands.proofs.Signs.Vec3.{like_zero_vec3, like_add_vec3, like_mul_vec3, like_skew}
use Rattle.drifters_demands.proofs.Signs.Numeral.{neg_matrix_of}
use Rattle.drifters_symmetry.specs.Linear.{state_matrix, skew_mean, direction_output_matrix, position_output_matrix, velocity_output_matrix, transported_direction, transported_position, transported_velocity}
use Rattle.drifters_symmetry.specs.declared.group.Symmetry.{Symmetry}
use Rattle.drifters_symmetry.specs.declared.lift.Input.{Input}
use Rattle.drifters_demands.proofs.Signs.GroupRecords.{LikeSymmetry, LikeInput}
use Rattle.drifters_demands.proofs.Signs.Lie.{like_set_block_axis, like_pi, like_ad_se3, like_add_se3, like_add_se23, like_adjoint_apply_se23}
use Rattle.drifters_demands.proofs.Signs.Group.{like_inverse, like_act_direction, like_act_position, like_act_velocity}

-- ---- the state matrix
pub like_state_matrix : {s b t m : Signs} {x x' : Symmetry} {u u' : Input} {g g' : Vec3} → LikeSymmetry s b t m x x' → LikeInput b u u' → LikeVec3 (axis s) g g'
    → LikeMatrix (axis s) (axis s) 21 21 (state_matrix x u g) (state_matrix x' u' g')
unfolding state_matrix
like_state_matrix h k l =
    let a3 = like_skew (like_add_vec3 (like_mul_mat3_vec3 h.c.rotation k.omega) h.gamma.omega) in
    let w = like_adjoint_apply_se23 h.c record { omega = k.omega; nu = k.accel; rho = like_zero_vec3 } in
    let a = like_set_block_axis 1 0 (like_zeros {r = 21} {c = 21}) (like_skew l) in
    let a = like_set_block_axis 2 1 a like_identity in
    let a = like_set_block_axis 0 3 a like_identity in
    let a = like_set_block_axis 1 4 a like_identity in
    let a = like_set_block_axis 2 3 a (like_skew h.c.position) in
    let a = like_set_block_axis 3 3 a (like_ad_se3 (like_add_se3 h.gamma (like_pi (like_add_se23 w record { omega = like_zero_vec3; nu = l; rho = like_zero_vec3 })))) in
    let a = like_set_block_axis 5 5 a a3 in
    let a = like_set_block_axis 6 6 a a3 in
    let a = like_set_block_axis 6 0 a (neg_matrix_of a3 refl) in
    like_set_block_axis 6 3 a like_identity

-- ---- the output matrices
module _ {s : Signs} {v v' w w' : Vec3} (h : LikeVec3 (axis s) v v') (k : LikeVec3 (axis s) w w') where
  pub like_skew_mean : LikeMatrix (axis s) (axis s) 3 3 (skew_mean v w).«data» (skew_mean v' w').«data»
  like_skew_mean = like_skew (like_mul_vec3 (like_add_vec3 h k) like_refl)

  pub like_direction_output_matrix : LikeMatrix (axis s) (axis s) 3 21 (direction_output_matrix v w) (direction_output_matrix v' w')
  unfolding direction_output_matrix
  like_direction_output_matrix = like_set_block_axis 0 6 (like_zeros {r = 3} {c = 21}) (like_matmul (like_skew h) like_skew_mean)

  pub like_position_output_matrix : LikeMatrix (axis s) (axis s) 3 21 (position_output_matrix v w) (position_output_matrix v' w')
  unfolding position_output_matrix
  like_position_output_matrix =
      like_set_block_axis 0 5
      (like_set_block_axis 0 2 (like_set_block_axis 0 0 (like_zeros {r = 3} {c = 21}) like_skew_mean) (neg_matrix_of like_identity refl))
      like_identity

  pub like_velocity_output_matrix : {rate rate' : Vec3} → LikeVec3 (axis s) rate rate' → LikeMatrix (axis s) (axis s) 3 21 (velocity_output_matrix v w rate) (velocity_output_matrix v' w' rate')
  unfolding velocity_output_matrix
  like_velocity_output_matrix l =
      like_set_block_axis 0 5
      (like_set_block_axis 0 1 (like_set_block_axis 0 0 (like_zeros {r = 3} {c = 21}) like_skew_mean) (neg_matrix_of like_identity refl))
      (like_skew l)

-- ---- measurements in the error frame
module _ {s b t m : Signs} {x x' : Symmetry} (h : LikeSymmetry s b t m x x') where
  pub like_transported_direction : {y y' : Vec3} → LikeVec3 (axis m) y y' → LikeVec3 (axis t) (transported_direction x y) (transported_direction x' y')
  unfolding transported_direction
  like_transported_direction k = like_act_direction (like_inverse h) k

  pub like_transported_position : LikeVec3 (axis s) (transported_position x) (transported_position x')
  unfolding transported_position
  like_transported_position = like_act_position (like_inverse h) like_zero_vec3

  pub like_transported_velocity : {omega omega' : Vec3} → LikeVec3 (axis b) omega omega' → LikeVec3 (axis s) (transported_velocity x omega) (transported_velocity x' omega')
  unfolding transported_velocity
  like_transported_velocity k = like_act_velocity (like_inverse h) like_zero_vec3 k
