-- The lift keeps `LikeAlgebra`. Assumes nothing.
use Rattle.drifters_demands.specs.Like.{Signs, axis, LikeVec3}
use Rattle.drifters_core.specs.declared.math.vec3.Vec3.{Vec3}
use Rattle.drifters_demands.proofs.Signs.Matrix.{like_transpose, like_mul_mat3_vec3}
use Rattle.drifters_demands.proofs.Signs.Vec3.{like_add_vec3, like_sub_vec3, like_cross}
use Rattle.drifters_symmetry.specs.Lift.{lift}
use Rattle.drifters_symmetry.specs.declared.group.State.{State}
use Rattle.drifters_symmetry.specs.declared.lift.Input.{Input}
use Rattle.drifters_demands.proofs.Signs.GroupRecords.{LikeSe23Tangent, LikeAlgebra, LikeState, LikeInput}
use Rattle.drifters_demands.proofs.Signs.Lie.{like_pi, like_bracket_se3}

pub like_lift : {s b m : Signs} {xi xi' : State} {u u' : Input} {g g' : Vec3} → LikeState s b m xi xi' → LikeInput b u u' → LikeVec3 (axis s) g g'
    → LikeAlgebra b m (lift xi u g) (lift xi' u' g')
unfolding lift
like_lift {b} {xi} {xi'} {u} {u'} {g} {g'} h k l =
    let rate = like_sub_vec3 k.omega h.bias.omega in
    let rt = like_transpose h.pose.rotation in
    let c : LikeSe23Tangent b (lift xi u g).c (lift xi' u' g').c = record {
      omega = rate;
      nu = like_add_vec3 (like_sub_vec3 k.accel h.bias.nu) (like_mul_mat3_vec3 rt l);
      rho = like_mul_mat3_vec3 rt h.pose.velocity;
    } in
    record {
      c = c;
      gamma = like_bracket_se3 h.bias (like_pi c);
      delta = like_cross h.lever rate;
      e = like_mul_mat3_vec3 (like_transpose h.mag) rate;
    }
