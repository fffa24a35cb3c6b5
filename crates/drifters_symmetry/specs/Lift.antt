-- Port of lift.rs: the lift of the dynamics to the algebra. Definitions only.
use Rattle.drifters_core.specs.Vec3.{cross, add_vec3, sub_vec3, mul_mat3_vec3}
use Rattle.drifters_core.specs.declared.math.vec3.Vec3.{Vec3}
use Rattle.drifters_lie.specs.Lie.{transpose3, se23_tangent, pi, bracket_se3}
use Rattle.drifters_symmetry.specs.declared.group.Algebra.{Algebra}
use Rattle.drifters_symmetry.specs.declared.group.State.{State}
use Rattle.drifters_symmetry.specs.declared.lift.Input.{Input}

-- the lift at the state xi, for the input u
unfoldable pub lift : State → Input → Vec3 → Algebra
lift xi u gravity =
    let rt = transpose3 xi.pose.rotation in
    let rate = sub_vec3 u.omega xi.bias.omega in
    let c = se23_tangent rate (add_vec3 (sub_vec3 u.accel xi.bias.nu) (mul_mat3_vec3 rt gravity)) (mul_mat3_vec3 rt xi.pose.velocity) in
    record {
      c = c;
      gamma = bracket_se3 xi.bias (pi c);
      delta = cross xi.lever rate;
      e = mul_mat3_vec3 (transpose3 xi.mag) rate;
    }
