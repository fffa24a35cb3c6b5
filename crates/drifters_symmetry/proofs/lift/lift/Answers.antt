-- `lift` meets its contract.
use mathlib.Core.Path.{ap, ◌∙◌}
use Rattle.drifters_core.specs.Vec3.{mul_mat3_vec3}
use Rattle.drifters_lie.specs.Lie.{pi}
use Rattle.drifters_symmetry.specs.Lift.{lift}
use Rattle.drifters_symmetry.proofs.lift.lift.Goals as goal

pub returns : goal.returns
unfolding lift
returns c =
    let a = c.args in
    let gravity = c.mul_vec3.ensures ∙ (λ i. mul_mat3_vec3 (record { «data» = c.transpose-r_t.ensures i }) a.gravity) in
    let nu = rw (c.sub.ensures, gravity) at c.add.ensures in
    let rho = c.mul_vec3-2.ensures ∙ (λ i. mul_mat3_vec3 (record { «data» = c.transpose-r_t.ensures i }) a.xi.pose.velocity) in
    let pose = rw (c.sub-rate.ensures, nu, rho) at c.new-c.ensures in
    let gamma = rw (c.pi.ensures ∙ ap pi pose) at c.bracket.ensures in
    let delta = rw c.sub-rate.ensures at c.cross.ensures in
    let mag = c.mul_vec3-3.ensures ∙ (λ i. mul_mat3_vec3 (record { «data» = c.transpose.ensures i }) (c.sub-rate.ensures i)) in
    λ i. record { c = pose i; gamma = gamma i; delta = delta i; e = mag i }
