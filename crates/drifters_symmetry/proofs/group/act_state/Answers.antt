-- `act_state` meets its contract.
use mathlib.Core.Path.{◌∙◌}
use Rattle.drifters_core.specs.Vec3.{mul_mat3_vec3}
use Rattle.drifters_symmetry.specs.Group.{act_state}
use Rattle.drifters_symmetry.proofs.group.act_state.Goals as goal

pub returns : goal.returns
unfolding act_state
returns c =
    let rotation = rw c.a.ensures at c.transpose-a_t.ensures in
    let bias = rw (c.inverse.ensures, c.b.ensures, c.sub.ensures) at c.adjoint_apply.ensures in
    let lever = c.mul_vec3.ensures ∙ (λ i. mul_mat3_vec3 (record { «data» = rotation i }) (c.sub-2.ensures i)) in
    let mag = rw (c.matmul-mag.ensures, rotation) at c.matmul.ensures in
    λ i. record { pose = c.compose.ensures i; bias = bias i; lever = lever i; mag = record { «data» = mag i } }
