-- `Symmetry::inverse` meets its contract.
use mathlib.Core.Path.{ap, ◌∙◌}
use Rattle.drifters_core.specs.Vec3.{neg_vec3, mul_mat3_vec3}
use Rattle.drifters_symmetry.specs.Group.{inverse}
use Rattle.drifters_symmetry.proofs.group.Symmetry.inverse.Goals as goal

pub returns : goal.returns
unfolding inverse
returns c =
    let gamma = rw (c.adjoint_apply.ensures, c.inverse-2.ensures, c.b.ensures) at c.neg.ensures in
    let rotation = rw c.a.ensures at c.transpose.ensures in
    let moved = c.mul_vec3.ensures ∙ (λ i. mul_mat3_vec3 (record { «data» = rotation i }) c.args.self.delta) in
    let delta = c.neg-2.ensures ∙ ap neg_vec3 moved in
    λ i. record { c = c.inverse.ensures i; gamma = gamma i; delta = delta i; e = record { «data» = c.transpose-2.ensures i } }
