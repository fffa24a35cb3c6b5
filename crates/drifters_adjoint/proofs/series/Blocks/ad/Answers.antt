-- `series::Blocks::ad` meets its contract.
use mathlib.Core.Path.{◌≡◌, refl}
use Rattle.drifters_matrix.specs.Matrix.{tab, matrix, zeros, set_block}
use Rattle.drifters_core.specs.Vec3.{skew}
use Rattle.drifters_adjoint.specs.Series.{ad_blocks}
use Rattle.drifters_lie.specs.declared.lie.Se3Tangent.{Se3Tangent}
use Rattle.drifters_adjoint.proofs.series.Blocks.ad.Goals as goal

placed : (w : Se3Tangent) → set_block 6 3 3 3 3 0 (set_block 6 3 3 3 0 0 (zeros 18) (skew w.omega).«data») (skew w.nu).«data» ≡ ad_blocks w
unfolding set_block skew ad_blocks matrix tab
placed w = refl

pub returns : goal.returns
returns c = cc (placed c.args.w)
