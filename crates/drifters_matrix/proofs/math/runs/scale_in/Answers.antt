-- `math::runs::scale_in` meets its contract.
use mathlib.Core.Path.{refl}
use native.Mathlib.Omega.{arith}
use Rattle.drifters_matrix.specs.Matrix.{scaled}
use Rattle.drifters_matrix.proofs.Matrix.Elements.{mapped_none, mapped_set, mapped_done}
use Rattle.drifters_matrix.proofs.math.runs.scale_in.Goals as goal

pub loop-x-init : goal.loop-x-init
loop-x-init c = mapped_none refl

pub loop-x-preserved : goal.loop-x-preserved
loop-x-preserved c = mapped_set c.loop-x.invariant (omega arith)

pub returns : goal.returns
unfolding scaled
returns c = mapped_done c.loop-x.invariant (omega arith)
