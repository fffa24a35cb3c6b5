-- `math::runs::add_scaled` meets its contract.
use mathlib.Core.Path.{refl}
use native.Mathlib.Omega.{arith}
use Rattle.drifters_matrix.proofs.Matrix.Elements.{mapped_none, mapped_set}
use Rattle.drifters_matrix.proofs.math.runs.add_scaled.Goals as goal

pub loop-j-init : goal.loop-j-init
loop-j-init c = mapped_none refl

pub loop-j-preserved : goal.loop-j-preserved
loop-j-preserved c = mapped_set c.loop-j.invariant (omega arith)
