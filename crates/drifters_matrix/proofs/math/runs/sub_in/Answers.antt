-- `math::runs::sub_in` meets its contract.
use mathlib.Core.Path.{refl}
use native.Mathlib.Omega.{arith}
use Rattle.drifters_matrix.specs.Matrix.{sub_matrix}
use Rattle.drifters_matrix.proofs.Matrix.Elements.{mapped_none, mapped_set, mapped_done}
use Rattle.drifters_matrix.proofs.math.runs.sub_in.Goals as goal

pub loop-k-init : goal.loop-k-init
loop-k-init c = mapped_none refl

pub loop-k-preserved : goal.loop-k-preserved
loop-k-preserved c = mapped_set c.loop-k.invariant (omega arith)

pub returns : goal.returns
unfolding sub_matrix
returns c = mapped_done c.loop-k.invariant (omega arith)
