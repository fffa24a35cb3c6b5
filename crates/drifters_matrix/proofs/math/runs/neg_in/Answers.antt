-- `math::runs::neg_in` meets its contract.
use mathlib.Core.Path.{refl}
use native.Mathlib.Omega.{arith}
use Rattle.drifters_matrix.specs.Matrix.{neg_matrix}
use Rattle.drifters_matrix.proofs.Matrix.Elements.{mapped_none, mapped_set, mapped_done}
use Rattle.drifters_matrix.proofs.math.runs.neg_in.Goals as goal

pub loop-x-init : goal.loop-x-init
loop-x-init c = mapped_none refl

pub loop-x-preserved : goal.loop-x-preserved
loop-x-preserved c = mapped_set c.loop-x.invariant (omega arith)

pub returns : goal.returns
unfolding neg_matrix
returns c = mapped_done c.loop-x.invariant (omega arith)
