-- `math::runs::diagonal_into` meets its contract.
use native.Mathlib.Omega.{arith}
use Rattle.drifters_matrix.specs.Matrix.{diagonal}
use Rattle.drifters_matrix.proofs.Matrix.Elements.{mapped_none, mapped_set, mapped_done}
use Rattle.drifters_matrix.proofs.math.runs.diagonal_into.Goals as goal
use Rattle.drifters_matrix.proofs.math.runs.diagonal_into.Goals.{In-loop-i}

pub returns : goal.returns
unfolding diagonal
returns c = mapped_done c.loop-i.invariant (omega arith)

pub loop-i-init : goal.loop-i-init
loop-i-init c = mapped_none c.requires.1

pub loop-i-preserved : goal.loop-i-preserved
loop-i-preserved c = mapped_set c.loop-i.invariant (omega arith)
