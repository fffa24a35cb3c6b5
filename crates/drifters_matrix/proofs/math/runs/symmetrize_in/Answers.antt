-- `symmetrize_in` meets its contract. The loops keep the pairs that are replaced. Assumes nothing.
use mathlib.Core.Path.{refl}
use native.Mathlib.Omega.{arith}
use lib.ListN.{length-set}
use Rattle.drifters_matrix.proofs.Matrix.Mirror.{symmetrized_step, symmetrized_next, symmetrized_done}
use Rattle.drifters_matrix.proofs.math.runs.symmetrize_in.Goals as goal
use Rattle.drifters_matrix.proofs.math.runs.symmetrize_in.Goals.{In-loop-j}

pub loop-j-preserved : goal.loop-j-preserved
loop-j-preserved c =
    (omega arith, omega arith, c.loop-j.invariant.2, simp length-set c.loop-j.invariant.3, λ o h. symmetrized_step _ o c.loop-j.m c.loop-i.i c.loop-j.j _ c.loop-j.invariant.3 (c.loop-j.invariant.4 o h) (omega arith) (omega arith) refl)

pub loop-i-preserved : goal.loop-i-preserved
loop-i-preserved c =
    (omega arith, c.loop-j.invariant.3, symmetrized_next _ _ _ c.loop-i.i c.loop-j.j (c.loop-j.invariant.4 _ c.loop-i.invariant.2) (omega arith) (omega arith) (omega arith))

pub returns : goal.returns
returns c =
    symmetrized_done _ _ _ c.loop-i.i c.loop-i.invariant.1 c.loop-i.invariant.2 (omega arith)
