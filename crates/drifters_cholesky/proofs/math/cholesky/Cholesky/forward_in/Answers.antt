-- `forward_in` meets its contract: the loop keeps the rows above row i. Assumes nothing.
use mathlib.Core.Path.{refl}
use native.Mathlib.Omega.{arith}
use Rattle.drifters_cholesky.specs.Cholesky.{forward}
use Rattle.drifters_cholesky.proofs.Substitution.{forward_next}
use Rattle.drifters_cholesky.proofs.math.cholesky.Cholesky.forward_in.Goals as goal

pub loop-i-init : goal.loop-i-init
unfolding forward
loop-i-init g c = (omega arith, refl)

pub loop-i-preserved : goal.loop-i-preserved
loop-i-preserved g c =
    let a = c.args in
    (omega arith, forward_next g.row.N g.row.C a.self.now.lower.«data» a.x.now.«data» c.loop-i.i c.loop-i.invariant.1 c.substitute_row.ensures)
