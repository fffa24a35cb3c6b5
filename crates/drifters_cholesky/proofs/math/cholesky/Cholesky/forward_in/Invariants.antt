-- `forward_in` meets its contract: the loop keeps the rows above row i. Assumes nothing.
use mathlib.Core.Path.{◌≡◌}
use Prim.Native.Nat.{◌-◌, ◌≤◌}
use Rattle.drifters_cholesky.specs.Cholesky.{forward}
use Rattle.drifters_cholesky.proofs.math.cholesky.Cholesky.forward_in.Given as goal

abbrev pub invariant-loop-i : goal.invariant-loop-i
invariant-loop-i g l = (l.i ≤ g.row.N) × (l.x.«data» ≡ forward g.row.N g.row.C l.self.lower.«data» l.initial.x.«data» l.i)

abbrev pub decreases-loop-i : goal.decreases-loop-i
decreases-loop-i g l = g.row.N - l.i
