-- `back_in` meets its contract: the loop keeps the rows from row i on. Assumes nothing.
use mathlib.Core.Path.{◌≡◌}
use Prim.Native.Nat.{◌-◌, ◌≤◌}
use Rattle.drifters_cholesky.specs.Cholesky.{back}
use Rattle.drifters_cholesky.proofs.math.cholesky.Cholesky.back_in.Given as goal

abbrev pub invariant-loop-i : goal.invariant-loop-i
invariant-loop-i g l = (l.i ≤ g.row.N) × (l.x.«data» ≡ back g.row.N g.row.C l.self.lower.«data» l.initial.x.«data» (g.row.N - l.i))
