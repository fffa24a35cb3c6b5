-- `symmetrize_in` meets its contract. The loops keep the pairs that are replaced. Assumes nothing.
use mathlib.Core.Path.{◌≡◌}
use mathlib.Core.List.{List}
use Prim.Native.Nat.{◌+◌, ◌*◌, ◌-◌, ◌≤◌, ◌<◌}
use lib.ListN.{length}
use lib.Ieee.{Float}
use Rattle.drifters_matrix.proofs.Matrix.Mirror.{Symmetrized}
use Rattle.drifters_matrix.proofs.math.runs.symmetrize_in.Given as goal

abbrev pub invariant-loop-j : goal.invariant-loop-j
invariant-loop-j l =
    (l.j ≤ l.n) × (l.i < l.j) × (l.i * l.n + l.n ≤ l.n * l.n) × (length l.m ≡ l.n * l.n) × ((o : List Float) → Symmetrized l.n o (l.i * l.n + (l.i + 1)) l.initial.m → Symmetrized l.n o (l.i * l.n + l.j) l.m)

abbrev pub decreases-loop-j : goal.decreases-loop-j
decreases-loop-j l = l.n - l.j

abbrev pub invariant-loop-i : goal.invariant-loop-i
invariant-loop-i l = (l.i ≤ l.n) × (length l.m ≡ l.n * l.n) × Symmetrized l.n l.initial.m (l.i * l.n + (l.i + 1)) l.m

abbrev pub decreases-loop-i : goal.decreases-loop-i
decreases-loop-i l = l.n - l.i
