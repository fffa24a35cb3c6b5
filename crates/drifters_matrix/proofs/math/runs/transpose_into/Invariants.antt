-- `math::runs::transpose_into` meets its contract: the result is written column by column. s is the start of row i of m, t that of row j of out.
use mathlib.Core.Path.{◌≡◌}
use Prim.Native.Nat.{◌+◌, ◌*◌, ◌-◌, ◌≤◌, ◌<◌}
use lib.ListN.{length}
use Rattle.drifters_matrix.specs.Matrix.{at}
use Rattle.drifters_matrix.proofs.Matrix.Columns.{Columns}
use Rattle.drifters_matrix.proofs.Matrix.RowStart.{RowStart}
use Rattle.drifters_matrix.proofs.math.runs.transpose_into.Given as goal

abbrev pub invariant-loop-j : goal.invariant-loop-j
invariant-loop-j l =
    (l.j ≤ l.c) × RowStart l.i l.c l.s × RowStart l.j l.r l.t × (l.i < l.r) × (l.s + l.c ≤ length l.m) × (length l.out ≡ l.c * l.r) × Columns l.c l.r (λ p q. at l.c l.m q p) l.i l.j l.out

abbrev pub decreases-loop-j : goal.decreases-loop-j
decreases-loop-j l = l.c - l.j

abbrev pub invariant-loop-i : goal.invariant-loop-i
invariant-loop-i l = (l.i ≤ l.r) × RowStart l.i l.c l.s × (length l.out ≡ l.c * l.r) × Columns l.c l.r (λ p q. at l.c l.m q p) l.i 0 l.out

abbrev pub decreases-loop-i : goal.decreases-loop-i
decreases-loop-i l = l.r - l.i
