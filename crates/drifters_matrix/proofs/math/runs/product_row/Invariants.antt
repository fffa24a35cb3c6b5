-- `math::runs::product_row` meets its contract: after k terms the row holds the sums of the first k. t is the start of row k of b.
use mathlib.Core.Path.{◌≡◌}
use mathlib.Core.Bool.{Bool}
use Prim.Native.Nat.{◌*◌, ◌-◌, ◌≤◌}
use denote.Param.{number}
use lib.ListN.{length}
use Rattle.drifters_matrix.specs.Matrix.{tab}
use Rattle.drifters_matrix.proofs.Matrix.RowStart.{RowStart}
use Rattle.drifters_matrix.proofs.Matrix.Sums.{row_sum}
use Rattle.drifters_matrix.specs.contracts.math.runs.product_row.{SKIP-type}
use Rattle.drifters_matrix.proofs.math.runs.product_row.Given as goal

-- whether zeros are skipped
abbrev pub skip : goal.Over → Bool
skip g = SKIP-type (number g.row.SKIP)

abbrev pub invariant-loop-k : goal.invariant-loop-k
invariant-loop-k g l =
    (l.k ≤ l.c) × RowStart l.k (length l.initial.row) l.t × (length l.row ≡ length l.initial.row) × (l.c * length l.initial.row ≤ length l.b) × (l.row ≡ tab (length l.initial.row) (row_sum (skip g) l.a l.s l.b (length l.initial.row) l.k))

abbrev pub decreases-loop-k : goal.decreases-loop-k
decreases-loop-k g l = l.c - l.k
