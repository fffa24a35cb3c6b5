-- `math::runs::transpose_into` meets its contract: the result is written column by column. s is the start of row i of m, t that of row j of out.
use mathlib.Core.Path.{refl}
use Prim.Native.Nat.{◌+◌, ◌≤◌}
use native.Mathlib.Omega.{arith}
use lib.ListN.{length, length-set}
use Rattle.drifters_matrix.specs.Matrix.{transpose}
use Rattle.drifters_matrix.proofs.Matrix.Columns.{columns_set, columns_done}
use Rattle.drifters_matrix.proofs.Matrix.RowStart.{row_start_next, row_start_in}
use Rattle.drifters_matrix.proofs.math.runs.transpose_into.Goals as goal
use Rattle.drifters_matrix.proofs.math.runs.transpose_into.Goals.{In-loop-j}

-- row j of out lies within it
row_in_out : (c : In-loop-j) → c.loop-j.t + c.args.r ≤ length c.loop-j.out
row_in_out c = let v = c.loop-j.invariant in omega (arith, row_start_in v.2 c.loop-j-test.true, v.5)

pub loop-j-preserved : goal.loop-j-preserved
loop-j-preserved c =
    let v = c.loop-j.invariant in
    let h = (row_in_out (goal.at.loop-j-preserved c).In-loop-j) in
    (omega arith, v.1, row_start_next v.2, v.3, v.4, simp length-set v.5, rw (v.2.start, v.1.start) (columns_set v.6 (omega arith) (omega arith) (omega arith) refl))

pub returns : goal.returns
unfolding transpose
returns c = let v = c.loop-i.invariant in columns_done v.3 (omega arith) v.2
