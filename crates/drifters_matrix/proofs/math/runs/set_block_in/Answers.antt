-- `set_block_in` meets its contract. The loop keeps the rows of the block before row i. Assumes nothing.
use mathlib.Core.Bool.{false}
use Prim.Native.Nat.{◌+◌, ◌*◌, ◌≤◌}
use native.Mathlib.Omega.{arith}
use lib.ListN.{length}
use Rattle.drifters_matrix.proofs.Matrix.Grid.{row_in}
use Rattle.drifters_matrix.proofs.Matrix.Block.{fits_tested, set_is, stored_row, stored_done}
use Rattle.drifters_matrix.proofs.math.runs.set_block_in.Goals as goal
use Rattle.drifters_matrix.proofs.math.runs.set_block_in.Goals.{In-loop-i}

-- row i of the block lies within src, and that of the matrix within m
within : (c : In-loop-i) → (c.loop-i.i * c.args.bc + c.args.bc ≤ length c.args.src.now) × ((c.args.r0 + c.loop-i.i) * c.args.c + c.args.c ≤ length c.loop-i.m)
within c =
    let a = c.args in
    (omega (arith, row_in c.loop-i.i a.br a.bc (omega arith)), omega (arith, row_in (a.r0 + c.loop-i.i) a.r a.c (omega arith)))

pub slice_bounds-copy_from_slice-end : goal.slice_bounds-copy_from_slice-end
slice_bounds-copy_from_slice-end c = omega (arith, within (goal.at.slice_bounds-copy_from_slice-end c).In-loop-i)

pub loop-i-preserved : goal.loop-i-preserved
loop-i-preserved c =
    let v = c.loop-i.invariant in
    let w = within (goal.at.loop-i-preserved c).In-loop-i in
    (omega arith, v.1, v.2, omega arith, stored_row v.4 (omega arith) v.2 w.1 w.0 c.copy_from_slice.ensures.after)

pub returns-after-loop-i : goal.returns-after-loop-i
returns-after-loop-i c =
    let a = c.args in
    let v = c.loop-i.invariant in
    stored_done a.r v.4 (omega arith) v.3 (fits_tested c.range_fits.ensures c.range_fits-2.ensures c.if-range_fits.true)

pub returns-else-range_fits : goal.returns-else-range_fits
returns-else-range_fits c =
    let a = c.args in
    set_is a.r a.c a.br a.bc a.r0 a.c0 a.m.now a.src.now false (fits_tested c.range_fits.ensures c.range_fits-2.ensures c.if-range_fits.false)
