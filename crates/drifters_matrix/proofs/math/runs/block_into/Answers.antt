-- `block_into` meets its contract: the result is written row by row. Assumes nothing.
use mathlib.Core.Path.{◌≡◌, refl, ap, ◌∙◌}
use mathlib.Core.Bool.{true, false}
use Prim.Native.Nat.{◌+◌, ◌*◌, ◌≤◌}
use native.Mathlib.Nat.{add_assoc}
use native.Mathlib.Omega.{arith}
use lib.Ieee.{nan}
use lib.ListN.{length, get_or, length-replicate}
use Rattle.drifters_matrix.specs.Matrix.{tab}
use Rattle.drifters_matrix.proofs.Matrix.Tab.{tab_ext}
use Rattle.drifters_matrix.proofs.Matrix.RowStart.{part_is, row_step}
use Rattle.drifters_matrix.proofs.Matrix.Grid.{row_in, row_next, rows_none, rows_done}
use Rattle.drifters_matrix.proofs.Matrix.Block.{fits_tested, block_fits_lem, block_is}
use Rattle.drifters_matrix.proofs.math.runs.block_into.Invariants.{block_entry}
use Rattle.drifters_matrix.proofs.math.runs.block_into.Goals as goal
use Rattle.drifters_matrix.proofs.math.runs.block_into.Goals.{In-loop-i}

pub loop-i-init : goal.loop-i-init
loop-i-init c =
    let a = c.args in
    let f = block_fits_lem a.r a.c a.br a.bc a.r0 a.c0 (fits_tested c.range_fits.ensures c.range_fits-2.ensures c.if-range_fits.true) in
    (omega arith, f.0, f.1, ap length c.requires.1 ∙ length-replicate _ _, rows_none _ a.bc _)

-- row i of the block lies within out, and that of the matrix within m
within : (c : In-loop-i) → (c.loop-i.i * c.args.bc + c.args.bc ≤ length c.loop-i.out) × ((c.args.r0 + c.loop-i.i) * c.args.c + c.args.c ≤ length c.args.m.now)
within c =
    let a = c.args in
    (omega (arith, row_in c.loop-i.i a.br a.bc (omega arith)), omega (arith, row_in (a.r0 + c.loop-i.i) a.r a.c (omega arith)))

pub slice_bounds-copy_from_slice-end-in-loop-i : goal.slice_bounds-copy_from_slice-end-in-loop-i
slice_bounds-copy_from_slice-end-in-loop-i c = omega (arith, within (goal.at.slice_bounds-copy_from_slice-end-in-loop-i c).In-loop-i)

pub loop-i-preserved : goal.loop-i-preserved
loop-i-preserved c =
    let a = c.args in
    let v = c.loop-i.invariant in
    let w = within (goal.at.loop-i-preserved c).In-loop-i in
    let f = block_entry a.c a.r0 a.c0 a.m.now in
    let y : c.copy_from_slice.new.self ≡ tab a.bc (f c.loop-i.i) =
    c.copy_from_slice.ensures.after ∙ part_is ((a.r0 + c.loop-i.i) * a.c + a.c0) a.bc a.m.now (omega arith)
    ∙ tab_ext a.bc _ _ (λ j _. ap (λ n. get_or a.m.now n nan) (add_assoc ((a.r0 + c.loop-i.i) * a.c) a.c0 j)) in
    (omega arith, v.1, v.2, v.3, rw row_next (row_step f a.bc a.out.now (record { start = refl }) v.4 y))

pub returns-after-loop-i : goal.returns-after-loop-i
returns-after-loop-i c =
    let a = c.args in
    let v = c.loop-i.invariant in
    rows_done (block_entry a.c a.r0 a.c0 a.m.now) c.loop-i.i a.br a.bc a.out.now v.4 (omega arith) v.3
    ∙ block_is a.r a.c a.br a.bc a.r0 a.c0 a.m.now true (fits_tested c.range_fits.ensures c.range_fits-2.ensures c.if-range_fits.true)

pub returns-else-range_fits : goal.returns-else-range_fits
returns-else-range_fits c =
    let a = c.args in
    let e = fits_tested c.range_fits.ensures c.range_fits-2.ensures c.if-range_fits.false in
    c.requires.1 ∙ block_is a.r a.c a.br a.bc a.r0 a.c0 a.m.now false e
