-- `math::runs::scale_columns_into` meets its contract: before round j of a row, the entries before that at column j are made.
use mathlib.Core.Path.{refl, ◌∙◌}
use native.Mathlib.Omega.{arith}
use lib.ListN.{length-set}
use Rattle.drifters_matrix.proofs.Matrix.Grid.{entries_set, entries_done}
use Rattle.drifters_matrix.proofs.Matrix.Skips.{diagonal_product}
use Rattle.drifters_matrix.proofs.math.runs.scale_columns_into.Goals as goal

pub loop-j-preserved : goal.loop-j-preserved
loop-j-preserved c =
    let v = c.loop-j.invariant in
    (omega arith, v.1, v.2, v.3, v.4, simp length-set v.5, rw v.1.start (entries_set v.6 (omega arith) (omega arith) refl))

pub returns : goal.returns
returns c =
    let a = c.args in
    let v = c.loop.invariant in
    entries_done v.5 (omega arith) v.4
    ∙ diagonal_product a.r a.c a.a.now a.d.now v.2 v.3 c.requires.1.1.1.0 c.requires.1.1.1.1
