-- `Algebra::ad` meets its contract.
use mathlib.Core.Path.{◌≡◌, ◌∙◌}
use native.Mathlib.Omega.{arith}
use Rattle.drifters_matrix.proofs.Matrix.ByColumns.{no_columns, next_column, all_columns}
use Rattle.drifters_symmetry.specs.Group.{ad}
use Rattle.drifters_symmetry.proofs.group.Algebra.ad.Invariants.{column}
use Rattle.drifters_symmetry.proofs.group.Algebra.ad.Goals as goal

pub loop-k-init : goal.loop-k-init
loop-k-init c = (omega arith, c.zeros-m.ensures ∙ no_columns 21 21 (column c.args.self))

pub loop-k-preserved : goal.loop-k-preserved
loop-k-preserved c =
    let k = c.loop-k.k in
    let cols = column c.args.self in
    let numbers = rw (c.bracket.ensures, c.from_array.ensures, c.unit.ensures) at c.to_array.ensures in
    let set = rw (c.loop-k.invariant.1, numbers) at c.set_column.ensures in
    (omega arith, set ∙ next_column 21 21 k cols (omega arith))

pub returns : goal.returns
unfolding ad
returns c =
    let done : c.loop-k.k ≡ 21 = omega arith in
    let cols = column c.args.self in
    c.loop-k.invariant.1 ∙ rw done (all_columns 21 21 cols)
