-- `math::matrix::mul_transpose_arrays` meets its contract.
use mathlib.Core.Path.{sym, ◌∙◌}
use native.Mathlib.Omega.{arith}
use borrow.Author.Tests.{ltb-false, not-false}
use Rattle.drifters_matrix.proofs.Matrix.Skips.{product_transpose_finite}
use Rattle.drifters_matrix.proofs.math.matrix.mul_transpose_arrays.Goals as goal
use Rattle.drifters_matrix.proofs.math.matrix.mul_transpose_arrays.Goals.{then-this-lt-FEW_ENTRIES, else-this-lt-FEW_ENTRIES}

pub returns-else-not-all_finite : goal.returns-else-not-all_finite
returns-else-not-all_finite g c =
    let n = g.row in
    elim c.if-this-lt-FEW_ENTRIES.branch [
      | then-this-lt-FEW_ENTRIES w ↦ absurd (omega (arith, w.if-this-lt-FEW_ENTRIES.true, ltb-false n.N 64 (sym w.value-is ∙ c.if-not-all_finite.false)))
      | else-this-lt-FEW_ENTRIES w ↦
          let finite = sym w.all_finite.ensures ∙ not-false _ (sym w.value-is ∙ c.if-not-all_finite.false) in
          product_transpose_finite n.R n.C n.D c.args.a.now c.args.b.now (omega arith) finite c.transpose_into.ensures c.matmul_into.ensures
    ]
