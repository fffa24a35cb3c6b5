-- `math::runs::mul_transpose_into` meets its contract.
use Rattle.drifters_matrix.proofs.Matrix.Sums.{product_transpose}
use Rattle.drifters_matrix.proofs.math.runs.mul_transpose_into.Goals as goal

pub returns : goal.returns
returns c =
    let a = c.args in
    product_transpose a.r a.c a.d a.a.now a.b.now c.transpose_into.ensures c.product_into.ensures
