-- `congruence` meets its contract.
use Rattle.drifters_matrix.proofs.Matrix.Skips.{transposed_product}
use Rattle.drifters_covariance.proofs.covariance.congruence.Goals as goal

pub returns : goal.returns
returns c =
    let a = c.args in
    rw c.matmul_into.ensures at (transposed_product 21 21 21 _ a.m.now.«data» c.mul_transpose_into.ensures c.transpose_into.ensures)
