-- `math::runs::matmul_into` meets its contract.
use Rattle.drifters_matrix.specs.Matrix.{matmul}
use Rattle.drifters_matrix.proofs.math.runs.matmul_into.Goals as goal

pub returns : goal.returns
unfolding matmul
returns c = c.product_into.ensures
