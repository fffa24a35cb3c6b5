-- `noise_map` meets its contract.
use Rattle.drifters_covariance.specs.Covariance.{noise_map}
use Rattle.drifters_covariance.proofs.covariance.noise_map.Goals as goal

-- m1 to m3 are what the matrix is after each block is set
pub returns : goal.returns
unfolding noise_map
returns c =
    let m1 = rw (c.zeros-g.ensures, c.input_columns.ensures) at c.set_block.ensures in
    let bias = rw c.bias_columns.ensures at c.neg.ensures in
    let m2 = rw (m1, bias) at c.set_block-2.ensures in
    let lever = rw c.a.ensures at c.neg-2.ensures in
    let m3 = rw (m2, lever) at c.set_block-3.ensures in
    rw m3 at c.set_block-4.ensures
