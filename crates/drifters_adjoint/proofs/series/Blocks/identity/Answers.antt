-- `series::Blocks::identity` meets its contract.
use mathlib.Core.Path.{◌≡◌, refl}
use Rattle.drifters_matrix.specs.Matrix.{tab, matrix, zeros, set_block, from_diagonal, identity}
use Rattle.drifters_adjoint.specs.Series.{identity_blocks}
use Rattle.drifters_adjoint.proofs.series.Blocks.identity.Goals as goal

placed : set_block 6 3 3 3 0 0 (zeros 18) (identity 3) ≡ identity_blocks
unfolding set_block from_diagonal identity_blocks matrix tab
placed = refl

pub returns : goal.returns
returns c = cc placed
