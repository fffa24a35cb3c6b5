-- `series::Blocks::whole` meets its contract.
use mathlib.Core.Path.{◌≡◌, refl}
use mathlib.Core.List.{List}
use lib.Ieee.{Float}
use Rattle.drifters_matrix.specs.Matrix.{tab, matrix, zeros, set_block, block}
use Rattle.drifters_adjoint.specs.Series.{whole}
use Rattle.drifters_adjoint.proofs.series.Blocks.whole.Goals as goal

placed : (t : List Float) → set_block 6 6 3 3 3 3 (set_block 6 6 6 3 0 0 (zeros 36) t) (block 6 3 3 3 0 0 t) ≡ whole t
unfolding set_block block whole matrix tab
placed t = refl

pub returns : goal.returns
returns c = cc (placed c.args.self.columns.«data»)
