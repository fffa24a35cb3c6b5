-- `Cholesky::solve` meets its contract.
use Rattle.drifters_cholesky.proofs.Substitution.{solved}
use Rattle.drifters_cholesky.proofs.math.cholesky.Cholesky.solve.Goals as goal

pub returns : goal.returns
returns g c =
    solved g.row.N g.row.C _ _ c.forward_in.ensures c.back_in.ensures
