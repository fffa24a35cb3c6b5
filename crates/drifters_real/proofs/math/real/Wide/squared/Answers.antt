-- `math::real::Wide::squared` meets its contract.
use Rattle.drifters_real.proofs.Real.LimbProducts.{squared_law}
use Rattle.drifters_real.proofs.math.real.Wide.squared.Goals as goal

pub returns : goal.returns
returns c = squared_law c.args.t
