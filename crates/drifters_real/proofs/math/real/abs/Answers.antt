-- `math::real::abs` meets its contract.
use mathlib.Core.Path.{◌≡◌, refl, ◌∙◌}
use mathlib.Core.Bool.{false}
use lib.Ieee.{Float, nan, inf, fin}
use Rattle.std.specs.Float.{float_with_sign}
use Rattle.drifters_real.specs.Real.{abs}
use Rattle.drifters_real.proofs.math.real.abs.Goals as goal

same_abs : (x : Float) → float_with_sign false x ≡ abs x
unfolding float_with_sign abs
same_abs nan = refl
same_abs (inf s) = refl
same_abs (fin s m e) = refl

pub returns : goal.returns
returns c = c.abs.ensures.value ∙ same_abs c.args.x
