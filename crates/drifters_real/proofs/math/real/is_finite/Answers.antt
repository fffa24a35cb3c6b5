-- `math::real::is_finite` meets its contract.
use mathlib.Core.Path.{◌≡◌, refl, ◌∙◌}
use lib.Ieee.{Float, nan, inf, fin}
use Rattle.std.specs.Float.{float_is_finite}
use Rattle.drifters_real.specs.Real.{is_finite}
use Rattle.drifters_real.proofs.math.real.is_finite.Goals as goal

same_test : (x : Float) → float_is_finite x ≡ is_finite x
unfolding float_is_finite is_finite
same_test nan = refl
same_test (inf s) = refl
same_test (fin s m e) = refl

pub returns : goal.returns
returns c = c.is_finite.ensures.value ∙ same_test c.args.x
