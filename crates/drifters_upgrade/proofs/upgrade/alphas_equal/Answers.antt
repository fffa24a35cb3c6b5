-- `upgrade::alphas_equal` meets its contract: the numbers of a finite filter have bits.
use mathlib.Core.Path.{◌≡◌, refl}
use mathlib.Core.Bool.{true, not, false≢true}
use native.Mathlib.Omega.{arith}
use lib.Dec.{T}
use lib.Ieee.{Float, nan, inf, fin, is_nan}
use Rattle.drifters_real.specs.Real.{is_finite}
use Rattle.drifters_matrix.proofs.Matrix.Skips.{finite_at}
use Rattle.drifters_upgrade.specs.Upgrade.{alphas_equal}
use Rattle.drifters_upgrade.proofs.upgrade.alphas_equal.Goals as goal

not_nan : (x : Float) → is_finite x ≡ true → T (not (is_nan x))
unfolding is_finite is_nan
not_nan nan h = absurd (false≢true h)
not_nan (inf s) h = tt
not_nan (fin s m e) h = tt

pub float_to_bits-first : goal.float_to_bits-first
float_to_bits-first c = not_nan _ (finite_at c.args.run.now 477 c.requires (omega (arith, c.told-run)))

pub float_to_bits-result : goal.float_to_bits-result
float_to_bits-result c = not_nan _ (finite_at c.args.run.now 478 c.requires (omega (arith, c.told-run)))

pub float_to_bits-result-2 : goal.float_to_bits-result-2
float_to_bits-result-2 c = not_nan _ (finite_at c.args.run.now 479 c.requires (omega (arith, c.told-run)))

pub returns : goal.returns
unfolding alphas_equal
returns c = refl
