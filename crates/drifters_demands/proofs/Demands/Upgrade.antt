-- What the checks of a change-over and of the way back decide. Assumes nothing.
use mathlib.Core.Path.{refl}
use mathlib.Core.Bool.{◌&&◌}
use mathlib.Core.List.{List}
use borrow.Author.Tests.{eqb-true}
use lib.Dec.{eqb}
use lib.ListN.{length}
use lib.Ieee.{Float}
use Rattle.std.proofs.lemmas.Bool.{and_parts}
use Rattle.drifters_matrix.specs.Matrix.{all_finite}
use Rattle.drifters_eqf.specs.Answer.{Fine}
use Rattle.drifters_entry.specs.Layout.{filter_length, one_alpha_length}
use Rattle.drifters_entry.specs.Entry.{outcome}
use Rattle.drifters_upgrade.specs.Upgrade.{upgraded, downgraded, alphas_equal, upgrade, downgrade}
use Rattle.drifters_demands.specs.Demands.{first_of, upgrade_checks, downgrade_checks}
use Rattle.drifters_demands.proofs.Upgrade.{finite_upgraded, finite_downgraded}
use Rattle.drifters_demands.proofs.Demands.Decision.{Decision, accepts, check}

module _ (run written : List Float) where
  pub upgrade_decision : Decision run written (outcome Fine run (upgraded run)) (first_of (upgrade_checks run written)) (upgrade run written)
  unfolding upgrade first_of
  upgrade_decision =
      check {result = outcome Fine run (upgraded run)} 0 (eqb (length run) one_alpha_length && eqb (length written) filter_length) _ (λ fits.
      check {result = outcome Fine run (upgraded run)} 1 (all_finite run) _ (λ finite.
      accepts refl (rw (finite_upgraded run (eqb-true _ _ (and_parts _ _ fits).0), finite) refl)))

  pub downgrade_decision : Decision run written (outcome Fine run (downgraded run)) (first_of (downgrade_checks run written)) (downgrade run written)
  unfolding downgrade first_of
  downgrade_decision =
      check {result = outcome Fine run (downgraded run)} 0 (eqb (length run) filter_length && eqb (length written) one_alpha_length) _ (λ fits.
      check {result = outcome Fine run (downgraded run)} 1 (all_finite run) _ (λ finite.
      check {result = outcome Fine run (downgraded run)} 7 (alphas_equal run) _ (λ equal.
      accepts refl (rw (finite_downgraded run finite, finite) refl))))
