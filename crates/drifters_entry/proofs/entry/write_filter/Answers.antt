-- `entry::write_filter` meets its contract.
use mathlib.Core.Path.{◌≡◌, sym, ap₂, ◌∙◌}
use mathlib.Core.Bool.{Bool, ◌&&◌}
use lib.Ieee.{Float}
use Rattle.std.specs.Prelude.{Option, Some, None, MatchOption, IsTrue}
use Rattle.drifters_real.specs.Real.{is_finite}
use Rattle.drifters_matrix.specs.Matrix.{all_finite}
use Rattle.drifters_entry.specs.Layout.{to_run}
use Rattle.drifters_entry.proofs.Calls.{nis_finite, checked}
use Rattle.drifters_entry.proofs.entry.write_filter.Goals.{After-filter_is_finite}
use Rattle.drifters_entry.proofs.entry.write_filter.Goals as goal

tested : (nis : Option Float) {b : Bool} → MatchOption nis (IsTrue b) (λ x. b ≡ is_finite x) → b ≡ nis_finite nis
tested (Some x) e = e
tested None e = e

-- t is what the test found
found : (c : After-filter_is_finite) {t : Bool} → c.is_none_or-nis_is_finite.result && c.filter_is_finite.result ≡ t → nis_finite c.args.nis && all_finite (to_run c.args.filter.now c.args.alphas) ≡ t
found c e = sym (ap₂ ◌&&◌ (tested c.args.nis c.is_none_or-nis_is_finite.ensures) c.filter_is_finite.ensures) ∙ e

pub returns-then-not-nis_is_finite-filter_is_finite : goal.returns-then-not-nis_is_finite-filter_is_finite
returns-then-not-nis_is_finite-filter_is_finite c =
    checked c.args.nis _ c.args.run.now (found ((goal.at.returns-then-not-nis_is_finite-filter_is_finite c).After-filter_is_finite) c.if-not-nis_is_finite-filter_is_finite.true)

pub returns : goal.returns
returns c =
    rw c.to_run.ensures (checked c.args.nis _ c.args.run.now (found (goal.at.returns c).After-filter_is_finite c.if-not-nis_is_finite-filter_is_finite.false))
