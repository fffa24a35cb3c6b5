-- `entry::write_estimate` meets its contract.
use mathlib.Core.Path.{◌≡◌, sym, ◌∙◌}
use mathlib.Core.Bool.{Bool, true, cond, and-true}
use mathlib.Core.List.{List}
use lib.Ieee.{Float}
use Rattle.drifters_matrix.specs.Matrix.{all_finite}
use Rattle.drifters_eqf.specs.Answer.{Fine, range_refusal}
use Rattle.drifters_eqf.specs.Filter.{nav_state}
use Rattle.drifters_entry.specs.Layout.{from_run, state_to_run}
use Rattle.drifters_entry.specs.Entry.{estimate, outcome, performed, refused, range_checked}
use Rattle.drifters_entry.proofs.entry.write_estimate.Goals as goal

-- the outcome, by the test of the estimate's numbers m and what it found
checked : (run written m : List Float) {t : Bool} → m ≡ state_to_run (nav_state (from_run run)) → all_finite run ≡ true → all_finite m ≡ t
    → cond t (outcome Fine run m) (refused range_refusal run written) ≡ range_checked (performed estimate (from_run run) run written) run written
unfolding performed range_checked
checked run written m e f h = rw (← e, f, and-true, h)

pub returns : goal.returns
unfolding nav_state
returns c =
    rw c.copy_from_slice.ensures.after
    (checked c.args.run.now c.args.written.now _ (rw (c.act_state-state.ensures, c.default.ensures, c.symmetry_from_run.ensures) at c.state_numbers-numbers.ensures) c.requires.1
    (sym c.all_finite.ensures ∙ c.if-not-all_finite.false))

pub returns-then-not-all_finite : goal.returns-then-not-all_finite
unfolding nav_state
returns-then-not-all_finite c =
    checked c.args.run.now c.args.written.now _ (rw (c.act_state-state.ensures, c.default.ensures, c.symmetry_from_run.ensures) at c.state_numbers-numbers.ensures) c.requires.1
    (sym c.all_finite.ensures ∙ c.if-not-all_finite.true)
