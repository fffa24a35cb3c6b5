-- `entry::start` meets its contract.
use mathlib.Core.Path.{◌≡◌, refl, sym, ◌∙◌}
use mathlib.Core.Bool.{Bool, true, false, cond}
use mathlib.Core.List.{List, []}
use borrow.Author.Tests.{eq-eqb, ne_eqb}
use lib.ListN.{length}
use lib.Ieee.{Float}
use Rattle.std.proofs.lemmas.Result.{err_from_is_err_and}
use Rattle.drifters_matrix.specs.Matrix.{all_finite}
use Rattle.drifters_eqf.specs.Answer.{Fine, length_refusal, blank_refusal}
use Rattle.drifters_entry.specs.Layout.{filter_length, start_length}
use Rattle.drifters_entry.specs.Entry.{Outcome, outcome, refused, range_checked, started, start}
use Rattle.drifters_entry.proofs.Calls.{refused_none}
use Rattle.drifters_entry.proofs.entry.start.Goals as goal

module _ (run v : List Float) where
  run_refused : (length run ≡ filter_length → ⊥) → refused length_refusal run [] ≡ start run v
  unfolding start
  run_refused h = rw (ne_eqb _ _ h)

  -- left is the filter's array, which is the run that was lent
  module _ {left : List Float} (long : length run ≡ filter_length) (same : left ≡ run) where
    numbers_refused : (length v ≡ start_length → ⊥) → refused length_refusal left [] ≡ start run v
    unfolding start
    numbers_refused h = rw (eq-eqb _ _ long, ne_eqb _ _ h, same)

    -- t is whether the numbers are finite
    given : (t : Bool) {o : Outcome} → length v ≡ start_length → all_finite v ≡ t → o ≡ cond t (range_checked (outcome Fine (started v) []) left []) (refused blank_refusal left [])
        → o ≡ start run v
    unfolding start
    given t n h e = rw (eq-eqb _ _ long, eq-eqb _ _ n, h) (rw same at e)

pub returns-in_err-run : goal.returns-in_err-run
returns-in_err-run c =
    let p = err_from_is_err_and c.from_residual.result c.from_residual.ensures.1 in
    rw (p.1, p.2, refused_none c.as_mut_array.result c.ok_or.ensures.value c.in_err-run.was) (run_refused c.args.run.now c.args.numbers.now (rw (c.ok_or.ensures.ok_part, c.in_err-run.was) at c.as_mut_array.ensures.cases))

pub returns-in_err-numbers : goal.returns-in_err-numbers
returns-in_err-numbers c =
    let p = err_from_is_err_and c.from_residual-in_err-numbers.result c.from_residual-in_err-numbers.ensures.1 in
    let whole = rw (c.ok_or.ensures.ok_part, c.in_ok-run.was) at c.as_mut_array.ensures.cases in
    rw (p.1, p.2, refused_none c.as_array.result c.ok_or-2.ensures.value c.in_err-numbers.was)
    (numbers_refused c.args.run.now c.args.numbers.now whole.long whole.same (rw (c.ok_or-2.ensures.ok_part, c.in_err-numbers.was) at c.as_array.ensures.cases))

pub returns-then-not-all_finite : goal.returns-then-not-all_finite
returns-then-not-all_finite c =
    let whole = rw (c.ok_or.ensures.ok_part, c.in_ok-run.was) at c.as_mut_array.ensures.cases in
    let all = rw (c.ok_or-2.ensures.ok_part, c.in_ok-numbers.was) at c.as_array.ensures.cases in
    given c.args.run.now c.args.numbers.now whole.long whole.same false all.long (sym (rw all.same at c.all_finite.ensures) ∙ c.if-not-all_finite.true) refl

pub returns : goal.returns
unfolding started
returns c =
    let whole = rw (c.ok_or.ensures.ok_part, c.in_ok-run.was) at c.as_mut_array.ensures.cases in
    let all = rw (c.ok_or-2.ensures.ok_part, c.in_ok-numbers.was) at c.as_array.ensures.cases in
    given c.args.run.now c.args.numbers.now whole.long whole.same true all.long (sym (rw all.same at c.all_finite.ensures) ∙ c.if-not-all_finite.false)
    (rw (c.new-filter.ensures, c.state_from_run-initial.ensures, c.matrix_at-sigma.ensures, c.vec3_at-gravity.ensures, all.same) at c.write_filter.ensures)
