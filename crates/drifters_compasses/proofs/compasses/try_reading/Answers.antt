-- `compasses::try_reading` meets its contract.
use mathlib.Core.Path.{◌≡◌, sym, ap, ◌∙◌}
use mathlib.Core.List.{List, [], ◌++◌}
use borrow.Author.Rules.{rules}
use lib.Ieee.{Float}
use Rattle.std.specs.Prelude.{None, Ok}
use Rattle.drifters_eqf.specs.Answer.{answer_of}
use Rattle.drifters_entry.specs.Entry.{Outcome, call}
use Rattle.drifters_kind.specs.declared.kind.Kind.TheVariants.{Direction}
use Rattle.drifters_compasses.specs.Kept.{attempt_by}
use Rattle.drifters_compasses.proofs.Tries.{takes_place_of, try_refused, try_fine, try_worse, try_better}
use Rattle.drifters_compasses.proofs.compasses.try_reading.Goals as goal

-- the try is the direction call by this reading, on a copy of the filter
made : (run one north_noise : List Float) {numbers : List Float} {o : Outcome} → numbers ≡ one ++ north_noise → o ≡ call Direction run numbers []
    → o ≡ attempt_by run one north_noise
unfolding attempt_by
made run one north_noise n e = rw n at e

pub returns-in_default : goal.returns-in_default
returns-in_default c =
    let none : c.in_default.field-0 ≡ None = search rules in
    try_fine _ _ (made _ _ _ c.direction_numbers-numbers.ensures c.filter_call.ensures) (ap answer_of (c.in_default.is ∙ ap Ok none))

pub returns-in_default-2 : goal.returns-in_default-2
returns-in_default-2 c = try_refused _ _ (made _ _ _ c.direction_numbers-numbers.ensures c.filter_call.ensures) (ap answer_of c.in_default.is)

pub returns-then-not-takes_place : goal.returns-then-not-takes_place
returns-then-not-takes_place c =
    try_worse _ _ (made _ _ _ c.direction_numbers-numbers.ensures c.filter_call.ensures) (ap answer_of (c.in-Ok-Some.is ∙ ap Ok c.in-Ok-Some.field-0-is))
    (sym (takes_place_of _ c.args.best c.args.left.now) ∙ sym c.takes_place.ensures ∙ c.if-not-takes_place.true)

pub returns : goal.returns
returns c =
    try_better _ _ (made _ _ _ c.direction_numbers-numbers.ensures c.filter_call.ensures) (ap answer_of (c.in-Ok-Some.is ∙ ap Ok c.in-Ok-Some.field-0-is))
    (sym (takes_place_of _ c.args.best c.args.left.now) ∙ sym c.takes_place.ensures ∙ c.if-not-takes_place.false)
