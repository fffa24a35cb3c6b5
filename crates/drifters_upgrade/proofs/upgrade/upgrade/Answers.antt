-- `upgrade::upgrade` meets its contract.
use mathlib.Core.Path.{◌≡◌, refl, sym, ap, ◌∙◌}
use mathlib.Core.Bool.{true}
use mathlib.Core.List.{List, [], ◌∷◌}
use native.Mathlib.Omega.{arith}
use borrow.Author.Tests.{eq-eqb}
use lib.ListN.{length, get_or, take, length-take}
use lib.Ieee.{Float, nan}
use Rattle.drifters_matrix.specs.Matrix.{all_finite}
use Rattle.drifters_eqf.specs.Answer.{Fine}
use Rattle.drifters_entry.specs.Layout.{alpha_place, filter_length, one_alpha_length, copied}
use Rattle.drifters_entry.specs.Entry.{outcome}
use Rattle.drifters_entry.proofs.Parts.{begins_none, begins_next, begins_all}
use Rattle.drifters_upgrade.specs.Upgrade.{upgraded, upgrade}
use Rattle.drifters_upgrade.proofs.upgrade.upgrade.Goals as goal

accepted : (run written : List Float) {left : List Float} → length run ≡ one_alpha_length → length written ≡ filter_length → all_finite run ≡ true → left ≡ upgraded run
    → outcome Fine run left ≡ upgrade run written
unfolding upgrade
accepted run written r w h e = rw (eq-eqb _ _ r, eq-eqb _ _ w, h, e) refl

-- a run that is copied to one as long
copied_whole : (from to : List Float) → length to ≡ length from → copied from to ≡ from
copied_whole from to h = rw (eq-eqb _ _ h)

-- what stands after a run in the one that it is changed over to
abbrev two_more : List Float → List Float
two_more run = let alpha = get_or run alpha_place nan in alpha ∷ alpha ∷ []

pub returns : goal.returns
unfolding upgraded
returns c =
    let from = rw (c.ok_or.ensures.ok_part, c.in_ok-run.was) at c.as_array.ensures.cases in
    let into = rw (c.ok_or-2.ensures.ok_part, c.in_ok-written.was) at c.as_mut_array.ensures.cases in
    let run = c.args.run.now in
    let b0 = begins_none c.in_ok-written.written.now (rw (← into.same) at into.long) in
    let whole = copied_whole c.in_ok-run.run'.now (take one_alpha_length c.in_ok-written.written.now) (simp length-take (omega (arith, b0.size, ap length from.same, from.long))) in
    let b1 = begins_next {v = run} one_alpha_length b0 c.copy_run.auto.to (c.copy_run.ensures ∙ whole ∙ from.same) (omega arith) in
    let b2 = begins_next {v = two_more run} 2 b1 c.copy_from_slice.auto.self (c.copy_from_slice.ensures.after ∙ ap two_more from.same) (omega arith) in
    accepted run c.args.written.now from.long into.long (sym (rw from.same at c.all_finite.ensures) ∙ c.if-not-all_finite.false) (begins_all b2)
