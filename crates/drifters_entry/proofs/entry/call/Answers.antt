-- `entry::call` meets its contract. It is a call on the filter's array, which is the run that was lent.
use mathlib.Core.Path.{◌≡◌, refl, sym, ap, ◌∙◌}
use mathlib.Core.List.{List, []}
use lib.Ieee.{Float}
use Rattle.std.proofs.lemmas.Result.{err_from_is_err_and}
use Rattle.drifters_eqf.specs.Answer.{Answer}
use Rattle.drifters_kind.specs.declared.kind.Kind.{Kind}
use Rattle.drifters_entry.specs.Layout.{from_run}
use Rattle.drifters_entry.specs.Entry.{Outcome, outcome, request_of, performed, range_checked, call}
use Rattle.drifters_entry.specs.Asked.{as_request}
use Rattle.drifters_entry.specs.declared.entry.Asked.{Asked}
use Rattle.drifters_entry.proofs.KindLaws.{written_by}
use Rattle.drifters_entry.proofs.Calls.{refused_none, Passed, passed, run_refused, call_refused, call_asked, call_made}
use Rattle.drifters_entry.proofs.entry.call.Goals.{In_ok-first_refusal, In_ok-asked}
use Rattle.drifters_entry.proofs.entry.call.Goals as goal

of_run : (kind : Kind) (v written : List Float) {run left : List Float} {o : Outcome} → left ≡ run → o ≡ call kind left v written → o ≡ call kind run v written
of_run kind v written same e = rw same at e

fits : (c : In_ok-first_refusal) → Passed c.args.kind c.in_ok-filter.filter.now c.args.numbers.now c.args.written.now
fits c = passed _ _ _ _ (rw c.form.ensures at c.first_refusal.ensures) c.in_ok-first_refusal.was

-- where it is told what is asked
module _ (c : In_ok-asked) (fit : Passed c.args.kind c.in_ok-filter.filter.now c.args.numbers.now c.args.written.now) {a : Asked} (told : c.in_ok-asked.asked ≡ a) where
  asks : as_request a ≡ request_of c.args.kind c.in_ok-filter.filter.now c.args.numbers.now
  asks = ap as_request (sym told) ∙ c.in_ok-asked.ensures

  made : {left : List Float} {o : Answer} → written_by (as_request a) ≡ 0
      → outcome o left [] ≡ range_checked (performed (as_request a) (from_run c.in_ok-filter.filter.now) c.in_ok-filter.filter.now []) c.in_ok-filter.filter.now []
      → outcome o left c.args.written.now ≡ call c.args.kind c.args.run.now c.args.numbers.now c.args.written.now
  made nothing e =
      let whole = rw (c.ok_or.ensures.ok_part, c.in_ok-filter.was) at c.as_mut_array.ensures.cases in
      of_run _ _ _ whole.same (call_made _ _ _ _ asks fit nothing e)

pub returns-in_err-filter : goal.returns-in_err-filter
returns-in_err-filter c =
    let p = err_from_is_err_and c.from_residual.result c.from_residual.ensures.1 in
    rw (p.1, p.2, refused_none c.as_mut_array.result c.ok_or.ensures.value c.in_err-filter.was) (run_refused _ _ _ _ (rw (c.ok_or.ensures.ok_part, c.in_err-filter.was) at c.as_mut_array.ensures.cases))

pub returns-in_err-first_refusal : goal.returns-in_err-first_refusal
returns-in_err-first_refusal c =
    let p = err_from_is_err_and c.from_residual-in_err-first_refusal.result c.from_residual-in_err-first_refusal.ensures.1 in
    let whole = rw (c.ok_or.ensures.ok_part, c.in_ok-filter.was) at c.as_mut_array.ensures.cases in
    rw (p.1, p.2) (of_run _ _ _ whole.same (call_refused _ _ _ _ (rw c.form.ensures at c.first_refusal.ensures) c.in_err-first_refusal.was))

pub returns-in_err-asked : goal.returns-in_err-asked
unfolding performed range_checked
returns-in_err-asked c =
    let p = err_from_is_err_and c.from_residual-in_err-asked.result c.from_residual-in_err-asked.ensures.1 in
    let whole = rw (c.ok_or.ensures.ok_part, c.in_ok-filter.was) at c.as_mut_array.ensures.cases in
    rw (p.1, p.2) (of_run _ _ _ whole.same (call_asked _ _ _ _ c.in_err-asked.ensures (fits (goal.at.returns-in_err-asked c).In_ok-first_refusal) refl))

pub returns-in-Propagate : goal.returns-in-Propagate
returns-in-Propagate c =
    let at = goal.at.returns-in-Propagate c in
    made at.In_ok-asked (fits at.In_ok-first_refusal) c.in-Propagate.is refl c.propagate_by.ensures

pub returns-in-Update1 : goal.returns-in-Update1
returns-in-Update1 c =
    let at = goal.at.returns-in-Update1 c in
    made at.In_ok-asked (fits at.In_ok-first_refusal) c.in-Update1.is refl c.update_by.ensures

pub returns-in-Update3 : goal.returns-in-Update3
returns-in-Update3 c =
    let at = goal.at.returns-in-Update3 c in
    made at.In_ok-asked (fits at.In_ok-first_refusal) c.in-Update3.is refl (rw c.from.ensures at c.update_by-in-Update3.ensures)

pub returns-in-Estimate : goal.returns-in-Estimate
returns-in-Estimate c =
    let at = goal.at.returns-in-Estimate c in
    let whole = rw (c.ok_or.ensures.ok_part, c.in_ok-filter.was) at c.as_mut_array.ensures.cases in
    let fit = fits at.In_ok-first_refusal in
    of_run _ _ _ whole.same (call_asked _ _ _ _ (asks at.In_ok-asked fit c.in-Estimate.is) fit c.write_estimate.ensures)
