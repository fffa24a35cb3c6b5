-- `entry::nav_state` meets its contract.
use mathlib.Core.List.{[]}
use Rattle.std.proofs.lemmas.Result.{err_from_is_err_and}
use Rattle.drifters_kind.specs.declared.kind.Kind.TheVariants.{State}
use Rattle.drifters_entry.proofs.Calls.{refused_none, passed, run_refused, call_refused, call_passed}
use Rattle.drifters_entry.proofs.entry.nav_state.Goals as goal

pub returns-in_err-filter : goal.returns-in_err-filter
returns-in_err-filter c =
    let p = err_from_is_err_and c.from_residual.result c.from_residual.ensures.1 in
    rw (p.1, p.2, refused_none c.as_array.result c.ok_or.ensures.value c.in_err-filter.was) (run_refused State _ [] _ (rw (c.ok_or.ensures.ok_part, c.in_err-filter.was) at c.as_array.ensures.cases))

pub returns-in_err-first_refusal : goal.returns-in_err-first_refusal
returns-in_err-first_refusal c =
    let p = err_from_is_err_and c.from_residual-in_err-first_refusal.result c.from_residual-in_err-first_refusal.ensures.1 in
    let whole = rw (c.ok_or.ensures.ok_part, c.in_ok-filter.was) at c.as_array.ensures.cases in
    rw (p.1, p.2) (call_refused State _ [] _ (rw (c.form.ensures, whole.same) at c.first_refusal.ensures) c.in_err-first_refusal.was)

pub returns : goal.returns
returns c =
    let whole = rw (c.ok_or.ensures.ok_part, c.in_ok-filter.was) at c.as_array.ensures.cases in
    let p = passed State _ [] _ (rw (c.form.ensures, whole.same) at c.first_refusal.ensures) c.in_ok-first_refusal.was in
    call_passed State _ [] _ p (rw whole.same at c.write_estimate.ensures)
