-- `update_by` meets its contract.
use mathlib.Core.Path.{◌≡◌, ap, ◌∙◌}
use borrow.Author.Rules.{rules}
use Rattle.std.specs.Prelude.{None, Ok}
use Rattle.std.proofs.lemmas.Result.{err_from_is_err_and}
use Rattle.drifters_entry.proofs.Calls.{refused_none}
use Rattle.drifters_eqf_c.proofs.Coded.{update_refused, update_coded}
use Rattle.drifters_eqf_c.proofs.update_by.Goals as goal

pub returns-in_err-nis : goal.returns-in_err-nis
returns-in_err-nis c =
    let p = err_from_is_err_and c.from_residual.result c.from_residual.ensures.1 in
    rw (p.1, p.2, refused_none c.as_mut_array.result c.ok_or.ensures.value c.in_err-nis.was)
    (update_refused c.args.kind _ _ _ (rw (c.ok_or.ensures.ok_part, c.in_err-nis.was) at c.as_mut_array.ensures.cases))

pub returns-in_err-r : goal.returns-in_err-r
returns-in_err-r c =
    let p = err_from_is_err_and c.from_residual-in_err-r.result c.from_residual-in_err-r.ensures.1 in
    let one = rw (c.ok_or.ensures.ok_part, c.in_ok-nis.was) at c.as_mut_array.ensures.cases in
    rw (p.1, p.2, one.same) (update_coded c.args.kind _ _ _ one.long c.filter_call.ensures c.in_err-r.was)

pub returns-in-Some : goal.returns-in-Some
returns-in-Some c =
    let one = rw (c.ok_or.ensures.ok_part, c.in_ok-nis.was) at c.as_mut_array.ensures.cases in
    update_coded c.args.kind _ _ _ one.long c.filter_call.ensures (c.in_ok-r.was ∙ ap Ok c.in-Some.is)

pub returns-in_default : goal.returns-in_default
returns-in_default c =
    let one = rw (c.ok_or.ensures.ok_part, c.in_ok-nis.was) at c.as_mut_array.ensures.cases in
    let none : c.in_ok-r.field-0 ≡ None = search rules in
    rw one.same (update_coded c.args.kind _ _ _ one.long c.filter_call.ensures (c.in_ok-r.was ∙ ap Ok none))
