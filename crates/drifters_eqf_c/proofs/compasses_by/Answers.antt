-- `compasses_by` meets its contract.
use mathlib.Core.Path.{◌∙◌, ap}
use Rattle.std.specs.Prelude.{Option, Ok}
use Rattle.std.proofs.lemmas.Result.{err_from_is_err_and}
use Rattle.drifters_entry.proofs.Calls.{refused_none}
use Rattle.drifters_compasses.specs.declared.compasses.Best.{Best}
use Rattle.drifters_eqf_c.proofs.Coded.{counts_refused, nis_refused, compasses_coded}
use Rattle.drifters_eqf_c.proofs.compasses_by.Goals as goal

pub returns-in_err-counts : goal.returns-in_err-counts
returns-in_err-counts c =
    let p = err_from_is_err_and c.from_residual.result c.from_residual.ensures.1 in
    rw (p.1, p.2, refused_none c.as_mut_array.result c.ok_or.ensures.value c.in_err-counts.was)
    (counts_refused _ _ _ _ _ _ (rw (c.ok_or.ensures.ok_part, c.in_err-counts.was) at c.as_mut_array.ensures.cases))

pub returns-in_err-nis : goal.returns-in_err-nis
returns-in_err-nis c =
    let p = err_from_is_err_and c.from_residual-in_err-nis.result c.from_residual-in_err-nis.ensures.1 in
    let two = rw (c.ok_or.ensures.ok_part, c.in_ok-counts.was) at c.as_mut_array.ensures.cases in
    rw (p.1, p.2, refused_none c.as_mut_array-2.result c.ok_or-2.ensures.value c.in_err-nis.was, two.same)
    (nis_refused _ _ _ _ _ _ (rw (c.ok_or-2.ensures.ok_part, c.in_err-nis.was) at c.as_mut_array-2.ensures.cases))

pub returns-in_err-tried : goal.returns-in_err-tried
returns-in_err-tried c =
    let p = err_from_is_err_and c.from_residual-in_err-tried.result c.from_residual-in_err-tried.ensures.1 in
    let two = rw (c.ok_or.ensures.ok_part, c.in_ok-counts.was) at c.as_mut_array.ensures.cases in
    let one = rw (c.ok_or-2.ensures.ok_part, c.in_ok-nis.was) at c.as_mut_array-2.ensures.cases in
    rw (p.1, p.2, two.same, one.same) (compasses_coded _ _ _ _ _ _ two.long one.long c.update_compasses.ensures c.in_err-tried.was)

pub returns-in-Some : goal.returns-in-Some
returns-in-Some c =
    let two = rw (c.ok_or.ensures.ok_part, c.in_ok-counts.was) at c.as_mut_array.ensures.cases in
    let one = rw (c.ok_or-2.ensures.ok_part, c.in_ok-nis.was) at c.as_mut_array-2.ensures.cases in
    compasses_coded _ _ _ _ _ _ two.long one.long c.update_compasses.ensures
    (c.in_ok-tried.was ∙ ap (λ (best : Option Best). Ok (record { tried = c.in_ok-tried.field-0.tried; best = best })) c.in-Some.is)

pub returns-in-None : goal.returns-in-None
returns-in-None c =
    let two = rw (c.ok_or.ensures.ok_part, c.in_ok-counts.was) at c.as_mut_array.ensures.cases in
    let one = rw (c.ok_or-2.ensures.ok_part, c.in_ok-nis.was) at c.as_mut_array-2.ensures.cases in
    rw one.same
    (compasses_coded _ _ _ _ _ _ two.long one.long c.update_compasses.ensures
    (c.in_ok-tried.was ∙ ap (λ (best : Option Best). Ok (record { tried = c.in_ok-tried.field-0.tried; best = best })) c.in-None.is))
