-- `sheet_by` meets its contract.
use Rattle.std.proofs.lemmas.Result.{err_from_is_err_and}
use Rattle.drifters_entry.proofs.Calls.{refused_none}
use Rattle.drifters_eqf_c.proofs.Coded.{sheet_refused, sheet_coded}
use Rattle.drifters_eqf_c.proofs.sheet_by.Goals as goal

pub returns-in_err-length : goal.returns-in_err-length
returns-in_err-length c =
    let p = err_from_is_err_and c.from_residual.result c.from_residual.ensures.1 in
    rw (p.1, p.2, refused_none c.as_mut_array.result c.ok_or.ensures.value c.in_err-length.was)
    (sheet_refused _ _ _ (rw (c.ok_or.ensures.ok_part, c.in_err-length.was) at c.as_mut_array.ensures.cases))

pub returns-in_err-n : goal.returns-in_err-n
returns-in_err-n c =
    let p = err_from_is_err_and c.from_residual-in_err-n.result c.from_residual-in_err-n.ensures.1 in
    let one = rw (c.ok_or.ensures.ok_part, c.in_ok-length.was) at c.as_mut_array.ensures.cases in
    rw (p.1, p.2, one.same) (sheet_coded _ _ _ one.long c.run_sheet.ensures c.in_err-n.was)

pub returns : goal.returns
returns c =
    let one = rw (c.ok_or.ensures.ok_part, c.in_ok-length.was) at c.as_mut_array.ensures.cases in
    sheet_coded _ _ _ one.long c.run_sheet.ensures c.in_ok-n.was
