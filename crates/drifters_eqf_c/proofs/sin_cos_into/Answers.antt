-- `sin_cos_into` meets its contract.
use mathlib.Core.Path.{ap}
use Rattle.std.proofs.lemmas.Result.{err_from_is_err_and}
use Rattle.drifters_real.specs.declared.math.real.SinCos.{SinCos}
use Rattle.drifters_entry.proofs.Calls.{refused_none}
use Rattle.drifters_eqf_c.proofs.Coded.{sin_cos_refused, sin_cos_coded}
use Rattle.drifters_eqf_c.proofs.sin_cos_into.Goals as goal

pub returns-in_err-out : goal.returns-in_err-out
returns-in_err-out c =
    let p = err_from_is_err_and c.from_residual.result c.from_residual.ensures.1 in
    rw (p.1, p.2, refused_none c.as_mut_array.result c.ok_or.ensures.value c.in_err-out.was)
    (sin_cos_refused _ _ (rw (c.ok_or.ensures.ok_part, c.in_err-out.was) at c.as_mut_array.ensures.cases))

pub returns : goal.returns
returns c =
    let two = rw (c.ok_or.ensures.ok_part, c.in_ok-out.was) at c.as_mut_array.ensures.cases in
    let both = c.sin_cos-both.ensures in
    sin_cos_coded _ _ two.long (ap (λ (r : SinCos). r.sin) both) (ap (λ (r : SinCos). r.cos) both)
