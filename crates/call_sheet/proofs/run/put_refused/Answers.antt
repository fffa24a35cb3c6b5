-- `run::put_refused` meets its contract.
use mathlib.Core.Path.{◌∙◌}
use native.Mathlib.Nat.{zero-add}
use native.Mathlib.Omega.{arith}
use Rattle.drifters_eqf.specs.Answer.{refusal_number}
use Rattle.call_sheet.specs.Text.{refused_text, newline}
use Rattle.little_endian.proofs.Placed.{put_none, put_then}
use Rattle.call_sheet.proofs.run.put_refused.Goals as goal

pub returns : goal.returns
returns c =
    let none = put_none c.args.text.now 0 (omega arith) in
    let refused = put_then (refused_text (refusal_number c.args.refusal)) none c.put_answer-end.ensures.0 c.put_answer-end.ensures.1.0 in
    let line = put_then newline refused c.put.ensures.0 c.put.ensures.1 in
    (line.until ∙ zero-add _, line.is)
