-- `text::put_line` meets its contract.
use native.Mathlib.Omega.{arith}
use Rattle.call_sheet.specs.Text.{space, newline, line_text}
use Rattle.little_endian.proofs.Placed.{put_none, put_then}
use Rattle.call_sheet.proofs.text.put_line.Goals as goal

pub returns : goal.returns
unfolding line_text
returns c =
    let none = put_none c.args.out.now c.args.at (omega (arith, c.requires)) in
    let index = put_then _ none c.put_decimal-a.ensures.0 c.put_decimal-a.ensures.1.0 in
    let kind = put_then _ (put_then space index c.put-b.ensures.0 c.put-b.ensures.1) c.put_kind-c.ensures.0 c.put_kind-c.ensures.1.0 in
    let answer = put_then _ (put_then space kind c.put-d.ensures.0 c.put-d.ensures.1) c.put_answer-e.ensures.0 c.put_answer-e.ensures.1.0 in
    let line = put_then newline answer c.put.ensures.0 c.put.ensures.1 in (
      line.until,
      (
        line.is,
        omega (
          arith,
          c.put_decimal-a.ensures.1.1,
          c.put-b.ensures.0,
          c.put_kind-c.ensures.1.1,
          c.put-d.ensures.0,
          c.put_answer-e.ensures.1.1,
          c.put.ensures.0,
        ),
      ),
    )
