-- `text::put_kind` meets its contract.
use mathlib.Core.Path.{ap, ◌∙◌}
use mathlib.Core.List.{List}
use Prim.Native.Nat.{ℕ, ◌+◌}
use native.Mathlib.Omega.{arith}
use lib.ListN.{length}
use Rattle.drifters_kind.specs.declared.kind.Form.{Form}
use Rattle.little_endian.specs.Bytes.{placed}
use Rattle.call_sheet.specs.Digits.{decimal}
use Rattle.call_sheet.proofs.Digits.{kind_digit}
use Rattle.call_sheet.proofs.text.put_kind.Goals as goal

pub returns : goal.returns
returns c =
    let put = c.put_decimal in
    let args = c.args in
    let number = ap decimal c.from.ensures ∙ ap (λ (f : Form). decimal f.number) c.form.ensures in
    let until = put.ensures.0 ∙ ap (λ (l : List ℕ). args.at + length l) number in
    (until, (put.ensures.1.0 ∙ ap (placed args.out.now args.at) number, omega (arith, until, kind_digit args.kind)))
