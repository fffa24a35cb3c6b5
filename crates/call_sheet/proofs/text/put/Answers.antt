-- `text::put` meets its contract.
use Rattle.std.proofs.Common.{length, refl, ap, ◌∙◌, arith}
use Rattle.little_endian.specs.Bytes.{placed}
use Rattle.little_endian.proofs.Placed.{placed_part}
use Rattle.call_sheet.proofs.text.put.Goals as goal

pub returns : goal.returns
returns c =
    let a = c.args in
    let bytes = c.copy_from_slice.ensures.after in
    (refl, placed_part a.out.now a.at _ _ (omega (arith, ap length bytes)) ∙ ap (placed a.out.now a.at) bytes)
