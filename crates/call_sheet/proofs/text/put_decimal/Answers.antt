-- `text::put_decimal` meets its contract.
use mathlib.Core.Path.{◌≡◌, sym, ap, ◌∙◌}
use Prim.Native.Nat.{ℕ, ◌+◌, ◌-◌}
use native.Mathlib.Omega.{arith}
use lib.ListN.{length}
use Rattle.little_endian.specs.Bytes.{placed}
use Rattle.call_sheet.specs.Digits.{digits, decimal}
use Rattle.little_endian.proofs.Placed.{placed_part}
use Rattle.call_sheet.proofs.Digits.{places_lent}
use Rattle.call_sheet.proofs.text.put_decimal.Goals as goal

pub returns : goal.returns
returns c =
    let put = c.put_digits in
    let found = c.decimal_length in
    let out = c.args.out.now in
    let at = c.args.at in
    let n = c.args.n in
    let k = found.result in
    let places = places_lent out at k (omega (arith, c.requires, found.ensures.1)) in
    let number : put.new.out ≡ decimal n = put.ensures ∙ ap (λ (j : ℕ). digits 10 j n) places ∙ sym found.ensures.0 in
    let count : length put.new.out ≡ k = put.auto.out ∙ places in (
      ap (λ (m : ℕ). at + m) (sym count ∙ ap length number),
      (placed_part out at put.new.out (at + k - at) (omega (arith, count)) ∙ ap (placed out at) number, omega (arith, found.ensures.1)),
    )
