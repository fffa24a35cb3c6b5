-- `text::put_answer` meets its contract.
use Rattle.std.proofs.Common.{◌≡◌, ℕ, ◌+◌, ◌-◌, List, [], ◌∷◌, length, sym, ap, ◌∙◌, arith, rules, Ok, Some}
use Rattle.drifters_eqf.specs.Answer.{answer_of}
use Rattle.little_endian.specs.Bytes.{placed}
use Rattle.little_endian.proofs.Placed.{placed_part, put_none, put_then}
use Rattle.call_sheet.specs.Digits.{digits}
use Rattle.call_sheet.specs.Text.{answer_text, refused_text}
use Rattle.call_sheet.proofs.Digits.{places_lent}
use Rattle.call_sheet.proofs.text.put_answer.Goals as goal

-- the digits of the bits
pub returns-in-Ok-Some : goal.returns-in-Ok-Some
returns-in-Ok-Some c =
    let a = c.args in
    let put = c.put_digits in
    let given : a.answer ≡ Ok (Some c.in-Ok-Some.x) = search rules in
    let places = places_lent a.out.now a.at 16 (omega arith) in
    let text : put.new.out ≡ answer_text (answer_of a.answer) = rw given (put.ensures ∙ (λ i. digits 16 (places i) (c.bits_of.ensures i))) in
    let count : length put.new.out ≡ 16 = put.auto.out ∙ places in (
      ap (λ (m : ℕ). a.at + m) (sym count ∙ ap length text),
      (placed_part a.out.now a.at put.new.out (a.at + 16 - a.at) (omega (arith, count)) ∙ ap (placed a.out.now a.at) text, omega arith),
    )

-- a refusal: the word, then its number
pub returns-in-Err : goal.returns-in-Err
returns-in-Err c =
    let a = c.args in
    let none = put_none a.out.now a.at (omega arith) in
    let word = put_then (114 ∷ 101 ∷ 102 ∷ 117 ∷ 115 ∷ 101 ∷ 100 ∷ 32 ∷ []) none c.put-end.ensures.0 c.put-end.ensures.1 in
    let put = put_then _ word c.put_decimal.ensures.0 c.put_decimal.ensures.1.0 in
    let text : refused_text c.from-in-Err.result ≡ answer_text (answer_of a.answer) = rw c.in-Err.is (ap refused_text (c.from-in-Err.ensures ∙ c.from.ensures)) in
    (put.until ∙ ap (λ (t : List ℕ). a.at + length t) text, (put.is ∙ ap (placed a.out.now a.at) text, omega (arith, c.put_decimal.ensures.1.1, c.put-end.ensures.0)))
