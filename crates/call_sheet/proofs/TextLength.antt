-- No text of a sheet is longer than `most_text`; text in a lent run. Assumes nothing.
use Prim.Native.Nat.{ℕ, ◌≤◌, ◌<◌}
use mathlib.Core.Path.{◌≡◌, refl, sym, ap, ◌∙◌}
use mathlib.Core.List.{List}
use native.Mathlib.Omega.{arith}
use borrow.Author.Tests.{le-leb, lt-leb}
use lib.ListN.{length, take, length-append}
use lib.Seq.{length-take-le}
use Rattle.std.specs.Prelude.{Option, Some, None, Result, Ok, Err}
use Rattle.drifters_eqf.specs.Answer.{sheet_refusal}
use Rattle.drifters_eqf.specs.declared.answer.Refusal.{Refusal}
use Rattle.drifters_eqf.specs.declared.answer.Refusal.TheVariants as refusal
use Rattle.little_endian.specs.Bytes.{placed}
use Rattle.call_sheet.specs.Sheet.{Sheet, read_sheet}
use Rattle.call_sheet.specs.Text.{refused_text, newline, numbers_of, text_of, sheet_text, most_text, TextFits, Printed, printed, print_into}
use Rattle.call_sheet.proofs.Held.{sheets_held}
use Rattle.call_sheet.proofs.Digits.{decimal_short}
use Rattle.call_sheet.proofs.Lines.{lines_short}
use Rattle.little_endian.proofs.Placed.{length_placed}

pub text_fits : TextFits
unfolding sheet_text
text_fits s = go (read_sheet s) refl
  where
    go : (read : Option Sheet) → read_sheet s ≡ read → length (text_of read) ≤ most_text
    go None e = omega (arith, decimal_short sheet_refusal, length-append (refused_text sheet_refusal) newline)
    go (Some sheet) e = omega (arith, lines_short 1 (numbers_of sheet.filter) sheet.calls, (sheets_held s sheet e).calls)

-- ---- text in a lent run

-- a run that holds every text
pub room : (s text : List ℕ) → most_text ≤ length text → print_into s text ≡ printed (Ok (length (sheet_text s))) (placed text 0 (sheet_text s))
unfolding print_into
room s text h = rw (le-leb most_text (length text) h)

-- and one that does not
pub no_room : (s text : List ℕ) → length text < most_text → print_into s text ≡ printed (Err refusal.Length) text
unfolding print_into
no_room s text h = rw (lt-leb most_text (length text) h)

-- a run that holds every text is never refused
pub never_refused : (s text : List ℕ) {r : Result ℕ Refusal} {out : List ℕ} → most_text ≤ length text → printed r out ≡ print_into s text → r ≡ Ok (length (sheet_text s))
never_refused s text h e = ap (λ (p : Printed). p.answer) (e ∙ room s text h)

-- the text stands at its front and lies within it
pub text_printed : (s text : List ℕ) {r : Result ℕ Refusal} {out : List ℕ} {n : ℕ} → most_text ≤ length text → printed r out ≡ print_into s text → r ≡ Ok n
    → ((n ≡ length (sheet_text s)) × (out ≡ placed text 0 (sheet_text s))) × ((n ≤ length out) × (n ≡ length (take n out)))
text_printed s text {r} {out} {n} h e told =
    let same : ◌≡◌ {A = Result ℕ Refusal} (Ok n) (Ok (length (sheet_text s))) = sym told ∙ never_refused s text h e in
    let count : n ≡ length (sheet_text s) = cc in
    let is : out ≡ placed text 0 (sheet_text s) = ap (λ (p : Printed). p.text) (e ∙ room s text h) in
    let kept = ap length is ∙ length_placed text 0 (sheet_text s) (omega (arith, text_fits s)) in
    let within : n ≤ length out = omega (arith, count, kept, text_fits s) in
    ((count, is), (within, sym (length-take-le n out within)))
