-- The text that is printed for a call sheet, in ASCII. Definitions and statements only.
use Rattle.std.specs.Prelude.{ℕ, ◌+◌, ◌≤◌, cond, List, [], ◌∷◌, ◌++◌, leb, length, Float, Option, Some, None, Result, Ok, Err}
use Rattle.std.specs.Float.{binary64}
use Rattle.std.specs.Float.Ieee.{to_bits}
unfoldable pub use Rattle.little_endian.specs.Bits.{numbers_of}
use Rattle.drifters_eqf.specs.Answer.{sheet_refusal, Answer, Nis, Fine, Refused}
use Rattle.drifters_eqf.specs.declared.answer.Refusal.{Refusal}
use Rattle.drifters_eqf.specs.declared.answer.Refusal.TheVariants as refusal
use Rattle.drifters_kind.specs.Kind.{kind_number}
use Rattle.drifters_entry.specs.Entry.{outcome_on}
use Rattle.drifters_kind.specs.declared.kind.Kind.{Kind}
use Rattle.little_endian.specs.Bytes.{placed}
use Rattle.call_sheet.specs.Digits.{digits, decimal}
use Rattle.call_sheet.specs.Sheet.{SheetCall, Sheet, read_sheet}

-- ` `
abbrev pub space : List ℕ
space = 32 ∷ []

-- the end of a line
abbrev pub newline : List ℕ
newline = 10 ∷ []

-- `ok`
abbrev pub ok_text : List ℕ
ok_text = 111 ∷ 107 ∷ []

-- `refused ` and a number
abbrev pub refused_text : ℕ → List ℕ
refused_text n = 114 ∷ 101 ∷ 102 ∷ 117 ∷ 115 ∷ 101 ∷ 100 ∷ 32 ∷ decimal n

-- the line of a sheet that is refused
abbrev pub refused_line : ℕ → List ℕ
refused_line n = refused_text n ++ newline

-- an answer: the 16 hexadecimal digits of the normalised innovation squared, `ok`, or the refusal
abbrev pub answer_text : Answer → List ℕ
answer_text (Nis x) = digits 16 16 (to_bits binary64 x)
answer_text Fine = ok_text
answer_text (Refused n) = refused_text n

-- the line of entry i: index, kind, answer
unfoldable pub line_text : ℕ → Kind → Answer → List ℕ
line_text i kind a = decimal i ++ space ++ decimal (kind_number kind) ++ space ++ answer_text a ++ newline

-- the lines of the calls of a sheet, the first of which has the index i: each is made on the filter that the one before it left
unfoldable pub lines_text : ℕ → List Float → List SheetCall → List ℕ
lines_text i run [] = []
lines_text i run (c ∷ cs) =
    let o = outcome_on run c.kind (numbers_of c.bits) in
    line_text i c.kind o.answer ++ lines_text (i + 1) o.run cs

-- the lines of calls, made on a filter's run; none where there are no calls
abbrev pub lines_of : List Float → Option (List SheetCall) → List ℕ
lines_of run None = []
lines_of run (Some calls) = lines_text 1 run calls

-- the text of a sheet: the lines of its calls on its filter; of a broken one only that it is refused
abbrev pub text_of : Option Sheet → List ℕ
text_of None = refused_line sheet_refusal
text_of (Some sheet) = lines_text 1 (numbers_of sheet.filter) sheet.calls

-- the text that is printed for a file's bytes
unfoldable pub sheet_text : List ℕ → List ℕ
sheet_text s = text_of (read_sheet s)

-- room for every sheet's text: 23 bytes for each of 255 calls
abbrev pub most_text : ℕ
most_text = 5865

-- no text is longer
abbrev pub TextFits : Type 0
TextFits = (s : List ℕ) → length (sheet_text s) ≤ most_text

-- the text's length, or the refusal, and the run of bytes afterwards
pub record Printed : Type 0 where
  pub answer : Result ℕ Refusal
  pub text : List ℕ

-- what is printed, of its parts
abbrev pub printed : Result ℕ Refusal → List ℕ → Printed
printed answer text = record { answer = answer; text = text }

-- the text for a file's bytes at the front of a lent run; one that is shorter than `most_text` stays
unfoldable pub print_into : List ℕ → List ℕ → Printed
print_into s text =
    cond (leb most_text (length text)) (printed (Ok (length (sheet_text s))) (placed text 0 (sheet_text s))) (printed (Err refusal.Length) text)
