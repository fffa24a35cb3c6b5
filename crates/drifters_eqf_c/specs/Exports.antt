-- What a call answers across the C interface: a code, and every lent run afterwards. Definitions only.
use Rattle.std.specs.Prelude.{ℕ, ◌&&◌, cond, List, [], ◌∷◌, ◌++◌, eqb, length, Float, Result, Ok, Err}
use Rattle.drifters_real.specs.Real.{sin, cos}
use Rattle.drifters_eqf.specs.Answer.{length_refusal, refusal_number, Answer, Nis, Fine, Refused, number_of}
use Rattle.drifters_eqf.specs.declared.answer.Refusal.{Refusal}
use Rattle.drifters_entry.specs.Entry.{Outcome, call}
use Rattle.drifters_kind.specs.declared.kind.Kind.{Kind}
use Rattle.drifters_compasses.specs.Compasses as compasses
use Rattle.drifters_compasses.specs.Compasses.{most_readings, CompassesAnswer, Chosen, None, update_compasses, compasses_number, compasses_counts, compasses_values}
use Rattle.call_sheet.specs.Text.{print_into}

-- how many numbers each run has that one result is written to: the normalised innovation squared, or the length of a text
abbrev pub result_length : ℕ
result_length = 1

-- how many numbers the run of a sine and a cosine has
abbrev pub sin_cos_length : ℕ
sin_cos_length = 2

-- the code of an answer of any kind: 0, or the number of the refusal; only private contracts cite it
abbrev pub code_of : {A : Type 0} → Result A Refusal → ℕ
code_of (Ok x) = 0
code_of (Err r) = refusal_number r

-- a code, the filter's run, and the run of numbers that the function writes beside it, as they are afterwards
pub record Coded : Type 0 where
  pub code : ℕ
  pub run : List Float
  pub written : List Float

-- a coded answer of its parts
abbrev pub coded : ℕ → List Float → List Float → Coded
coded code run written = record { code = code; run = run; written = written }

-- an outcome with its answer as a code: 0, or the number of the refusal
abbrev pub coded_outcome : Outcome → Coded
coded_outcome o = coded (number_of o.answer) o.run o.written

-- the run for the normalised innovation squared after an answer: only that of an accepted update is written to it
abbrev pub nis_after : Answer → List Float → List Float
nis_after (Nis x) nis = x ∷ []
nis_after Fine nis = nis
nis_after (Refused n) nis = nis

-- an update, with a run of one number for its normalised innovation squared; a run of another length is refused as length
unfoldable pub coded_update : Kind → List Float → List Float → List Float → Coded
coded_update kind run v nis =
    let o = call kind run v [] in
    cond (eqb (length nis) result_length) (coded (number_of o.answer) o.run (nis_after o.answer nis)) (coded length_refusal run nis)

-- how many numbers the run has that counts are written to: how many readings were tried, and the index of the one that was applied
abbrev pub counts_length : ℕ
counts_length = 2

-- the index that is written where no reading was applied: no reading has it
abbrev pub none_chosen : ℕ
none_chosen = most_readings

-- a code, the filter's run, and the runs of counts and of a normalised innovation squared, as they are afterwards
pub record CodedCompasses : Type 0 where
  pub code : ℕ
  pub run : List Float
  pub counts : List ℕ
  pub nis : List Float

-- a coded answer of an update by several compasses, of its parts
abbrev pub coded_compasses : ℕ → List Float → List ℕ → List Float → CodedCompasses
coded_compasses code run counts nis = record { code = code; run = run; counts = counts; nis = nis }

-- the run of counts after an answer
abbrev pub counts_after : CompassesAnswer → List ℕ → List ℕ
counts_after (Chosen i x k) counts = compasses_counts (Chosen i x k)
counts_after (None k) counts = compasses_counts (None k) ++ (none_chosen ∷ [])
counts_after (compasses.Refused n) counts = counts

-- the run for the normalised innovation squared after an answer: only that of a reading that was applied is written to it
abbrev pub chosen_nis_after : CompassesAnswer → List Float → List Float
chosen_nis_after (Chosen i x k) nis = compasses_values (Chosen i x k)
chosen_nis_after (None k) nis = nis
chosen_nis_after (compasses.Refused n) nis = nis

-- an update by several compasses, with a run of two numbers for its counts and one of one for its normalised innovation squared; runs of other
-- lengths are refused as length
unfoldable pub coded_update_compasses : List Float → List Float → List Float → ℕ → List ℕ → List Float → CodedCompasses
coded_update_compasses run readings north_noise budget counts nis =
    let o = update_compasses run readings north_noise budget in
    cond (eqb (length counts) counts_length && eqb (length nis) result_length)
    (coded_compasses (compasses_number o.answer) o.run (counts_after o.answer counts) (chosen_nis_after o.answer nis))
    (coded_compasses length_refusal run counts nis)

-- sine and cosine into a run of two numbers; a run of another length is refused as length
unfoldable pub coded_sin_cos : Float → List Float → Coded
coded_sin_cos theta out = cond (eqb (length out) sin_cos_length) (coded 0 [] (sin theta ∷ cos theta ∷ [])) (coded length_refusal [] out)

-- a code, a run of bytes, and the run that the length of its text is written to, as they are afterwards
pub record CodedText : Type 0 where
  pub code : ℕ
  pub text : List ℕ
  pub written : List ℕ

-- a coded text of its parts
abbrev pub coded_text : ℕ → List ℕ → List ℕ → CodedText
coded_text code text written = record { code = code; text = text; written = written }

-- a printed text with its length in a run, or the code of its refusal
abbrev pub coded_printed : Result ℕ Refusal → List ℕ → List ℕ → CodedText
coded_printed (Ok n) text written = coded_text 0 text (n ∷ [])
coded_printed (Err r) text written = coded_text (refusal_number r) text written

-- a sheet's bytes run, its text at the front of `text`, and the text's length in a run of one number; a run of another length is refused as length
unfoldable pub coded_sheet : List ℕ → List ℕ → List ℕ → CodedText
coded_sheet s text written =
    let p = print_into s text in
    cond (eqb (length written) result_length) (coded_printed p.answer p.text written) (coded_text length_refusal text written)
