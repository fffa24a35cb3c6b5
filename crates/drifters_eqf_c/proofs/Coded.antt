-- The laws of coded answers: an update by the lengths of its runs. Assumes nothing.
use Prim.Native.Nat.{ℕ}
use mathlib.Core.Path.{◌≡◌, sym, ap, ◌∙◌}
use mathlib.Core.Bool.{and-false}
use mathlib.Core.List.{List, [], ◌∷◌}
use borrow.Author.Tests.{eq-eqb, ne_eqb}
use lib.ListN.{length}
use lib.Ieee.{Float}
use Rattle.drifters_real.specs.Real.{sin, cos}
use Rattle.std.specs.Prelude.{Option, Result}
use Rattle.drifters_eqf.specs.Answer.{length_refusal, answer_of, number_of}
use Rattle.drifters_eqf.specs.declared.answer.Refusal.{Refusal}
use Rattle.drifters_entry.specs.Entry.{Outcome, outcome, call}
use Rattle.drifters_kind.specs.declared.kind.Kind.{Kind}
use Rattle.drifters_compasses.specs.Compasses.{compasses_answer_of, CompassesOutcome, compasses_outcome, update_compasses, compasses_number}
use Rattle.drifters_compasses.specs.declared.compasses.Tried.{Tried}
use Rattle.call_sheet.specs.Text.{Printed, printed, print_into}
use Rattle.drifters_eqf_c.specs.Exports.{result_length, sin_cos_length, coded, nis_after, coded_update, counts_length, coded_compasses, counts_after, chosen_nis_after, coded_update_compasses, coded_sin_cos, coded_text, coded_printed, coded_sheet}

-- ---- calls on a filter

module _ (kind : Kind) (run v nis : List Float) where
  -- an update with a run that is not of one number
  pub update_refused : (length nis ≡ result_length → ⊥) → coded length_refusal run nis ≡ coded_update kind run v nis
  unfolding coded_update
  update_refused differs = rw (ne_eqb _ _ differs)

  -- and with one that is: a is what the call answers, and `shape` how it is matched
  pub update_coded : {a shape : Result (Option Float) Refusal} {left : List Float} → length nis ≡ result_length → outcome (answer_of a) left [] ≡ call kind run v [] → a ≡ shape →
      coded (number_of (answer_of shape)) left (nis_after (answer_of shape) nis) ≡ coded_update kind run v nis
  unfolding coded_update
  update_coded {a} {shape} {left} one made told =
      rw (eq-eqb _ _ one)
      (sym (ap (λ (x : Result (Option Float) Refusal). coded (number_of (answer_of x)) left (nis_after (answer_of x) nis)) told)
      ∙ ap (λ (o : Outcome). coded (number_of o.answer) o.run (nis_after o.answer nis)) made)

-- ---- updates by several compasses

module _ (run readings north_noise : List Float) (budget : ℕ) (counts : List ℕ) (nis : List Float) where
  -- runs that are not of the lengths of counts and of a normalised innovation squared
  pub counts_refused : (length counts ≡ counts_length → ⊥) → coded_compasses length_refusal run counts nis ≡ coded_update_compasses run readings north_noise budget counts nis
  unfolding coded_update_compasses
  counts_refused differs = rw (ne_eqb _ _ differs)

  pub nis_refused : (length nis ≡ result_length → ⊥) → coded_compasses length_refusal run counts nis ≡ coded_update_compasses run readings north_noise budget counts nis
  unfolding coded_update_compasses
  nis_refused differs = rw (ne_eqb _ _ differs, and-false)

  -- a is what the update answers, and `shape` how it is matched
  pub compasses_coded : {a shape : Result Tried Refusal} {left : List Float} → length counts ≡ counts_length → length nis ≡ result_length →
      compasses_outcome (compasses_answer_of a) left ≡ update_compasses run readings north_noise budget → a ≡ shape →
      coded_compasses (compasses_number (compasses_answer_of shape)) left (counts_after (compasses_answer_of shape) counts) (chosen_nis_after (compasses_answer_of shape) nis)
      ≡ coded_update_compasses run readings north_noise budget counts nis
  unfolding coded_update_compasses
  compasses_coded {a} {shape} {left} two one made told =
      rw (eq-eqb _ _ two, eq-eqb _ _ one)
      (sym (ap (λ (x : Result Tried Refusal). coded_compasses (compasses_number (compasses_answer_of x)) left (counts_after (compasses_answer_of x) counts) (chosen_nis_after (compasses_answer_of x) nis)) told)
      ∙ ap (λ (o : CompassesOutcome). coded_compasses (compasses_number o.answer) o.run (counts_after o.answer counts) (chosen_nis_after o.answer nis)) made)

-- ---- call sheets

module _ (s text written : List ℕ) where
  pub sheet_refused : (length written ≡ result_length → ⊥) → coded_text length_refusal text written ≡ coded_sheet s text written
  unfolding coded_sheet
  sheet_refused differs = rw (ne_eqb _ _ differs)

  -- a is what running the sheet answers, and `shape` how it is matched
  pub sheet_coded : {a shape : Result ℕ Refusal} {out : List ℕ} → length written ≡ result_length → printed a out ≡ print_into s text → a ≡ shape →
      coded_printed shape out written ≡ coded_sheet s text written
  unfolding coded_sheet
  sheet_coded {a} {shape} {out} one made told =
      rw (eq-eqb _ _ one) (sym (ap (λ (f : Result ℕ Refusal). coded_printed f out written) told) ∙ ap (λ (p : Printed). coded_printed p.answer p.text written) made)

-- ---- sine and cosine

module _ (theta : Float) (out : List Float) where
  pub sin_cos_refused : (length out ≡ sin_cos_length → ⊥) → coded length_refusal [] out ≡ coded_sin_cos theta out
  unfolding coded_sin_cos
  sin_cos_refused differs = rw (ne_eqb _ _ differs)

  pub sin_cos_coded : {x y : Float} → length out ≡ sin_cos_length → x ≡ sin theta → y ≡ cos theta →
      coded 0 [] (x ∷ y ∷ []) ≡ coded_sin_cos theta out
  unfolding coded_sin_cos
  sin_cos_coded {x} {y} two s c = rw (eq-eqb _ _ two) (λ i. coded 0 [] (s i ∷ c i ∷ []))
