-- The laws of a call by its tests: the lengths, the finiteness of what comes in, and that of what is given out. Assumes nothing.
use Prim.Native.Nat.{ℕ}
use mathlib.Core.Path.{◌≡◌, refl, sym, ap, ◌∙◌}
use mathlib.Core.Bool.{Bool, true, false, cond, ◌&&◌}
use mathlib.Core.List.{List, []}
use lib.Dec.{eqb}
use lib.ListN.{length}
use lib.Ieee.{Float}
use borrow.Author.Tests.{eqb-true, eq-eqb, ne_eqb}
use Rattle.std.specs.Prelude.{Option, Some, None, Result, Ok, Err}
use Rattle.std.specs.Option.{ok_or}
use Rattle.std.proofs.lemmas.List.{nil_from_length}
use Rattle.std.proofs.lemmas.Bool.{and_parts}
use Rattle.drifters_real.specs.Real.{is_finite}
use Rattle.drifters_matrix.specs.Matrix.{all_finite}
use Rattle.drifters_eqf.specs.Answer.{Answer, accepted, length_refusal, blank_refusal, range_refusal, refusal_number}
use Rattle.drifters_eqf.specs.Filter.{Answered, refuse}
use Rattle.drifters_eqf.specs.declared.filter.EqFilter.{EqFilter}
use Rattle.drifters_eqf.specs.declared.answer.Refusal.{Refusal}
use Rattle.drifters_eqf.specs.declared.answer.Refusal.TheVariants.{Length, Blank}
use Rattle.drifters_entry.specs.Layout.{filter_length, three_alphas, from_run}
use Rattle.drifters_kind.specs.Kind.{form_of, call_length, written_length}
use Rattle.drifters_entry.specs.Entry.{Request, request_of, Outcome, outcome, outcome_of, performed, refused, range_checked, lengths_fit, call_in, call}
use Rattle.drifters_entry.specs.Asked.{first_refusal}
use Rattle.drifters_kind.specs.declared.kind.Kind.{Kind}
use Rattle.drifters_entry.proofs.Parts.{all_finite_one}
use Rattle.drifters_entry.proofs.KindLaws.{written_by, kind_laws}

-- the refusal r of a run that is not there, by `ok_or`
pub refused_none : {A : Type 0} (run : Option A) {x r : Refusal} {t : Result A Refusal} → t ≡ ok_or run x → t ≡ Err r → r ≡ x
refused_none None e f = cc
refused_none (Some a) e f = cc

-- ---- what is tested before a call is begun

-- the two tests, with the refusal of each
abbrev tests : Bool → Bool → Result (Unit {0}) Refusal
tests s t = cond s (cond t (Ok tt) (Err Blank)) (Err Length)

-- no refusal: both tests hold
none_refused : (s t : Bool) {u : Unit {0}} → tests s t ≡ Ok u → (s ≡ true) × (t ≡ true)
none_refused true true e = (refl, refl)
none_refused true false e = cc
none_refused false t e = cc

-- a refusal: the outcome o is not reached
some_refused : (s t : Bool) {r : Refusal} (run written : List Float) (o : Outcome) → tests s t ≡ Err r →
    refused (refusal_number r) run written ≡ cond s (cond t o (refused blank_refusal run written)) (refused length_refusal run written)
some_refused true true run written o e = cc
some_refused true false {r} run written o e = let h : r ≡ Blank = cc in ap (λ (x : Refusal). refused (refusal_number x) run written) h
some_refused false t {r} run written o e = let h : r ≡ Length = cc in ap (λ (x : Refusal). refused (refusal_number x) run written) h

-- the lent runs are as a call of a kind wants them
pub record Passed (kind : Kind) (run v written : List Float) : Type 0 where
  pub run_length : length run ≡ filter_length
  pub v_length : length v ≡ call_length kind
  pub written_length_lem : length written ≡ written_length kind
  pub finite : all_finite run && all_finite v ≡ true

module _ (kind : Kind) (run v written : List Float) where
  -- the filter's run is of another length
  pub run_refused : (length run ≡ filter_length → ⊥) → refused length_refusal run written ≡ call kind run v written
  unfolding call_in
  run_refused h = rw (ne_eqb _ _ h)

  -- r is what `first_refusal` gives
  module _ {r : Result (Unit {0}) Refusal} (e : r ≡ first_refusal (form_of kind) run v (length written)) where
    pub passed : {u : Unit {0}} → r ≡ Ok u → Passed kind run v written
    passed z =
        let both = none_refused (lengths_fit (form_of kind) run v (length written)) (all_finite run && all_finite v) (sym e ∙ z) in
        let runs = and_parts _ (eqb (length written) (written_length kind)) both.0 in
        let fits = and_parts _ (eqb (length v) (call_length kind)) runs.0 in
        record {
          run_length = eqb-true (length run) filter_length fits.0;
          v_length = eqb-true (length v) (call_length kind) fits.1;
          written_length_lem = eqb-true (length written) (written_length kind) runs.1;
          finite = both.1;
        }

    pub call_refused : {x : Refusal} → r ≡ Err x → refused (refusal_number x) run written ≡ call kind run v written
    unfolding call_in
    call_refused z = some_refused (lengths_fit (form_of kind) run v (length written)) (all_finite run && all_finite v) run written _ (sym e ∙ z)

-- ---- a call that is begun

pub call_passed : (kind : Kind) (run v written : List Float) {o : Outcome} → Passed kind run v written
    → o ≡ range_checked (performed (request_of kind run v) (from_run run) run written) run written → o ≡ call kind run v written
unfolding call_in
call_passed kind run v written p e = rw (eq-eqb _ _ p.run_length, eq-eqb _ _ p.v_length, eq-eqb _ _ p.written_length_lem, p.finite) e

-- a call that asks for q
module _ (kind : Kind) (run v : List Float) {written : List Float} (q : Request) (asked : q ≡ request_of kind run v) (p : Passed kind run v written) where
  -- how many numbers it writes beside the filter
  pub asked_length : length written ≡ written_by q
  asked_length = p.written_length_lem ∙ (kind_laws kind).writes three_alphas run v ∙ ap written_by (sym asked)

  pub call_asked : {o : Outcome} → o ≡ range_checked (performed q (from_run run) run written) run written → o ≡ call kind run v written
  call_asked e = call_passed kind run v written p (rw (← asked) e)

  -- where it writes none
  pub call_made : {left : List Float} {o : Answer} → written_by q ≡ 0 → outcome o left [] ≡ range_checked (performed q (from_run run) run []) run []
      → outcome o left written ≡ call kind run v written
  call_made nothing e = call_asked (rw (nil_from_length written (asked_length ∙ nothing)) e)

-- ---- what is given out

-- the normalised innovation squared of an update, if there is one, is finite
abbrev pub nis_finite : Option Float → Bool
nis_finite (Some x) = is_finite x
nis_finite None = true

-- what is given out of an answer with the filter beside it, where it is another's
pub given : (run : List Float) {a b : Answered} → a ≡ b → range_checked (outcome_of a run []) run [] ≡ range_checked (outcome_of b run []) run []
given run e = ap (λ (x : Answered). range_checked (outcome_of x run []) run []) e

-- where it is a refusal
pub given_refused : (run : List Float) {n : ℕ} {f : EqFilter} {b : Answered} → refuse n f ≡ b → refused n run [] ≡ range_checked (outcome_of b run []) run []
unfolding range_checked
given_refused run e = given run e

-- by the test of what is given out, t, and what it found
pub checked : (nis : Option Float) (left run : List Float) {t : Bool} → nis_finite nis && all_finite left ≡ t →
    cond t (outcome (accepted nis) left []) (refused range_refusal run []) ≡ range_checked (outcome (accepted nis) left []) run []
unfolding range_checked all_finite
checked (Some x) left run e = rw (all_finite_one, e)
checked None left run e = rw e
