-- What the checks of a call and of a start decide, one after the other. Assumes nothing.
use mathlib.Core.Path.{◌≡◌, refl, sym, ap, ◌∙◌}
use mathlib.Core.Bool.{Bool, true, false, not, ◌&&◌, cond, true≢false, and-true}
use mathlib.Core.List.{List, [], ◌∷◌}
use Prim.Native.Nat.{ℕ, suc}
use native.Mathlib.Nat.{suc-ne-zero}
use borrow.Author.Tests.{eqb-true}
use lib.Dec.{eqb}
use lib.ListN.{length}
use lib.Ieee.{Float}
use Rattle.std.proofs.lemmas.List.{nil_from_length}
use Rattle.std.proofs.lemmas.Bool.{and_parts}
use Rattle.drifters_real.specs.Real.{is_finite}
use Rattle.drifters_matrix.specs.Matrix.{all_finite}
use Rattle.drifters_eqf.specs.Answer.{Answer, Nis, Fine, Refused, range_refusal, null_refusal, number_of, values_of}
use Rattle.drifters_cholesky.specs.Cholesky.{definite, entries_of}
use Rattle.drifters_gcu.specs.Gcu.{nis}
use Rattle.drifters_eqf.specs.Filter.{Answered, turn_fits, refuse, nav_state, half_step, full_step, propagated, propagate, raw_factor, inflated_factor, gain, correction, step, corrected, applied, update}
use Rattle.drifters_entry.specs.Layout.{filter_length, start_length, three_alphas, alphas_of, from_run, to_run, state_to_run}
use Rattle.drifters_kind.specs.Kind.{form_of, call_length, written_length}
use Rattle.drifters_entry.specs.Entry.{Request, refusal, propagation, measurement, estimate, request_of, Outcome, outcome_of, performed, refused, finite_outcome, if_finite, range_checked_as, range_checked, lengths_fit, call_in, call, started, start}
use Rattle.drifters_demands.specs.Demands.{Check, unless, first_of, has_null, later_checks, checks, start_checks, Checked, accepted_outcome}
use Rattle.drifters_eqf.specs.declared.filter.EqFilter.{EqFilter}
use Rattle.drifters_kind.specs.declared.kind.Kind.{Kind}
use Rattle.drifters_entry.proofs.KindLaws.{written_by, kind_laws}
use Rattle.drifters_demands.proofs.Demands.Null.{Asks, AsksBy, call_asks}

-- ---- decisions

-- an answer is a refusal
abbrev pub is_refusal : Answer → Bool
is_refusal (Nis x) = false
is_refusal Fine = false
is_refusal (Refused n) = true

not_refusal : (a : Answer) (n : ℕ) → is_refusal a ≡ false → a ≡ Refused n → ⊥
not_refusal a n h e = true≢false (sym (ap is_refusal e) ∙ h)

number_accepted : (a : Answer) → is_refusal a ≡ false → number_of a ≡ 0
number_accepted (Nis x) h = refl
number_accepted Fine h = refl
number_accepted (Refused n) h = absurd (true≢false h)

module _ (run written : List Float) (result : Outcome) where
  -- What checks decide, by the number of the first that refuses: a refusal that leaves the lent runs as they were, or else the result, which is
  -- finite.
  pub data Decision : ℕ → Outcome → Type 0 where
    refuses : (n : ℕ) → Decision (suc n) (refused (suc n) run written)
    accepts : is_refusal result.answer ≡ false → finite_outcome result ≡ true → Decision 0 result

module _ {run written : List Float} {result : Outcome} where
  decision_number : {first : ℕ} {o : Outcome} → Decision run written result first o → number_of o.answer ≡ first
  decision_number (refuses n) = refl
  decision_number (accepts h e) = number_accepted result.answer h

  decision_refusal :
      {first : ℕ} {o : Outcome} → Decision run written result first o → (n : ℕ) → o.answer ≡ Refused n → (o.run ≡ run) × (o.written ≡ written)
  decision_refusal (refuses k) n q = (refl, refl)
  decision_refusal (accepts h e) n q = absurd (not_refusal result.answer n h q)

  decision_no_refusal : {first : ℕ} {o : Outcome} → Decision run written result first o → first ≡ 0 → (n : ℕ) → o.answer ≡ Refused n → ⊥
  decision_no_refusal (refuses k) z n q = suc-ne-zero k z
  decision_no_refusal (accepts h e) z n q = not_refusal result.answer n h q

  decision_finite : {first : ℕ} {o : Outcome} → Decision run written result first o → first ≡ 0 → finite_outcome o ≡ true
  decision_finite (refuses n) z = absurd (suc-ne-zero n z)
  decision_finite (accepts h e) z = e

  pub decision_accepted : {first : ℕ} {o : Outcome} → Decision run written result first o → first ≡ 0 → o ≡ result
  decision_accepted (refuses n) z = absurd (suc-ne-zero n z)
  decision_accepted (accepts h e) z = refl

  pub decision_answer : {first : ℕ} {o : Outcome} → Decision run written result first o → first ≡ 0 → is_refusal result.answer ≡ false
  decision_answer (refuses n) z = absurd (suc-ne-zero n z)
  decision_answer (accepts h e) z = h

  pub checked : {checks : List Check} {o : Outcome} → Decision run written result (first_of checks) o → Checked checks run written o
  checked {checks} {o} v = record {
    number = decision_number v;
    refusal = decision_refusal v;
    accepted = λ z n q. decision_no_refusal v z n q;
    finite = λ z. and_parts (all_finite (values_of o.answer o.written)) _ (decision_finite v z);
  }

  -- a check in front of an outcome
  pub check :
      {first : ℕ} (n : ℕ) (passed : Bool) (o : Outcome) → (passed ≡ true → Decision run written result first o)
      → Decision run written result (cond (not passed) (suc n) first) (cond passed o (refused (suc n) run written))
  check n true o next = next refl
  check n false o next = refuses n

  -- a check in front of what the filter answers
  check_answered :
      {first : ℕ} (n : ℕ) (passed : Bool) (a : Answered) (f : EqFilter) → Decision run written result first (range_checked (outcome_of a run written) run written)
      → Decision run written result (cond (not passed) (suc n) first) (range_checked (outcome_of (cond passed a (refuse (suc n) f)) run written) run written)
  unfolding range_checked
  check_answered n true a f next = next
  check_answered n false a f next = refuses n

module _ (run written : List Float) where
  range_checked_lem : (a : Answer) (o : Outcome) → is_refusal a ≡ false → range_checked_as a o run written ≡ if_finite o run written
  range_checked_lem (Nis x) o h = refl
  range_checked_lem Fine o h = refl
  range_checked_lem (Refused n) o h = absurd (true≢false h)

  -- the last check: what is not refused is finite, or out of range
  in_range_lem :
      (o : Outcome) (passed : Bool) → is_refusal o.answer ≡ false → finite_outcome o ≡ passed
      → Decision run written o (first_of (unless range_refusal passed ∷ [])) (range_checked o run written)
  unfolding first_of range_checked
  in_range_lem o passed h e = rw (range_checked_lem o.answer o h, ← e) (check 4 (finite_outcome o) o (λ q. accepts h q))

-- ---- what is asked of the filter

request_decision :
    (r : Request) (f : EqFilter) (run written : List Float) → all_finite run ≡ true → Asks r → length written ≡ written_by r
    → Decision run written (accepted_outcome r f run written) (first_of (later_checks r f run)) (range_checked (performed r f run written) run written)
unfolding performed propagate update applied first_of all_finite range_checked
request_decision (refusal n) f run written finite asks none = absurd asks
request_decision (propagation u dt q) f run written finite asks none =
    check_answered 2 (turn_fits (half_step f u dt)) _ f
    (check_answered 2 (turn_fits (full_step f u dt)) _ f
    (in_range_lem run written (accepted_outcome (propagation u dt q) f run written) (all_finite (to_run (propagated f u dt q) (alphas_of run))) refl (rw (nil_from_length written none))))
request_decision (measurement w m noise alpha) f run written finite asks none =
    let c = m.output in
    let y = m.innovation in
    let u = correction w (gain w f c y noise alpha) c y noise in
    let value = is_finite (nis w (entries_of w (raw_factor w f c noise)) y) in
    let left = all_finite (to_run (corrected f u) (alphas_of run)) in
    check_answered 3 (definite (raw_factor w f c noise)) _ f
    (check_answered 3 (definite (inflated_factor w f c y noise alpha)) _ f
    (check_answered 2 (turn_fits (step u)) _ f
    (in_range_lem run written (accepted_outcome (measurement w m noise alpha) f run written) (value && left) refl (ap (λ (b : Bool). b && left) (and-true value)))))
request_decision estimate f run written finite asks none =
    in_range_lem run written (accepted_outcome estimate f run written) (all_finite (state_to_run (nav_state f))) refl (rw finite (and-true _))

-- the check for null vectors, in front of the others
null_decision :
    (null : Bool) (r : Request) (f : EqFilter) (run written : List Float) → AsksBy null r
    → (Asks r → Decision run written (accepted_outcome r f run written) (first_of (later_checks r f run)) (range_checked (performed r f run written) run written))
    → Decision run written (accepted_outcome r f run written) (first_of (unless null_refusal (not null) ∷ later_checks r f run)) (range_checked (performed r f run written) run written)
unfolding performed first_of range_checked
null_decision true r f run written asks next = rw asks (refuses 6)
null_decision false r f run written asks next = next asks

-- ---- calls

-- what an accepted call leaves
abbrev pub accepted_call : Kind → List Float → List Float → List Float → Outcome
accepted_call kind run v written = accepted_outcome (request_of kind run v) (from_run run) run written

pub call_decision :
    (kind : Kind) (run v written : List Float)
    → Decision run written (accepted_call kind run v written) (first_of (checks kind run v written)) (call kind run v written)
unfolding call_in first_of
call_decision kind run v written =
    check 0 (lengths_fit (form_of kind) run v (length written)) _ (λ fits.
    check 1 (all_finite run && all_finite v) _ (λ finite.
    let runs = and_parts (eqb (length run) filter_length && eqb (length v) (call_length kind)) _ fits in
    let l = eqb-true (length v) (call_length kind) (and_parts (eqb (length run) filter_length) _ runs.0).1 in
    let n = eqb-true (length written) (written_length kind) runs.1 in
    let each = and_parts (all_finite run) _ finite in
    null_decision (has_null kind v) (request_of kind run v) (from_run run) run written (call_asks kind run v l each.1) (λ asks.
    request_decision (request_of kind run v) (from_run run) run written each.0 asks (n ∙ (kind_laws kind).writes three_alphas run v))))

pub start_decision : (run v : List Float) → Decision run [] (record { answer = Fine; run = started v; written = [] }) (first_of (start_checks run v)) (start run v)
unfolding start first_of all_finite
start_decision run v =
    check 0 (eqb (length run) filter_length && eqb (length v) start_length) _ (λ _.
    check 1 (all_finite v) _ (λ _.
    in_range_lem run [] (record { answer = Fine; run = started v; written = [] }) (all_finite (started v)) refl refl))
