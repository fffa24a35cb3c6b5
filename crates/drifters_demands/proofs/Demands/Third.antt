-- Demand 3: any two logs, the second read through a half turn, are equal exactly when their first filters and calls are. Assumes nothing.
use mathlib.Core.Path.{◌≡◌, sym, ◌∙◌}
use mathlib.Core.List.{List, [], ◌∷◌, map, Forall₂}
use Prim.Native.Nat.{ℕ}
use borrow.Author.Tests.{lt-ltb}
use lib.ListN.{length, length-replicate}
use lib.Ieee.{Float}
use Rattle.drifters_matrix.specs.Matrix.{zeros}
use Rattle.drifters_eqf.specs.Filter.{nav_state}
use Rattle.drifters_entry.specs.Layout.{three_alphas, from_run}
use Rattle.drifters_kind.specs.Kind.{call_length, written_length}
use Rattle.drifters_entry.specs.Entry.{Request, refusal, propagation, measurement, estimate, request_of, Outcome, outcome_on}
use Rattle.drifters_kind.specs.declared.kind.Kind.{Kind}
use Rattle.drifters_entry.proofs.KindLaws.{written_by, kind_laws}
use Rattle.drifters_eqf.specs.declared.filter.EqFilter.{EqFilter}
use Rattle.drifters_entry.proofs.RoundTrips.{length_state_to_run}
use Rattle.drifters_demands.specs.Like.{Signs}
use Rattle.drifters_demands.specs.Log.{Call, kind_call, compasses_call, answer_in, left_in, entries_in}
use Rattle.drifters_demands.specs.Turn.{filter_signs, turn_call, turn_answer, turn_entry}
use Rattle.drifters_demands.specs.Demands.{accepted_outcome, EqualCall, same_kind, both_compasses, EqualCallAnswer, to_kind, to_compasses, EqualEntry, Demand3}
use Rattle.drifters_demands.proofs.Sizes.{sized_nav_state}
use Rattle.drifters_demands.proofs.Signs.Layout.{Turned}
use Rattle.drifters_demands.proofs.Signs.Entry.{turned_zeros, like_call}
use Rattle.drifters_demands.proofs.Demands.Decision.{Decision, refuses, accepts, accepted_call, call_decision}
use Rattle.drifters_demands.proofs.Demands.Equality.{turned_equal, equal_turned, equal_plain, equal_answer}
use Rattle.drifters_demands.proofs.Demands.Turning.{compasses_turned}

-- ---- how many numbers a call of a log writes
accepted_size : (r : Request) (f : EqFilter) (run : List Float) (n : ℕ) → n ≡ written_by r → length (accepted_outcome r f run (zeros n)).written ≡ n
accepted_size (refusal k) f run n e = length-replicate n _
accepted_size (propagation u dt q) f run n e = length-replicate n _
accepted_size (measurement w m noise alpha) f run n e = length-replicate n _
accepted_size estimate f run n e = length_state_to_run (nav_state f) (sized_nav_state f) ∙ sym e

decided_size : (kind : Kind) (run v : List Float) {first : ℕ} {o : Outcome}
    → Decision run (zeros (written_length kind)) (accepted_call kind run v (zeros (written_length kind))) first o → length o.written ≡ written_length kind
decided_size kind run v (refuses n) = length-replicate (written_length kind) _
decided_size kind run v (accepts h e) =
    accepted_size (request_of kind run v) (from_run run) run (written_length kind) ((kind_laws kind).writes three_alphas run v)

written_size : (run : List Float) (kind : Kind) (v : List Float) → length (outcome_on run kind v).written ≡ written_length kind
written_size run kind v = decided_size kind run v (call_decision kind run v (zeros (written_length kind)))

-- what comes of two calls, the second read through a turn
record TurnedEntry (s : Signs) (run : List Float) (c : Call) (run' : List Float) (d : Call) : Type 0 where
  answer : EqualCallAnswer c (answer_in three_alphas run c) (turn_answer s (answer_in three_alphas run' d))
  left : Turned (filter_signs s) (left_in three_alphas run c) (left_in three_alphas run' d)

module _ (s : Signs) where
  -- one call
  call_turned : {run run' : List Float} (c d : Call) → Turned (filter_signs s) run run' → EqualCall c (turn_call s d) → TurnedEntry s run c run' d
  call_turned {run} {run'} (kind_call kind v) (kind_call _ w) r (same_kind h) =
      let o = like_call kind (λ i I. rw (lt-ltb i (call_length kind) I)) r (equal_turned h) (turned_zeros (written_length kind)) in
      record { answer = to_kind (equal_answer (written_size run kind v) o.answer o.written); left = o.run }
  call_turned (kind_call kind v) (compasses_call b w n) r h = elim h [ ]
  call_turned (compasses_call a v n) (kind_call kind w) r h = elim h [ ]
  call_turned (compasses_call a v budget) (compasses_call b w _) r (both_compasses g h) =
      let o = compasses_turned r (equal_plain g) (equal_turned h) budget in
      record { answer = to_compasses o.answer; left = o.run }

  -- all calls, one after the other
  entries_turned : {run run' : List Float} (calls calls' : List Call) → Turned (filter_signs s) run run' → Forall₂ EqualCall calls (map (turn_call s) calls')
      → Forall₂ EqualEntry (entries_in three_alphas run calls) (map (turn_entry s) (entries_in three_alphas run' calls'))
  unfolding entries_in
  entries_turned [] [] r Forall₂.nil = Forall₂.nil
  entries_turned [] (d ∷ ds) r h = elim h [ ]
  entries_turned (c ∷ cs) [] r h = elim h [ ]
  entries_turned {run} {run'} (c ∷ cs) (d ∷ ds) r (Forall₂.cons h hs) =
      let o = call_turned c d r h in
      Forall₂.cons record { called = h; answer = o.answer; left = turned_equal o.left }
      (entries_turned {run = left_in three_alphas run c} {run' = left_in three_alphas run' d} cs ds o.left hs)

  -- the calls stand in the entries
  calls_of : (run run' : List Float) (calls calls' : List Call) → Forall₂ EqualEntry (entries_in three_alphas run calls) (map (turn_entry s) (entries_in three_alphas run' calls'))
      → Forall₂ EqualCall calls (map (turn_call s) calls')
  unfolding entries_in
  calls_of run run' [] [] Forall₂.nil = Forall₂.nil
  calls_of run run' [] (d ∷ ds) h = elim h [ ]
  calls_of run run' (c ∷ cs) [] h = elim h [ ]
  calls_of run run' (c ∷ cs) (d ∷ ds) (Forall₂.cons h hs) = Forall₂.cons h.called (calls_of (left_in three_alphas run c) (left_in three_alphas run' d) cs ds hs)

pub demand3 : Demand3
demand3 s first first' calls calls' = (
  λ h. (h.first, calls_of s first first' calls calls' h.entries),
  λ h. record { first = h.0; entries = entries_turned s calls calls' (equal_turned h.0) h.1 },
)
