-- What the checks of an update by several compasses decide, and what it then chooses. Assumes nothing.
use mathlib.Core.Path.{◌≡◌, refl, sym, ap, ◌∙◌, subst}
use mathlib.Core.Bool.{Bool, true, false, not, ◌&&◌, cond, true≢false}
use mathlib.Core.List.{List, [], ◌++◌}
use Prim.Native.Nat.{ℕ, suc, ◌*◌}
use native.Mathlib.Nat.{suc-ne-zero}
use lib.ListN.{length, get_or}
use lib.Ieee.{Float, nan}
use Rattle.std.specs.Prelude.{Option, Some, None}
use Rattle.std.proofs.lemmas.Bool.{and_parts}
use Rattle.drifters_matrix.specs.Matrix.{all_finite}
use Rattle.drifters_lie.specs.Lie.{vec3_at}
use Rattle.drifters_eqf.specs.Answer.{length_refusal, blank_refusal, number_of, Nis}
use Rattle.drifters_eqf.specs.Filter.{Measurement, measured_direction}
use Rattle.drifters_eqf.specs.declared.filter.EqFilter.{EqFilter}
use Rattle.drifters_entry.specs.Layout.{three_alphas, part, from_run}
use Rattle.drifters_entry.specs.Entry.{Outcome, finite_outcome, direction_request, call}
use Rattle.drifters_kind.specs.declared.kind.Kind.TheVariants.{Direction, State}
use Rattle.drifters_compasses.specs.Compasses.{reading_length, count_of, compasses_fit, tried, direction_numbers, attempt_in, BestTry, nothing, reading, best_of, CompassesOutcome, compasses_outcome, selected, update_compasses_in, update_compasses}
use Rattle.drifters_compasses.specs.Compasses as compasses
use Rattle.drifters_demands.specs.Demands.{first_of, checks, compasses_checks, FiniteMirrored, CheckedCompasses, Chooses, accepted_outcome, direction_try}
use Rattle.drifters_demands.proofs.Demands.Decision.{Decision, refuses, accepts, is_refusal, accepted_call, checked, call_decision}
use Rattle.drifters_demands.proofs.Demands.Mirrored.{call_mirrored}
use Rattle.drifters_demands.proofs.Demands.Choice.{TryAnswer, accepted, passed_over, finite_value, chooses}

-- ---- a try

measured_answer : (m : Option Measurement) (noise : List Float) (alpha : Float) (f : EqFilter) (run : List Float)
    → is_refusal (accepted_outcome (direction_request m noise alpha) f run []).answer ≡ false → finite_outcome (accepted_outcome (direction_request m noise alpha) f run []) ≡ true
    → TryAnswer (accepted_outcome (direction_request m noise alpha) f run []).answer
unfolding all_finite
measured_answer None noise alpha f run h e = absurd (true≢false h)
measured_answer (Some m) noise alpha f run h e = accepted (and_parts _ true (and_parts _ _ e).0).0

direction_answer : (run v : List Float) → TryAnswer (call Direction run v []).answer
direction_answer run v = by_decision (call_decision Direction run v [])
  where
    by_decision : {first : ℕ} {o : Outcome} → Decision run [] (accepted_call Direction run v []) first o → TryAnswer o.answer
    by_decision (refuses n) = passed_over
    by_decision (accepts h e) =
        let f = from_run run in
        measured_answer (measured_direction f.x (vec3_at v 0) (vec3_at v 3)) (part v 6 9) (get_or run three_alphas.direction nan) f run h e

not_state : Direction ≡ State → ⊥
not_state e = cc

-- a try that is accepted leaves a finite filter whose covariance mirrors
try_mirrored : (run v : List Float) {x : Float} → (call Direction run v []).answer ≡ Nis x → FiniteMirrored (call Direction run v []).run
try_mirrored run v e =
    call_mirrored Direction run v [] not_state (sym (checked {checks = checks Direction run v []} (call_decision Direction run v [])).number ∙ ap number_of e)

module _ (run readings north_noise : List Float) (budget : ℕ) where
  -- how many are tried, and what comes of each
  abbrev k : ℕ
  k = tried budget (count_of (length readings))

  abbrev tries : ℕ → Outcome
  tries = direction_try run readings north_noise

  answered : (j : ℕ) → TryAnswer (tries j).answer
  answered j = direction_answer run (part readings (j * reading_length) reading_length ++ north_noise)

  mirrored : (j : ℕ) {x : Float} → (tries j).answer ≡ Nis x → FiniteMirrored (tries j).run
  mirrored j e = try_mirrored run (part readings (j * reading_length) reading_length ++ north_noise) e

  -- what the checks decide, by the number of the first that refuses: a refusal, or what the best try is
  data Decided : ℕ → CompassesOutcome → Type 0 where
    is_refused : (n : ℕ) → Decided (suc n) (compasses_outcome (compasses.Refused (suc n)) run)
    is_selected : Decided 0 (selected k run (best_of tries k))

  decided : Decided (first_of (compasses_checks run readings north_noise budget)) (update_compasses run readings north_noise budget)
  unfolding first_of update_compasses_in attempt_in direction_numbers
  decided = by_tests (compasses_fit (length run) (length readings) (length north_noise) budget) (all_finite run && all_finite north_noise)
    where
      by_tests : (fit finite : Bool)
          → Decided (cond (not fit) length_refusal (cond (not finite) blank_refusal 0))
          (cond fit (cond finite (selected k run (best_of tries k)) (compasses_outcome (compasses.Refused blank_refusal) run)) (compasses_outcome (compasses.Refused length_refusal) run))
      by_tests true true = is_selected
      by_tests true false = is_refused 1
      by_tests false finite = is_refused 0

  -- ---- what is chosen

  pub compasses_choose : first_of (compasses_checks run readings north_noise budget) ≡ 0 → Chooses k tries (update_compasses run readings north_noise budget)
  compasses_choose z = by_decision decided z
    where
      by_decision : {first : ℕ} {o : CompassesOutcome} → Decided first o → first ≡ 0 → Chooses k tries o
      by_decision (is_refused n) z = absurd (suc-ne-zero n z)
      by_decision is_selected z = chooses tries answered k run

  -- ---- what the checks and the best try come to

  -- an outcome is checked as this update
  abbrev CheckedUpdate : CompassesOutcome → Type 0
  CheckedUpdate o = CheckedCompasses (compasses_checks run readings north_noise budget) run o

  best_checked : first_of (compasses_checks run readings north_noise budget) ≡ 0 → (b : BestTry) → Chooses k tries (selected k run b) → CheckedUpdate (selected k run b)
  best_checked e nothing c = record {
    number = sym e;
    refusal = λ n q. refl;
    accepted = λ z n q. absurd (cc);
    none = λ n q. refl;
    chosen = λ i n x q. absurd (cc);
  }
  best_checked e (reading i x left) c = record {
    number = sym e;
    refusal = λ n q. absurd (cc);
    accepted = λ z n q. absurd (cc);
    none = λ n q. absurd (cc);
    chosen = λ j n y q.
        let s = (c.chosen i k x).0 refl in
        let same : y ≡ x = cc in
        (rw same (finite_value (answered i) s.1.accepted), subst FiniteMirrored (sym (c.left i k x refl)) (mirrored i s.1.accepted));
  }

  pub compasses_checked : CheckedUpdate (update_compasses run readings north_noise budget)
  compasses_checked = by_decision refl decided
    where
      by_decision : {first : ℕ} {o : CompassesOutcome} → first_of (compasses_checks run readings north_noise budget) ≡ first → Decided first o → CheckedUpdate o
      by_decision e (is_refused m) = record {
        number = sym e;
        refusal = λ n q. refl;
        accepted = λ z n q. suc-ne-zero m (sym e ∙ z);
        none = λ n q. refl;
        chosen = λ i n x q. absurd (cc);
      }
      by_decision e is_selected = best_checked e (best_of tries k) (chooses tries answered k run)
