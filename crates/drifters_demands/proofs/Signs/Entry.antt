-- A call on runs that are the same but for the signs of specs/Turn.antt has an outcome that is. Assumes nothing.
use Prim.Native.Nat.{ℕ, ◌+◌, ◌*◌, ◌<◌}
use native.Mathlib.Omega.{arith}
use mathlib.Core.Path.{◌≡◌, refl, sym, ap, ap₂, ◌∙◌, subst, subst₂}
use mathlib.Core.Bool.{Bool, true, false, ◌&&◌, not-not}
use mathlib.Core.List.{List}
use borrow.Author.Tests.{eqb-true}
use lib.Dec.{eqb, lit<}
use lib.ListN.{length, take, drop, length-drop, length-replicate, get_or-replicate}
use lib.Seq.{get_or-take, get_or-drop, drop-drop}
use lib.Ieee.{Float, nan}
use Rattle.std.specs.Prelude.{Option}
use Rattle.std.proofs.lemmas.Bool.{and_parts}
use Rattle.drifters_real.specs.Scalar.{plus_zero}
use Rattle.drifters_matrix.specs.Matrix.{all_finite, zeros}
use Rattle.drifters_demands.specs.Like.{Like, Signs, axis, LikeList, LikeVec3, LikeMatrix, no_turn}
use Rattle.drifters_demands.proofs.Signs.Like.{like_as, like_plus_zero, cond_keeps}
use Rattle.drifters_demands.proofs.Signs.Real.{like_is_finite}
use Rattle.drifters_demands.proofs.Signs.Matrix.{like_all_finite_list}
use Rattle.drifters_eqf.specs.Answer.{Answer, length_refusal, blank_refusal, range_refusal, values_of}
use Rattle.drifters_lie.specs.Lie.{vec3_at}
use Rattle.drifters_eqf.specs.Filter.{Answered, Measurement}
use Rattle.drifters_entry.specs.Layout.{filter_length, three_alphas, part, alphas_of, from_run, to_run, state_to_run, SizedFilter, SizedState}
use Rattle.drifters_kind.specs.Kind.{form_of, call_length, written_length}
use Rattle.drifters_entry.specs.Entry.{Request, input_at, process_noise_at, direction_request, request_of, Outcome, outcome_of, performed, refused, finite_outcome, if_finite, range_checked_as, range_checked, lengths_fit, call_in, call}
use Rattle.drifters_demands.specs.Turn.{plain, then_signs, matrix_signs, noise_signs, filter_signs, call_signs, state_signs}
use Rattle.drifters_symmetry.specs.declared.group.State.{State as StateRecord}
use Rattle.drifters_eqf.specs.declared.filter.EqFilter.{EqFilter}
use Rattle.drifters_kind.specs.declared.kind.Kind.{Kind}
use Rattle.drifters_kind.specs.declared.kind.Kind.TheVariants.{Propagate, Position, Velocity, Direction, General, State, Scalar}
use Rattle.drifters_entry.proofs.RoundTrips.{round_trips, length_to_run, length_state_to_run, sized_from_run}
use Rattle.drifters_demands.proofs.Sizes.{sized_propagate, sized_update, sized_nav_state}
use Rattle.drifters_demands.proofs.Signs.GroupRecords.{LikeState, LikeInput}
use Rattle.drifters_demands.proofs.Signs.FilterRecords.{LikeProcessNoise, LikeFilter, LikeAnswer, both_nis_lem, both_fine, both_refused_lem, LikeAnswered, LikeMeasurement, LikeMeasured, both_measured, both_unmeasured, LikeRequest, like_refusal, like_propagation, like_measurement, like_estimate}
use Rattle.drifters_demands.proofs.Signs.Filter.{like_nav_state, like_propagate, like_update, like_measured_position, like_measured_velocity, like_measured_direction}
use Rattle.drifters_demands.proofs.Signs.Layout.{Turned, like_first, like_rest, like_part, like_from_run, like_of_from_run, like_alphas_of, like_of_state_from_run}

-- ---- runs
pub turned_zeros : {σ : ℕ → Bool} (n : ℕ) → Turned σ (zeros n) (zeros n)
turned_zeros n = record {
  size = refl;
  alike = record { entry = λ i I. rw (get_or-replicate n i plus_zero nan (subst (λ (m : ℕ). i < m) (length-replicate n plus_zero) I)) like_plus_zero };
}

like_take : {σ : ℕ → Bool} {n : ℕ} {a b : List Float} → LikeList σ n a b → LikeList σ n (take n a) (take n b)
like_take {n} {a} {b} h = record { entry = λ i I. rw (get_or-take n a i nan I, get_or-take n b i nan I) (h.entry i I) }

pub turned_finite : {σ : ℕ → Bool} {a b : List Float} → Turned σ a b → all_finite a ≡ all_finite b
turned_finite h = like_all_finite_list h.alike refl (sym h.size)

-- ---- a filter, and an estimate, as runs

-- two filters' runs of the stated length
record TurnedFilter (s : Signs) (run run' : List Float) : Type 0 where
  size : length run ≡ filter_length
  runs : Turned (filter_signs s) run run'

module _ {s : Signs} {run run' : List Float} (R : TurnedFilter s run run') where
  alike : LikeList (filter_signs s) filter_length run run'
  alike = subst (λ (n : ℕ). LikeList (filter_signs s) n run run') R.size R.runs.alike

  -- a filter as a run, with its alphas
  to_run_turned : {f g : EqFilter} → LikeFilter s no_turn no_turn f g → SizedFilter f → SizedFilter g
      → Turned (filter_signs s) (to_run f (alphas_of run)) (to_run g (alphas_of run'))
  to_run_turned {f} {g} h F G =
      let a = alphas_of run in
      let b = alphas_of run' in
      let l : length (to_run f a) ≡ filter_length = length_to_run f a F ∙ simp length-drop (omega (arith, R.size)) in
      let m : length (to_run g b) ≡ filter_length = length_to_run g b G ∙ simp length-drop (omega (arith, R.size, R.runs.size)) in
      record {
        size = l ∙ sym m;
        alike = rw l
            (like_of_from_run s (to_run f a) (to_run g b)
            (subst₂ (LikeFilter s no_turn no_turn) (sym (round_trips.filter_record f a F)) (sym (round_trips.filter_record g b G)) h)
            (rw (round_trips.alphas_kept f a F, round_trips.alphas_kept g b G) (like_alphas_of s alike)));
      }

state_to_run_turned : {s : Signs} {xi zeta : StateRecord} → LikeState s no_turn no_turn xi zeta → SizedState xi → SizedState zeta
    → Turned (state_signs s) (state_to_run xi) (state_to_run zeta)
state_to_run_turned {s} {xi} {zeta} h X Z = record {
  size = length_state_to_run xi X ∙ sym (length_state_to_run zeta Z);
  alike = rw (length_state_to_run xi X)
      (like_of_state_from_run s (state_to_run xi) (state_to_run zeta)
      (subst₂ (LikeState s no_turn no_turn) (sym (round_trips.state_record xi X)) (sym (round_trips.state_record zeta Z)) h));
}

-- ---- outcomes
pub record LikeOutcome (s : Signs) (o p : Outcome) : Type 0 where
  pub answer : LikeAnswer o.answer p.answer
  pub written : Turned (state_signs s) o.written p.written
  pub run : Turned (filter_signs s) o.run p.run

like_values_finite : {a b : Answer} {σ : ℕ → Bool} {v w : List Float} → LikeAnswer a b → Turned σ v w → all_finite (values_of a v) ≡ all_finite (values_of b w)
unfolding all_finite
like_values_finite (both_nis_lem h) t = ap (λ (c : Bool). c && true) (like_is_finite h)
like_values_finite both_fine t = turned_finite t
like_values_finite both_refused_lem t = refl

like_finite_outcome : {s : Signs} {o p : Outcome} → LikeOutcome s o p → finite_outcome o ≡ finite_outcome p
like_finite_outcome h = ap₂ ◌&&◌ (like_values_finite h.answer h.written) (turned_finite h.run)

-- the runs that are lent to be written are alike too
module _ {s : Signs} {written written' : List Float} (W : Turned (state_signs s) written written') where
  like_refused : {run run' : List Float} (n : ℕ) → Turned (filter_signs s) run run' → LikeOutcome s (refused n run written) (refused n run' written')
  like_refused n h = record { answer = both_refused_lem; written = W; run = h }

  module _ {o p : Outcome} {run run' : List Float} (h : LikeOutcome s o p) (r : Turned (filter_signs s) run run') where
    like_if_finite : LikeOutcome s (if_finite o run written) (if_finite p run' written')
    like_if_finite = cond_keeps (LikeOutcome s) (like_finite_outcome h) (λ e. h) (λ e. like_refused range_refusal r)

    like_range_checked_as : {a b : Answer} → LikeAnswer a b → LikeOutcome s (range_checked_as a o run written) (range_checked_as b p run' written')
    like_range_checked_as (both_nis_lem x) = like_if_finite
    like_range_checked_as both_fine = like_if_finite
    like_range_checked_as (both_refused_lem {n}) = like_refused n r

    like_range_checked : LikeOutcome s (range_checked o run written) (range_checked p run' written')
    unfolding range_checked
    like_range_checked = like_range_checked_as h.answer

  like_outcome_of : {a z : Answered} {run run' : List Float} → LikeAnswered s no_turn no_turn a z → SizedFilter a.filter → SizedFilter z.filter → TurnedFilter s run run'
      → LikeOutcome s (outcome_of a run written) (outcome_of z run' written')
  like_outcome_of h A Z R = record { answer = h.answer; written = W; run = to_run_turned R h.filter A Z }

-- ---- the numbers of calls
module _ {v w : List Float} (h : LikeList plain 25 v w) where
  vector : (o : ℕ) → o + 2 < 25 → LikeVec3 (axis no_turn) (vec3_at v o) (vec3_at w o)
  vector o O = record { x = h.entry o (omega arith); y = h.entry (o + 1) (omega arith); z = h.entry (o + 2) O }

  like_input_at : LikeInput no_turn (input_at v 0) (input_at w 0)
  like_input_at = record { omega = vector 0 (lit< tt); accel = vector 3 (lit< tt) }

  like_process_noise_at : LikeProcessNoise (process_noise_at v 7) (process_noise_at w 7)
  like_process_noise_at = record {
    gyro = vector 7 (lit< tt);
    accel = vector 10 (lit< tt);
    gyro_bias = vector 13 (lit< tt);
    accel_bias = vector 16 (lit< tt);
    lever = vector 19 (lit< tt);
    mag = vector 22 (lit< tt);
  }

-- the first n numbers as one row, which takes no sign of its own
like_row : {τ : ℕ → Bool} {v w : List Float} (n : ℕ) → LikeList τ n v w → LikeMatrix plain τ 1 n (take n v) (take n w)
like_row {τ} {v} {w} n h = record {
  entry = λ i j I J.
      let z : i ≡ 0 = omega arith in
      let k : 0 * n + j ≡ j = omega arith in
      rw (z, k, get_or-take n v j nan J, get_or-take n w j nan J) (like_as (sym (not-not (τ j))) (h.entry j J));
}

module _ {s : Signs} {v w : List Float} where
  -- nine numbers of noise, after three and after six others
  like_noise : LikeList (noise_signs s) 9 v w → LikeMatrix (axis s) (axis s) 3 3 (take 9 v) (take 9 w)
  like_noise h = like_part (axis s) (axis s) 3 3 h

  noise_after_six : (σ τ : ℕ → Bool) → LikeList (then_signs 3 σ (then_signs 3 τ (noise_signs s))) 15 v w → LikeMatrix (axis s) (axis s) 3 3 (part v 6 9) (part w 6 9)
  noise_after_six σ τ h =
      rw (← drop-drop 3 3 v, ← drop-drop 3 3 w)
      (like_part (axis s) (axis s) 3 3 (like_rest 3 9 τ (noise_signs s) (like_rest 3 12 σ (then_signs 3 τ (noise_signs s)) h)))

  like_general : LikeList (call_signs General s) 75 v w
      → LikeMeasurement (axis s) s 3 (record { output = part v 0 63; innovation = part v 63 3 }) (record { output = part w 0 63; innovation = part w 63 3 })
  like_general h = record {
    output = like_part (axis s) (axis s) 3 21 (like_first 63 12 (matrix_signs 21 (axis s) (axis s)) (then_signs 3 (axis s) (noise_signs s)) h);
    innovation = like_take (like_first 3 9 (axis s) (noise_signs s) (like_rest 63 12 (matrix_signs 21 (axis s) (axis s)) (then_signs 3 (axis s) (noise_signs s)) h));
  }

  noise_general : LikeList (call_signs General s) 75 v w → LikeMatrix (axis s) (axis s) 3 3 (part v 66 9) (part w 66 9)
  noise_general h =
      rw (← drop-drop 3 63 v, ← drop-drop 3 63 w)
      (like_part (axis s) (axis s) 3 3
      (like_rest 3 9 (axis s) (noise_signs s) (like_rest 63 12 (matrix_signs 21 (axis s) (axis s)) (then_signs 3 (axis s) (noise_signs s)) h)))

module _ (s : Signs) {v w : List Float} where
  -- the innovation and the variance of a scalar update, o numbers after its row
  after_row : (o : ℕ) → o < 2 → LikeList (call_signs Scalar s) 23 v w → LikeList plain 1 (drop o (drop 21 v)) (drop o (drop 21 w))
  after_row o O h = record {
    entry = λ i I. rw (get_or-drop o (drop 21 v) i nan, get_or-drop o (drop 21 w) i nan) ((like_rest 21 2 (axis s) plain h).entry (o + i) (omega arith));
  }

  like_scalar : LikeList (call_signs Scalar s) 23 v w
      → LikeMeasurement plain s 1 (record { output = part v 0 21; innovation = part v 21 1 }) (record { output = part w 0 21; innovation = part w 21 1 })
  like_scalar h = record { output = like_row 21 (like_first 21 2 (axis s) plain h); innovation = like_take (after_row 0 (lit< tt) h) }

  variance_scalar : LikeList (call_signs Scalar s) 23 v w → LikeMatrix plain plain 1 1 (part v 22 1) (part w 22 1)
  variance_scalar h = rw (← drop-drop 1 21 v, ← drop-drop 1 21 w) (like_row 1 (after_row 1 (lit< tt) h))

-- ---- what a call asks

-- a direction that is alike measured, or alike not
like_direction_request : {s : Signs} {p q : Option Measurement} {noise noise' : List Float} {a b : Float} → LikeMeasured s p q
    → LikeMatrix (axis s) (axis s) 3 3 noise noise' → Like false a b → LikeRequest s (direction_request p noise a) (direction_request q noise' b)
like_direction_request (both_measured M) N alpha = like_measurement M N alpha
like_direction_request both_unmeasured N alpha = like_refusal

-- a kind's numbers that take its signs ask for what is alike
like_request : {s : Signs} {run run' : List Float} → LikeList (filter_signs s) filter_length run run' → (kind : Kind) {v w : List Float}
    → LikeList (call_signs kind s) (call_length kind) v w → LikeRequest s (request_of kind run v) (request_of kind run' w)
like_request R Propagate h = like_propagation (like_input_at h) (h.entry 6 (lit< tt)) (like_process_noise_at h)
like_request {s} R Position h =
    like_measurement (like_measured_position (like_from_run s R).x record { x = h.entry 0 (lit< tt); y = h.entry 1 (lit< tt); z = h.entry 2 (lit< tt) })
    (like_noise (like_rest 3 9 (axis s) (noise_signs s) h)) (R.entry three_alphas.position (lit< tt))
like_request {s} R Velocity h =
    like_measurement
    (like_measured_velocity (like_from_run s R).x record { x = h.entry 0 (lit< tt); y = h.entry 1 (lit< tt); z = h.entry 2 (lit< tt) }
    record { x = h.entry 3 (lit< tt); y = h.entry 4 (lit< tt); z = h.entry 5 (lit< tt) })
    (noise_after_six (axis s) plain h) (R.entry three_alphas.velocity (lit< tt))
like_request {s} R Direction h =
    like_direction_request
    (like_measured_direction (like_from_run s R).x record { x = h.entry 0 (lit< tt); y = h.entry 1 (lit< tt); z = h.entry 2 (lit< tt) }
    record { x = h.entry 3 (lit< tt); y = h.entry 4 (lit< tt); z = h.entry 5 (lit< tt) })
    (noise_after_six plain (axis s) h) (R.entry three_alphas.direction (lit< tt))
like_request R General h = like_measurement (like_general h) (noise_general h) (R.entry three_alphas.position (lit< tt))
like_request R State h = like_estimate
like_request {s} R Scalar h = like_measurement (like_scalar s h) (variance_scalar s h) (R.entry three_alphas.position (lit< tt))

-- what is alike asked comes to what is alike
like_performed : {s : Signs} {f g : EqFilter} {r q : Request} {run run' written written' : List Float} → LikeFilter s no_turn no_turn f g → SizedFilter f → SizedFilter g
    → TurnedFilter s run run' → Turned (state_signs s) written written' → LikeRequest s r q
    → LikeOutcome s (performed r f run written) (performed q g run' written')
unfolding performed
like_performed F A B R W (like_refusal {n}) = like_refused W n R.runs
like_performed {f = f} {g = g} F A B R W (like_propagation {u} {v} {t} {r} {p} {q} U T Q) =
    like_outcome_of W (like_propagate F U T Q) (sized_propagate f u t p A) (sized_propagate g v r q B) R
like_performed {f = f} {g = g} F A B R W (like_measurement {w = w} {z} {y} {noise} {noise'} {a} {b} M N alpha) =
    like_outcome_of W (like_update F M.output M.innovation N alpha)
    (sized_update w f z.output z.innovation noise a A) (sized_update w g y.output y.innovation noise' b B) R
like_performed {f = f} {g = g} F A B R W like_estimate =
    record { answer = both_fine; written = state_to_run_turned (like_nav_state F) (sized_nav_state f) (sized_nav_state g); run = R.runs }

-- ---- the call
-- whatever the signs past the numbers that the kind has: a call with more is refused
pub like_call : {s : Signs} {σ : ℕ → Bool} {run run' v w written written' : List Float} (kind : Kind)
    → ((i : ℕ) → i < call_length kind → σ i ≡ call_signs kind s i) → Turned (filter_signs s) run run' → Turned σ v w → Turned (state_signs s) written written'
    → LikeOutcome s (call kind run v written) (call kind run' w written')
unfolding call_in
like_call {s} {σ} {run} {run'} {v} {w} {written} {written'} kind agrees R N W =
    cond_keeps (LikeOutcome s) fits
    (λ e.
    cond_keeps (LikeOutcome s) (ap₂ ◌&&◌ (turned_finite R) (turned_finite N))
    (λ finite. like_range_checked W (result (lengths e)) R)
    (λ blank. like_refused W blank_refusal R))
    (λ e. like_refused W length_refusal R)
  where
    fits : lengths_fit (form_of kind) run v (length written) ≡ lengths_fit (form_of kind) run' w (length written')
    fits = λ i. eqb (R.size i) filter_length && eqb (N.size i) (call_length kind) && eqb (W.size i) (written_length kind)

    lengths : lengths_fit (form_of kind) run v (length written) ≡ true → (length run ≡ filter_length) × (length v ≡ call_length kind)
    lengths e =
        let p = eqb (length run) filter_length in
        let q = eqb (length v) (call_length kind) in
        let r = and_parts p q (and_parts (p && q) (eqb (length written) (written_length kind)) e).0 in
        (eqb-true (length run) filter_length r.0, eqb-true (length v) (call_length kind) r.1)

    -- the numbers that the kind has take its signs
    numbers : length v ≡ call_length kind → LikeList (call_signs kind s) (call_length kind) v w
    numbers e = record {
      entry = λ i I. like_as (agrees i I) (N.alike.entry i (rw e I));
    }

    result : (length run ≡ filter_length) × (length v ≡ call_length kind)
        → LikeOutcome s (performed (request_of kind run v) (from_run run) run written)
        (performed (request_of kind run' w) (from_run run') run' written')
    result e =
        let T : TurnedFilter s run run' = record { size = e.0; runs = R } in
        like_performed (like_from_run s (alike T)) (sized_from_run run (omega (arith, e.0))) (sized_from_run run' (omega (arith, e.0, R.size))) T W (like_request (alike T) kind (numbers e.1))
