-- What changing a filter over keeps: `ChangeOver`. Assumes nothing.
use Prim.Native.Nat.{ℕ, zero, suc, ◌+◌, ◌%◌, ◌<◌}
use native.Mathlib.Omega.{arith}
use mathlib.Core.Path.{◌≡◌, refl, sym, ap, ap₂, ◌∙◌}
use mathlib.Core.Bool.{Bool, true, false, ◌&&◌, cond}
use mathlib.Core.List.{List, [], ◌∷◌, map}
use borrow.Author.Tests.{eqb-true, eq-eqb, ne_eqb, eqb-false}
use lib.Dec.{eqb, leb}
use lib.ListN.{length, get_or, take, drop, length-take, length-drop}
use lib.Seq.{take_at, get_or-take, get_or-drop}
use lib.Ieee.{Float, nan, binary64, lt, of_bits}
use lib.Ieee.Bits.{of_bits-to_bits}
use Rattle.std.proofs.lemmas.Bool.{and_parts}
use Rattle.std.proofs.lemmas.List.{take-append-drop}
use Rattle.drifters_matrix.specs.Matrix.{tab, all_finite}
use Rattle.drifters_eqf.specs.Answer.{Answer, Nis, Fine, Refused, length_refusal, blank_refusal, unequal_refusal, values_of}
use Rattle.drifters_eqf.specs.Filter.{Answered, propagate, update_by}
use Rattle.drifters_eqf.specs.declared.filter.EqFilter.{EqFilter}
use Rattle.drifters_kind.specs.declared.kind.Kind.{Kind}
use Rattle.drifters_kind.specs.declared.kind.Kind.TheVariants.{Propagate, Position, Velocity, Direction, General, State, Scalar}
use Rattle.drifters_kind.specs.Kind.{form_of}
use Rattle.drifters_entry.specs.Layout.{alpha_place, filter_length, one_alpha_length, three_alphas, one_alpha, alphas_of, from_run, SizedFilter}
use Rattle.drifters_entry.specs.Entry.{Request, refusal, propagation, measurement, estimate, request_in, Outcome, outcome, outcome_of, performed, refused, if_finite, range_checked_as, range_checked, lengths_fit_in, call_in}
use Rattle.drifters_entry.proofs.RoundTrips.{length_to_run}
use Rattle.drifters_compasses.specs.Compasses.{reading_length, north_noise_length, most_readings, count_of, compasses_fit_in, tried, direction_numbers, attempt_in, BestTry, nothing, reading, better_by, best_of, CompassesOutcome, compasses_outcome, selected, update_compasses_in}
use Rattle.drifters_upgrade.specs.Upgrade.{upgraded, downgraded, equal_bits, alphas_equal, upgrade, downgrade}
use Rattle.drifters_demands.specs.Like.{unsigned_zero, Signs}
use Rattle.drifters_demands.specs.Turn.{filter_signs, turned}
use Rattle.drifters_demands.specs.Log.{Call, kind_call, compasses_call, kind_answer, compasses_answer, answer_in, left_in, entries_in}
use Rattle.drifters_demands.specs.ChangeOver.{upgraded_entry, half_turned, turn_outcome, Floats, ChangeOver}
use Rattle.drifters_demands.proofs.Sizes.{sized_propagate, sized_update}
use Rattle.drifters_demands.proofs.Signs.Like.{cond_keeps, cond_keeps_same}
use Rattle.drifters_demands.proofs.Signs.Layout.{length_turned, get_d_turned, turned_of_append}
use Rattle.drifters_demands.proofs.Signs.Entry.{turned_finite}
use Rattle.drifters_demands.proofs.Upgrade.{to_run_upgraded, alpha, sized, alphas_one, from_upgraded, alphas_three, alpha_at, finite_upgraded, length_upgraded, length_downgraded, finite_downgraded}

-- ---- what a call asks

module _ (run : List Float) (long : length run ≡ one_alpha_length) where
  request_upgraded : (kind : Kind) (v : List Float) → request_in three_alphas kind (upgraded run) v ≡ request_in one_alpha kind run v
  request_upgraded Propagate v = refl
  request_upgraded Position v = rw (from_upgraded run long, alpha_at run long 0 refl) refl
  request_upgraded Velocity v = rw (from_upgraded run long, alpha_at run long 1 refl) refl
  request_upgraded Direction v = rw (from_upgraded run long, alpha_at run long 2 refl) refl
  request_upgraded General v = rw (alpha_at run long 0 refl) refl
  request_upgraded State v = refl
  request_upgraded Scalar v = rw (alpha_at run long 0 refl) refl

-- ---- what comes of a call

-- an outcome, its filter changed over
abbrev upgraded_outcome : Outcome → Outcome
upgraded_outcome o = outcome o.answer (upgraded o.run) o.written

module _ (run : List Float) (long : length run ≡ one_alpha_length) (written : List Float) where
  abbrev f : EqFilter
  f = from_run run

  -- what comes of a request, changed over or not; the run that is left is one with one alpha
  record Performed (o p : Outcome) : Type 0 where
    upgraded : o ≡ upgraded_outcome p
    size : length p.run ≡ one_alpha_length

  answered : (a : Answered) → SizedFilter a.filter → Performed (outcome_of a (upgraded run) written) (outcome_of a run written)
  answered a size = record {
    upgraded =
        ap (λ (l : List Float). outcome a.answer l written)
        (rw (alphas_three run long, alphas_one run long) (sym (to_run_upgraded a.filter (alpha run long) size)));
    size = length_to_run a.filter (alphas_of run) size ∙ rw (length-drop alpha_place run) (omega (arith, long));
  }

  performed_upgraded : (q : Request) → Performed (performed q f (upgraded run) written) (performed q f run written)
  unfolding performed
  performed_upgraded (refusal n) = record { upgraded = refl; size = long }
  performed_upgraded (propagation u dt q) = answered (propagate f u dt q) (sized_propagate f u dt q (sized run long))
  performed_upgraded (measurement w m noise alpha) = answered (update_by w f m noise alpha) (sized_update w f m.output m.innovation noise alpha (sized run long))
  performed_upgraded estimate = record { upgraded = refl; size = long }

-- what is given out of an outcome
module _ (o : Outcome) (long : length o.run ≡ one_alpha_length) (run written : List Float) where
  if_finite_upgraded : if_finite (upgraded_outcome o) (upgraded run) written ≡ upgraded_outcome (if_finite o run written)
  if_finite_upgraded = cond_keeps (λ (p q : Outcome). p ≡ upgraded_outcome q) (ap (λ (b : Bool). all_finite (values_of o.answer o.written) && b) (finite_upgraded o.run long)) (λ e. refl) (λ e. refl)

  range_checked_upgraded : range_checked (upgraded_outcome o) (upgraded run) written ≡ upgraded_outcome (range_checked o run written)
  unfolding range_checked
  range_checked_upgraded = by_answer o.answer
    where
      by_answer : (a : Answer) → range_checked_as a (upgraded_outcome o) (upgraded run) written ≡ upgraded_outcome (range_checked_as a o run written)
      by_answer (Nis x) = if_finite_upgraded
      by_answer Fine = if_finite_upgraded
      by_answer (Refused n) = refl

-- a run is of the one length where it is of the other when it is changed over
eqb_upgraded : (run : List Float) → eqb (length (upgraded run)) filter_length ≡ eqb (length run) one_alpha_length
eqb_upgraded run = ap (λ (n : ℕ). eqb n filter_length) (length_upgraded run) ∙ by_length (length run)
  where
    by_length : (n : ℕ) → eqb (n + 2) filter_length ≡ eqb n one_alpha_length
    by_length n = by_test (eqb n one_alpha_length) refl
      where
        by_test : (t : Bool) → eqb n one_alpha_length ≡ t → eqb (n + 2) filter_length ≡ t
        by_test true e = eq-eqb (n + 2) filter_length (omega (arith, eqb-true n one_alpha_length e))
        by_test false e = ne_eqb (n + 2) filter_length (λ z. eqb-false n one_alpha_length e (omega (arith, z)))

call_upgraded : (kind : Kind) (run v written : List Float) → call_in three_alphas kind (upgraded run) v written ≡ upgraded_outcome (call_in one_alpha kind run v written)
unfolding call_in
call_upgraded kind run v written =
    cond_keeps (λ (p q : Outcome). p ≡ upgraded_outcome q) fits
    (λ e.
    let l = eqb-true (length run) one_alpha_length (and_parts _ _ (and_parts _ _ (sym fits ∙ e)).0).0 in
    let q = request_in one_alpha kind run v in
    let both = performed_upgraded run l written q in
    cond_keeps (λ (p q : Outcome). p ≡ upgraded_outcome q) (ap (λ (b : Bool). b && all_finite v) (finite_upgraded run l))
    (λ finite.
    rw (request_upgraded run l kind v, from_upgraded run l, both.upgraded)
    (range_checked_upgraded (performed q (from_run run) run written) both.size run written))
    (λ blank. refl))
    (λ e. refl)
  where
    fits : lengths_fit_in three_alphas (form_of kind) (upgraded run) v (length written) ≡ lengths_fit_in one_alpha (form_of kind) run v (length written)
    fits = ap (λ (b : Bool). b && eqb (length v) (form_of kind).numbers && eqb (length written) (form_of kind).written) (eqb_upgraded run)

-- ---- several compasses

-- the best try, its filter changed over
abbrev upgraded_best : BestTry → BestTry
upgraded_best nothing = nothing
upgraded_best (reading i x left) = reading i x (upgraded left)

abbrev upgraded_compasses : CompassesOutcome → CompassesOutcome
upgraded_compasses o = compasses_outcome o.answer (upgraded o.run)

better_upgraded : (b : BestTry) (i : ℕ) (a : Answer) (left : List Float) → better_by (upgraded_best b) i a (upgraded left) ≡ upgraded_best (better_by b i a left)
better_upgraded b i (Nis x) left = by_best b
  where
    by_best : (b : BestTry) → better_by (upgraded_best b) i (Nis x) (upgraded left) ≡ upgraded_best (better_by b i (Nis x) left)
    by_best nothing = refl
    by_best (reading j y other) = cond_keeps_same (λ (p q : BestTry). p ≡ upgraded_best q) (lt x y) (λ e. refl) (λ e. refl)
better_upgraded b i Fine left = refl
better_upgraded b i (Refused n) left = refl

best_upgraded : (tries tries' : ℕ → Outcome) → ((j : ℕ) → tries j ≡ upgraded_outcome (tries' j)) → (k : ℕ) → best_of tries k ≡ upgraded_best (best_of tries' k)
unfolding best_of
best_upgraded tries tries' h zero = refl
best_upgraded tries tries' h (suc k) =
    ap₂ (λ (b : BestTry) (o : Outcome). better_by b k o.answer o.run) (best_upgraded tries tries' h k) (h k)
    ∙ better_upgraded (best_of tries' k) k (tries' k).answer (tries' k).run

selected_upgraded : (k : ℕ) (run : List Float) (b : BestTry) → selected k (upgraded run) (upgraded_best b) ≡ upgraded_compasses (selected k run b)
selected_upgraded k run nothing = refl
selected_upgraded k run (reading i x left) = refl

compasses_upgraded : (run readings north_noise : List Float) (budget : ℕ)
    → update_compasses_in three_alphas (upgraded run) readings north_noise budget ≡ upgraded_compasses (update_compasses_in one_alpha run readings north_noise budget)
unfolding update_compasses_in attempt_in
compasses_upgraded run readings north_noise budget =
    cond_keeps (λ (p q : CompassesOutcome). p ≡ upgraded_compasses q) fits
    (λ e.
    let l = eqb-true (length run) one_alpha_length (first_of_all e) in
    cond_keeps (λ (p q : CompassesOutcome). p ≡ upgraded_compasses q) (ap (λ (b : Bool). b && all_finite north_noise) (finite_upgraded run l))
    (λ finite.
    let k = tried budget (count_of (length readings)) in
    ap (selected k (upgraded run)) (best_upgraded _ _ (λ j. call_upgraded Direction run (direction_numbers readings north_noise j) []) k)
    ∙ selected_upgraded k run (best_of (attempt_in one_alpha run readings north_noise) k))
    (λ blank. refl))
    (λ e. refl)
  where
    fits : compasses_fit_in three_alphas (length (upgraded run)) (length readings) (length north_noise) budget
        ≡ compasses_fit_in one_alpha (length run) (length readings) (length north_noise) budget
    fits =
        let n = length readings in
        ap
        (λ (b : Bool).
        b && eqb (n % reading_length) 0 && leb 1 (count_of n) && leb (count_of n) most_readings && eqb (length north_noise) north_noise_length && leb budget most_readings)
        (eqb_upgraded run)

    first_of_all : compasses_fit_in three_alphas (length (upgraded run)) (length readings) (length north_noise) budget ≡ true → eqb (length run) one_alpha_length ≡ true
    first_of_all e = (and_parts _ _ (and_parts _ _ (and_parts _ _ (and_parts _ _ (and_parts _ _ (sym fits ∙ e)).0).0).0).0).0

-- ---- logs

-- what a call comes to, changed over or not
record EntryUpgraded (run : List Float) (c : Call) : Type 0 where
  answer : answer_in three_alphas (upgraded run) c ≡ answer_in one_alpha run c
  left : left_in three_alphas (upgraded run) c ≡ upgraded (left_in one_alpha run c)

entry_upgraded : (run : List Float) (c : Call) → EntryUpgraded run c
entry_upgraded run (kind_call kind v) =
    let e = call_upgraded kind run v _ in
    record { answer = ap (λ (o : Outcome). kind_answer o.answer o.written) e; left = ap (λ (o : Outcome). o.run) e }
entry_upgraded run (compasses_call readings north_noise budget) =
    let e = compasses_upgraded run readings north_noise budget in
    record { answer = ap (λ (o : CompassesOutcome). compasses_answer o.answer) e; left = ap (λ (o : CompassesOutcome). o.run) e }

entries_upgraded : (run : List Float) (calls : List Call) → entries_in three_alphas (upgraded run) calls ≡ map upgraded_entry (entries_in one_alpha run calls)
unfolding entries_in
entries_upgraded run [] = refl
entries_upgraded run (c ∷ cs) =
    let e = entry_upgraded run c in
    λ i. record { called = c; answer = e.answer i; left = e.left i }
    ∷ (ap (λ (l : List Float). entries_in three_alphas l cs) e.left ∙ entries_upgraded (left_in one_alpha run c) cs) i

-- ---- over and back

module _ (run written : List Float) where
  downgrade_upgraded : length run ≡ one_alpha_length → all_finite run ≡ true → length written ≡ one_alpha_length → downgrade (upgraded run) written ≡ outcome Fine (upgraded run) run
  unfolding downgrade downgraded upgraded alphas_equal
  downgrade_upgraded long finite into =
      rw (eq-eqb _ filter_length (length_upgraded run ∙ omega (arith, long)), eq-eqb _ one_alpha_length into, finite_upgraded run long, finite, equal)
      (ap (outcome Fine (upgraded run)) first)
    where
      first : downgraded (upgraded run) ≡ run
      first = take_at run _ one_alpha_length long

      equal : alphas_equal (upgraded run) ≡ true
      equal = rw (alpha_at run long 0 refl, alpha_at run long 1 refl, alpha_at run long 2 refl) (rw (eq-eqb _ _ refl) refl)

  -- ---- back and over
  module _ (floats : Floats run) (long : length run ≡ filter_length) (equal : alphas_equal run ≡ true) where
    abbrev shared : Float
    shared = get_or run alpha_place nan

    -- a number with the same bits as the first alpha
    same_as_first : (i : ℕ) → i < length run → equal_bits shared (get_or run i nan) ≡ true → get_or run i nan ≡ shared
    same_as_first i I e =
        sym (of_bits-to_bits binary64 (get_or run i nan) (floats i I))
        ∙ ap (of_bits binary64) (sym (eqb-true _ _ e))
        ∙ of_bits-to_bits binary64 shared (floats alpha_place (omega (arith, long)))

    last_two : drop one_alpha_length run ≡ shared ∷ shared ∷ []
    unfolding alphas_equal
    last_two =
        let both = and_parts _ _ equal in
        two (drop one_alpha_length run) (length-drop one_alpha_length run ∙ omega (arith, long))
        ∙ ap₂ (λ (x y : Float). x ∷ y ∷ [])
        (get_or-drop one_alpha_length run 0 nan ∙ same_as_first three_alphas.velocity (omega (arith, long)) both.0)
        (get_or-drop one_alpha_length run 1 nan ∙ same_as_first three_alphas.direction (omega (arith, long)) both.1)
      where
        two : (l : List Float) → length l ≡ 2 → l ≡ get_or l 0 nan ∷ get_or l 1 nan ∷ []
        two [] h = absurd (omega (arith, h))
        two (x ∷ []) h = absurd (omega (arith, h))
        two (x ∷ y ∷ []) h = refl
        two (x ∷ y ∷ z ∷ l) h = absurd (omega (arith, h))

    upgraded_downgraded : upgraded (downgraded run) ≡ run
    unfolding upgraded downgraded
    upgraded_downgraded =
        rw (get_or-take one_alpha_length run alpha_place nan (omega arith), ← last_two) (take-append-drop one_alpha_length run)

    restored : all_finite run ≡ true → (into : List Float) → length into ≡ filter_length → upgrade (downgraded run) into ≡ outcome Fine (downgraded run) run
    unfolding upgrade
    restored finite into size = rw (eq-eqb _ _ (length_downgraded run long), eq-eqb _ _ size, finite_downgraded run finite) (ap (outcome Fine (downgraded run)) upgraded_downgraded)

  upgrade_downgraded : Floats run → (downgrade run written).answer ≡ Fine → (into : List Float) → length into ≡ filter_length
      → upgrade (downgrade run written).written into ≡ outcome Fine (downgrade run written).written run
  unfolding downgrade
  upgrade_downgraded floats fine into size = by_tests (eqb (length run) filter_length && eqb (length written) one_alpha_length) (all_finite run) (alphas_equal run) refl refl refl fine
    where
      by_tests : (fit finite equal : Bool) → (eqb (length run) filter_length && eqb (length written) one_alpha_length) ≡ fit → all_finite run ≡ finite → alphas_equal run ≡ equal
          → let o = cond fit (cond finite (cond equal (outcome Fine run (downgraded run)) (refused unequal_refusal run written)) (refused blank_refusal run written)) (refused length_refusal run written) in
          o.answer ≡ Fine → upgrade o.written into ≡ outcome Fine o.written run
      by_tests true true true l f e z = restored floats (eqb-true _ _ (and_parts _ _ l).0) e f into size
      by_tests true true false l f e z = absurd (cc)
      by_tests true false equal l f e z = absurd (cc)
      by_tests false finite equal l f e z = absurd (cc)

-- ---- half turns

module _ (s : Signs) (run : List Float) where
  finite_turned : all_finite (half_turned s run) ≡ all_finite run
  finite_turned =
      let size = length_turned (filter_signs s) run in
      turned_finite (record { size = size; alike = record { entry = λ i I. record { same = ap unsigned_zero (get_d_turned (filter_signs s) run i (rw (← size) I)) } } })

  upgraded_turned : length run ≡ one_alpha_length → upgraded (half_turned s run) ≡ half_turned s (upgraded run)
  unfolding upgraded turned tab
  upgraded_turned long =
      let alpha = get_or run alpha_place nan in
      rw (get_d_turned (filter_signs s) run alpha_place (omega (arith, long)), turned_of_append (filter_signs s) run (alpha ∷ alpha ∷ []), long) refl

  downgraded_turned : length run ≡ filter_length → downgraded (half_turned s run) ≡ half_turned s (downgraded run)
  unfolding downgraded
  downgraded_turned long =
      let front = take one_alpha_length run in
      ap (λ (l : List Float). take one_alpha_length (half_turned s l)) (sym (take-append-drop one_alpha_length run))
      ∙ ap (take one_alpha_length) (turned_of_append (filter_signs s) front (drop one_alpha_length run))
      ∙ take_at (half_turned s front) _ one_alpha_length (length_turned (filter_signs s) front ∙ length-take one_alpha_length run ∙ omega (arith, long))

  equal_turned : length run ≡ filter_length → alphas_equal (half_turned s run) ≡ alphas_equal run
  unfolding alphas_equal
  equal_turned long =
      rw (get_d_turned (filter_signs s) run three_alphas.position (omega (arith, long)), get_d_turned (filter_signs s) run three_alphas.velocity (omega (arith, long)), get_d_turned (filter_signs s) run three_alphas.direction (omega (arith, long)))
      refl

  module _ (written : List Float) where
    lengths : (n m : ℕ) → eqb (length (half_turned s run)) n && eqb (length (half_turned s written)) m ≡ eqb (length run) n && eqb (length written) m
    lengths n m = ap₂ (λ (i j : ℕ). eqb i n && eqb j m) (length_turned (filter_signs s) run) (length_turned (filter_signs s) written)

    first_length : (n m : ℕ) → eqb (length (half_turned s run)) n && eqb (length (half_turned s written)) m ≡ true → length run ≡ n
    first_length n m e = eqb-true (length run) n (and_parts _ _ (sym (lengths n m) ∙ e)).0

    upgrade_turned : upgrade (half_turned s run) (half_turned s written) ≡ turn_outcome s (upgrade run written)
    unfolding upgrade
    upgrade_turned =
        cond_keeps (λ (p q : Outcome). p ≡ turn_outcome s q) (lengths one_alpha_length filter_length)
        (λ e.
        cond_keeps (λ (p q : Outcome). p ≡ turn_outcome s q) finite_turned
        (λ finite. ap (outcome Fine (half_turned s run)) (upgraded_turned (first_length one_alpha_length filter_length e)))
        (λ blank. refl))
        (λ e. refl)

    downgrade_turned : downgrade (half_turned s run) (half_turned s written) ≡ turn_outcome s (downgrade run written)
    unfolding downgrade
    downgrade_turned =
        cond_keeps (λ (p q : Outcome). p ≡ turn_outcome s q) (lengths filter_length one_alpha_length)
        (λ e.
        cond_keeps (λ (p q : Outcome). p ≡ turn_outcome s q) finite_turned
        (λ finite.
        cond_keeps (λ (p q : Outcome). p ≡ turn_outcome s q) (equal_turned (first_length filter_length one_alpha_length e))
        (λ equal. ap (outcome Fine (half_turned s run)) (downgraded_turned (first_length filter_length one_alpha_length e)))
        (λ unequal. refl))
        (λ blank. refl))
        (λ e. refl)

pub change_over : ChangeOver
change_over = record {
  later = λ run calls i. record { first = upgraded run; entries = entries_upgraded run calls i };
  downgrade_upgraded = downgrade_upgraded;
  upgrade_downgraded = λ run written floats fine into size. upgrade_downgraded run written floats fine into size;
  upgrade_turned = upgrade_turned;
  downgrade_turned = downgrade_turned;
}
