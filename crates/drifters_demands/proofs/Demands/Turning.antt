-- An update by several compasses on runs that are the same but for the signs of specs/Turn.antt chooses the same reading. Assumes nothing.
use Prim.Native.Nat.{ℕ, zero, suc, ◌+◌, ◌-◌, ◌*◌, ◌≤◌, ◌<◌}
use mathlib.Core.Path.{◌≡◌, refl, sym, ap, ap₂, ◌∙◌}
use mathlib.Core.Bool.{Bool, false, ◌&&◌, cond}
use mathlib.Core.List.{List, ◌++◌}
use native.Mathlib.Omega.{arith}
use borrow.Author.Tests.{lt-ltb}
use lib.Dec.{ltb}
use lib.ListN.{length, drop, length-append, length-take, length-drop, get_or-append}
use lib.Seq.{drop_at, get_or-take, get_or-drop}
use lib.Ieee.{Float, nan}
use Rattle.drifters_eqf.specs.Answer.{Answer, length_refusal, blank_refusal}
use Rattle.drifters_entry.specs.Layout.{three_alphas, part}
use Rattle.drifters_entry.specs.Entry.{Outcome}
use Rattle.drifters_kind.specs.declared.kind.Kind.TheVariants.{Direction}
use Rattle.drifters_compasses.specs.Compasses.{reading_length, north_noise_length, count_of, compasses_fit, tried, direction_numbers, attempt_in, BestTry, nothing, reading, takes_place, better_by, best_of, CompassesOutcome, compasses_outcome, selected, update_compasses_in, update_compasses}
use Rattle.drifters_compasses.specs.Compasses as compasses
use Rattle.drifters_demands.specs.Like.{Like, Signs}
use Rattle.drifters_demands.specs.Turn.{plain, then_signs, north_noise_signs, filter_signs, call_signs}
use Rattle.drifters_demands.specs.Demands.{EqualChoice, both_chosen, both_none, both_compasses_refused}
use Rattle.drifters_demands.proofs.Signs.Like.{cond_keeps}
use Rattle.drifters_demands.proofs.Signs.Compare.{like_lt}
use Rattle.drifters_demands.proofs.Signs.FilterRecords.{LikeAnswer, both_nis_lem, both_fine, both_refused_lem}
use Rattle.drifters_demands.proofs.Signs.Layout.{Turned, like_then}
use Rattle.drifters_demands.proofs.Signs.Entry.{LikeOutcome, turned_zeros, turned_finite, like_call}
use Rattle.drifters_demands.proofs.Demands.Equality.{equal_of_same}

-- ---- the numbers of a try

-- one run after another of n numbers
turned_append : {n : ℕ} {σ τ : ℕ → Bool} {a b v w : List Float} → length a ≡ n → Turned σ a b → Turned τ v w → Turned (then_signs n σ τ) (a ++ v) (b ++ w)
turned_append {n} {σ} {τ} {a} {b} {v} {w} N A W =
    let M : length b ≡ n = sym A.size ∙ N in
    record {
      size = length-append a v ∙ ap₂ ◌+◌ A.size W.size ∙ sym (length-append b w);
      alike = rw (length-append a v, N)
          (like_then n (length v) σ τ
          record { entry = λ i I. rw (get_or-append a v nan i (omega arith), get_or-append b w nan i (omega arith)) (A.alike.entry i (omega arith)) }
          (rw (drop_at a v n N, drop_at b w n M) W.alike));
    }

-- a part of a run that does not turn
turned_part : {a b : List Float} (i n : ℕ) → Turned plain a b → Turned plain (part a i n) (part b i n)
turned_part {a} {b} i n h = record {
  size = simp (length-take, length-drop) (omega (arith, h.size));
  alike = record {
    entry = λ j J.
        let N : j < n = omega (arith, J, length-take n (drop i a)) in
        let L : i + j < length a = omega (arith, J, length-take n (drop i a), length-drop i a) in
        rw (get_or-take n (drop i a) j nan N, get_or-take n (drop i b) j nan N, get_or-drop i a j nan, get_or-drop i b j nan) (h.alike.entry (i + j) L);
  };
}

-- a reading, then north and noise, have the signs of the numbers of a direction call
agrees : (s : Signs) (i : ℕ) → i < 15 → then_signs 3 plain (then_signs north_noise_length (north_noise_signs s) plain) i ≡ call_signs Direction s i
agrees s i I = ap (λ (t : Bool). cond (ltb i 3) false (cond t (north_noise_signs s (i - 3)) false)) (lt-ltb (i - 3) 12 (omega arith))

-- a reading that is tried lies within the run
reading_within : (budget n j : ℕ) → j < tried budget (count_of n) → j * reading_length + reading_length ≤ n
unfolding tried
reading_within budget n j h = omega arith

-- ---- the best try

-- both nothing, or the same reading, with normalised innovations squared that are alike and filters that are turned
data LikeBest (s : Signs) : BestTry → BestTry → Type 0 where
  both_nothing : LikeBest s nothing nothing
  both_reading : {i : ℕ} {x y : Float} {l m : List Float} → Like false x y → Turned (filter_signs s) l m → LikeBest s (reading i x l) (reading i y m)

module _ {s : Signs} where
  like_takes_place : {x y : Float} {b d : BestTry} → Like false x y → LikeBest s b d → takes_place x b ≡ takes_place y d
  like_takes_place h both_nothing = refl
  like_takes_place h (both_reading k t) = like_lt h k

  like_better_by : {b d : BestTry} (i : ℕ) {a z : Answer} {l m : List Float} → LikeBest s b d → LikeAnswer a z → Turned (filter_signs s) l m
      → LikeBest s (better_by b i a l) (better_by d i z m)
  like_better_by i B (both_nis_lem h) t = cond_keeps (LikeBest s) (like_takes_place h B) (λ e. both_reading h t) (λ e. B)
  like_better_by i B both_fine t = B
  like_better_by i B both_refused_lem t = B

  like_best_of : {tries tries' : ℕ → Outcome} (k : ℕ) → ((j : ℕ) → j < k → LikeOutcome s (tries j) (tries' j)) → LikeBest s (best_of tries k) (best_of tries' k)
  unfolding best_of
  like_best_of zero h = both_nothing
  like_best_of (suc k) h = like_better_by k (like_best_of k (λ j J. h j (omega arith))) (h k (omega arith)).answer (h k (omega arith)).run

-- ---- the call

pub record TurnedChoice (s : Signs) (o p : CompassesOutcome) : Type 0 where
  pub answer : EqualChoice o.answer p.answer
  pub run : Turned (filter_signs s) o.run p.run

module _ {s : Signs} {run run' readings readings' v v' : List Float} (R : Turned (filter_signs s) run run') (D : Turned plain readings readings')
    (N : Turned (then_signs north_noise_length (north_noise_signs s) plain) v v') where
  like_attempt : (j : ℕ) → j * reading_length + reading_length ≤ length readings → LikeOutcome s (attempt_in three_alphas run readings v j) (attempt_in three_alphas run' readings' v' j)
  unfolding attempt_in direction_numbers
  like_attempt j h =
      like_call Direction (agrees s) R
      (turned_append {n = 3} (simp (length-take, length-drop) (omega arith)) (turned_part (j * reading_length) reading_length D) N) (turned_zeros 0)

  like_selected : {b d : BestTry} (k : ℕ) → LikeBest s b d → TurnedChoice s (selected k run b) (selected k run' d)
  like_selected k both_nothing = record { answer = both_none; run = R }
  like_selected k (both_reading {x = x} {y = y} h t) = record { answer = both_chosen (equal_of_same x y h.same); run = t }

  like_refusal : (n : ℕ) → TurnedChoice s (compasses_outcome (compasses.Refused n) run) (compasses_outcome (compasses.Refused n) run')
  like_refusal n = record { answer = both_compasses_refused; run = R }

  pub compasses_turned : (budget : ℕ) → TurnedChoice s (update_compasses run readings v budget) (update_compasses run' readings' v' budget)
  unfolding update_compasses_in
  compasses_turned budget =
      cond_keeps (TurnedChoice s) (λ i. compasses_fit (R.size i) (D.size i) (N.size i) budget)
      (λ fit.
      cond_keeps (TurnedChoice s) (ap₂ ◌&&◌ (turned_finite R) (turned_finite N))
      (λ finite.
      let k = tried budget (count_of (length readings)) in
      rw (← D.size) (like_selected k (like_best_of k (λ j J. like_attempt j (reading_within budget (length readings) j J)))))
      (λ blank. like_refusal blank_refusal))
      (λ unfit. like_refusal length_refusal)
