-- The best of some tries has the smallest normalised innovation squared, and is the earliest that has it. Assumes nothing.
use Prim.Native.Nat.{ℕ, zero, suc, ◌≤◌, ◌<◌}
use mathlib.Core.Path.{◌≡◌, refl, sym, ap, ◌∙◌, subst, subst₂}
use mathlib.Core.Bool.{Bool, true, false, cond, true≢false}
use mathlib.Core.Logic.{◌⊎◌, inl, inr}
use mathlib.Core.List.{List}
use native.Mathlib.Nat.{eq-or-lt_of_le, le_of_lt, lt_of_not-le}
use native.Mathlib.Decide.{dec_le}
use native.Mathlib.Omega.{arith}
use borrow.Author.Count.{below_more}
use lib.Ieee.{Float, nan, inf, fin, lt, is_nan}
use Rattle.std.specs.Float.{◌≤ᶠ◌, ◌<ᶠ◌, NotNan}
use Rattle.std.proofs.lemmas.Float as float
use Rattle.drifters_real.specs.Real.{is_finite}
use Rattle.drifters_eqf.specs.Answer.{Answer, Nis, Refused}
use Rattle.drifters_entry.specs.Entry.{Outcome}
use Rattle.drifters_compasses.specs.Compasses.{BestTry, nothing, reading, better_by, best_of, selected}
use Rattle.drifters_compasses.specs.Compasses as compasses
use Rattle.drifters_demands.specs.Demands.{EarliestSmallest, Chooses}

-- what a try answers: a finite normalised innovation squared, or a refusal
pub data TryAnswer : Answer → Type 0 where
  accepted : {x : Float} → is_finite x ≡ true → TryAnswer (Nis x)
  passed_over : {n : ℕ} → TryAnswer (Refused n)

-- ---- answers

nis_not_refused : {A : Type 0} {a : Answer} {x : Float} {n : ℕ} → a ≡ Nis x → a ≡ Refused n → A
nis_not_refused e f = absurd (cc)

same_nis : {a : Answer} {x y : Float} → a ≡ Nis x → a ≡ Nis y → x ≡ y
same_nis e f = cc

pub finite_value : {a : Answer} {x : Float} → TryAnswer a → a ≡ Nis x → is_finite x ≡ true
finite_value (accepted h) e = subst (λ (z : Float). is_finite z ≡ true) (same_nis refl e) h
finite_value passed_over e = nis_not_refused e refl

not_nan : (x : Float) → is_finite x ≡ true → NotNan x
unfolding is_finite is_nan
not_nan nan h = absurd (true≢false (sym h))
not_nan (inf s) h = tt
not_nan (fin s m e) h = tt

module _ (tries : ℕ → Outcome) (answered : (j : ℕ) → TryAnswer (tries j).answer) where
  abbrev answers : ℕ → Answer
  answers j = (tries j).answer

  nis_not_nan : {j : ℕ} {x : Float} → answers j ≡ Nis x → NotNan x
  nis_not_nan {j} {x} e = not_nan x (finite_value (answered j) e)

  -- each of the first k tries is refused
  abbrev AllRefused : ℕ → Type 0
  AllRefused k = (j : ℕ) → j < k → (m : ℕ) × (answers j ≡ Refused m)

  -- what the best of the first k tries is
  data IsBest (k : ℕ) : BestTry → Type 0 where
    no_best : AllRefused k → IsBest k nothing
    one_best : {i : ℕ} {x : Float} {left : List Float} → EarliestSmallest answers k i x → left ≡ (tries i).run → IsBest k (reading i x left)

  -- what a number is at most, that of a try is
  at_most : (x : Float) {k : ℕ} {z : Float} → answers k ≡ Nis z → x ≤ᶠ z → (y : Float) → answers k ≡ Nis y → x ≤ᶠ y
  at_most x e l y a = subst (λ (w : Float). x ≤ᶠ w) (same_nis e a) l

  -- try k is not smaller than the best before
  not_smaller : {i : ℕ} {x : Float} (k : ℕ) → EarliestSmallest answers k i x → ((y : Float) → answers k ≡ Nis y → x ≤ᶠ y) → EarliestSmallest answers (suc k) i x
  not_smaller {i} {x} k s not_less = record {
    within = let h = s.within in omega arith;
    accepted = s.accepted;
    smallest = λ j y h. below_more (λ j. answers j ≡ Nis y → x ≤ᶠ y) k (λ j h. s.smallest j y h) (not_less y) j (omega arith);
    earliest = s.earliest;
  }

  -- try k is refused
  more_refused : {k n : ℕ} {b : BestTry} → answers k ≡ Refused n → IsBest k b → IsBest (suc k) b
  more_refused {k} {n} e (no_best all) = no_best (λ j h. below_more (λ j. (m : ℕ) × (answers j ≡ Refused m)) k all (n, e) j (omega arith))
  more_refused {k} {n} e (one_best s left) = one_best (not_smaller k s (λ y a. nis_not_refused a e)) left

  -- try k is the first that is accepted
  first_accepted : {k : ℕ} {x : Float} → answers k ≡ Nis x → AllRefused k → EarliestSmallest answers (suc k) k x
  first_accepted {k} {x} e all = record {
    within = omega arith;
    accepted = e;
    smallest = λ j y h.
        below_more (λ j. answers j ≡ Nis y → x ≤ᶠ y) k (λ j h a. nis_not_refused a (all j h).1) (at_most x e (float.le_refl x (nis_not_nan e)) y) j (omega arith);
    earliest = λ j y h a. nis_not_refused a (all j h).1;
  }

  -- try k is smaller than the best before
  smaller : {k i : ℕ} {x z : Float} → answers k ≡ Nis z → z <ᶠ x → EarliestSmallest answers k i x → EarliestSmallest answers (suc k) k z
  smaller {k} {i} {x} {z} e l s = record {
    within = omega arith;
    accepted = e;
    smallest = λ j y h.
        below_more (λ j. answers j ≡ Nis y → z ≤ᶠ y) k (λ j h a. float.le_of_lt z y (below j y h a)) (at_most z e (float.le_refl z (nis_not_nan e)) y) j (omega arith);
    earliest = below;
  }
    where
      below : (j : ℕ) (y : Float) → j < k → answers j ≡ Nis y → z <ᶠ y
      below j y h a = float.lt_of_lt_of_le z x y l (s.smallest j y h a)

  one_more : {k : ℕ} {b : BestTry} {a : Answer} → answers k ≡ a → TryAnswer a → IsBest k b → IsBest (suc k) (better_by b k a (tries k).run)
  one_more {k} e (accepted h) (no_best all) = one_best (first_accepted e all) refl
  one_more {k} e (accepted {x = z} h) (one_best {i} {x} {left} s l) = by_test (lt z x) refl
    where
      by_test : (t : Bool) → lt z x ≡ t → IsBest (suc k) (cond t (reading k z (tries k).run) (reading i x left))
      by_test true t = one_best (smaller e (float.T_from_true (lt z x) t) s) refl
      by_test false t = one_best (not_smaller k s (at_most x e (float.le_of_not-lt z x (nis_not_nan e) (nis_not_nan s.accepted) (float.T_from_false (lt z x) t)))) l
  one_more e passed_over b = more_refused e b

  is_best : (k : ℕ) → IsBest k (best_of tries k)
  unfolding best_of
  is_best zero = no_best (λ j h. absurd (omega arith))
  is_best (suc k) = one_more refl (answered k) (is_best k)

  -- there is one such try only
  same_try : {k i j : ℕ} {x y : Float} → EarliestSmallest answers k i x → EarliestSmallest answers k j y → i ≤ j → i ≡ j
  same_try {k} {i} {j} {x} {y} s r h = go (eq-or-lt_of_le h)
    where
      go : (i ≡ j) ⊎ (i < j) → i ≡ j
      go (inl e) = e
      go (inr l) = absurd (float.lt_irrefl y (float.lt_of_lt_of_le y x y (r.earliest i x l s.accepted) (s.smallest j y r.within r.accepted)))

  -- ---- what is chosen

  pub chooses : (k : ℕ) (run : List Float) → Chooses k tries (selected k run (best_of tries k))
  chooses k run = by_best (best_of tries k) (is_best k)
    where
      unique : {i j n : ℕ} {x y : Float} → EarliestSmallest answers k i x → (n ≡ k) × EarliestSmallest answers k j y
          → compasses.Chosen i x k ≡ compasses.Chosen j y n
      unique {i} {j} {n} {x} {y} s h =
          let same : i ≡ j = by_order (dec_le i j) in
          let nis : x ≡ y = same_nis s.accepted (ap answers same ∙ h.1.accepted) in
          λ t. compasses.Chosen (same t) (nis t) (sym h.0 t)
        where
          by_order : Dec (i ≤ j) → i ≡ j
          by_order (yes l) = same_try s h.1 l
          by_order (no g) = sym (same_try h.1 s (le_of_lt (lt_of_not-le g)))

      by_best : (b : BestTry) → IsBest k b → Chooses k tries (selected k run b)
      by_best nothing (no_best all) = record {
        chosen = λ i n x. (λ e. absurd (cc), λ h. nis_not_refused h.1.accepted (all i h.1.within).1);
        left = λ i n x e. absurd (cc);
        none = λ n. (λ e. (cc, all), λ h. ap compasses.None (sym h.0));
      }
      by_best (reading i x left) (one_best s l) = record {
        chosen = λ j n y. (λ e. (cc, subst₂ (EarliestSmallest answers k) (cc) (cc) s), λ h. unique s h);
        left = λ j n y e. l ∙ ap (λ (m : ℕ). (tries m).run) (cc);
        none = λ n. (λ e. absurd (cc), λ h. nis_not_refused s.accepted (h.1 i s.within).1);
      }
