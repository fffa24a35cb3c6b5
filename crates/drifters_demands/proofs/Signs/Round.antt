-- How `round` and `sum`, on which the operations of `lib.Ieee` rest, take a sign and a zero. Assumes nothing.
use mathlib.Core.Path.{◌≡◌, refl, sym, ◌∙◌}
use Prim.Native.Nat.{ℕ, zero, suc, ◌+◌, ◌-◌, ◌<◌, ◌≤◌}
use native.Mathlib.Nat.{zero-mul, zero-lt-suc, zero-add, add-zero, sub-zero}
use native.Mathlib.Omega.{arith}
use borrow.Author.Tests.{lt-ltb}
use mathlib.Core.Bool.{Bool, true, false, not, cond}
use lib.Dec.{T, ltb, nltb→le, leb-suc-zero}
use lib.Ieee.{Float, Format, binary32, binary64, odd, round, sum, neg}
use lib.Ieee.Scale.{round_same}
use Rattle.drifters_demands.specs.Like.{unsigned_zero}
use Rattle.drifters_demands.proofs.Signs.Like.{fin_zero, signed_same}

-- ---- `round`
pub neg_cond : (b : Bool) (x y : Float) → neg (cond b x y) ≡ cond b (neg x) (neg y)
neg_cond true x y = refl
neg_cond false x y = refl

neg_odd : (d : ℕ) (s : Bool) (q k l : ℕ) → neg (odd d s q k l) ≡ odd d (not s) q k l
unfolding neg odd
neg_odd d s zero k l = refl
neg_odd d s (suc q) k l = refl

pub neg_round : (f : Format) (s : Bool) (a c : ℕ) → neg (round f s a c) ≡ round f (not s) a c
unfolding round neg
neg_round f s a c = simp (neg_cond, neg_odd)

pub round_zero : (f : Format) (s : Bool) (c : ℕ) → 0 < c → unsigned_zero (round f s 0 c) ≡ fin_zero
round_zero f s c C = rw (round_same f s 0 c 0 1 C (zero-lt-suc 0) (simp zero-mul)) (at_one f)
  where
    at_one : (g : Format) → unsigned_zero (round g s 0 1) ≡ fin_zero
    at_one binary32 = unfold round in refl
    at_one binary64 = unfold round in refl

-- ---- `sum` of two signs that are alike, and of two that are not: there the larger decides, and two that are equal give a zero
sum_alike : (f : Format) (s : Bool) (a b c : ℕ) → sum f s a s b c ≡ round f s (a + b) c
unfolding sum
sum_alike f true a b c = refl
sum_alike f false a b c = refl

abbrev opposite : Format → Bool → ℕ → ℕ → ℕ → Float
opposite f s a b c = cond (ltb a b) (round f (not s) (b - a) c) (round f s (a - b) c)

none_left : (a b : ℕ) → a ≤ b → a - b ≡ 0
none_left a b h = omega arith

sum_opposite : (f : Format) (s : Bool) (a b c : ℕ) → 0 < c → unsigned_zero (sum f s a (not s) b c) ≡ unsigned_zero (opposite f s a b c)
unfolding sum
sum_opposite f false a b c C = refl
sum_opposite f true a b c C = go (ltb a b) (ltb b a) (nltb→le b a)
  where
    go : (p q : Bool) → (T (not q) → a ≤ b)
        → unsigned_zero (cond p (round f false (b - a) c) (round f q (a - b) c)) ≡ unsigned_zero (cond p (round f false (b - a) c) (round f true (a - b) c))
    go true q h = refl
    go false true h = refl
    go false false h = rw (none_left a b (h tt)) (round_zero f false c C ∙ sym (round_zero f true c C))

neg_opposite : (f : Format) (s : Bool) (a b c : ℕ) → neg (opposite f s a b c) ≡ opposite f (not s) a b c
neg_opposite f s a b c = simp (neg_cond, neg_round)

pub neg_sum : (f : Format) (s t : Bool) (a b c : ℕ) → 0 < c → unsigned_zero (sum f (not s) a (not t) b c) ≡ unsigned_zero (neg (sum f s a t b c))
neg_sum f true true a b c C = simp (sum_alike, neg_round)
neg_sum f false false a b c C = simp (sum_alike, neg_round)
neg_sum f true false a b c C = cc (sum_opposite f false a b c C, signed_same true (sum f true a false b c) (opposite f true a b c) (sum_opposite f true a b c C), neg_opposite f true a b c)
neg_sum f false true a b c C = cc (sum_opposite f true a b c C, signed_same true (sum f false a true b c) (opposite f false a b c) (sum_opposite f false a b c C), neg_opposite f false a b c)

-- ---- with a zero on one side
opposite_zero_l : (f : Format) (s : Bool) (b c : ℕ) → 0 < c → unsigned_zero (opposite f s 0 b c) ≡ unsigned_zero (round f (not s) b c)
opposite_zero_l f s zero c C = round_zero f s c C ∙ sym (round_zero f (not s) c C)
opposite_zero_l f s (suc b) c C = rw (lt-ltb 0 (suc b) (zero-lt-suc b), sub-zero)

opposite_zero_r : (f : Format) (s : Bool) (a c : ℕ) → unsigned_zero (opposite f s a 0 c) ≡ unsigned_zero (round f s a c)
opposite_zero_r f s a c = simp (leb-suc-zero, sub-zero)

pub sum_zero_l : (f : Format) (s t : Bool) (b c : ℕ) → 0 < c → unsigned_zero (sum f s 0 t b c) ≡ unsigned_zero (round f t b c)
sum_zero_l f true true b c C = simp (sum_alike, zero-add)
sum_zero_l f false false b c C = simp (sum_alike, zero-add)
sum_zero_l f true false b c C = sum_opposite f true 0 b c C ∙ opposite_zero_l f true b c C
sum_zero_l f false true b c C = sum_opposite f false 0 b c C ∙ opposite_zero_l f false b c C

pub sum_zero_r : (f : Format) (s t : Bool) (a c : ℕ) → 0 < c → unsigned_zero (sum f s a t 0 c) ≡ unsigned_zero (round f s a c)
sum_zero_r f true true a c C = simp (sum_alike, add-zero)
sum_zero_r f false false a c C = simp (sum_alike, add-zero)
sum_zero_r f true false a c C = sum_opposite f true a 0 c C ∙ opposite_zero_r f true a c
sum_zero_r f false true a c C = sum_opposite f false a 0 c C ∙ opposite_zero_r f false a c
