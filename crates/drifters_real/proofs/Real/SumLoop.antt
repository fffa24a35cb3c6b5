-- The loop of `power_sums`: what holds at its head, that a pass keeps it, and what it comes to.
use Rattle.std.proofs.Common.{◌≡◌, ℕ, zero, suc, ◌+◌, ◌-◌, ◌*◌, ◌/◌, ◌^◌, ◌<◌, ◌≤◌, Bool, true, ◌&&◌, T, leb, ◌⊎◌, sym, refl, ap, ◌∙◌, subst, ap₂, inl, inr, zero-le, le_trans, le_of_suc-le-suc, lt_of_le_of_lt, add-zero, le_of_lt, mul-le-mul, le_antisymm, eq-or-lt_of_le, mul-pos, mul-zero, zero-add, zero-mul, add-one, arith, lit<, lit≤, leb→le}
use native.Mathlib.Nat.{zero-div, suc-add, sub-add_cancel}
use lib.Ieee.Fits.{and_l, and_r}
use Rattle.drifters_real.specs.Real.{sum_of, term, sinc_plus, sinc_minus, cos_plus, cos_minus}
use Rattle.drifters_real.specs.Limbs.{value, IsWide, square_limit}
use Rattle.drifters_real.specs.declared.math.real.Wide.{Wide}
use Rattle.drifters_real.proofs.Real.Terms.{term_mono}
use Rattle.drifters_real.proofs.Real.SumGaps.{sinc_plus_mono, sinc_minus_mono, cos_plus_mono, cos_minus_mono}

-- ---- a test at every number below n
all : (ℕ → Bool) → ℕ → Bool
all p zero = true
all p (suc n) = p n && all p n

all_at : (p : ℕ → Bool) (n k : ℕ) → T (all p n) → k < n → T (p k)
unfolding all
all_at p zero k t h = absurd (no k h)
  where
    no : (k : ℕ) → k < 0 → ⊥
    no k h = omega arith
all_at p (suc n) k t h = elim (eq-or-lt_of_le (le_of_suc-le-suc h)) [
  | inl e ↦ subst (λ (x : ℕ). T (p x)) (sym e) (and_l (p n) (all p n) t)
  | inr l ↦ all_at p n k (and_r (p n) (all p n) t) l
]

-- ---- the terms are small
at_limit : T (all (λ k. leb (term square_limit k) (2 ^ 70)) 34)
unfolding all term
at_limit = tt

term_small : (x k : ℕ) → x ≤ square_limit → k < 34 → term x k ≤ 2 ^ 70
term_small x k h l = le_trans (term_mono x square_limit k h) (leb→le (term square_limit k) (2 ^ 70) (all_at (λ k. leb (term square_limit k) (2 ^ 70)) 34 k at_limit l))

-- ---- the terms, two at a time
term_odd : (x i : ℕ) → term x (2 * i + 1) ≡ term x (2 * i) * x / (2 ^ 64 * ((4 * i + 2) * (4 * i + 3)))
unfolding term
term_odd x i = ap (term x) (add-one (2 * i)) ∙ ap₂ (λ (a b : ℕ). term x (2 * i) * x / (2 ^ 64 * (a * b))) (two i) (three i)
  where
    two : (i : ℕ) → 2 * (2 * i) + 2 ≡ 4 * i + 2
    two i = omega arith

    three : (i : ℕ) → 2 * (2 * i) + 3 ≡ 4 * i + 3
    three i = omega arith

term_even : (x i : ℕ) → term x (2 * (i + 1)) ≡ term x (2 * i + 1) * x / (2 ^ 64 * ((4 * i + 4) * (4 * i + 5)))
unfolding term
term_even x i = ap (term x) (next i) ∙ ap₂ (λ (a b : ℕ). term x (2 * i + 1) * x / (2 ^ 64 * (a * b))) (four i) (five i)
  where
    next : (i : ℕ) → 2 * (i + 1) ≡ suc (2 * i + 1)
    next i = omega arith

    four : (i : ℕ) → 2 * (2 * i + 1) + 2 ≡ 4 * i + 4
    four i = omega arith

    five : (i : ℕ) → 2 * (2 * i + 1) + 3 ≡ 4 * i + 5
    five i = omega arith

-- ---- where a term is 0 all later ones are
later : (x k j : ℕ) → term x k ≡ 0 → term x (j + k) ≡ 0
unfolding term
later x k zero e = ap (term x) (zero-add k) ∙ e
later x k (suc j) e =
    ap (term x) (suc-add j k) ∙ ap (λ (y : ℕ). y * x / (2 ^ 64 * ((2 * (j + k) + 2) * (2 * (j + k) + 3)))) (later x k j e)
    ∙ ap (λ (y : ℕ). y / (2 ^ 64 * ((2 * (j + k) + 2) * (2 * (j + k) + 3)))) (zero-mul x) ∙ zero-div (2 ^ 64 * ((2 * (j + k) + 2) * (2 * (j + k) + 3)))

later_from : (x a k : ℕ) → term x a ≡ 0 → a ≤ k → term x k ≡ 0
later_from x a k e h = ap (term x) (sym (sub-add_cancel h)) ∙ later x a (k - a) e

later_even : (x i j : ℕ) → term x (2 * i) ≡ 0 → i ≤ j → term x (2 * j) ≡ 0
later_even x i j e h = later_from x (2 * i) (2 * j) e (omega arith)

later_odd : (x i j : ℕ) → term x (2 * i) ≡ 0 → i ≤ j → term x (2 * j + 1) ≡ 0
later_odd x i j e h = later_from x (2 * i) (2 * j + 1) e (omega arith)

-- a sum that has nothing more to add
ended : (f : ℕ → ℕ) (i d : ℕ) → ((j : ℕ) → i ≤ j → f j ≡ 0) → sum_of f (d + i) ≡ sum_of f i
unfolding sum_of
ended f i zero h = ap (sum_of f) (zero-add i)
ended f i (suc d) h = ap (sum_of f) (suc-add d i) ∙ ap₂ (λ (a b : ℕ). a + b) (ended f i d h) (h (d + i) (reach d i)) ∙ add-zero (sum_of f i)
  where
    reach : (d i : ℕ) → i ≤ d + i
    reach d i = omega arith

ended_at : (f : ℕ → ℕ) (i : ℕ) → i ≤ 16 → ((j : ℕ) → i ≤ j → f j ≡ 0) → sum_of f i ≡ sum_of f 16
ended_at f i l h = sym (ended f i (16 - i) h) ∙ ap (sum_of f) (sub-add_cancel l)

-- ---- the four sums' terms
abbrev pub sp_term : ℕ → ℕ → ℕ
sp_term x i = term x (2 * i)

abbrev pub sn_term : ℕ → ℕ → ℕ
sn_term x i = term x (2 * i + 1)

abbrev pub cp_term : ℕ → ℕ → ℕ
cp_term x i = (4 * i + 1) * term x (2 * i)

abbrev pub cn_term : ℕ → ℕ → ℕ
cn_term x i = (4 * i + 3) * term x (2 * i + 1)

-- s stands for v, the sum of i numbers, each with parts of at most 2 ^ 44 and 2 ^ 38
pub record PartialSum (i : ℕ) (s : Wide) (v : ℕ) : Type 0 where
  pub is : value s ≡ v
  pub high : s.h ≤ i * 2 ^ 44
  pub low : s.l ≤ i * 2 ^ 38

-- what holds at the loop's head
pub record SumsSoFar (x : ℕ) (w sp sn cp cn : Wide) (i : ℕ) : Type 0 where
  pub count : i ≤ 16
  pub term_is : IsWide w (term x (2 * i))
  pub sin_plus : PartialSum i sp (sum_of (sp_term x) i)
  pub sin_minus : PartialSum i sn (sum_of (sn_term x) i)
  pub cos_plus : PartialSum i cp (sum_of (cp_term x) i)
  pub cos_minus : PartialSum i cn (sum_of (cn_term x) i)

-- a term's high part
pub high_small : (x k : ℕ) (w : Wide) → x ≤ square_limit → k < 34 → IsWide w (term x k) → w.h ≤ 2 ^ 38
high_small x k w X K h = bound w.h w.l (term x k) h.is (term_small x k X K)
  where
    bound : (h l t : ℕ) → h * 2 ^ 32 + l ≡ t → t ≤ 2 ^ 70 → h ≤ 2 ^ 38
    bound h l t e b = omega arith

-- the first k numbers of a sum, and one more
sum_next : (f : ℕ → ℕ) (i : ℕ) → sum_of f (i + 1) ≡ sum_of f i + f i
unfolding sum_of
sum_next f i = ap (sum_of f) (add-one i)

pub added : (f : ℕ → ℕ) (i k t : ℕ) (s w r : Wide) → PartialSum i s (sum_of f i) → IsWide w t → w.h ≤ 2 ^ 38 → k ≤ 64 → k * t ≡ f i → (r.h ≡ s.h + k * w.h) × (r.l ≡ s.l + k * w.l) → PartialSum (i + 1) r (sum_of f (i + 1))
added f i k t s w r p h b K e q = record {
  is =
      ap₂ (λ (a c : ℕ). a * 2 ^ 32 + c) q.0 q.1 ∙ sort s.h s.l k w.h w.l
      ∙ ap₂ (λ (a c : ℕ). a + k * c) p.is h.is ∙ ap (λ (a : ℕ). sum_of f i + a) e ∙ sym (sum_next f i);
  high = next s.h (k * w.h) r.h i (2 ^ 44) q.0 p.high (mul-le-mul K b);
  low = next s.l (k * w.l) r.l i (2 ^ 38) q.1 p.low (mul-le-mul K (le_of_lt h.digits));
}
  where
    sort : (h l k u v : ℕ) → (h + k * u) * 2 ^ 32 + (l + k * v) ≡ h * 2 ^ 32 + l + k * (u * 2 ^ 32 + v)
    sort h l k u v = omega arith

    next : (a d r i c : ℕ) → r ≡ a + d → a ≤ i * c → d ≤ c → r ≤ (i + 1) * c
    next a d r i c e p q = omega arith

-- what `add_times` asks of it
pub below_48 : (i : ℕ) (s : Wide) (v : ℕ) → i ≤ 16 → PartialSum i s v → (s.h ≤ 2 ^ 48) × (s.l ≤ 2 ^ 48)
below_48 i s v I p = (omega (arith, p.high), omega (arith, p.low))

-- ---- at the start and at the end
pub at_start : (x : ℕ) → SumsSoFar x (record { h = 2 ^ 32; l = 0 }) (record { h = 0; l = 0 }) (record { h = 0; l = 0 }) (record { h = 0; l = 0 }) (record { h = 0; l = 0 }) 0
unfolding sum_of term
at_start x =
    let none : PartialSum 0 (record { h = 0; l = 0 }) 0 = record { is = refl; high = zero-le; low = zero-le } in
    record { count = zero-le; term_is = record { is = refl; digits = lit< tt }; sin_plus = none; sin_minus = none; cos_plus = none; cos_minus = none }

-- s stands for the whole sum v, and is small enough for `over_1024`
pub record Summed (s : Wide) (v : ℕ) : Type 0 where
  pub is : value s ≡ v
  pub high : s.h < 3 * 2 ^ 40
  pub low : s.l < 2 ^ 48

pub record AllSummed (x : ℕ) (sp sn cp cn : Wide) : Type 0 where
  pub sin_plus : Summed sp (sinc_plus x)
  pub sin_minus : Summed sn (sinc_minus x)
  pub cos_plus : Summed cp (cos_plus x)
  pub cos_minus : Summed cn (cos_minus x)

summed : (i : ℕ) (s : Wide) (u v : ℕ) → i ≤ 16 → PartialSum i s u → u ≡ v → v < 3 * 2 ^ 72 → Summed s v
summed i s u v I p e h = record { is = p.is ∙ e; high = high s.h s.l v (p.is ∙ e) h; low = low i s.l I p.low }
  where
    high : (h l v : ℕ) → h * 2 ^ 32 + l ≡ v → v < 3 * 2 ^ 72 → h < 3 * 2 ^ 40
    high h l v e k = omega arith

    low : (i l : ℕ) → i ≤ 16 → l ≤ i * 2 ^ 38 → l < 2 ^ 48
    low i l I p = omega arith

-- the loop is left where i is 16, or where the term is 0, and so are all later ones
module _ (x : ℕ) (w : Wide) (i : ℕ) (count : i ≤ 16) (w-is : IsWide w (term x (2 * i))) (left : (16 ≤ i) ⊎ (w.h + w.l ≡ 0)) where
  whole : (f : ℕ → ℕ) → ((j : ℕ) → i ≤ j → term x (2 * i) ≡ 0 → f j ≡ 0) → sum_of f i ≡ sum_of f 16
  whole f h = elim left [
    | inl k ↦ ap (sum_of f) (le_antisymm count k)
    | inr z ↦ ended_at f i count (λ j k. h j k (sym w-is.is ∙ none w.h w.l z))
  ]
    where
      none : (h l : ℕ) → h + l ≡ 0 → h * 2 ^ 32 + l ≡ 0
      none h l z = omega arith

  sinc_plus_lem : sum_of (sp_term x) i ≡ sinc_plus x
  unfolding sinc_plus
  sinc_plus_lem = whole (sp_term x) (λ j k e. later_even x i j e k)

  sinc_minus_lem : sum_of (sn_term x) i ≡ sinc_minus x
  unfolding sinc_minus
  sinc_minus_lem = whole (sn_term x) (λ j k e. later_odd x i j e k)

  cos_plus_lem : sum_of (cp_term x) i ≡ cos_plus x
  unfolding cos_plus
  cos_plus_lem = whole (cp_term x) (λ j k e. ap (λ (y : ℕ). (4 * j + 1) * y) (later_even x i j e k) ∙ mul-zero (4 * j + 1))

  cos_minus_lem : sum_of (cn_term x) i ≡ cos_minus x
  unfolding cos_minus
  cos_minus_lem = whole (cn_term x) (λ j k e. ap (λ (y : ℕ). (4 * j + 3) * y) (later_odd x i j e k) ∙ mul-zero (4 * j + 3))

pub at_end : (x : ℕ) (w sp sn cp cn : Wide) (i : ℕ) → x ≤ square_limit → SumsSoFar x w sp sn cp cn i → (16 ≤ i) ⊎ (w.h + w.l ≡ 0) → AllSummed x sp sn cp cn
unfolding sinc_plus sinc_minus cos_plus cos_minus sum_of term
at_end x w sp sn cp cn i X g left = record {
  sin_plus = summed i sp (sum_of (sp_term x) i) (sinc_plus x) g.count g.sin_plus (sinc_plus_lem x w i g.count g.term_is left) (lt_of_le_of_lt (sinc_plus_mono x square_limit X) (lit< tt));
  sin_minus = summed i sn (sum_of (sn_term x) i) (sinc_minus x) g.count g.sin_minus (sinc_minus_lem x w i g.count g.term_is left) (lt_of_le_of_lt (sinc_minus_mono x square_limit X) (lit< tt));
  cos_plus = summed i cp (sum_of (cp_term x) i) (cos_plus x) g.count g.cos_plus (cos_plus_lem x w i g.count g.term_is left) (lt_of_le_of_lt (cos_plus_mono x square_limit X) (lit< tt));
  cos_minus = summed i cn (sum_of (cn_term x) i) (cos_minus x) g.count g.cos_minus (cos_minus_lem x w i g.count g.term_is left) (lt_of_le_of_lt (cos_minus_mono x square_limit X) (lit< tt));
}

-- ---- the next terms, from what `next_term` gives
pub odd_term : (x i : ℕ) (w r : Wide) → IsWide w (term x (2 * i)) → IsWide r (value w * x / (2 ^ 64 * ((4 * i + 2) * (4 * i + 3)))) → IsWide r (term x (2 * i + 1))
odd_term x i w r h s = subst (λ (v : ℕ). IsWide r v) (ap (λ (y : ℕ). y * x / (2 ^ 64 * ((4 * i + 2) * (4 * i + 3)))) h.is ∙ sym (term_odd x i)) s

pub even_term : (x i : ℕ) (w r : Wide) → IsWide w (term x (2 * i + 1)) → IsWide r (value w * x / (2 ^ 64 * ((4 * i + 4) * (4 * i + 5)))) → IsWide r (term x (2 * (i + 1)))
even_term x i w r h s = subst (λ (v : ℕ). IsWide r v) (ap (λ (y : ℕ). y * x / (2 ^ 64 * ((4 * i + 4) * (4 * i + 5)))) h.is ∙ sym (term_even x i)) s

-- a divisor
pub record Divisor (d : ℕ) : Type 0 where
  pub some : 0 < d
  pub most : d ≤ 8192

pub divisor : (a b : ℕ) → 0 < a → a ≤ 65 → 0 < b → b ≤ 65 → Divisor (a * b)
divisor a b A A' B B' = record { some = mul-pos A B; most = le_trans (mul-le-mul A' B') (lit≤ tt) }
