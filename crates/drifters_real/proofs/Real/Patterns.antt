-- The bit patterns of binary64: what number a pattern stands for, and which pattern a number has that is written as q * 2 ^ k of the smallest values.
use Rattle.std.proofs.Common.{◌≡◌, ℕ, zero, suc, ◌+◌, ◌-◌, ◌*◌, ◌/◌, ◌%◌, ◌^◌, ◌<◌, ◌≤◌, Bool, false, cond, T, eqb, ltb, leb, ℤ, sym, refl, ap, ◌∙◌, subst, inl, inr, le_trans, le_of_eq, lt_of_lt_of_le, lt_of_le_of_lt, mul-le-mul_right, mod-eq_of_lt, mul_assoc, le_antisymm, suc-add, eq-or-lt_of_le, lt_of_not-le, zero-add, not-le_of_lt, mul-div_cancel, arith, lit<, eqb→eq, lt→ltb, leb→le, pow_pos, pow_mono, pow-add, shl_lt}
use native.Mathlib.Nat.{pow-succ'}
use lib.Dec.{not_T}
use lib.Pow.{pow-lt}
use lib.Ieee.{nan, inf, fin, binary64, down, size, odd, units, of_fields, of_bits, to_bits, nan_bits, is_nan}
use lib.Ieee.Digits.{Equals, odd_val, size-lt, size-le}
use lib.Ieee.Fits.{odd-fits, down_pos}
use lib.Ieee.Bits.{is_false, is_true, cond_no, of_bits-to_bits, nan_bits_is}

-- ---- a pattern with the sign clear
pub of_bits_is : (b : ℕ) → of_bits binary64 b ≡ of_fields binary64 (leb (2 ^ 63) b) (b % 2 ^ 63 / 2 ^ 52) (b % 2 ^ 52)
unfolding of_bits
of_bits_is b = refl

sign_clear : (b : ℕ) → b < 2 ^ 63 → of_bits binary64 b ≡ of_fields binary64 false (b / 2 ^ 52) (b % 2 ^ 52)
sign_clear b h =
    of_bits_is b
    ∙ ap (λ (s : Bool). of_fields binary64 s (b % 2 ^ 63 / 2 ^ 52) (b % 2 ^ 52)) (is_false (leb (2 ^ 63) b) (not_T (leb (2 ^ 63) b) (λ (u : T (leb (2 ^ 63) b)). not-le_of_lt h (leb→le (2 ^ 63) b u))))
    ∙ ap (λ (x : ℕ). of_fields binary64 false (x / 2 ^ 52) (b % 2 ^ 52)) (mod-eq_of_lt h)

at_zero : (t : ℕ) → of_fields binary64 false 0 t ≡ odd 53 false t 0 1074
unfolding of_fields
at_zero t = refl

under_ones : (t x : ℕ) → suc x < 2047 → of_fields binary64 false (suc x) t ≡ odd 53 false (2 ^ 52 + t) x 1074
unfolding of_fields
under_ones t x h = cond_no (eqb (suc x) 2047) (cond (eqb t 0) (inf false) nan) (odd 53 false (2 ^ 52 + t) x 1074) (not_T (eqb (suc x) 2047) (λ (u : T (eqb (suc x) 2047)). differ x h (eqb→eq (suc x) 2047 u)))
  where
    differ : (x : ℕ) → suc x < 2047 → suc x ≡ 2047 → ⊥
    differ x h e = omega arith

pub subnormal_is : (b : ℕ) → b / 2 ^ 52 ≡ 0 → of_bits binary64 b ≡ odd 53 false (b % 2 ^ 52) 0 1074
subnormal_is b e = sign_clear b (small b e) ∙ ap (λ (x : ℕ). of_fields binary64 false x (b % 2 ^ 52)) e ∙ at_zero (b % 2 ^ 52)
  where
    small : (b : ℕ) → b / 2 ^ 52 ≡ 0 → b < 2 ^ 63
    small b e = omega arith

pub normal_is : (b : ℕ) → 0 < b / 2 ^ 52 → b < 0x7ff0_0000_0000_0000 → of_bits binary64 b ≡ odd 53 false (2 ^ 52 + b % 2 ^ 52) (b / 2 ^ 52 - 1) 1074
normal_is b h k = sign_clear b (small b k) ∙ ap (λ (x : ℕ). of_fields binary64 false x (b % 2 ^ 52)) (field b h) ∙ under_ones (b % 2 ^ 52) (b / 2 ^ 52 - 1) (field_lt b h k)
  where
    small : (b : ℕ) → b < 0x7ff0_0000_0000_0000 → b < 2 ^ 63
    small b k = omega arith

    field : (b : ℕ) → 0 < b / 2 ^ 52 → b / 2 ^ 52 ≡ suc (b / 2 ^ 52 - 1)
    field b h = omega arith

    field_lt : (b : ℕ) → 0 < b / 2 ^ 52 → b < 0x7ff0_0000_0000_0000 → suc (b / 2 ^ 52 - 1) < 2047
    field_lt b h k = omega arith

-- ---- the pattern of a number
-- a finite value with the sign clear, by its size a in smallest values
to_bits_val : (m : ℕ) (e : ℤ) (a : ℕ) → Equals (fin false m e) a (2 ^ 1074) → to_bits binary64 (fin false m e) ≡ (size a - 53) * 2 ^ 52 + a / 2 ^ (size a - 53)
unfolding to_bits
to_bits_val m e a h =
    ap (λ (x : ℕ). 0 + (size x - 53) * 2 ^ 52 + x / 2 ^ (size x - 53)) (ap (λ (x : ℕ). x / down e) h ∙ mul-div_cancel a (down_pos e))
    ∙ ap (λ (x : ℕ). x + a / 2 ^ (size a - 53)) (zero-add ((size a - 53) * 2 ^ 52))

to_bits_odd : (d q k : ℕ) → to_bits binary64 (odd d false q k 1074) ≡ (size (q * 2 ^ k) - 53) * 2 ^ 52 + q * 2 ^ k / 2 ^ (size (q * 2 ^ k) - 53)
unfolding odd
to_bits_odd d zero k = to_bits_val 0 (lib.IntN.pos 0) (0 * 2 ^ k) (odd_val d false zero k 1074)
to_bits_odd d (suc q) k = to_bits_val (suc q / 2 ^ lib.Count.count_trailing_zeros d (suc q)) (lib.Ieee.minus (k + lib.Count.count_trailing_zeros d (suc q)) 1074) (suc q * 2 ^ k) (odd_val d false (suc q) k 1074)

pub size_is : (a n : ℕ) → 2 ^ a ≤ n → n < 2 ^ suc a → size n ≡ suc a
size_is a n lo hi = le_antisymm (size-le n (suc a) hi) (lt_of_not-le (λ (g : size n ≤ a). not-le_of_lt (lt_of_lt_of_le (size-lt n) (pow_mono g)) lo))

-- q of 53 digits
pattern_full : (d q k : ℕ) → 2 ^ 52 ≤ q → q < 2 ^ 53 → to_bits binary64 (odd d false q k 1074) ≡ k * 2 ^ 52 + q
pattern_full d q k lo hi =
    let z : size (q * 2 ^ k) ≡ suc (52 + k) =
    size_is (52 + k) (q * 2 ^ k) (subst (λ (x : ℕ). x ≤ q * 2 ^ k) (sym (pow-add 2 52 k)) (mul-le-mul_right (2 ^ k) lo)) (subst (λ (x : ℕ). q * 2 ^ k < 2 ^ x) (suc-add 52 k) (shl_lt 53 k hi)) in
    to_bits_odd d q k
    ∙ ap (λ (x : ℕ). x * 2 ^ 52 + q * 2 ^ k / 2 ^ x) (ap (λ (x : ℕ). x - 53) z ∙ cut k)
    ∙ ap (λ (x : ℕ). k * 2 ^ 52 + x) (mul-div_cancel q (pow_pos k))
  where
    cut : (k : ℕ) → suc (52 + k) - 53 ≡ k
    cut k = omega arith

-- q = 2 ^ 53, where a root was rounded up past 53 digits
pattern_next : (d k : ℕ) → to_bits binary64 (odd d false (2 ^ 53) k 1074) ≡ k * 2 ^ 52 + 2 ^ 53
pattern_next d k =
    let e : 2 ^ 53 * 2 ^ k ≡ 2 ^ 52 * 2 ^ suc k = mul_assoc (2 ^ 52) 2 (2 ^ k) ∙ ap (λ (x : ℕ). 2 ^ 52 * x) (sym (pow-succ' 2 k)) in
    let z : size (2 ^ 53 * 2 ^ k) ≡ suc (53 + k) =
    size_is (53 + k) (2 ^ 53 * 2 ^ k) (le_of_eq (pow-add 2 53 k)) (subst (λ (x : ℕ). 2 ^ 53 * 2 ^ k < 2 ^ x) (suc-add 53 k) (shl_lt 54 k (lit< tt))) in
    to_bits_odd d (2 ^ 53) k
    ∙ ap (λ (x : ℕ). x * 2 ^ 52 + 2 ^ 53 * 2 ^ k / 2 ^ x) (ap (λ (x : ℕ). x - 53) z ∙ cut k)
    ∙ ap (λ (x : ℕ). suc k * 2 ^ 52 + x / 2 ^ suc k) e
    ∙ ap (λ (x : ℕ). suc k * 2 ^ 52 + x) (mul-div_cancel (2 ^ 52) (pow_pos (suc k)))
    ∙ same k
  where
    cut : (k : ℕ) → suc (53 + k) - 53 ≡ suc k
    cut k = omega arith

    same : (k : ℕ) → suc k * 2 ^ 52 + 2 ^ 52 ≡ k * 2 ^ 52 + 2 ^ 53
    same k = omega arith

pattern_is : (d q k : ℕ) → 2 ^ 52 ≤ q → q ≤ 2 ^ 53 → to_bits binary64 (odd d false q k 1074) ≡ k * 2 ^ 52 + q
pattern_is d q k lo hi = elim (eq-or-lt_of_le hi) [
  | inl e ↦ subst (λ (x : ℕ). to_bits binary64 (odd d false x k 1074) ≡ k * 2 ^ 52 + x) (sym e) (pattern_next d k)
  | inr l ↦ pattern_full d q k lo l
]

-- ---- what `units` makes of such a q is read from its pattern
pub units_is : (q k : ℕ) → q * 2 ^ k < 2 ^ 2098 → units binary64 false q k ≡ odd 54 false q k 1074
unfolding units
units_is q k h = ap (λ (b : Bool). cond b (odd 54 false q k 1074) (inf false)) (is_true (ltb (q * 2 ^ k) (2 ^ 2098)) (lt→ltb (q * 2 ^ k) (2 ^ 2098) h))

pub units_below : (q k : ℕ) → q ≤ 2 ^ 53 → k ≤ 2044 → q * 2 ^ k < 2 ^ 2098
units_below q k h l = lt_of_le_of_lt (le_trans (mul-le-mul_right (2 ^ k) h) (le_of_eq (sym (pow-add 2 53 k)))) (pow-lt (fit k l))
  where
    fit : (k : ℕ) → k ≤ 2044 → 53 + k < 2098
    fit k l = omega arith

pub units_bits : (q k : ℕ) → 2 ^ 52 ≤ q → q ≤ 2 ^ 53 → k ≤ 2044 → of_bits binary64 (k * 2 ^ 52 + q) ≡ units binary64 false q k
units_bits q k lo hi l =
    let b = units_below q k hi l in
    ap (of_bits binary64) (sym (pattern_is 54 q k lo hi))
    ∙ of_bits-to_bits binary64 (odd 54 false q k 1074) (odd-fits binary64 54 false q k (lt_of_le_of_lt hi (lit< tt)) hi b)
    ∙ sym (units_is q k b)

odd_no_nan : (d q k l : ℕ) → is_nan (odd d false q k l) ≡ false
unfolding odd is_nan
odd_no_nan d zero k l = refl
odd_no_nan d (suc q) k l = refl

pub units_no_nan : (q k : ℕ) → 2 ^ 52 ≤ q → q ≤ 2 ^ 53 → k ≤ 2044 → nan_bits binary64 (k * 2 ^ 52 + q) ≡ false
units_no_nan q k lo hi l = nan_bits_is binary64 (k * 2 ^ 52 + q) ∙ ap is_nan (units_bits q k lo hi l ∙ units_is q k (units_below q k hi l)) ∙ odd_no_nan 54 q k 1074
