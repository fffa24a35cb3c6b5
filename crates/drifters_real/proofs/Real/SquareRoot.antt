-- `sqrt_units`, by a number M of 105 or 106 digits and a power of four: its root to the nearest whole number is the significand. And `sqrt` of a pattern.
use Rattle.std.proofs.Common.{◌≡◌, ℕ, zero, suc, ◌+◌, ◌-◌, ◌*◌, ◌/◌, ◌%◌, ◌^◌, ◌<◌, ◌≤◌, Bool, true, false, cond, eqb, leb, ℤ, sym, refl, ap, ◌∙◌, subst, ap₂, le_trans, le_of_eq, lt_of_lt_of_le, le_of_suc-le-suc, le_of_lt, lt_irrefl, mul-le-mul_right, mod-eq_of_lt, zero-lt-suc, mul_assoc, mul_comm, mul-le-mul, suc-add, mul-pos, one-mul, pow-suc, lt_of_not-le, zero-add, zero-mul, mul-one, not-le_of_lt, mul-div_cancel, arith, lit≤, le→leb, pow_pos, pow_mono, pow-add, shl_lt, ltb-false}
use Prim.Native.Nat.{compare, Ordering}
use native.Mathlib.Nat.{one-le-pow}
use lib.Ieee.{Float, nan, inf, fin, binary64, up, down, minus, size, nearest, odd, units, of_fields, of_bits, nan_bits, div}
use lib.Ieee.Bits.{is_true, nan_bits_above}
use lib.Ieee.Digits.{odd_val, size-le, size-lt}
use lib.Ieee.Fits.{nearest-le, down_pos}
use lib.Ieee.Nearest.{nearest-ge}
use lib.Ieee.Positive.{first_pos}
use lib.Count.{count_trailing_zeros, count_leading_zeros, leading_top}
use Rattle.drifters_real.specs.Real.{smallest_values, whole_root, sqrt_units, sqrt}
use Rattle.drifters_real.specs.Limbs.{nearest_root, IsRootPattern}
use Rattle.drifters_real.proofs.Real.WholeRoot.{whole_root_is}
use Rattle.drifters_real.proofs.Real.Compare.{compare_scale}
use Rattle.drifters_real.proofs.Real.Patterns.{of_bits_is, subnormal_is, normal_is, units_bits, units_no_nan}

-- ---- 4 ^ j
four_pos : (j : ℕ) → 0 < 4 ^ j
four_pos j = one-le-pow j 4 (zero-lt-suc 3)

pub four_is : (j : ℕ) → 4 ^ j ≡ 2 ^ (2 * j)
four_is zero = refl
four_is (suc j) = pow-suc 4 j ∙ ap (λ (x : ℕ). x * 4) (four_is j) ∙ sym (pow-add 2 (2 * j) 2) ∙ ap (λ (x : ℕ). 2 ^ x) (more j)
  where
    more : (j : ℕ) → 2 * j + 2 ≡ 2 * suc j
    more j = omega arith

-- ---- how many digits are dropped
dropped_digits : (N M j : ℕ) → N ≡ M * 4 ^ j → 2 ^ 104 ≤ M → M < 2 ^ 106 → (size N + 1) / 2 - 53 ≡ j
dropped_digits N M j e lo hi = count (size N) j
    (lt_of_not-le (λ (g : size N ≤ 104 + 2 * j). not-le_of_lt (lt_of_lt_of_le (size-lt N) (pow_mono g)) low))
    (size-le N (106 + 2 * j) high)
  where
    n_is : N ≡ M * 2 ^ (2 * j)
    n_is = e ∙ ap (λ (x : ℕ). M * x) (four_is j)

    low : 2 ^ (104 + 2 * j) ≤ N
    low = le_trans (le_of_eq (pow-add 2 104 (2 * j))) (le_trans (mul-le-mul_right (2 ^ (2 * j)) lo) (le_of_eq (sym n_is)))

    high : N < 2 ^ (106 + 2 * j)
    high = subst (λ (x : ℕ). x < 2 ^ (106 + 2 * j)) (sym n_is) (shl_lt 106 (2 * j) hi)

    count : (z j : ℕ) → 104 + 2 * j < z → z ≤ 106 + 2 * j → (z + 1) / 2 - 53 ≡ j
    count z j a b = omega arith

-- ---- the root, by M
-- `sqrt_units` from its N and its k on
abbrev sqrt_at : ℕ → ℕ → Float
sqrt_at N k = units binary64 false (nearest (whole_root 53 (N / 4 ^ k)) (compare (4 * N) ((2 * whole_root 53 (N / 4 ^ k) + 1) * (2 * whole_root 53 (N / 4 ^ k) + 1) * 4 ^ k))) k

sqrt_units_at : (n : ℕ) → sqrt_units n ≡ sqrt_at (n * 2 ^ 1074) ((size (n * 2 ^ 1074) + 1) / 2 - 53)
unfolding sqrt_units
sqrt_units_at n = refl

nearest_root_is : (M q : ℕ) → whole_root 53 M ≡ q → nearest q (compare (4 * M) ((2 * q + 1) * (2 * q + 1))) ≡ nearest_root M
unfolding nearest_root
nearest_root_is M q e = ap (λ (x : ℕ). nearest x (compare (4 * M) ((2 * x + 1) * (2 * x + 1)))) (sym e)

sqrt_at_is : (M j : ℕ) → sqrt_at (M * 4 ^ j) j ≡ units binary64 false (nearest_root M) j
sqrt_at_is M j =
    let q = whole_root 53 M in
    ap (λ (x : ℕ). units binary64 false (nearest (whole_root 53 x) (compare (4 * (M * 4 ^ j)) ((2 * whole_root 53 x + 1) * (2 * whole_root 53 x + 1) * 4 ^ j))) j) (mul-div_cancel M (four_pos j))
    ∙ ap (λ (o : Ordering). units binary64 false (nearest q o) j)
    (ap (λ (x : ℕ). compare x ((2 * q + 1) * (2 * q + 1) * 4 ^ j)) (sym (mul_assoc 4 M (4 ^ j))) ∙ compare_scale (4 * M) ((2 * q + 1) * (2 * q + 1)) (4 ^ j) (four_pos j))
    ∙ ap (λ (x : ℕ). units binary64 false x j) (nearest_root_is M q refl)

pub sqrt_units_is : (n M j : ℕ) → n * 2 ^ 1074 ≡ M * 4 ^ j → 2 ^ 104 ≤ M → M < 2 ^ 106 → sqrt_units n ≡ units binary64 false (nearest_root M) j
sqrt_units_is n M j e lo hi =
    sqrt_units_at n
    ∙ ap (sqrt_at (n * 2 ^ 1074)) (dropped_digits (n * 2 ^ 1074) M j e lo hi)
    ∙ ap (λ (x : ℕ). sqrt_at x j) e
    ∙ sqrt_at_is M j

-- ---- the root's size
pub root_low : (n q : ℕ) → 2 ^ 104 ≤ n → n < (q + 1) * (q + 1) → 2 ^ 52 ≤ q
root_low n q h k = le_of_suc-le-suc (lt_of_not-le (λ (g : suc q ≤ 2 ^ 52). not-le_of_lt k (le_trans (mul-le-mul (one q g) (one q g)) h)))
  where
    one : (q : ℕ) → suc q ≤ 2 ^ 52 → q + 1 ≤ 2 ^ 52
    one q g = omega arith

pub root_high : (n q : ℕ) → n < 2 ^ 106 → q * q ≤ n → q < 2 ^ 53
root_high n q h k = lt_of_not-le (λ (g : 2 ^ 53 ≤ q). not-le_of_lt h (le_trans (mul-le-mul g g) k))

pub nearest_root_low : (n : ℕ) → 2 ^ 104 ≤ n → n < 2 ^ 106 → 2 ^ 52 ≤ nearest_root n
unfolding nearest_root
nearest_root_low n lo hi =
    let q = whole_root 53 n in
    le_trans (root_low n q lo (whole_root_is 53 n hi).above) (nearest-ge q (compare (4 * n) ((2 * q + 1) * (2 * q + 1))))

pub nearest_root_high : (n : ℕ) → n < 2 ^ 106 → nearest_root n ≤ 2 ^ 53
unfolding nearest_root
nearest_root_high n hi =
    let q = whole_root 53 n in
    le_trans (nearest-le q (compare (4 * n) ((2 * q + 1) * (2 * q + 1)))) (root_high n q hi (whole_root_is 53 n hi).below)

-- ---- the root of a value that is written as q * 2 ^ k of the smallest
pub sqrt_odd : (d q k : ℕ) → 0 < q → sqrt (odd d false q k 1074) ≡ sqrt_units (q * 2 ^ k)
unfolding odd sqrt smallest_values
sqrt_odd d zero k h = absurd (lt_irrefl 0 h)
sqrt_odd d (suc q) k h = go (suc q / 2 ^ count_trailing_zeros d (suc q)) (minus (k + count_trailing_zeros d (suc q)) 1074) (odd_val d false (suc q) k 1074)
  where
    go : (m : ℕ) (e : ℤ) → m * up e * 2 ^ 1074 ≡ suc q * 2 ^ k * down e → sqrt (fin false m e) ≡ sqrt_units (suc q * 2 ^ k)
    go zero e v = absurd (no (suc q * 2 ^ k * down e) (mul-pos (mul-pos (zero-lt-suc q) (pow_pos k)) (down_pos e)) (sym v ∙ ap (λ (x : ℕ). x * 2 ^ 1074) (zero-mul (up e)) ∙ zero-mul (2 ^ 1074)))
      where
        no : (x : ℕ) → 0 < x → x ≡ 0 → ⊥
        no x h e = omega arith
    go (suc m) e v = ap sqrt_units (ap (λ (x : ℕ). x / down e) v ∙ mul-div_cancel (suc q * 2 ^ k) (down_pos e))

-- ---- a * 2 ^ K by a power of four
even_part : (K : ℕ) → 52 ≤ K → 52 + K % 2 + 2 * ((K - 52) / 2) ≡ K
even_part K h = omega arith

two_to : (p : ℕ) → p < 2 → 2 ^ p ≡ 1 + p
two_to zero h = refl
two_to (suc zero) h = refl
two_to (suc (suc p)) h = absurd (no p h)
  where
    no : (p : ℕ) → suc (suc p) < 2 → ⊥
    no p h = omega arith

parity_lt : (K : ℕ) → K % 2 < 2
parity_lt K = omega arith

by_four : (a K : ℕ) → 52 ≤ K → a * 2 ^ K ≡ (1 + K % 2) * a * 2 ^ 52 * 4 ^ ((K - 52) / 2)
by_four a K h =
    ap (λ (x : ℕ). a * 2 ^ x) (sym (even_part K h))
    ∙ ap (λ (x : ℕ). a * x) (pow-add 2 (52 + K % 2) (2 * ((K - 52) / 2)) ∙ ap₂ (λ (x y : ℕ). x * y) (pow-add 2 52 (K % 2) ∙ ap (λ (x : ℕ). 2 ^ 52 * x) (two_to (K % 2) (parity_lt K))) (sym (four_is ((K - 52) / 2))))
    ∙ sort a (1 + K % 2) (4 ^ ((K - 52) / 2))
  where
    sort : (a p f : ℕ) → a * (2 ^ 52 * p * f) ≡ p * a * 2 ^ 52 * f
    sort a p f = simp (mul_assoc, mul_comm)

pub parity_low : (p a : ℕ) → p < 2 → a ≤ (1 + p) * a
parity_low p a h = le_trans (le_of_eq (sym (one-mul a))) (mul-le-mul_right a (lo p))
  where
    lo : (p : ℕ) → 1 ≤ 1 + p
    lo p = omega arith

pub parity_high : (p a : ℕ) → p < 2 → (1 + p) * a ≤ 2 * a
parity_high p a h = mul-le-mul_right a (hi p h)
  where
    hi : (p : ℕ) → p < 2 → 1 + p ≤ 2
    hi p h = omega arith

-- ---- n of the smallest values as M * 4 ^ j of their squares, with an M of 105 or 106 digits
pub record Scaled (n M j : ℕ) : Type 0 where
  pub is : n * 2 ^ 1074 ≡ M * 4 ^ j
  pub low : 2 ^ 104 ≤ M
  pub high : M < 2 ^ 106
  pub exponent : j ≤ 2044

pub scaled : (n a K : ℕ) → n * 2 ^ 1074 ≡ a * 2 ^ K → 2 ^ 52 ≤ a → a < 2 ^ 53 → 52 ≤ K → K ≤ 4096 → Scaled n ((1 + K % 2) * a * 2 ^ 52) ((K - 52) / 2)
scaled n a K e lo hi Klo Khi = record {
  is = e ∙ by_four a K Klo;
  low = omega (arith, parity_low (K % 2) a (parity_lt K));
  high = omega (arith, parity_high (K % 2) a (parity_lt K));
  exponent = omega arith;
}

-- ---- the pattern of the root of what b is the pattern of, where that is q * 2 ^ k of the smallest values, and a * 2 ^ K of their squares
root_pattern :
    (b q k a K : ℕ) → of_bits binary64 b ≡ odd 53 false q k 1074 → 0 < q → q * 2 ^ k * 2 ^ 1074 ≡ a * 2 ^ K → 2 ^ 52 ≤ a → a < 2 ^ 53 → 52 ≤ K → K ≤ 4096
    → IsRootPattern b ((K - 52) / 2 * 2 ^ 52 + nearest_root ((1 + K % 2) * a * 2 ^ 52))
root_pattern b q k a K is Q e lo hi Klo Khi =
    let M = (1 + K % 2) * a * 2 ^ 52 in
    let j = (K - 52) / 2 in
    let s = scaled (q * 2 ^ k) a K e lo hi Klo Khi in
    record {
      value =
          units_bits (nearest_root M) j (nearest_root_low M s.low s.high) (nearest_root_high M s.high) s.exponent
          ∙ sym (ap sqrt is ∙ sqrt_odd 53 q k Q ∙ sqrt_units_is (q * 2 ^ k) M j s.is s.low s.high);
      number = units_no_nan (nearest_root M) j (nearest_root_low M s.low s.high) (nearest_root_high M s.high) s.exponent;
    }

-- a pattern of a normal number
pub root_pattern_normal : (b : ℕ) → 0 < b / 2 ^ 52 → b < 0x7ff0_0000_0000_0000
    → IsRootPattern b ((b / 2 ^ 52 + 1073 - 52) / 2 * 2 ^ 52 + nearest_root ((1 + (b / 2 ^ 52 + 1073) % 2) * (2 ^ 52 + b % 2 ^ 52) * 2 ^ 52))
root_pattern_normal b h k =
    root_pattern b (2 ^ 52 + b % 2 ^ 52) (b / 2 ^ 52 - 1) (2 ^ 52 + b % 2 ^ 52) (b / 2 ^ 52 + 1073) (normal_is b h k) (omega arith)
    (mul_assoc (2 ^ 52 + b % 2 ^ 52) (2 ^ (b / 2 ^ 52 - 1)) (2 ^ 1074) ∙ ap (λ (x : ℕ). (2 ^ 52 + b % 2 ^ 52) * x) (sym (pow-add 2 (b / 2 ^ 52 - 1) 1074) ∙ ap (λ (x : ℕ). 2 ^ x) (shift b h)))
    (omega arith) (omega arith) (omega arith) (omega arith)
  where
    shift : (b : ℕ) → 0 < b / 2 ^ 52 → b / 2 ^ 52 - 1 + 1074 ≡ b / 2 ^ 52 + 1073
    shift b h = omega arith

-- a pattern of a subnormal number, whose digits are moved up by z places
pub root_pattern_subnormal : (b z : ℕ) → 0 < b → b / 2 ^ 52 ≡ 0 → z ≤ 52 → 2 ^ 52 ≤ b % 2 ^ 52 * 2 ^ z → b % 2 ^ 52 * 2 ^ z < 2 ^ 53
    → IsRootPattern b ((1074 - z - 52) / 2 * 2 ^ 52 + nearest_root ((1 + (1074 - z) % 2) * (b % 2 ^ 52 * 2 ^ z) * 2 ^ 52))
root_pattern_subnormal b z B h l lo hi =
    root_pattern b (b % 2 ^ 52) 0 (b % 2 ^ 52 * 2 ^ z) (1074 - z) (subnormal_is b h) (omega arith)
    (ap (λ (x : ℕ). x * 2 ^ 1074) (mul-one (b % 2 ^ 52)) ∙ ap (λ (x : ℕ). b % 2 ^ 52 * 2 ^ x) (sym (back z l)) ∙ ap (λ (x : ℕ). b % 2 ^ 52 * x) (pow-add 2 z (1074 - z)) ∙ sym (mul_assoc (b % 2 ^ 52) (2 ^ z) (2 ^ (1074 - z))))
    lo hi (omega arith) (omega arith)
  where
    back : (z : ℕ) → z ≤ 52 → z + (1074 - z) ≡ 1074
    back z l = omega arith

-- ---- the shift that brings a subnormal's highest digit to place 52
pub record Shift (t L : ℕ) : Type 0 where
  pub least : 12 ≤ L
  pub most : L ≤ 63
  pub low : 2 ^ 52 ≤ t * 2 ^ (L - 11)
  pub high : t * 2 ^ (L - 11) < 2 ^ 53

pub shift_is : (t : ℕ) → 0 < t → t < 2 ^ 52 → Shift t (count_leading_zeros 64 t)
shift_is t T h =
    let p = leading_top 64 t T (lt_of_lt_of_le h (lit≤ tt)) in
    let L = count_leading_zeros 64 t in
    let j = p.0 in
    let j_lt : j < 52 = lt_of_not-le (λ (g : 52 ≤ j). not-le_of_lt h (le_trans (pow_mono g) p.2)) in
    let sum : L + suc j ≡ 64 = p.1 in
    let e : j + (L - 11) ≡ 52 = omega arith in
    record {
      least = omega arith;
      most = omega arith;
      low = le_trans (le_of_eq (ap (λ (x : ℕ). 2 ^ x) (sym e) ∙ pow-add 2 j (L - 11))) (mul-le-mul_right (2 ^ (L - 11)) p.2);
      high = subst (λ (x : ℕ). t * 2 ^ (L - 11) < 2 ^ x) (suc-add j (L - 11) ∙ ap suc e) (shl_lt (suc j) (L - 11) p.3);
    }

-- ---- the patterns that have no root to find
minus_is : (m : ℕ) (e : ℤ) → 0 < m → sqrt (fin true m e) ≡ nan
unfolding sqrt
minus_is zero e h = absurd (lt_irrefl 0 h)
minus_is (suc m) e h = refl

minus_odd : (d q k : ℕ) → 0 < q → sqrt (odd d true q k 1074) ≡ nan
unfolding odd
minus_odd d zero k h = absurd (lt_irrefl 0 h)
minus_odd d (suc q) k h =
    let t = count_trailing_zeros d (suc q) in
    let m = suc q / 2 ^ t in
    let e = minus (k + t) 1074 in
    minus_is m e (first_pos m (up e) (first_pos (m * up e) (2 ^ 1074) (subst (λ (x : ℕ). 0 < x) (sym (odd_val d true (suc q) k 1074)) (mul-pos (mul-pos (zero-lt-suc q) (pow_pos k)) (down_pos e)))))

minus_fields : (x t : ℕ) → 0 < x + t → sqrt (of_fields binary64 true x t) ≡ nan
unfolding of_fields sqrt
minus_fields zero t h = minus_odd 53 t 0 (subst (λ (n : ℕ). 0 < n) (zero-add t) h)
minus_fields (suc x) t h = go (eqb (suc x) 2047) (eqb t 0)
  where
    go : (a b : Bool) → sqrt (cond a (cond b (inf true) nan) (odd 53 true (2 ^ 52 + t) x 1074)) ≡ nan
    go true true = refl
    go true false = refl
    go false b = minus_odd 53 (2 ^ 52 + t) x (small_enough t)
      where
        small_enough : (t : ℕ) → 0 < 2 ^ 52 + t
        small_enough t = omega arith

pub root_of_minus : (b : ℕ) → 2 ^ 63 < b → b < 2 ^ 64 → sqrt (of_bits binary64 b) ≡ nan
root_of_minus b h k =
    ap sqrt (of_bits_is b ∙ ap (λ (s : Bool). of_fields binary64 s (b % 2 ^ 63 / 2 ^ 52) (b % 2 ^ 52)) (is_true (leb (2 ^ 63) b) (le→leb (2 ^ 63) b (le_of_lt h))))
    ∙ minus_fields (b % 2 ^ 63 / 2 ^ 52) (b % 2 ^ 52) (some b h k)
  where
    some : (b : ℕ) → 2 ^ 63 < b → b < 2 ^ 64 → 0 < b % 2 ^ 63 / 2 ^ 52 + b % 2 ^ 52
    some b h k = omega arith

pub root_of_nan : sqrt nan ≡ nan
unfolding sqrt
root_of_nan = refl

pub root_of_minus_zero : sqrt (of_bits binary64 (2 ^ 63)) ≡ of_bits binary64 (2 ^ 63)
unfolding sqrt of_bits
root_of_minus_zero = refl

pub root_of_zero : sqrt (of_bits binary64 0) ≡ of_bits binary64 0
unfolding sqrt of_bits
root_of_zero = refl

pub root_of_inf : sqrt (of_bits binary64 0x7ff0_0000_0000_0000) ≡ of_bits binary64 0x7ff0_0000_0000_0000
unfolding sqrt of_bits
root_of_inf = refl

pub nan_made : div binary64 (of_bits binary64 0) (of_bits binary64 0) ≡ nan
unfolding div of_bits
nan_made = refl

-- a pattern that is no NaN's, with the sign clear, is at most the infinity's
pub at_most_inf : (b : ℕ) → nan_bits binary64 b ≡ false → b < 2 ^ 63 → b ≤ 0x7ff0_0000_0000_0000
at_most_inf b n h = le_trans (le_of_eq (sym (mod-eq_of_lt h))) (ltb-false (2047 * 2 ^ 52) (b % 2 ^ 63) (sym (nan_bits_above binary64 b) ∙ n))
