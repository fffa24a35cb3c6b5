-- The root that `sqrt` gives is nearer than every other f64. It is p * 2 ^ j of the smallest values, with a p of 53 digits or 2 ^ 53, and p is nearer to
-- the root of M, where M * 4 ^ j is the number in squares of the smallest value, than its neighbours: 4 * M is even, and so never the square of 2 * p + 1.
-- From 2 ^ (52 + j) on every f64 is a multiple of 2 ^ j, and so at least that far from p * 2 ^ j.
use Rattle.std.proofs.Common.{◌≡◌, ℕ, zero, suc, ◌+◌, ◌-◌, ◌*◌, ◌/◌, ◌%◌, ◌^◌, ◌<◌, ◌≤◌, Bool, true, false, T, ℤ, pos, sym, refl, ap, ◌∙◌, subst, inl, inr, zero-le, le_trans, le_of_eq, lt_of_lt_of_le, lt_of_le_of_lt, le_of_lt, lt_irrefl, mul-le-mul_right, mul_assoc, suc-mul, mul-le-mul, lt_of_mul-lt-mul_right, eq-or-lt_of_le, mul-le-mul_left, mul-lt-mul_of_pos_right, mul-pos, one-mul, lt_of_not-le, zero-mul, mul-one, mul_right_comm, not-le_of_lt, mul-div_cancel, arith, lit<, lit≤, ltb→lt, lt→ltb, pow_pos, pow_mono, pow-add, shl_lt}
use native.Mathlib.Nat.{sub-add_cancel}
use native.Mathlib.Decide.{dec_le}
use lib.Count.{count_trailing_zeros}
use lib.Ieee.Positive.{first_pos}
use lib.Ieee.{Float, nan, inf, fin, binary64, up, down, minus, size, odd, fits, lt, of_bits}
use lib.Ieee.Digits.{odd_val, size-lt, size-le, size_reaches}
use lib.Ieee.Fits.{down_pos, odd-fits}
use Rattle.drifters_real.specs.Scalar.{plus_zero}
use Rattle.drifters_real.specs.Real.{whole_root, sqrt_units, sqrt, is_finite, smallest_values, NearestRoot, SqrtNearest}
use Rattle.drifters_real.specs.Limbs.{IsWholeRoot, nearest_root}
use Rattle.drifters_real.proofs.Real.WholeRoot.{whole_root_is}
use Rattle.drifters_real.proofs.Real.RootStep.{up_is, stay_is}
use Rattle.drifters_real.proofs.Real.Patterns.{units_is, units_below}
use Rattle.drifters_real.proofs.Real.SquareRoot.{four_is, sqrt_units_is, root_low, nearest_root_low, nearest_root_high, Scaled, scaled}
use Rattle.drifters_real.proofs.Real.Rounding.{fit_of, shift, pow_le_back}

-- ---- the nearest whole number to the root of M: (2 * p - 1) ^ 2 < 4 * M < (2 * p + 1) ^ 2
record Nearest (M p : ℕ) : Type 0 where
  below : 4 * (p * p) + 1 < 4 * M + 4 * p
  above : 4 * M < 4 * (p * p) + 4 * p + 1

nearest_of : (M q : ℕ) → M < 4 ^ 53 → 0 < q → IsWholeRoot M q → Nearest M (nearest_root M)
nearest_of M q l Q h = go (dec_le (M - q * q) q)
  where
    split : q * q + (M - q * q) ≡ M
    split = omega (arith, h.below)

    most : M - q * q ≤ 2 * q
    most = omega (arith, h.above, h.below)

    stays : M - q * q ≤ q → Nearest M q
    stays k = record { below = omega (arith, split); above = omega (arith, split) }

    moves : q < M - q * q → Nearest M (q + 1)
    moves k = record { below = omega (arith, split); above = omega (arith, h.above) }

    go : Dec (M - q * q ≤ q) → Nearest M (nearest_root M)
    go (yes k) = subst (Nearest M) (sym (stay_is M q (M - q * q) l split most k)) (stays k)
    go (no k) = subst (Nearest M) (sym (up_is M q (M - q * q) l split most (lt_of_not-le k))) (moves (lt_of_not-le k))

-- ---- a float's size in smallest values
values_are : (s : Bool) (m : ℕ) (e : ℤ) (v : ℕ) → m * up e * 2 ^ 1074 ≡ v * down e → smallest_values (fin s m e) ≡ v
unfolding smallest_values
values_are s m e v h = ap (λ (x : ℕ). x / down e) h ∙ mul-div_cancel v (down_pos e)

-- of an f64 it is m * 2 ^ exponent, with an m of 53 digits
record Sized (x : Float) : Type 0 where
  m : ℕ
  exponent : ℕ
  digits : m < 2 ^ 53
  most : m * 2 ^ exponent < 2 ^ 2098
  is : smallest_values x ≡ m * 2 ^ exponent

sized : (x : Float) → T (fits binary64 x) → T (is_finite x) → Sized x
unfolding is_finite
sized nan f t = absurd t
sized (inf s) f t = absurd t
sized (fin b m e) f t =
    let g = fit_of b m e f in
    let s = shift 1074 e (lit≤ tt) g.least in
    let v : m * up e * 2 ^ 1074 ≡ m * 2 ^ s.0 * down e = mul_assoc m (up e) (2 ^ 1074) ∙ ap (λ (x : ℕ). m * x) s.1 ∙ sym (mul_assoc m (2 ^ s.0) (down e)) in
    record {
      m = m;
      exponent = s.0;
      digits = g.digits;
      most = lt_of_mul-lt-mul_right (down e) (subst (λ (x : ℕ). x < 2 ^ 2098 * down e) v (lt_of_lt_of_le (mul-lt-mul_of_pos_right g.most (pow_pos 1074)) (le_of_eq (mul_right_comm (2 ^ 1024) (down e) (2 ^ 1074)))));
      is = values_are b m e (m * 2 ^ s.0) v;
    }

-- ---- from 2 ^ (52 + j) on a float is a multiple of 2 ^ j
multiple : (m i j : ℕ) → m < 2 ^ 53 → 2 ^ (52 + j) ≤ m * 2 ^ i → (c : ℕ) × (m * 2 ^ i ≡ c * 2 ^ j)
multiple m i j h l = go (dec_le j i)
  where
    go : Dec (j ≤ i) → (c : ℕ) × (m * 2 ^ i ≡ c * 2 ^ j)
    go (yes k) = (m * 2 ^ (i - j), ap (λ (x : ℕ). m * 2 ^ x) (sym (sub-add_cancel k)) ∙ ap (λ (x : ℕ). m * x) (pow-add 2 (i - j) j) ∙ sym (mul_assoc m (2 ^ (i - j)) (2 ^ j)))
    go (no k) =
        absurd (not-le_of_lt (lt_of_lt_of_le (mul-lt-mul_of_pos_right h (pow_pos i)) (le_trans (le_of_eq (sym (pow-add 2 53 i))) (pow_mono (less i j (lt_of_not-le k))))) l)
      where
        less : (i j : ℕ) → i < j → 53 + i ≤ 52 + j
        less i j h = omega arith

-- ---- the comparison, with f for 2 ^ j
module _ (M p f Z : ℕ) (F : 0 < f) (n : Nearest M p) where
  square : (y : ℕ) → y * f * (y * f) ≡ y * y * (f * f)
  square y = omega arith

  -- a multiple above
  past : p * f + f ≤ Z → 4 * (M * (f * f)) < (p * f + Z) * (p * f + Z)
  past h =
      lt_of_lt_of_le (subst (λ (x : ℕ). x < (2 * p + 1) * (2 * p + 1) * (f * f)) (mul_assoc 4 M (f * f)) (mul-lt-mul_of_pos_right step (mul-pos F F)))
      (le_trans (le_of_eq (sym (square (2 * p + 1)))) (mul-le-mul two two))
    where
      step : 4 * M < (2 * p + 1) * (2 * p + 1)
      step = omega (arith, n.above)

      two : (2 * p + 1) * f ≤ p * f + Z
      two = omega arith

  -- a multiple below
  short : Z + f ≤ p * f → (p * f + Z) * (p * f + Z) < 4 * (M * (f * f))
  short h = go p refl
    where
      go : (r : ℕ) → p ≡ r → (p * f + Z) * (p * f + Z) < 4 * (M * (f * f))
      go zero e = absurd (no p f Z F h e)
        where
          no : (p f Z : ℕ) → 0 < f → Z + f ≤ p * f → p ≡ 0 → ⊥
          no p f Z F h e = let z : p * f ≡ 0 = ap (λ (x : ℕ). x * f) e ∙ zero-mul f in omega arith
      go (suc r) e =
          lt_of_le_of_lt (le_trans (mul-le-mul two two) (le_of_eq (square (2 * r + 1))))
          (subst (λ (x : ℕ). (2 * r + 1) * (2 * r + 1) * (f * f) < x) (mul_assoc 4 M (f * f)) (mul-lt-mul_of_pos_right step (mul-pos F F)))
        where
          at : Nearest M (suc r)
          at = subst (Nearest M) e n

          step : (2 * r + 1) * (2 * r + 1) < 4 * M
          step = omega (arith, at.below)

          two : p * f + Z ≤ (2 * r + 1) * f
          two = let s : p * f ≡ suc r * f = ap (λ (x : ℕ). x * f) e in omega arith

  -- where p * p is at most M, anything below
  least : p * p ≤ M → Z < p * f → (p * f + Z) * (p * f + Z) < 4 * (M * (f * f))
  least h k = lt_of_lt_of_le strict (le_trans (le_of_eq (four (p * f) ∙ ap (λ (x : ℕ). 4 * x) (square p))) (mul-le-mul_left 4 (mul-le-mul_right (f * f) h)))
    where
      four : (y : ℕ) → (y + y) * (y + y) ≡ 4 * (y * y)
      four y = omega arith

      strict : (p * f + Z) * (p * f + Z) < (p * f + p * f) * (p * f + p * f)
      strict =
          let less : p * f + Z < p * f + p * f = omega arith in
          lt_of_le_of_lt (mul-le-mul_left (p * f + Z) (le_of_lt less)) (mul-lt-mul_of_pos_right less (omega arith))

-- ---- the root of n of the smallest values, as M * 4 ^ j of their squares, against a float m * 2 ^ i
module _ (n M j : ℕ) (s : Scaled n M j) where
  abbrev p : ℕ
  p = nearest_root M

  abbrev unit : ℕ
  unit = 2 ^ j

  p_low : 2 ^ 52 ≤ p
  p_low = nearest_root_low M s.low s.high

  p_high : p ≤ 2 ^ 53
  p_high = nearest_root_high M s.high

  near : Nearest M p
  near =
      let h = whole_root_is 53 M s.high in
      nearest_of M (whole_root 53 M) s.high (lt_of_lt_of_le (pow_pos 52) (root_low M (whole_root 53 M) s.low h.above)) h

  N-is : M * (unit * unit) ≡ n * 2 ^ 1074
  N-is = ap (λ (x : ℕ). M * x) (sym (pow-add 2 j j) ∙ ap (λ (x : ℕ). 2 ^ x) (twice_is j) ∙ sym (four_is j)) ∙ sym s.is
    where
      twice_is : (j : ℕ) → j + j ≡ 2 * j
      twice_is j = omega arith

  module _ (m i : ℕ) (digits : m < 2 ^ 53) where
    abbrev Z : ℕ
    Z = m * 2 ^ i

    root_above : p * unit < Z → 4 * (n * 2 ^ 1074) < (p * unit + Z) * (p * unit + Z)
    root_above h =
        let c = multiple m i j digits (le_trans (le_of_eq (pow-add 2 52 j)) (le_trans (mul-le-mul_right unit p_low) (le_of_lt h))) in
        let next : suc p * unit ≤ Z = le_trans (mul-le-mul_right unit (lt_of_mul-lt-mul_right unit (subst (λ (x : ℕ). p * unit < x) c.1 h))) (le_of_eq (sym c.1)) in
        subst (λ (x : ℕ). 4 * x < (p * unit + Z) * (p * unit + Z)) N-is (past M p unit Z (pow_pos j) near (le_trans (le_of_eq (sym (suc-mul p unit))) next))

    root_below : Z < p * unit → (p * unit + Z) * (p * unit + Z) < 4 * (n * 2 ^ 1074)
    root_below h = subst (λ (x : ℕ). (p * unit + Z) * (p * unit + Z) < 4 * x) N-is (go (dec_le (Z + unit) (p * unit)))
      where
        -- where less than 2 ^ j is between them, p is 2 ^ 52
        first : p * unit < Z + unit → p ≡ 2 ^ 52
        first k = elim (eq-or-lt_of_le p_low) [
          | inl e ↦ sym e
          | inr l ↦
              let c = multiple m i j digits (le_trans (le_of_eq (pow-add 2 52 j)) (under (2 ^ 52 * unit) unit Z (p * unit) (le_trans (le_of_eq (sym (suc-mul (2 ^ 52) unit))) (mul-le-mul_right unit l)) k)) in
              let less : c.0 * unit + unit ≤ p * unit = le_trans (le_of_eq (sym (suc-mul c.0 unit))) (mul-le-mul_right unit (lt_of_mul-lt-mul_right unit (subst (λ (x : ℕ). x < p * unit) c.1 h))) in
              absurd (lt_irrefl (p * unit) (lt_of_lt_of_le k (subst (λ (x : ℕ). x + unit ≤ p * unit) (sym c.1) less)))
        ]
          where
            under : (a d z y : ℕ) → a + d ≤ y → y < z + d → a ≤ z
            under a d z y h k = omega arith

        go : Dec (Z + unit ≤ p * unit) → (p * unit + Z) * (p * unit + Z) < 4 * (M * (unit * unit))
        go (yes k) = short M p unit Z (pow_pos j) near k
        go (no k) = least M p unit Z (pow_pos j) near (le_trans (le_of_eq (ap (λ (x : ℕ). x * x) (first (lt_of_not-le k)))) s.low) h

-- ---- the float of p * 2 ^ j
odd_values : (d q k : ℕ) → smallest_values (odd d false q k 1074) ≡ q * 2 ^ k
unfolding odd
odd_values d zero k = values_are false 0 (pos 0) (0 * 2 ^ k) (odd_val d false zero k 1074)
odd_values d (suc q) k = values_are false (suc q / 2 ^ count_trailing_zeros d (suc q)) (minus (k + count_trailing_zeros d (suc q)) 1074) (suc q * 2 ^ k) (odd_val d false (suc q) k 1074)

above_zero : (m : ℕ) (e : ℤ) → 0 < m * up e → T (lt plus_zero (fin false m e))
unfolding lt of_bits
above_zero m e h = lt→ltb (0 * down e) (m * up e * 1) (subst (λ (x : ℕ). x < m * up e * 1) (sym (zero-mul (down e))) (subst (λ (x : ℕ). 0 < x) (sym (mul-one (m * up e))) h))

odd_finite : (d q k : ℕ) → T (is_finite (odd d false q k 1074))
unfolding odd is_finite
odd_finite d zero k = tt
odd_finite d (suc q) k = tt

odd_positive : (d q k : ℕ) → 0 < q → T (lt plus_zero (odd d false q k 1074))
unfolding odd
odd_positive d zero k h = absurd (lt_irrefl 0 h)
odd_positive d (suc q) k h =
    let m = suc q / 2 ^ count_trailing_zeros d (suc q) in
    let e = minus (k + count_trailing_zeros d (suc q)) 1074 in
    above_zero m e (first_pos (m * up e) (2 ^ 1074) (subst (λ (x : ℕ). 0 < x) (sym (odd_val d false (suc q) k 1074)) (mul-pos (mul-pos h (pow_pos k)) (down_pos e))))

-- ---- a float above 0, in squares of the smallest value
scaled_float : (m i : ℕ) → 0 < m → m < 2 ^ 53 → m * 2 ^ i < 2 ^ 2098 → (M : ℕ) × (j : ℕ) × Scaled (m * 2 ^ i) M j
scaled_float m i P h l =
    let z = size m in
    let t = 53 - z in
    let z_low : 0 < z = lt_of_not-le (λ (g : z ≤ 0). not-le_of_lt (lt_of_lt_of_le (size-lt m) (pow_mono g)) P) in
    let z_high : z ≤ 53 = size-le m 53 h in
    let K = i + 1074 - t in
    let i_most : i ≤ 2098 = pow_le_back i 2098 (le_trans (le_trans (le_of_eq (sym (one-mul (2 ^ i)))) (mul-le-mul_right (2 ^ i) P)) (le_of_lt l)) in (
      (1 + K % 2) * (m * 2 ^ t) * 2 ^ 52,
      (K - 52) / 2,
      scaled (m * 2 ^ i) (m * 2 ^ t) K
          (mul_assoc m (2 ^ i) (2 ^ 1074) ∙ ap (λ (x : ℕ). m * x) (sym (pow-add 2 i 1074) ∙ ap (λ (x : ℕ). 2 ^ x) (sym (total i t (omega arith))) ∙ pow-add 2 t K) ∙ sym (mul_assoc m (2 ^ t) (2 ^ K)))
          (le_trans (le_of_eq (ap (λ (x : ℕ). 2 ^ x) (sym (low_digits z z_low z_high)) ∙ pow-add 2 (z - 1) t)) (mul-le-mul_right (2 ^ t) (size_reaches m (z - 1) (omega arith))))
          (subst (λ (x : ℕ). m * 2 ^ t < 2 ^ x) (high_digits z z_high) (shl_lt z t (size-lt m)))
          (omega arith) (omega arith),
    )
  where
    total : (i t : ℕ) → t ≤ 53 → t + (i + 1074 - t) ≡ i + 1074
    total i t h = omega arith

    low_digits : (z : ℕ) → 0 < z → z ≤ 53 → z - 1 + (53 - z) ≡ 52
    low_digits z h k = omega arith

    high_digits : (z : ℕ) → z ≤ 53 → z + (53 - z) ≡ 53
    high_digits z h = omega arith

-- ---- the theorem
sqrt_is : (m : ℕ) (e : ℤ) → sqrt (fin false (suc m) e) ≡ sqrt_units (smallest_values (fin false (suc m) e))
unfolding sqrt
sqrt_is m e = refl

module _ (x : Float) (n M j : ℕ) (x-is : smallest_values x ≡ n) (s : Scaled n M j) where
  abbrev y : Float
  y = odd 54 false (nearest_root M) j 1074

  y_is : smallest_values y ≡ nearest_root M * 2 ^ j
  y_is = odd_values 54 (nearest_root M) j

  at_below : (z : Float) → Sized z → smallest_values z < smallest_values y → (smallest_values y + smallest_values z) * (smallest_values y + smallest_values z) < 4 * (smallest_values x * 2 ^ 1074)
  at_below z w = rw (y_is, x-is, w.is) (root_below n M j s w.m w.exponent w.digits)

  at_above : (z : Float) → Sized z → smallest_values y < smallest_values z → 4 * (smallest_values x * 2 ^ 1074) < (smallest_values y + smallest_values z) * (smallest_values y + smallest_values z)
  at_above z w = rw (y_is, x-is, w.is) (root_above n M j s w.m w.exponent w.digits)

  nearest_at : NearestRoot x y
  nearest_at = record {
    float = odd-fits binary64 54 false (nearest_root M) j (lt_of_le_of_lt (p_high n M j s) (lit< tt)) (p_high n M j s) (units_below (nearest_root M) j (p_high n M j s) s.exponent);
    finite = odd_finite 54 (nearest_root M) j;
    positive = odd_positive 54 (nearest_root M) j (lt_of_lt_of_le (pow_pos 52) (p_low n M j s));
    below = λ z f t _. at_below z (sized z f t);
    above = λ z f t _. at_above z (sized z f t);
  }

-- of a number above 0
positive_size : (m : ℕ) (e : ℤ) → T (lt plus_zero (fin false m e)) → 0 < m
unfolding lt of_bits
positive_size m e h = first_pos m (up e) (subst (λ (x : ℕ). 0 < x) (mul-one (m * up e)) (lt_of_le_of_lt zero-le (ltb→lt (0 * down e) (m * up e * 1) h)))

nearest_of_positive : (m : ℕ) (e : ℤ) → 0 < m → T (fits binary64 (fin false m e)) → NearestRoot (fin false m e) (sqrt (fin false m e))
unfolding sqrt is_finite sized
nearest_of_positive zero e h f = absurd (lt_irrefl 0 h)
nearest_of_positive (suc m) e h f =
    let w = sized (fin false (suc m) e) f tt in
    let n = w.m * 2 ^ w.exponent in
    let r = scaled_float w.m w.exponent h w.digits w.most in
    let M = r.0 in
    let j = r.1 in
    let s = r.2 in
    subst (NearestRoot (fin false (suc m) e))
    (sym (sqrt_is m e ∙ ap sqrt_units w.is ∙ sqrt_units_is n M j s.is s.low s.high ∙ units_is (nearest_root M) j (units_below (nearest_root M) j (p_high n M j s) s.exponent)))
    (nearest_at (fin false (suc m) e) n M j w.is s)

pub sqrt_nearest_lem : SqrtNearest
unfolding is_finite lt of_bits
sqrt_nearest_lem nan f t h = absurd t
sqrt_nearest_lem (inf b) f t h = absurd t
sqrt_nearest_lem (fin true m e) f t h = absurd h
sqrt_nearest_lem (fin false m e) f t h = nearest_of_positive m e (positive_size m e h) f
