-- How far the rounded difference of two sums is from the exact one, by whole numbers. W is 2 ^ 1074, by which the smallest values are counted, and U is 2 ^ 1020: U of them are a
-- unit of 2 ^ -54. All is shown over variables, and U and W put in at the end.
use Rattle.std.proofs.Common.{◌≡◌, ℕ, ◌+◌, ◌-◌, ◌*◌, ◌/◌, ◌^◌, ◌<◌, ◌≤◌, Bool, true, false, ltb, sym, refl, ap, ◌∙◌, subst, ap₂, true≢false, le_trans, le_of_eq, lt_of_lt_of_le, le_of_lt, add-le-add, mul-le-mul_right, mul_assoc, mul_comm, add-mul, mul-le-mul_left, lt_of_not-le, zero-add, zero-mul, sub-add_cancel, div-mul-le_self, le_of_mul-le-mul_right, mul_left_comm, arith, lit≤, pow_pos, pow_mono, le-ltb, lt-ltb}
use native.Mathlib.Nat.{lt-div-mul-add}
use native.Mathlib.Decide.{dec_le}
use lib.Ieee.{Float, nan, inf, fin, binary64, up, down, round, neg}
use lib.Ieee.Exact.{HasValue}
use lib.Ieee.Scale.{grid, round_val}
use Rattle.drifters_real.specs.Real.{is_finite, difference, Within}
use Rattle.drifters_real.proofs.Real.Terms.{Between}
use Rattle.drifters_real.proofs.Real.Rounding.{near_54, grid_54_lt, neg_round}

-- ---- the sums, cut to units of 2 ^ -54 and subtracted, against the exact ones
-- linear, with each product as a number of its own: A is the result and B, C the exact sums, in units of 1 / (W * D); z is U * D
upper : (A B C z dz Nz nz pz Pz K E : ℕ) → A ≤ dz + K * z → 1024 * B ≤ nz + E * z → pz ≤ 1024 * C → dz + Nz ≡ Pz → 1024 * Pz ≤ pz → nz ≤ 1024 * Nz + 1024 * z → E ≤ 2048 → A + B ≤ C + (K + 3) * z
upper A B C z dz Nz nz pz Pz K E a b c d p n e = omega (arith, mul-le-mul_right z e)

lower : (A B C z dz Nz nz pz Pz K E : ℕ) → dz ≤ A + K * z → nz ≤ 1024 * B → 1024 * C ≤ pz + E * z → dz + Nz ≡ Pz → pz ≤ 1024 * Pz + 1024 * z → 1024 * Nz ≤ nz → E ≤ 2048 → C ≤ A + B + (K + 3) * z
lower A B C z dz Nz nz pz Pz K E a b c d p n e = omega (arith, mul-le-mul_right z e)

-- A float's size G / W against (plus - minus) / D: within c units of 2 ^ -54
pub record Near (G plus minus D U W c : ℕ) : Type 0 where
  pub over : G * D + minus * W ≤ plus * W + c * (U * D)
  pub under : plus * W ≤ G * D + minus * W + c * (U * D)

module _ (U W : ℕ) (SU : 2 ^ 64 * U ≡ 1024 * W) where
  -- an exact sum v over D, in units of 2 ^ -64, with its bound, in units of 1 / (W * D)
  scale : (v : ℕ) → v * 2 ^ 64 * U ≡ 1024 * (v * W)
  scale v = mul_assoc v (2 ^ 64) U ∙ ap (λ (x : ℕ). v * x) SU ∙ mul_left_comm v 1024 W

  low_in : (s v D E : ℕ) → Between s v D E → s * (U * D) ≤ 1024 * (v * W)
  low_in s v D E b = le_trans (le_of_eq (sort s U D)) (le_trans (mul-le-mul_right U b.low) (le_of_eq (scale v)))
    where
      sort : (s U D : ℕ) → s * (U * D) ≡ s * D * U
      sort s U D = simp (mul_assoc, mul_comm)

  high_in : (s v D E : ℕ) → Between s v D E → 1024 * (v * W) ≤ s * (U * D) + E * (U * D)
  high_in s v D E b = le_trans (le_of_eq (sym (scale v))) (le_trans (mul-le-mul_right U b.high) (le_of_eq (sort s E U D)))
    where
      sort : (s E U D : ℕ) → (s + E) * D * U ≡ s * (U * D) + E * (U * D)
      sort s E U D = omega arith

  -- p over n: the sums as the rule has them, cut to P and N, and d = P - N
  pub near : (p n plus minus D E E' K G : ℕ) → Between p plus D E → Between n minus D E' → E ≤ 2048 → E' ≤ 2048 → n / 2 ^ 10 ≤ p / 2 ^ 10
      → G ≤ (p / 2 ^ 10 - n / 2 ^ 10 + K) * U → (p / 2 ^ 10 - n / 2 ^ 10) * U ≤ G + K * U → Near G plus minus D U W (K + 3)
  near p n plus minus D E E' K G bp bn e e' le g1 g2 =
      let P = p / 2 ^ 10 in
      let N = n / 2 ^ 10 in
      let d = P - N in
      let z = U * D in
      let sum : d * z + N * z ≡ P * z = sym (add-mul d N z) ∙ ap (λ (x : ℕ). x * z) (sub-add_cancel le) in
      record {
        over =
            upper (G * D) (minus * W) (plus * W) z (d * z) (N * z) (n * z) (p * z) (P * z) K E' (le_trans (mul-le-mul_right D g1) (le_of_eq (out d K U D)))
            (high_in n minus D E' bn) (low_in p plus D E bp) sum (down_by p z) (up_by n z) e';
        under =
            lower (G * D) (minus * W) (plus * W) z (d * z) (N * z) (n * z) (p * z) (P * z) K E (le_trans (le_of_eq (sym (mul_assoc d U D))) (le_trans (mul-le-mul_right D g2) (le_of_eq (in_by G K U D))))
            (low_in n minus D E' bn) (high_in p plus D E bp) sum (up_by p z) (down_by n z) e;
      }
    where
      out : (d K U D : ℕ) → (d + K) * U * D ≡ d * (U * D) + K * (U * D)
      out d K U D = omega arith

      in_by : (G K U D : ℕ) → (G + K * U) * D ≡ G * D + K * (U * D)
      in_by G K U D = omega arith

      down_by : (p z : ℕ) → 1024 * (p / 2 ^ 10 * z) ≤ p * z
      down_by p z = le_trans (le_of_eq (sort (p / 2 ^ 10) z)) (mul-le-mul_right z (div-mul-le_self p (2 ^ 10)))
        where
          sort : (q z : ℕ) → 1024 * (q * z) ≡ q * 1024 * z
          sort q z = omega arith

      up_by : (p z : ℕ) → p * z ≤ 1024 * (p / 2 ^ 10 * z) + 1024 * z
      up_by p z = le_trans (mul-le-mul_right z (le_of_lt (lt-div-mul-add {a = p} (pow_pos 10)))) (le_of_eq (sort (p / 2 ^ 10) z))
        where
          sort : (q z : ℕ) → (q * 1024 + 1024) * z ≡ 1024 * (q * z) + 1024 * z
          sort q z = omega arith

-- ---- a fraction r / k against (plus - minus) / D, within t / u
pub record Around (r k plus minus D t u : ℕ) : Type 0 where
  pub over : (r * D + minus * k) * u ≤ plus * k * u + t * (k * D)
  pub under : plus * k * u ≤ (r * D + minus * k) * u + t * (k * D)

-- the same at another fraction m / d of that size
rescaled_over : (m d r k plus minus D t u : ℕ) → 0 < k → m * k ≡ r * d → Around r k plus minus D t u → (m * D + minus * d) * u ≤ plus * d * u + t * (d * D)
rescaled_over m d r k plus minus D t u K e a =
    le_of_mul-le-mul_right
    (le_trans (le_of_eq (left m d k minus D u ∙ ap (λ (x : ℕ). (x * D + minus * k * d) * u) e ∙ gather r d k minus D u))
    (le_trans (mul-le-mul_left d a.over) (le_of_eq (right d k plus D t u))))
    K
  where
    left : (m d k n D u : ℕ) → (m * D + n * d) * u * k ≡ (m * k * D + n * k * d) * u
    left m d k n D u = omega arith

    gather : (r d k n D u : ℕ) → (r * d * D + n * k * d) * u ≡ d * ((r * D + n * k) * u)
    gather r d k n D u = omega arith

    right : (d k p D t u : ℕ) → d * (p * k * u + t * (k * D)) ≡ (p * d * u + t * (d * D)) * k
    right d k p D t u = omega arith

rescaled_under : (m d r k plus minus D t u : ℕ) → 0 < k → m * k ≡ r * d → Around r k plus minus D t u → plus * d * u ≤ (m * D + minus * d) * u + t * (d * D)
rescaled_under m d r k plus minus D t u K e a =
    le_of_mul-le-mul_right
    (le_trans (le_of_eq (left d k plus u))
    (le_trans (mul-le-mul_left d a.under)
    (le_of_eq (gather r d k minus D t u ∙ ap (λ (x : ℕ). (x * D + minus * k * d) * u + t * (d * D) * k) (sym e) ∙ right m d k minus D t u))))
    K
  where
    left : (d k p u : ℕ) → p * d * u * k ≡ d * (p * k * u)
    left d k p u = omega arith

    gather : (r d k n D t u : ℕ) → d * ((r * D + n * k) * u + t * (k * D)) ≡ (r * d * D + n * k * d) * u + t * (d * D) * k
    gather r d k n D t u = omega arith

    right : (m d k n D t u : ℕ) → (m * k * D + n * k * d) * u + t * (d * D) * k ≡ ((m * D + n * d) * u + t * (d * D)) * k
    right m d k n D t u = omega arith

zero_in : (x D : ℕ) → 0 * D + x ≡ x
zero_in x D = ap (λ (y : ℕ). y + x) (zero-mul D) ∙ zero-add x

-- a float with the sign clear, by its value
pub within_of : (v : Float) (r k plus minus D t u : ℕ) → 0 < k → HasValue v false r k → Around r k plus minus D t u → Within v plus minus D t u
unfolding is_finite
within_of nan r k plus minus D t u K h a = absurd h
within_of (inf s) r k plus minus D t u K h a = absurd h
within_of (fin true m e) r k plus minus D t u K h a = absurd (true≢false h.0)
within_of (fin false m e) r k plus minus D t u K h a = record {
  finite = tt;
  over = le_trans (rescaled_over (m * up e) (down e) r k plus minus D t u K h.1 a) (le_of_eq (ap (λ (x : ℕ). x * u + t * (down e * D)) (sym (zero_in (plus * down e) D))));
  under = le_trans (le_of_eq (ap (λ (x : ℕ). x * u) (zero_in (plus * down e) D))) (rescaled_under (m * up e) (down e) r k plus minus D t u K h.1 a);
}

-- and negated: the two exact sums change places
pub within_neg : (v : Float) (plus minus D t u : ℕ) → Within v plus minus D t u → Within (neg v) minus plus D t u
unfolding neg is_finite
within_neg nan plus minus D t u h = absurd h.finite
within_neg (inf s) plus minus D t u h = absurd h.finite
within_neg (fin true m e) plus minus D t u h = record { finite = tt; over = h.under; under = h.over }
within_neg (fin false m e) plus minus D t u h = record { finite = tt; over = h.under; under = h.over }

-- ---- within 16 units of 2 ^ -54 is within 2 ^ -50
around_cos : (G plus minus D U W c : ℕ) → W ≡ 2 ^ 54 * U → c ≤ 16 → Near G plus minus D U W c → Around G W plus minus D 1 (2 ^ 50)
around_cos G plus minus D U W c w l h = record {
  over = le_trans (mul-le-mul_right (2 ^ 50) h.over) (le_trans (le_of_eq (add-mul (plus * W) (c * (U * D)) (2 ^ 50))) (most (plus * W * 2 ^ 50)));
  under = le_trans (mul-le-mul_right (2 ^ 50) h.under) (le_trans (le_of_eq (add-mul (G * D + minus * W) (c * (U * D)) (2 ^ 50))) (most ((G * D + minus * W) * 2 ^ 50)));
}
  where
    sixteen : 16 * (U * D) * 2 ^ 50 ≡ 1 * (W * D)
    sixteen = sort U D ∙ ap (λ (x : ℕ). 1 * (x * D)) (sym w)
      where
        sort : (U D : ℕ) → 16 * (U * D) * 2 ^ 50 ≡ 1 * (2 ^ 54 * U * D)
        sort U D = omega arith

    most : (x : ℕ) → x + c * (U * D) * 2 ^ 50 ≤ x + 1 * (W * D)
    most x = add-le-add (le_of_eq refl) (le_trans (mul-le-mul_right (2 ^ 50) (mul-le-mul_right (U * D) l)) (le_of_eq sixteen))

-- ---- what `difference` gives
abbrev pub W : ℕ
W = 2 ^ 1074

abbrev pub U : ℕ
U = 2 ^ 1020

pub SU : 2 ^ 64 * U ≡ 1024 * W
SU = refl

pub WU : W ≡ 2 ^ 54 * U
WU = refl

pub difference_is : (p n d : ℕ) (s : Bool) → ltb p n ≡ s → p - n + (n - p) ≡ d → difference p n ≡ round binary64 s d (2 ^ 54)
unfolding difference
difference_is p n d s t e = ap₂ (λ (b : Bool) (x : ℕ). round binary64 b x (2 ^ 54)) t e

pub difference_plus : (p n : ℕ) → n ≤ p → difference p n ≡ round binary64 false (p - n) (2 ^ 54)
difference_plus p n h = difference_is p n (p - n) false (le-ltb p n h) (one p n h)
  where
    one : (p n : ℕ) → n ≤ p → p - n + (n - p) ≡ p - n
    one p n h = omega arith

pub difference_minus : (p n : ℕ) → p < n → difference p n ≡ neg (round binary64 false (n - p) (2 ^ 54))
difference_minus p n h = difference_is p n (n - p) true (lt-ltb p n h) (one p n h) ∙ sym (neg_round binary64 (n - p) (2 ^ 54))
  where
    one : (p n : ℕ) → p < n → p - n + (n - p) ≡ n - p
    one p n h = omega arith

pub difference_neg : (p n : ℕ) → p < n → difference p n ≡ neg (difference n p)
difference_neg p n h = difference_minus p n h ∙ ap neg (sym (difference_plus n p (le_of_lt h)))

-- the rounding moves at most K units
rounded_over : (g d u w K : ℕ) → 2 * g ≤ 2 * (d * u) + w → w ≡ 2 * (K * u) → g ≤ (d + K) * u
rounded_over g d u w K h e = omega arith

rounded_under : (g d u w K : ℕ) → 2 * (d * u) ≤ 2 * g + w → w ≡ 2 * (K * u) → d * u ≤ g + K * u
rounded_under g d u w K h e = omega arith

-- two sums, cut to units of 2 ^ -54, the second one the smaller: their difference rounded, G / W, against the exact one, for one below 2 ^ (53 + t) units
pub record Rounded (P N plus minus D K : ℕ) : Type 0 where
  pub G : ℕ
  pub value : HasValue (difference P N) false G W
  pub most : G ≤ (P - N + K) * U
  pub near : Near G plus minus D U W (K + 3)

pub rounded : (p n plus minus D E E' t K : ℕ) → Between p plus D E → Between n minus D E' → E ≤ 2048 → E' ≤ 2048 → n / 2 ^ 10 ≤ p / 2 ^ 10 → p / 2 ^ 10 - n / 2 ^ 10 < 2 ^ (53 + t) → 53 + t ≤ 64
    → 2 ^ (t + 1020) ≡ 2 * (K * U) → Rounded (p / 2 ^ 10) (n / 2 ^ 10) plus minus D K
rounded p n plus minus D E E' t K bp bn e e' l h f w =
    let P = p / 2 ^ 10 in
    let N = n / 2 ^ 10 in
    let d = P - N in
    let G = grid binary64 d (2 ^ 54) in
    let g = near_54 d t h in
    let most : G ≤ (d + K) * U = rounded_over G d U (2 ^ (t + 1020)) K g.0 w in
    record {
      G = G;
      value = subst (λ (v : Float). HasValue v false G W) (sym (difference_plus P N l)) (round_val binary64 d (2 ^ 54) (lt_of_lt_of_le (grid_54_lt d (lt_of_lt_of_le h (pow_mono f))) (lit≤ tt)));
      most = most;
      near = near U W SU p n plus minus D E E' K G bp bn e e' l most (rounded_under G d U (2 ^ (t + 1020)) K g.1 w);
    }

-- ---- the difference of two sums that are each within 2048 units of 2 ^ -64, and less than 8 apart
module _ (D : ℕ) where
  ordered_difference : (p n plus minus E E' : ℕ) → Between p plus D E → Between n minus D E' → E ≤ 2048 → E' ≤ 2048 → p < n + (2 ^ 67 - 2 ^ 11) → n / 2 ^ 10 ≤ p / 2 ^ 10
      → Within (difference (p / 2 ^ 10) (n / 2 ^ 10)) plus minus D 1 (2 ^ 50)
  ordered_difference p n plus minus E E' bp bn e e' c l =
      let r = rounded p n plus minus D E E' 4 8 bp bn e e' l (d_lt p n c) (lit≤ tt) refl in
      within_of (difference (p / 2 ^ 10) (n / 2 ^ 10)) r.G W plus minus D 1 (2 ^ 50) (pow_pos 1074) r.value (around_cos r.G plus minus D U W 11 WU (lit≤ tt) r.near)
    where
      d_lt : (p n : ℕ) → p < n + (2 ^ 67 - 2 ^ 11) → p / 2 ^ 10 - n / 2 ^ 10 < 2 ^ 57
      d_lt p n h = omega arith

  pub difference_within : (p n plus minus E E' : ℕ) → Between p plus D E → Between n minus D E' → E ≤ 2048 → E' ≤ 2048 → p < n + (2 ^ 67 - 2 ^ 11) → n < p + (2 ^ 67 - 2 ^ 11)
      → Within (difference (p / 2 ^ 10) (n / 2 ^ 10)) plus minus D 1 (2 ^ 50)
  difference_within p n plus minus E E' bp bn e e' c c' = go (dec_le (n / 2 ^ 10) (p / 2 ^ 10))
    where
      go : Dec (n / 2 ^ 10 ≤ p / 2 ^ 10) → Within (difference (p / 2 ^ 10) (n / 2 ^ 10)) plus minus D 1 (2 ^ 50)
      go (yes l) = ordered_difference p n plus minus E E' bp bn e e' c l
      go (no k) =
          let l = lt_of_not-le k in
          subst (λ (v : Float). Within v plus minus D 1 (2 ^ 50)) (sym (difference_neg (p / 2 ^ 10) (n / 2 ^ 10) l))
          (within_neg (difference (n / 2 ^ 10) (p / 2 ^ 10)) minus plus D 1 (2 ^ 50) (ordered_difference n p minus plus E' E bn bp e' e c' (le_of_lt l)))
