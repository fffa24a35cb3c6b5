-- The cosine of an angle in range is within 2 ^ -50 of the exact power sum, and the sine within the angle times 2 ^ -50. Shown for any bound X of the angle's
-- square at which some numbers are small enough, and then at `square_limit`.
use Rattle.std.proofs.Common.{◌≡◌, ℕ, ◌-◌, ◌*◌, ◌/◌, ◌^◌, ◌<◌, ◌≤◌, Bool, true, false, T, ℤ, pos, sym, refl, ap, ◌∙◌, subst, subst₂, lt_of_lt_of_le, lt_of_le_of_lt, mul-le-mul_right, mul_assoc, mul_comm, pow-suc, lt_of_not-le, mul-one, arith, lit<, lit≤}
use native.Mathlib.Nat.{div-eq_of_lt}
use native.Mathlib.Decide.{dec_le}
use lib.Ieee.{Float, nan, inf, fin, binary64, up, down, round, le, mul, of_bits}
use lib.Ieee.Bits.{is_true}
use lib.Ieee.Fits.{down_pos}
use lib.Ieee.Exact.{HasValue}
use Rattle.drifters_real.specs.Real.{sum_of, factorial, power, term, difference, exact_sin_plus, exact_sin_minus, exact_cos_plus, exact_cos_minus, numerator, denominator, angle, square, sinc_plus, sinc_minus, cos_plus, cos_minus, sinc_of_square, cos_of_square, in_range, sin, is_finite, Within, CosineBound, SineBound}
use Rattle.drifters_real.specs.Limbs.{square_limit}
use Rattle.drifters_real.proofs.Real.Rounding.{Fit, fit_of}
use Rattle.drifters_real.proofs.Real.Terms.{Between}
use Rattle.drifters_real.proofs.Real.PowerSums.{sinc_plus_error, sinc_minus_error, cos_plus_error, cos_minus_error, cos_plus_near, cos_minus_near, sin_plus_near, sin_minus_near}
use Rattle.drifters_real.proofs.Real.Intervals.{tested, tested_to}
use Rattle.drifters_real.proofs.Real.SumGaps.{sinc_close, cos_close}
use Rattle.drifters_real.proofs.Real.AngleSquare.{SquareNear, square_near}
use Rattle.drifters_real.proofs.Real.Angle.{limit, range, minus_zero_lem, times_one_exact, no_nan, no_inf, angle_is, angle_most, square_is, square_limit_lem, sin_in, cos_in}
use Rattle.drifters_real.proofs.Real.Error.{W, difference_within}
use Rattle.drifters_real.proofs.Real.ProductError.{product_within, same_within}

-- ---- what is computed at X: each sum's error is at most 2048 units, and the sums are less than 2 and 8 apart
pub record Computed (X : ℕ) : Type 0 where
  pub sinc_plus_err : sinc_plus_error X ≤ 2048
  pub sinc_minus_err : sinc_minus_error X ≤ 2048
  pub cos_plus_err : cos_plus_error X ≤ 2048
  pub cos_minus_err : cos_minus_error X ≤ 2048
  pub sinc_tested : T (tested_to sinc_plus sinc_minus (2 ^ 65 - 2 ^ 11) X)
  pub cos_tested : T (tested_to cos_plus cos_minus (2 ^ 67 - 2 ^ 11) X)

pub at_limit : Computed square_limit
unfolding sinc_plus_error sinc_minus_error cos_plus_error cos_minus_error tested sinc_plus sinc_minus cos_plus cos_minus
at_limit = record { sinc_plus_err = lit≤ tt; sinc_minus_err = lit≤ tt; cos_plus_err = lit≤ tt; cos_minus_err = lit≤ tt; sinc_tested = tt; cos_tested = tt }

-- ---- the cosine of an angle a / b
module _ (X a b x : ℕ) (c : Computed X) (s : SquareNear a b x) (small : x ≤ X) where
  pub cosine_within : Within (cos_of_square x) (exact_cos_plus a b) (exact_cos_minus a b) (b ^ 62 * factorial 62) 1 (2 ^ 50)
  unfolding cos_of_square
  cosine_within =
      let close = cos_close X (2 ^ 67 - 2 ^ 11) x c.cos_tested small in
      difference_within (b ^ 62 * factorial 62) (cos_plus x) (cos_minus x) (exact_cos_plus a b) (exact_cos_minus a b) (cos_plus_error X) (cos_minus_error X)
      (cos_plus_near X a b x s.low s.high small) (cos_minus_near X a b x s.low s.high small) c.cos_plus_err c.cos_minus_err close.over close.under

-- ---- where the square is 0
one_is : sinc_of_square 0 ≡ fin false 1 (pos 0)
unfolding sinc_of_square difference sinc_plus sinc_minus sum_of term round
one_is = refl

times_one : (m : ℕ) (e : ℤ) → mul binary64 (fin false m e) (fin false 1 (pos 0)) ≡ round binary64 false (m * up e * (1 * 1)) (down e * 1)
unfolding mul
times_one m e = refl

plus_0 : sinc_plus 0 ≡ 2 ^ 64
unfolding sinc_plus sum_of term
plus_0 = refl

minus_0 : sinc_minus 0 ≡ 0
unfolding sinc_minus sum_of term
minus_0 = refl

-- ---- the sine of an angle m * 2 ^ e of at most l
module _ (X l m : ℕ) (e : ℤ) (x : ℕ) (c : Computed X) (small_enough : l * 3 * W < 2 ^ 1080) (f : Fit m e) (most : m * up e ≤ l * down e) (s : SquareNear (m * up e) (down e) x) (small : x ≤ X) where
  abbrev a : ℕ
  a = m * up e

  abbrev b : ℕ
  b = down e

  abbrev D : ℕ
  D = b ^ 62 * factorial 63

  plus_near : Between (sinc_plus x) (exact_sin_plus a b) (a * D) (sinc_plus_error X)
  plus_near = sin_plus_near X a b x s.low s.high small

  minus_near : Between (sinc_minus x) (exact_sin_minus a b) (a * D) (sinc_minus_error X)
  minus_near = sin_minus_near X a b x s.low s.high small

  -- from 2 ^ -60 on
  large : b ≤ a * 2 ^ 60 → Within (mul binary64 (fin false m e) (sinc_of_square x)) (exact_sin_plus a b) (exact_sin_minus a b) (b * D) a (b * 2 ^ 50)
  unfolding sinc_of_square
  large least =
      let close = sinc_close X (2 ^ 65 - 2 ^ 11) x c.sinc_tested small in
      product_within l m e D small_enough most least (sinc_plus x) (sinc_minus x) (exact_sin_plus a b) (exact_sin_minus a b) (sinc_plus_error X) (sinc_minus_error X) plus_near minus_near c.sinc_plus_err c.sinc_minus_err close.over close.under

  -- below it the rule's square is 0, and the sine is the angle
  tiny : x ≡ 0 → Within (mul binary64 (fin false m e) (sinc_of_square x)) (exact_sin_plus a b) (exact_sin_minus a b) (b * D) a (b * 2 ^ 50)
  tiny none =
      same_within a b D (exact_sin_plus a b) (exact_sin_minus a b) (sinc_plus_error X) (sinc_minus_error X)
      (subst (λ (y : ℕ). Between y (exact_sin_plus a b) (a * D) (sinc_plus_error X)) (ap sinc_plus none ∙ plus_0) plus_near)
      (subst (λ (y : ℕ). Between y (exact_sin_minus a b) (a * D) (sinc_minus_error X)) (ap sinc_minus none ∙ minus_0) minus_near)
      c.sinc_plus_err c.sinc_minus_err (mul binary64 (fin false m e) (sinc_of_square x)) (down_pos e)
      (subst (λ (v : Float). HasValue v false a b) (sym (ap (λ (y : ℕ). mul binary64 (fin false m e) (sinc_of_square y)) none ∙ ap (mul binary64 (fin false m e)) one_is ∙ times_one m e))
      (subst₂ (λ (y z : ℕ). HasValue (round binary64 false (a * (1 * 1)) (b * 1)) false y z) (mul-one a) (mul-one b) (times_one_exact l small_limit false m e f most)))
    where
      small_limit : l * W < 2 ^ 2098
      small_limit = lt_of_le_of_lt (mul-le-mul_right W (three l)) (lt_of_lt_of_le small_enough (lit≤ tt))
        where
          three : (l : ℕ) → l ≤ l * 3
          three l = omega arith

  pub sine_within : (a * 2 ^ 60 < b → x ≡ 0) → Within (mul binary64 (fin false m e) (sinc_of_square x)) (exact_sin_plus a b) (exact_sin_minus a b) (b ^ 63 * factorial 63) a (b * 2 ^ 50)
  sine_within none = subst (λ (y : ℕ). Within (mul binary64 (fin false m e) (sinc_of_square x)) (exact_sin_plus a b) (exact_sin_minus a b) y a (b * 2 ^ 50)) (over_63 b) (go (dec_le b (a * 2 ^ 60)))
    where
      over_63 : (b : ℕ) → b * (b ^ 62 * factorial 63) ≡ b ^ 63 * factorial 63
      over_63 b = sym (mul_assoc b (b ^ 62) (factorial 63)) ∙ ap (λ (y : ℕ). y * factorial 63) (mul_comm b (b ^ 62) ∙ sym (pow-suc b 62))

      go : Dec (b ≤ a * 2 ^ 60) → Within (mul binary64 (fin false m e) (sinc_of_square x)) (exact_sin_plus a b) (exact_sin_minus a b) (b * D) a (b * 2 ^ 50)
      go (yes h) = large h
      go (no h) = tiny (none (lt_of_not-le h))

-- ---- the theorems
squared_at : (t : Bool) (m : ℕ) (e : ℤ) → Fit m e → SquareNear (m * up e) (down e) (square (angle (fin t m e)))
squared_at t m e f = subst (λ (y : ℕ). SquareNear (m * up e) (down e) y) (sym (square_is (angle (fin t m e)) ∙ ap (λ (y : ℕ). y * y / 2 ^ 56) (angle_is t m e))) (square_near m e f)

square_small : (s : Bool) (m : ℕ) (e : ℤ) → T (in_range (fin s m e)) → square (angle (fin s m e)) ≤ square_limit
square_small s m e t = square_limit_lem (angle (fin s m e)) (angle_most limit s m e (range s m e t).most)

pub cosine_bound_lem : CosineBound
cosine_bound_lem nan f t = absurd (no_nan t)
cosine_bound_lem (inf s) f t = absurd (no_inf s t)
cosine_bound_lem (fin s m e) f t =
    subst (λ (v : Float). Within v (exact_cos_plus (m * up e) (down e)) (exact_cos_minus (m * up e) (down e)) (down e ^ 62 * factorial 62) 1 (2 ^ 50))
    (sym (cos_in (fin s m e) (is_true (in_range (fin s m e)) t)))
    (cosine_within square_limit (m * up e) (down e) (square (angle (fin s m e))) at_limit (squared_at s m e (fit_of s m e f)) (square_small s m e t))

-- of -0 the sine is -0
at_minus_zero : Within (sin (fin true 0 (pos 0))) (exact_sin_plus 0 1) (exact_sin_minus 0 1) (1 ^ 63 * factorial 63) 0 (1 * 2 ^ 50)
unfolding sin in_range angle square sinc_of_square difference sinc_plus sinc_minus sum_of term exact_sin_plus exact_sin_minus power factorial is_finite of_bits le mul round
at_minus_zero = record { finite = tt; over = lit≤ tt; under = lit≤ tt }

pub sine_bound_lem : SineBound
sine_bound_lem nan f t = absurd (no_nan t)
sine_bound_lem (inf s) f t = absurd (no_inf s t)
sine_bound_lem (fin true m e) f t =
    subst (λ (y : Float). Within (sin y) (exact_sin_plus (numerator y) (denominator y)) (exact_sin_minus (numerator y) (denominator y)) (denominator y ^ 63 * factorial 63) (numerator y) (denominator y * 2 ^ 50)) (sym (minus_zero_lem m e f t)) at_minus_zero
sine_bound_lem (fin false m e) f t =
    subst (λ (v : Float). Within v (exact_sin_plus (m * up e) (down e)) (exact_sin_minus (m * up e) (down e)) (down e ^ 63 * factorial 63) (m * up e) (down e * 2 ^ 50))
    (sym (sin_in (fin false m e) (is_true (in_range (fin false m e)) t)))
    (sine_within square_limit limit m e (square (angle (fin false m e))) at_limit (lit< tt) (fit_of false m e f) (range false m e t).most (squared_at false m e (fit_of false m e f)) (square_small false m e t)
    (λ h. ap square (angle_is false m e ∙ div-eq_of_lt h) ∙ square_is 0))
