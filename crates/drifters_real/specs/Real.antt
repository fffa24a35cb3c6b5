-- The definitions behind math/real.rs: square root, sine and cosine, and the methods of f64 that the filter uses. Then what the first three are
-- worth: the root is the nearest f64, and sine and cosine are within bounds of the exact power sums. Definitions and statements only.
use Rattle.std.specs.Prelude.{ℕ, zero, suc, ◌+◌, ◌-◌, ◌*◌, ◌/◌, ◌^◌, ◌<◌, ◌≤◌, Bool, true, false, cond, ◌&&◌, T, from_bits, is_nan, nat_le, nat_lt, Float}
use Prim.Native.Nat.{compare}
use Rattle.std.specs.Float.{nan, inf, fin, binary64}
use Rattle.std.specs.Float.Ieee.{up, down, size, nearest, units, round, lt, le, fits}
use Rattle.drifters_real.specs.Scalar.{◌⊗◌, plus_zero}
use Rattle.drifters_real.specs.declared.math.real.SinCos.{SinCos}

-- ---- the size of a finite number

-- it is numerator / denominator
abbrev pub numerator : Float → ℕ
numerator nan = 0
numerator (inf s) = 0
numerator (fin s m e) = m * up e

-- and this is the denominator
abbrev pub denominator : Float → ℕ
denominator nan = 1
denominator (inf s) = 1
denominator (fin s m e) = down e

-- and in smallest values, 2 ^ -1074, this many, of an f64 exactly
unfoldable pub smallest_values : Float → ℕ
smallest_values x = numerator x * 2 ^ 1074 / denominator x

-- ---- square root

-- The whole part of the root of an n below 4 ^ k, one binary digit after another: twice that of a quarter of n, or one more where the square of that is at most n.
unfoldable pub whole_root : ℕ → ℕ → ℕ
whole_root zero n = 0
whole_root (suc k) n = let r = 2 * whole_root k (n / 4) in cond (nat_le ((r + 1) * (r + 1)) n) (r + 1) r

-- The root of n of the smallest values, 2 ^ -1074, for an n above 0. In smallest values it is the root of N = n * 2 ^ 1074.
-- Of its whole part the format keeps 53 digits, q, and drops k. Between q * 2 ^ k and (q + 1) * 2 ^ k the middle is (2 * q + 1) * 2 ^ k / 2:
-- q moves up by one where four times N is above the square of (2 * q + 1) * 2 ^ k, and at a tie to the even one.
unfoldable pub sqrt_units : ℕ → Float
sqrt_units n =
    let N = n * 2 ^ 1074 in
    let k = (size N + 1) / 2 - 53 in
    let q = whole_root 53 (N / 4 ^ k) in
    units binary64 false (nearest q (compare (4 * N) ((2 * q + 1) * (2 * q + 1) * 4 ^ k))) k

-- the square root: of -0 it is -0, of +inf +inf, and of a number below 0 not a number
unfoldable pub sqrt : Float → Float
sqrt nan = nan
sqrt (inf true) = nan
sqrt (inf false) = inf false
sqrt (fin s zero e) = fin s zero e
sqrt (fin true (suc m) e) = nan
sqrt (fin false (suc m) e) = sqrt_units (smallest_values (fin false (suc m) e))

-- ---- the exact power sums, for any angle a / b

-- f 0 + f 1 + .. + f (n - 1)
unfoldable pub sum_of : (ℕ → ℕ) → ℕ → ℕ
sum_of f zero = 0
sum_of f (suc n) = sum_of f n + f n

-- n!
unfoldable pub factorial : ℕ → ℕ
factorial zero = 1
factorial (suc n) = suc n * factorial n

-- (a / b) ^ j / j! is power n a b j / (b ^ n * n!), for every j up to n
unfoldable pub power : ℕ → ℕ → ℕ → ℕ → ℕ
power n a b j = a ^ j * b ^ (n - j) * (factorial n / factorial j)

-- the sine through the power 63 is (exact_sin_plus - exact_sin_minus) / (b ^ 63 * 63!): the terms that are added
unfoldable pub exact_sin_plus : ℕ → ℕ → ℕ
exact_sin_plus a b = sum_of (λ i. power 63 a b (4 * i + 1)) 16

-- and those that are taken off
unfoldable pub exact_sin_minus : ℕ → ℕ → ℕ
exact_sin_minus a b = sum_of (λ i. power 63 a b (4 * i + 3)) 16

-- the cosine through the power 62 is (exact_cos_plus - exact_cos_minus) / (b ^ 62 * 62!): the terms that are added
unfoldable pub exact_cos_plus : ℕ → ℕ → ℕ
exact_cos_plus a b = sum_of (λ i. power 62 a b (4 * i)) 16

-- and those that are taken off
unfoldable pub exact_cos_minus : ℕ → ℕ → ℕ
exact_cos_minus a b = sum_of (λ i. power 62 a b (4 * i + 2)) 16

-- ---- the rule that fixes the bits of sine and cosine

-- the angle in units of 2 ^ -60, rounded down
unfoldable pub angle : Float → ℕ
angle x = numerator x * 2 ^ 60 / denominator x

-- its square in units of 2 ^ -64, rounded down
unfoldable pub square : ℕ → ℕ
square t = t * t / 2 ^ 56

-- the square's power k over (2 k + 1)!, in units of 2 ^ -64, each from the one before, rounded down
unfoldable pub term : ℕ → ℕ → ℕ
term x zero = 2 ^ 64
term x (suc k) = term x k * x / (2 ^ 64 * ((2 * k + 2) * (2 * k + 3)))

-- the sine over the angle is sinc_plus - sinc_minus units of 2 ^ -64: the terms that are added
unfoldable pub sinc_plus : ℕ → ℕ
sinc_plus x = sum_of (λ i. term x (2 * i)) 16

-- and those that are taken off
unfoldable pub sinc_minus : ℕ → ℕ
sinc_minus x = sum_of (λ i. term x (2 * i + 1)) 16

-- the cosine is cos_plus - cos_minus units of 2 ^ -64: the terms that are added
unfoldable pub cos_plus : ℕ → ℕ
cos_plus x = sum_of (λ i. (4 * i + 1) * term x (2 * i)) 16

-- and those that are taken off
unfoldable pub cos_minus : ℕ → ℕ
cos_minus x = sum_of (λ i. (4 * i + 3) * term x (2 * i + 1)) 16

-- the f64 nearest to p - n units of 2 ^ -54
unfoldable pub difference : ℕ → ℕ → Float
difference p n = round binary64 (nat_lt p n) (p - n + (n - p)) (2 ^ 54)

-- the sine over the angle, for the angle's square x: both sums cut to units of 2 ^ -54
unfoldable pub sinc_of_square : ℕ → Float
sinc_of_square x = difference (sinc_plus x / 2 ^ 10) (sinc_minus x / 2 ^ 10)

-- the cosine, for the angle's square x: both sums cut to units of 2 ^ -54
unfoldable pub cos_of_square : ℕ → Float
cos_of_square x = difference (cos_plus x / 2 ^ 10) (cos_minus x / 2 ^ 10)

-- 8.0: sine and cosine are for angles from 0 to this one
abbrev pub angle_limit : Float
angle_limit = from_bits binary64 0x4020_0000_0000_0000

-- whether an angle is one of those
unfoldable pub in_range : Float → Bool
in_range x = le plus_zero x && le x angle_limit

-- the sine; outside the range not a number
unfoldable pub sin : Float → Float
sin x = cond (in_range x) (x ⊗ sinc_of_square (square (angle x))) nan

-- the cosine; outside the range not a number
unfoldable pub cos : Float → Float
cos x = cond (in_range x) (cos_of_square (square (angle x))) nan

-- both, as `sin_cos` returns them
abbrev pub sin_cos : Float → SinCos
sin_cos x = record { sin = sin x; cos = cos x }

-- ---- the methods of f64

-- f64::abs: the sign cleared, of -0 too
unfoldable pub abs : Float → Float
abs nan = nan
abs (inf s) = inf false
abs (fin s m e) = fin false m e

-- f64::max: the larger; where one is not a number, the other
unfoldable pub max : Float → Float → Float
max a b = cond (lt a b) b (cond (is_nan a) b a)

-- f64::clamp: x brought up to low, and then down to high; what is not a number stays
unfoldable pub clamp : Float → Float → Float → Float
clamp x low high = let y = cond (lt x low) low x in cond (lt high y) high y

-- f64::is_finite: neither an infinity nor not a number
unfoldable pub is_finite : Float → Bool
is_finite nan = false
is_finite (inf s) = false
is_finite (fin s m e) = true

-- 1.0e-10: a threshold for the branches at small angles
abbrev pub small_angle : Float
small_angle = from_bits binary64 0x3ddb_7cdf_d9d7_bdbb

-- ---- what square root, sine and cosine are worth

-- The f64 y is nearer to the root of x than every other f64 z from 0 on. Counted in smallest values the root is that of N, and lies above the
-- middle of y and any smaller z, and below that of y and any larger z: (Y + Z) / 2, which is compared by squares.
pub record NearestRoot (x y : Float) : Type 0 where
  pub float : T (fits binary64 y)
  pub finite : T (is_finite y)
  pub positive : T (lt plus_zero y)
  pub below :
      (z : Float) → T (fits binary64 z) → T (is_finite z) → T (le plus_zero z)
      → let N = smallest_values x * 2 ^ 1074 in let Y = smallest_values y in let Z = smallest_values z in
      Z < Y → (Y + Z) * (Y + Z) < 4 * N
  pub above :
      (z : Float) → T (fits binary64 z) → T (is_finite z) → T (le plus_zero z)
      → let N = smallest_values x * 2 ^ 1074 in let Y = smallest_values y in let Z = smallest_values z in
      Y < Z → 4 * N < (Y + Z) * (Y + Z)

-- the square root of every finite f64 above 0 is the nearest f64, and the root is never midway between two
abbrev pub SqrtNearest : Type 0
SqrtNearest = (x : Float) → T (fits binary64 x) → T (is_finite x) → T (lt plus_zero x) → NearestRoot x (sqrt x)

-- a finite number is (positive_part - negative_part) / denominator
abbrev pub positive_part : Float → ℕ
positive_part nan = 0
positive_part (inf s) = 0
positive_part (fin s m e) = cond s 0 (m * up e)

-- and one of the two is 0
abbrev pub negative_part : Float → ℕ
negative_part nan = 0
negative_part (inf s) = 0
negative_part (fin s m e) = cond s (m * up e) 0

-- r is finite, and |r - (p - n) / d| is at most t / u: multiplied out, with what is taken off on the other side
pub record Within (r : Float) (p n d t u : ℕ) : Type 0 where
  pub finite : T (is_finite r)
  pub over : (positive_part r * d + n * denominator r) * u ≤ (negative_part r * d + p * denominator r) * u + t * (denominator r * d)
  pub under : (negative_part r * d + p * denominator r) * u ≤ (positive_part r * d + n * denominator r) * u + t * (denominator r * d)

-- the cosine of every angle in range is within 2 ^ -50 of the exact power sum through the power 62
abbrev pub CosineBound : Type 0
CosineBound =
    (x : Float) → T (fits binary64 x) → T (in_range x)
    → let a = numerator x in let b = denominator x in
    Within (cos x) (exact_cos_plus a b) (exact_cos_minus a b) (b ^ 62 * factorial 62) 1 (2 ^ 50)

-- the sine of every angle in range is within the angle times 2 ^ -50 of the exact power sum through the power 63
abbrev pub SineBound : Type 0
SineBound =
    (x : Float) → T (fits binary64 x) → T (in_range x)
    → let a = numerator x in let b = denominator x in
    Within (sin x) (exact_sin_plus a b) (exact_sin_minus a b) (b ^ 63 * factorial 63) a (b * 2 ^ 50)
