-- The angle in units of 2 ^ -60, as the program finds it: 2 ^ 60 times the angle is a float, and cut to a whole number it is `angle`.
use Rattle.std.proofs.Common.{◌≡◌, ℕ, zero, suc, ◌+◌, ◌-◌, ◌*◌, ◌/◌, ◌^◌, ◌<◌, ◌≤◌, min, Bool, true, false, cond, ◌&&◌, ◌||◌, T, eqb, ltb, ◌⊎◌, ℤ, pos, sym, refl, ap, ◌∙◌, subst, ap₂, inl, inr, true≢false, zero-le, le_trans, le_of_eq, lt_of_lt_of_le, lt_of_le_of_lt, le_of_lt, mul-le-mul_right, zero-lt-suc, mul_assoc, mul_comm, mul-le-mul, mul-lt-mul_of_pos_right, mul-pos, one-mul, zero-mul, mul-one, mul_right_comm, le_of_mul-le-mul_right, mul_left_comm, arith, lit<, lit≤, eqb→eq, ltb→lt, lt→ltb, pow_pos}
use mathlib.Core.Bool.{and-false}
use native.Mathlib.Nat.{min-eq_left, div-le_of_le-mul}
use lib.Ieee.{Float, nan, inf, fin, binary64, up, down, round, mul, le, lt, fits, to_unsigned, of_bits, unlike}
use lib.Ieee.Fits.{and_l, and_r, up_pos, down_pos}
use lib.Ieee.Exact.{HasValue, round_exact}
use lib.Ieee.Nearest.{div_same}
use Rattle.drifters_real.specs.Scalar.{plus_zero}
use Rattle.drifters_real.specs.Limbs.{square_limit}
use Rattle.drifters_real.specs.Real.{angle_limit, angle, in_range, square, difference, sinc_plus, sinc_minus, cos_plus, cos_minus, sinc_of_square, cos_of_square, sin, cos}
use Rattle.drifters_real.proofs.Real.Rounding.{Fit, fit_of, shift, zero_exp}

-- ---- the largest angle, 2 ^ limit_power: what `angle_limit` is as a number
abbrev pub limit_power : ℕ
limit_power = 3

abbrev pub limit : ℕ
limit = 2 ^ limit_power

limit_is : angle_limit ≡ fin false 1 (pos limit_power)
unfolding of_bits
limit_is = refl

zero_is : plus_zero ≡ fin false 0 (pos 0)
unfolding of_bits
zero_is = refl

-- ---- what the two tests say
pub record InRange (s : Bool) (m : ℕ) (e : ℤ) : Type 0 where
  pub sign : (s ≡ false) ⊎ (m ≡ 0)
  pub most : m * up e ≤ limit * down e

is_zero : (m : ℕ) (u : ℕ) → 0 < u → 0 ≡ m * u → m ≡ 0
is_zero zero u U e = refl
is_zero (suc m) u U e = absurd (no (suc m * u) (mul-pos (zero-lt-suc m) U) e)
  where
    no : (x : ℕ) → 0 < x → 0 ≡ x → ⊥
    no x h e = omega arith

lt_or_eq : (a b : ℕ) → T (ltb a b || (eqb a b && true)) → a ≤ b
lt_or_eq a b t = go (ltb a b) (eqb a b) (ltb→lt a b) (eqb→eq a b) t
  where
    go : (p q : Bool) → (T p → a < b) → (T q → a ≡ b) → T (p || (q && true)) → a ≤ b
    go true q h k t = le_of_lt (h tt)
    go false true h k t = le_of_eq (k tt)
    go false false h k t = absurd t

range_of : (s : Bool) (m : ℕ) (e : ℤ) → T (le (fin false 0 (pos 0)) (fin s m e)) → T (le (fin s m e) (fin false 1 (pos limit_power))) → InRange s m e
unfolding le
range_of false m e a b = record {
  sign = inl refl;
  most = le_trans (le_of_eq (sym (mul-one (m * up e)))) (lt_or_eq (m * up e * 1) (limit * down e) b);
}
range_of true m e a b =
    let z : m ≡ 0 = is_zero m (up e) (up_pos e) (sym (zero-mul (down e)) ∙ eqb→eq (0 * down e) (m * up e * 1) (and_l (eqb (0 * down e) (m * up e * 1)) (eqb (0 * down e) 0) a) ∙ mul-one (m * up e)) in
    record { sign = inr z; most = subst (λ (x : ℕ). x * up e ≤ limit * down e) (sym z) (le_trans (le_of_eq (zero-mul (up e))) zero-le) }

parts : (x : Float) → T (in_range x) → T (le (fin false 0 (pos 0)) x) × T (le x (fin false 1 (pos limit_power)))
unfolding in_range
parts x t = (
  subst (λ (z : Float). T (le z x)) zero_is (and_l (le plus_zero x) (le x angle_limit) t),
  subst (λ (z : Float). T (le x z)) limit_is (and_r (le plus_zero x) (le x angle_limit) t),
)

pub range : (s : Bool) (m : ℕ) (e : ℤ) → T (in_range (fin s m e)) → InRange s m e
range s m e t = range_of s m e (parts (fin s m e) t).0 (parts (fin s m e) t).1

-- a number in range is finite, and where it has a minus sign it is -0
pub no_nan : T (in_range nan) → ⊥
unfolding le
no_nan t = (parts nan t).0

pub no_inf : (s : Bool) → T (in_range (inf s)) → ⊥
unfolding le
no_inf true t = (parts (inf true) t).0
no_inf false t = (parts (inf false) t).1

pub minus_zero_lem : (m : ℕ) (e : ℤ) → T (fits binary64 (fin true m e)) → T (in_range (fin true m e)) → fin true m e ≡ fin true 0 (pos 0)
minus_zero_lem m e f t =
    let z : m ≡ 0 = zero_of (range true m e t).sign in
    let k : e ≡ pos 0 = zero_exp binary64 true e (subst (λ (x : ℕ). T (fits binary64 (fin true x e))) z f) in
    λ i. fin true (z i) (k i)
  where
    zero_of : (true ≡ false) ⊎ (m ≡ 0) → m ≡ 0
    zero_of (inl e) = absurd (true≢false e)
    zero_of (inr z) = z

-- ---- 2 ^ 60 times the angle
-- a power of two times an angle of at most l is a float
scaled_exact : (l c p : ℕ) (s : Bool) (m : ℕ) (e : ℤ) → 1074 ≤ c → p * 2 ^ 1074 ≡ 2 ^ c → l * 2 ^ c < 2 ^ 2098 → Fit m e → m * up e ≤ l * down e → HasValue (round binary64 s (m * up e * (1 * p)) (down e * 1)) s (m * up e * (1 * p)) (down e * 1)
scaled_exact l c p s m e g r o f h =
    let q = shift c e g f.least in
    let j = q.0 in
    let v : m * up e * (1 * p) * 2 ^ 1074 ≡ m * 2 ^ j * (down e * 1) =
    ap (λ (x : ℕ). m * up e * x * 2 ^ 1074) (one-mul p) ∙ mul_assoc (m * up e) p (2 ^ 1074) ∙ ap (λ (x : ℕ). m * up e * x) r ∙ mul_assoc m (up e) (2 ^ c) ∙ ap (λ (x : ℕ). m * x) q.1 ∙ sym (mul_assoc m (2 ^ j) (down e)) ∙ ap (λ (x : ℕ). m * 2 ^ j * x) (sym (mul-one (down e))) in
    let small : m * 2 ^ j ≤ l * 2 ^ c =
    le_of_mul-le-mul_right (le_trans (le_of_eq (mul_assoc m (2 ^ j) (down e) ∙ ap (λ (x : ℕ). m * x) (sym q.1) ∙ sym (mul_assoc m (up e) (2 ^ c)))) (le_trans (mul-le-mul_right (2 ^ c) h) (le_of_eq (mul_right_comm l (down e) (2 ^ c))))) (down_pos e) in
    round_exact binary64 s (m * up e * (1 * p)) (down e * 1) m j (mul-pos (down_pos e) (zero-lt-suc 0)) f.digits (lt_of_le_of_lt small o) v

-- the angle itself, times 1
pub times_one_exact : (l : ℕ) → l * 2 ^ 1074 < 2 ^ 2098 → (s : Bool) (m : ℕ) (e : ℤ) → Fit m e → m * up e ≤ l * down e → HasValue (round binary64 s (m * up e * (1 * 1)) (down e * 1)) s (m * up e * (1 * 1)) (down e * 1)
times_one_exact l o s m e f h = scaled_exact l 1074 1 s m e (lit≤ tt) (one-mul (2 ^ 1074)) o f h

-- ---- a float by its value: cut to a whole number, and in range for that
truncated_value : (y : Float) (a c : ℕ) → 0 < c → HasValue y false a c → a < 2 ^ 64 * c → to_unsigned 64 y ≡ a / c
unfolding to_unsigned
truncated_value nan a c C v h = absurd v
truncated_value (inf s) a c C v h = absurd v
truncated_value (fin true m e) a c C v h = absurd (true≢false v.0)
truncated_value (fin false m e) a c C v h =
    ap (λ (x : ℕ). min x (2 ^ 64 - 1)) same ∙ min-eq_left (most (a / c) (div_lt C h))
  where
    same : m * up e / down e ≡ a / c
    same = div_same (m * up e) (down e) a c (down_pos e) C v.1

    div_lt : 0 < c → a < 2 ^ 64 * c → a / c < 2 ^ 64
    div_lt C h = (native.Mathlib.Nat.div-lt_iff_lt-mul C).1 h

    most : (x : ℕ) → x < 2 ^ 64 → x ≤ 2 ^ 64 - 1
    most x h = omega arith

above_minus_one : (y : Float) (a c : ℕ) → 0 < c → HasValue y false a c → T (lt (fin true 1 (pos 0)) y)
unfolding lt
above_minus_one nan a c C v = absurd v
above_minus_one (inf s) a c C v = absurd v
above_minus_one (fin true m e) a c C v = absurd (true≢false v.0)
above_minus_one (fin false m e) a c C v = lt→ltb 0 (1 * down e + m * up e * 1) (some (down e) (m * up e * 1) (down_pos e))
  where
    some : (d x : ℕ) → 0 < d → 0 < 1 * d + x
    some d x h = omega arith

below_2_64 : (y : Float) (a c : ℕ) → 0 < c → HasValue y false a c → a < 2 ^ 64 * c → T (lt y (fin false 1 (pos 64)))
unfolding lt
below_2_64 nan a c C v h = absurd v
below_2_64 (inf s) a c C v h = absurd v
below_2_64 (fin true m e) a c C v h = absurd (true≢false v.0)
below_2_64 (fin false m e) a c C v h =
    lt→ltb (m * up e * 1) (2 ^ 64 * down e)
    (subst (λ (x : ℕ). x < 2 ^ 64 * down e) (sym (mul-one (m * up e)))
    (native.Mathlib.Nat.lt_of_mul-lt-mul_right c
    (subst (λ (x : ℕ). x < 2 ^ 64 * down e * c) (sym v.1) (lt_of_lt_of_le (mul-lt-mul_of_pos_right h (down_pos e)) (le_of_eq (mul_right_comm (2 ^ 64) c (down e)))))))

-- ---- the three together, for an angle of at most l
pub record Truncated (l : ℕ) (x y : Float) : Type 0 where
  pub above : T (lt (fin true 1 (pos 0)) y)
  pub below : T (lt y (fin false 1 (pos 64)))
  pub is : to_unsigned 64 y ≡ angle x
  pub most : angle x ≤ l * 2 ^ 60

pub angle_is : (s : Bool) (m : ℕ) (e : ℤ) → angle (fin s m e) ≡ m * up e * 2 ^ 60 / down e
unfolding angle
angle_is s m e = refl

-- the angle times 2 ^ 60
scaled_le : (l m u d : ℕ) → m * u ≤ l * d → m * u * 2 ^ 60 ≤ l * 2 ^ 60 * d
scaled_le l m u d h = le_trans (mul-le-mul_right (2 ^ 60) h) (le_of_eq (mul_right_comm l d (2 ^ 60)))

pub angle_most : (l : ℕ) (s : Bool) (m : ℕ) (e : ℤ) → m * up e ≤ l * down e → angle (fin s m e) ≤ l * 2 ^ 60
angle_most l s m e h = le_trans (le_of_eq (angle_is s m e)) (div-le_of_le-mul (down e) (le_trans (scaled_le l m (up e) (down e) h) (le_of_eq (mul_comm (l * 2 ^ 60) (down e)))))

mul_is : (s : Bool) (m : ℕ) (e : ℤ) → mul binary64 (fin s m e) (fin false 1 (pos 60)) ≡ round binary64 (unlike s false) (m * up e * (1 * 2 ^ 60)) (down e * 1)
unfolding mul
mul_is s m e = refl

truncated_plus : (l m : ℕ) (e : ℤ) → l * 2 ^ 60 < 2 ^ 64 → T (fits binary64 (fin false m e)) → m * up e ≤ l * down e → Truncated l (fin false m e) (mul binary64 (fin false m e) (fin false 1 (pos 60)))
truncated_plus l m e o f h =
    let a = m * up e * (1 * 2 ^ 60) in
    let c = down e * 1 in
    let C : 0 < c = mul-pos (down_pos e) (zero-lt-suc 0) in
    let y = mul binary64 (fin false m e) (fin false 1 (pos 60)) in
    let small_enough : l * 2 ^ 1134 < 2 ^ 2098 = lt_of_lt_of_le (subst (λ (x : ℕ). x < 2 ^ 64 * 2 ^ 1074) (mul_assoc l (2 ^ 60) (2 ^ 1074)) (mul-lt-mul_of_pos_right o (pow_pos 1074))) (lit≤ tt) in
    let v : HasValue y false a c = subst (λ (z : Float). HasValue z false a c) (sym (mul_is false m e)) (scaled_exact l 1134 (2 ^ 60) false m e (lit≤ tt) refl small_enough (fit_of false m e f) h) in
    let small : a < 2 ^ 64 * c =
    lt_of_le_of_lt (le_trans (scaled_le l m (up e) (down e) h) (le_of_eq (ap (λ (x : ℕ). l * 2 ^ 60 * x) (sym (mul-one (down e)))))) (mul-lt-mul_of_pos_right o C) in
    record {
      above = above_minus_one y a c C v;
      below = below_2_64 y a c C v small;
      is = truncated_value y a c C v small ∙ ap (λ (x : ℕ). a / x) (mul-one (down e)) ∙ sym (angle_is false m e);
      most = angle_most l false m e h;
    }

truncated_minus_zero : (l : ℕ) → Truncated l (fin true 0 (pos 0)) (mul binary64 (fin true 0 (pos 0)) (fin false 1 (pos 60)))
unfolding mul lt to_unsigned angle
truncated_minus_zero l = record { above = tt; below = tt; is = refl; most = zero-le }

const_60 : of_bits binary64 0x43b0_0000_0000_0000 ≡ fin false 1 (pos 60)
unfolding of_bits
const_60 = refl

pub truncated : (x : Float) → T (fits binary64 x) → T (in_range x) → Truncated limit x (mul binary64 x (of_bits binary64 0x43b0_0000_0000_0000))
truncated nan f t = absurd (no_nan t)
truncated (inf s) f t = absurd (no_inf s t)
truncated (fin false m e) f t = subst (λ (z : Float). Truncated limit (fin false m e) (mul binary64 (fin false m e) z)) (sym const_60) (truncated_plus limit m e (lit< tt) f (range false m e t).most)
truncated (fin true m e) f t =
    subst (λ (x : Float). Truncated limit x (mul binary64 x (of_bits binary64 0x43b0_0000_0000_0000))) (sym (minus_zero_lem m e f t))
    (subst (λ (z : Float). Truncated limit (fin true 0 (pos 0)) (mul binary64 (fin true 0 (pos 0)) z)) (sym const_60) (truncated_minus_zero limit))

-- ---- in range or not
pub sin_in : (x : Float) → in_range x ≡ true → sin x ≡ mul binary64 x (sinc_of_square (square (angle x)))
unfolding sin
sin_in x e = ap (λ (p : Bool). cond p (mul binary64 x (sinc_of_square (square (angle x)))) nan) e

pub cos_in : (x : Float) → in_range x ≡ true → cos x ≡ cos_of_square (square (angle x))
unfolding cos
cos_in x e = ap (λ (p : Bool). cond p (cos_of_square (square (angle x))) nan) e

pub sin_out : (x : Float) → in_range x ≡ false → sin x ≡ nan
unfolding sin
sin_out x e = ap (λ (p : Bool). cond p (mul binary64 x (sinc_of_square (square (angle x)))) nan) e

pub cos_out : (x : Float) → in_range x ≡ false → cos x ≡ nan
unfolding cos
cos_out x e = ap (λ (p : Bool). cond p (cos_of_square (square (angle x))) nan) e

pub in_both : (x : Float) → le plus_zero x ≡ true → le x angle_limit ≡ true → in_range x ≡ true
unfolding in_range
in_both x a b = ap₂ (λ (p q : Bool). p && q) a b

pub out_high : (x : Float) → le x angle_limit ≡ false → in_range x ≡ false
unfolding in_range
out_high x e = ap (λ (b : Bool). le plus_zero x && b) e ∙ and-false (le plus_zero x)

pub out_low : (x : Float) → le plus_zero x ≡ false → in_range x ≡ false
unfolding in_range
out_low x e = ap (λ (b : Bool). b && le x angle_limit) e

-- ---- the square of an angle in range
pub square_is : (t : ℕ) → square t ≡ t * t / 2 ^ 56
unfolding square
square_is t = refl

pub square_most : (l t : ℕ) → t ≤ l * 2 ^ 60 → square t ≤ l * l * 2 ^ 64
square_most l t h = le_trans (le_of_eq (square_is t)) (div-le_of_le-mul (2 ^ 56) (le_trans (mul-le-mul h h) (le_of_eq (sort l (2 ^ 60) ∙ ap (λ (x : ℕ). l * l * x) (mul_comm (2 ^ 64) (2 ^ 56)) ∙ mul_left_comm (l * l) (2 ^ 56) (2 ^ 64)))))
  where
    sort : (l c : ℕ) → l * c * (l * c) ≡ l * l * (c * c)
    sort l c = simp (mul_assoc, mul_left_comm)

-- of one in range
pub square_limit_lem : (t : ℕ) → t ≤ limit * 2 ^ 60 → square t ≤ square_limit
square_limit_lem t h = le_trans (square_most limit t h) (lit≤ tt)

-- ---- the two results, from the sums
pub sinc_is : (x p n : ℕ) → p ≡ sinc_plus x / 2 ^ 10 → n ≡ sinc_minus x / 2 ^ 10 → difference p n ≡ sinc_of_square x
unfolding sinc_of_square
sinc_is x p n a b = ap₂ difference a b

pub cosine_is : (x p n : ℕ) → p ≡ cos_plus x / 2 ^ 10 → n ≡ cos_minus x / 2 ^ 10 → difference p n ≡ cos_of_square x
unfolding cos_of_square
cosine_is x p n a b = ap₂ difference a b
