-- Products and quotients of numbers h * 2 ^ 32 + l, as `squared` and `next_term` compute them.
use Rattle.std.proofs.Common.{◌≡◌, ℕ, ◌+◌, ◌-◌, ◌*◌, ◌/◌, ◌%◌, ◌^◌, ◌<◌, ◌≤◌, sym, refl, ap, ◌∙◌, ap₂, le_of_eq, lt_of_lt_of_le, lt_of_le_of_lt, mod-lt, mul_comm, div-lt_iff_lt-mul, mul-le-mul, add_comm, div-add-mod', arith, lit<, pow_pos, shr_lt, w64, Fits}
use native.Mathlib.Nat.{div-div-eq-div-mul, add-mul-div_right, mul-add-div_right}
use lib.Arith.{digits_lt}
use mir.Facts.{Fits-bits}
use Rattle.drifters_real.specs.Real.{square}
use Rattle.drifters_real.specs.Limbs.{IsWide}

-- ---- a half of a word
pub high_word_lt : (z : ℕ) → z < 2 ^ 64 → z / 2 ^ 32 < 2 ^ 32
high_word_lt z h = shr_lt 32 32 h

-- ---- the square of t1 * 2 ^ 32 + t0
square_by : (z0 z1 z2 : ℕ) → (z2 * 2 ^ 64 + z1 * 2 ^ 32 + z0) / 2 ^ 56
    ≡ ((z0 / 2 ^ 32 + z1 % 2 ^ 32) / 2 ^ 32 + z1 / 2 ^ 32 + z2) / 2 ^ 24 * 2 ^ 32 + (((z0 / 2 ^ 32 + z1 % 2 ^ 32) / 2 ^ 32 + z1 / 2 ^ 32 + z2) % 2 ^ 24 * 256 + (z0 / 2 ^ 32 + z1 % 2 ^ 32) % 2 ^ 32 / 2 ^ 24)
square_by z0 z1 z2 = omega arith

expand : (t1 t0 : ℕ) → (t1 * 2 ^ 32 + t0) * (t1 * 2 ^ 32 + t0) ≡ t1 * t1 * 2 ^ 64 + 2 * t1 * t0 * 2 ^ 32 + t0 * t0
expand t1 t0 = omega arith

square_digits : (m u : ℕ) → u % 2 ^ 24 * 256 + m % 2 ^ 32 / 2 ^ 24 < 2 ^ 32
square_digits m u = omega arith

square_is : (t : ℕ) → square t ≡ t * t / 2 ^ 56
unfolding square
square_is t = refl

pub squared_law : (t : ℕ) → let z0 = t % 2 ^ 32 * (t % 2 ^ 32) in let z1 = 2 * (t / 2 ^ 32) * (t % 2 ^ 32) in let m = z0 / 2 ^ 32 + z1 % 2 ^ 32 in let u = m / 2 ^ 32 + z1 / 2 ^ 32 + t / 2 ^ 32 * (t / 2 ^ 32) in
    IsWide (record { h = u / 2 ^ 24; l = u % 2 ^ 24 * 256 + m % 2 ^ 32 / 2 ^ 24 }) (square t)
squared_law t =
    let t1 = t / 2 ^ 32 in
    let t0 = t % 2 ^ 32 in
    let z0 = t0 * t0 in
    let z1 = 2 * t1 * t0 in
    let m = z0 / 2 ^ 32 + z1 % 2 ^ 32 in
    let u = m / 2 ^ 32 + z1 / 2 ^ 32 + t1 * t1 in
    record {
      is = sym (square_is t ∙ ap (λ (x : ℕ). x * x / 2 ^ 56) (sym (div-add-mod' t (2 ^ 32))) ∙ ap (λ (x : ℕ). x / 2 ^ 56) (expand t1 t0) ∙ square_by z0 z1 (t1 * t1));
      digits = square_digits m u;
    }

-- ---- the product of two numbers of three digits, without its two lowest, and its quotient by d
pub record Products (a2 a1 a0 x2 x1 x0 : ℕ) : Type 0 where
  pub p0 : a0 * x0 ≤ (2 ^ 32 - 1) * (2 ^ 32 - 1)
  pub p1 : a0 * x1 ≤ (2 ^ 32 - 1) * (2 ^ 32 - 1)
  pub p2 : a1 * x0 ≤ (2 ^ 32 - 1) * (2 ^ 32 - 1)
  pub p3 : a1 * x1 ≤ (2 ^ 32 - 1) * (2 ^ 32 - 1)
  pub p4 : a2 * x0 ≤ 2 ^ 7 * (2 ^ 32 - 1)
  pub p5 : a0 * x2 ≤ (2 ^ 32 - 1) * 2 ^ 7
  pub p6 : a2 * x1 ≤ 2 ^ 7 * (2 ^ 32 - 1)
  pub p7 : a1 * x2 ≤ (2 ^ 32 - 1) * 2 ^ 7
  pub p8 : a2 * x2 ≤ 2 ^ 7 * 2 ^ 7

most : (a : ℕ) → a < 2 ^ 32 → a ≤ 2 ^ 32 - 1
most a h = omega arith

top_most : (h : ℕ) → h < 2 ^ 39 → h / 2 ^ 32 ≤ 2 ^ 7
top_most h l = omega arith

low_most : (h : ℕ) → h % 2 ^ 32 ≤ 2 ^ 32 - 1
low_most h = omega arith

pub products : (h l xh xl : ℕ) → h < 2 ^ 39 → l < 2 ^ 32 → xh < 2 ^ 39 → xl < 2 ^ 32 → Products (h / 2 ^ 32) (h % 2 ^ 32) l (xh / 2 ^ 32) (xh % 2 ^ 32) xl
products h l xh xl H L XH XL = record {
  p0 = mul-le-mul (most l L) (most xl XL);
  p1 = mul-le-mul (most l L) (low_most xh);
  p2 = mul-le-mul (low_most h) (most xl XL);
  p3 = mul-le-mul (low_most h) (low_most xh);
  p4 = mul-le-mul (top_most h H) (most xl XL);
  p5 = mul-le-mul (most l L) (top_most xh XH);
  p6 = mul-le-mul (top_most h H) (low_most xh);
  p7 = mul-le-mul (low_most h) (top_most xh XH);
  p8 = mul-le-mul (top_most h H) (top_most xh XH);
}

-- the program's numbers, by the products
abbrev pub t_of : (p0 p1 p2 : ℕ) → ℕ
t_of p0 p1 p2 = p0 / 2 ^ 32 + p1 % 2 ^ 32 + p2 % 2 ^ 32

abbrev pub u_of : (p0 p1 p2 p3 p4 p5 : ℕ) → ℕ
u_of p0 p1 p2 p3 p4 p5 = t_of p0 p1 p2 / 2 ^ 32 + p1 / 2 ^ 32 + p2 / 2 ^ 32 + p3 % 2 ^ 32 + p4 + p5

abbrev pub v_of : (p0 p1 p2 p3 p4 p5 p6 p7 p8 : ℕ) → ℕ
v_of p0 p1 p2 p3 p4 p5 p6 p7 p8 = u_of p0 p1 p2 p3 p4 p5 / 2 ^ 32 + p3 / 2 ^ 32 + p6 + p7 + p8 * 2 ^ 32

-- what the two lowest digits' products carry
carries : (p0 p1 p2 : ℕ) → ((p1 + p2) * 2 ^ 32 + p0) / 2 ^ 64 ≡ t_of p0 p1 p2 / 2 ^ 32 + p1 / 2 ^ 32 + p2 / 2 ^ 32
carries p0 p1 p2 = omega arith

upper : (g p3 p4 p5 p6 p7 p8 : ℕ) → p8 * 2 ^ 64 + (p6 + p7) * 2 ^ 32 + (p3 + p4 + p5) + g ≡ ((g + p3 % 2 ^ 32 + p4 + p5) / 2 ^ 32 + p3 / 2 ^ 32 + p6 + p7 + p8 * 2 ^ 32) * 2 ^ 32 + (g + p3 % 2 ^ 32 + p4 + p5) % 2 ^ 32
upper g p3 p4 p5 p6 p7 p8 = omega arith

multiplied : (B a2 a1 a0 x2 x1 x0 : ℕ) → ((a2 * B + a1) * B + a0) * ((x2 * B + x1) * B + x0)
    ≡ (a2 * x2 * (B * B) + (a2 * x1 + a1 * x2) * B + (a1 * x1 + a2 * x0 + a0 * x2)) * (B * B) + ((a0 * x1 + a1 * x0) * B + a0 * x0)
multiplied B a2 a1 a0 x2 x1 x0 = omega arith

product_is : (a2 a1 a0 x2 x1 x0 : ℕ) → ((a2 * 2 ^ 32 + a1) * 2 ^ 32 + a0) * ((x2 * 2 ^ 32 + x1) * 2 ^ 32 + x0) / 2 ^ 64
    ≡ v_of (a0 * x0) (a0 * x1) (a1 * x0) (a1 * x1) (a2 * x0) (a0 * x2) (a2 * x1) (a1 * x2) (a2 * x2) * 2 ^ 32 + u_of (a0 * x0) (a0 * x1) (a1 * x0) (a1 * x1) (a2 * x0) (a0 * x2) % 2 ^ 32
product_is a2 a1 a0 x2 x1 x0 =
    ap (λ (z : ℕ). z / 2 ^ 64) (multiplied (2 ^ 32) a2 a1 a0 x2 x1 x0)
    ∙ mul-add-div_right (pow_pos 64) (a2 * x2 * 2 ^ 64 + (a2 * x1 + a1 * x2) * 2 ^ 32 + (a1 * x1 + a2 * x0 + a0 * x2)) ((a0 * x1 + a1 * x0) * 2 ^ 32 + a0 * x0)
    ∙ ap (λ (z : ℕ). a2 * x2 * 2 ^ 64 + (a2 * x1 + a1 * x2) * 2 ^ 32 + (a1 * x1 + a2 * x0 + a0 * x2) + z) (carries (a0 * x0) (a0 * x1) (a1 * x0))
    ∙ upper (t_of (a0 * x0) (a0 * x1) (a1 * x0) / 2 ^ 32 + a0 * x1 / 2 ^ 32 + a1 * x0 / 2 ^ 32) (a1 * x1) (a2 * x0) (a0 * x2) (a2 * x1) (a1 * x2) (a2 * x2)

-- long division by d: first the high part, then what it leaves with the low digit
carry : (v u d : ℕ) → 0 < d → (v * 2 ^ 32 + u) / d ≡ v / d * 2 ^ 32 + (v % d * 2 ^ 32 + u) / d
carry v u d P =
    ap (λ (x : ℕ). x / d) (ap (λ (x : ℕ). x * 2 ^ 32 + u) (sym (div-add-mod' v d)) ∙ sort (v / d) d (v % d) u)
    ∙ add-mul-div_right (v % d * 2 ^ 32 + u) (v / d * 2 ^ 32) P
    ∙ add_comm ((v % d * 2 ^ 32 + u) / d) (v / d * 2 ^ 32)
  where
    sort : (q d r u : ℕ) → (q * d + r) * 2 ^ 32 + u ≡ r * 2 ^ 32 + u + q * 2 ^ 32 * d
    sort q d r u = omega arith

pub carry_lt : (v u d : ℕ) → 0 < d → u < 2 ^ 32 → (v % d * 2 ^ 32 + u) / d < 2 ^ 32
carry_lt v u d P h = (div-lt_iff_lt-mul P).1 (lt_of_lt_of_le (digits_lt (mod-lt v P) h) (le_of_eq (mul_comm d (2 ^ 32))))

pub next_term_law : (h l xh xl d : ℕ) → 0 < d →
    let a2 = h / 2 ^ 32 in let a1 = h % 2 ^ 32 in let x2 = xh / 2 ^ 32 in let x1 = xh % 2 ^ 32 in
    let u = u_of (l * xl) (l * x1) (a1 * xl) (a1 * x1) (a2 * xl) (l * x2) in
    let v = v_of (l * xl) (l * x1) (a1 * xl) (a1 * x1) (a2 * xl) (l * x2) (a2 * x1) (a1 * x2) (a2 * x2) in
    IsWide (record { h = v / d; l = (v % d * 2 ^ 32 + u % 2 ^ 32) / d }) ((h * 2 ^ 32 + l) * (xh * 2 ^ 32 + xl) / (2 ^ 64 * d))
next_term_law h l xh xl d P =
    let a2 = h / 2 ^ 32 in
    let a1 = h % 2 ^ 32 in
    let x2 = xh / 2 ^ 32 in
    let x1 = xh % 2 ^ 32 in
    let u = u_of (l * xl) (l * x1) (a1 * xl) (a1 * x1) (a2 * xl) (l * x2) in
    let v = v_of (l * xl) (l * x1) (a1 * xl) (a1 * x1) (a2 * xl) (l * x2) (a2 * x1) (a1 * x2) (a2 * x2) in
    let low : u % 2 ^ 32 < 2 ^ 32 = mod-lt u (pow_pos 32) in
    record {
      is = sym (
          sym (div-div-eq-div-mul ((h * 2 ^ 32 + l) * (xh * 2 ^ 32 + xl)) (2 ^ 64) d)
          ∙ ap (λ (z : ℕ). z / 2 ^ 64 / d) (ap₂ (λ (y z : ℕ). (y * 2 ^ 32 + l) * (z * 2 ^ 32 + xl)) (sym (div-add-mod' h (2 ^ 32))) (sym (div-add-mod' xh (2 ^ 32))))
          ∙ ap (λ (z : ℕ). z / d) (product_is a2 a1 l x2 x1 xl)
          ∙ carry v (u % 2 ^ 32) d P);
      digits = carry_lt v (u % 2 ^ 32) d P low;
    }

-- what the sums of `next_term` are made of, each small
pub record Sizes (a2 a1 a0 x2 x1 x0 : ℕ) : Type 0 where
  pub q0 : a0 * x0 / 2 ^ 32 < 2 ^ 32
  pub q1 : a0 * x1 / 2 ^ 32 < 2 ^ 32
  pub q2 : a1 * x0 / 2 ^ 32 < 2 ^ 32
  pub q3 : a1 * x1 / 2 ^ 32 < 2 ^ 32
  pub p4 : a2 * x0 < 2 ^ 40
  pub p5 : a0 * x2 < 2 ^ 40
  pub p6 : a2 * x1 < 2 ^ 40
  pub p7 : a1 * x2 < 2 ^ 40
  pub p8 : a2 * x2 ≤ 2 ^ 14

pub sizes : (a2 a1 a0 x2 x1 x0 : ℕ) → Products a2 a1 a0 x2 x1 x0 → Sizes a2 a1 a0 x2 x1 x0
sizes a2 a1 a0 x2 x1 x0 f = record {
  q0 = high_word_lt (a0 * x0) (lt_of_le_of_lt f.p0 (lit< tt));
  q1 = high_word_lt (a0 * x1) (lt_of_le_of_lt f.p1 (lit< tt));
  q2 = high_word_lt (a1 * x0) (lt_of_le_of_lt f.p2 (lit< tt));
  q3 = high_word_lt (a1 * x1) (lt_of_le_of_lt f.p3 (lit< tt));
  p4 = lt_of_le_of_lt f.p4 (lit< tt);
  p5 = lt_of_le_of_lt f.p5 (lit< tt);
  p6 = lt_of_le_of_lt f.p6 (lit< tt);
  p7 = lt_of_le_of_lt f.p7 (lit< tt);
  p8 = f.p8;
}

-- the sums themselves
module _ (a2 a1 a0 x2 x1 x0 : ℕ) (f : Sizes a2 a1 a0 x2 x1 x0) where
  abbrev pub t_sum : ℕ
  t_sum = t_of (a0 * x0) (a0 * x1) (a1 * x0)

  abbrev pub u_sum : ℕ
  u_sum = u_of (a0 * x0) (a0 * x1) (a1 * x0) (a1 * x1) (a2 * x0) (a0 * x2)

  abbrev pub v_sum : ℕ
  v_sum = v_of (a0 * x0) (a0 * x1) (a1 * x0) (a1 * x1) (a2 * x0) (a0 * x2) (a2 * x1) (a1 * x2) (a2 * x2)

  t_lt : t_sum < 2 ^ 34
  t_lt = three (a0 * x0 / 2 ^ 32) (a0 * x1) (a1 * x0) f.q0
    where
      three : (q p1 p2 : ℕ) → q < 2 ^ 32 → q + p1 % 2 ^ 32 + p2 % 2 ^ 32 < 2 ^ 34
      three q p1 p2 h = omega arith

  u_lt : u_sum < 2 ^ 42
  u_lt = six t_sum (a0 * x1 / 2 ^ 32) (a1 * x0 / 2 ^ 32) (a1 * x1) (a2 * x0) (a0 * x2) t_lt f.q1 f.q2 f.p4 f.p5
    where
      six : (t q1 q2 p3 p4 p5 : ℕ) → t < 2 ^ 34 → q1 < 2 ^ 32 → q2 < 2 ^ 32 → p4 < 2 ^ 40 → p5 < 2 ^ 40 → t / 2 ^ 32 + q1 + q2 + p3 % 2 ^ 32 + p4 + p5 < 2 ^ 42
      six t q1 q2 p3 p4 p5 h h1 h2 h4 h5 = omega arith

  v_lt : v_sum < 2 ^ 48
  v_lt = five u_sum (a1 * x1 / 2 ^ 32) (a2 * x1) (a1 * x2) (a2 * x2) u_lt f.q3 f.p6 f.p7 f.p8
    where
      five : (u q3 p6 p7 p8 : ℕ) → u < 2 ^ 42 → q3 < 2 ^ 32 → p6 < 2 ^ 40 → p7 < 2 ^ 40 → p8 ≤ 2 ^ 14 → u / 2 ^ 32 + q3 + p6 + p7 + p8 * 2 ^ 32 < 2 ^ 48
      five u q3 p6 p7 p8 h h3 h6 h7 h8 = omega arith

  pub v_fits : Fits w64 v_sum
  v_fits = Fits-bits 48 tt v_lt
