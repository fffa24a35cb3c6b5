-- Zimmermann's step: from the whole part s of the root of an a of 53 or 54 digits, the nearest whole number to the root of a * 2 ^ 52, by one division.
use Rattle.std.proofs.Common.{◌≡◌, ℕ, zero, suc, ◌+◌, ◌-◌, ◌*◌, ◌/◌, ◌%◌, ◌^◌, ◌<◌, ◌≤◌, sym, refl, ap, ◌∙◌, le_trans, le_of_suc-le-suc, mod-lt, mul-le-mul, lt_of_not-le, div-add-mod', not-le_of_lt, arith}
use Prim.Native.Nat.{compare}
use native.Mathlib.Nat.{div-le_of_le-mul, add-sub_of_le}
use lib.Ieee.{nearest}
use Rattle.drifters_real.specs.Real.{whole_root}
use Rattle.drifters_real.specs.Limbs.{IsWholeRoot, nearest_root}
use Rattle.drifters_real.proofs.Real.WholeRoot.{whole_unique, whole_root_is, rounds_up, rounds_down, whole_of_rest}

-- what `nearest_root` is, by what is left of n when a number's square is taken off
whole_is : (n q r : ℕ) → n < 4 ^ 53 → q * q + r ≡ n → r ≤ 2 * q → whole_root 53 n ≡ q
whole_is n q r l e h = whole_unique n (whole_root 53 n) q (whole_root_is 53 n l) (whole_of_rest q r n e h)

nearest_root_is : (n : ℕ) → nearest_root n ≡ nearest (whole_root 53 n) (compare (4 * n) ((2 * whole_root 53 n + 1) * (2 * whole_root 53 n + 1)))
unfolding nearest_root
nearest_root_is n = refl

pub up_is : (n q r : ℕ) → n < 4 ^ 53 → q * q + r ≡ n → r ≤ 2 * q → q < r → nearest_root n ≡ q + 1
up_is n q r l e h k = nearest_root_is n ∙ ap (λ (x : ℕ). nearest x (compare (4 * n) ((2 * x + 1) * (2 * x + 1)))) (whole_is n q r l e h) ∙ rounds_up q r n e k

pub stay_is : (n q r : ℕ) → n < 4 ^ 53 → q * q + r ≡ n → r ≤ 2 * q → r ≤ q → nearest_root n ≡ q
stay_is n q r l e h k = nearest_root_is n ∙ ap (λ (x : ℕ). nearest x (compare (4 * n) ((2 * x + 1) * (2 * x + 1)))) (whole_is n q r l e h) ∙ rounds_down q r n e k

-- the numbers of the step, as `rounded` names them
abbrev pub n_of : ℕ → ℕ → ℕ
n_of a s = (a - s * s) * 0x400_0000

abbrev pub u_of : ℕ → ℕ → ℕ
u_of a s = n_of a s / (2 * s)

abbrev pub v_of : ℕ → ℕ → ℕ
v_of a s = n_of a s % (2 * s) * 0x400_0000

abbrev pub w_of : ℕ → ℕ → ℕ
w_of a s = s * 0x400_0000 + u_of a s

pub record StepFacts (a s : ℕ) : Type 0 where
  pub low : 2 ^ 26 ≤ s
  pub high : s < 2 ^ 27
  pub rest : a - s * s ≤ 2 * s
  pub uu_le : u_of a s * u_of a s ≤ 2 ^ 52
  pub v_le : v_of a s + 2 ^ 26 ≤ 2 * s * 0x400_0000
  pub square : w_of a s * w_of a s + v_of a s ≡ a * 2 ^ 52 + u_of a s * u_of a s
  pub small : a * 2 ^ 52 < 4 ^ 53

s_low : (a s : ℕ) → 2 ^ 52 ≤ a → a < (s + 1) * (s + 1) → 2 ^ 26 ≤ s
s_low a s h k = le_of_suc-le-suc (lt_of_not-le (λ (g : suc s ≤ 2 ^ 26). not-le_of_lt k (le_trans (mul-le-mul (one s g) (one s g)) h)))
  where
    one : (s : ℕ) → suc s ≤ 2 ^ 26 → s + 1 ≤ 2 ^ 26
    one s g = omega arith

s_high : (a s : ℕ) → a < 2 ^ 54 → s * s ≤ a → s < 2 ^ 27
s_high a s h k = lt_of_not-le (λ (g : 2 ^ 27 ≤ s). not-le_of_lt h (le_trans (mul-le-mul g g) k))

rest_le : (a s : ℕ) → s * s ≤ a → a < (s + 1) * (s + 1) → a - s * s ≤ 2 * s
rest_le a s h k = omega arith

quotient_le : (n s : ℕ) → n ≤ 2 * s * 2 ^ 26 → n / (2 * s) ≤ 2 ^ 26
quotient_le n s h = div-le_of_le-mul (2 * s) h

remainder_le : (s t : ℕ) → t < 2 * s → t * 0x400_0000 + 2 ^ 26 ≤ 2 * s * 0x400_0000
remainder_le s t h = omega arith

square_is : (a s u t r : ℕ) → s * s + r ≡ a → u * (2 * s) + t ≡ r * 0x400_0000 → (s * 0x400_0000 + u) * (s * 0x400_0000 + u) + t * 0x400_0000 ≡ a * 2 ^ 52 + u * u
square_is a s u t r e d = omega arith

pub step_facts : (a s : ℕ) → 2 ^ 52 ≤ a → a < 2 ^ 54 → IsWholeRoot a s → StepFacts a s
step_facts a s lo hi h =
    let l : 2 ^ 26 ≤ s = s_low a s lo h.above in
    let r : a - s * s ≤ 2 * s = rest_le a s h.below h.above in
    let q : u_of a s ≤ 2 ^ 26 = quotient_le (n_of a s) s (scaled (a - s * s) (2 * s) r) in
    record {
      low = l;
      high = s_high a s hi h.below;
      rest = r;
      uu_le = mul-le-mul q q;
      v_le = remainder_le s (n_of a s % (2 * s)) (mod-lt (n_of a s) (pos s l));
      square = square_is a s (u_of a s) (n_of a s % (2 * s)) (a - s * s) (add-sub_of_le h.below) (div-add-mod' (n_of a s) (2 * s));
      small = small_enough a hi;
    }
  where
    scaled : (x y : ℕ) → x ≤ y → x * 0x400_0000 ≤ y * 2 ^ 26
    scaled x y h = omega arith

    pos : (s : ℕ) → 2 ^ 26 ≤ s → 0 < 2 * s
    pos s l = omega arith

    small_enough : (a : ℕ) → a < 2 ^ 54 → a * 2 ^ 52 < 4 ^ 53
    small_enough a h = omega arith

-- the four results of `rounded`
exact : (n w v uu : ℕ) → w * w + v ≡ n + uu → uu ≤ v → w * w + (v - uu) ≡ n
exact n w v uu e h = omega arith

over : (n w v uu : ℕ) → suc w * suc w + v ≡ n + uu → v < uu → uu ≤ v + 2 * suc w - 1 → w * w + (v + 2 * suc w - 1 - uu) ≡ n
over n w v uu e h k = omega arith

over_le : (w v uu : ℕ) → v < uu → v + 2 * suc w - 1 - uu ≤ 2 * w
over_le w v uu h = omega arith

up_at : (n w r : ℕ) → nearest_root n ≡ w + 1 → suc w ≡ nearest_root n
up_at n w r e = omega (arith, e)

low_w : (n w v uu : ℕ) → n < 4 ^ 53 → w * w + v ≡ n + uu → 2 ^ 52 ≤ w → v < uu → uu ≤ 2 ^ 52 → w ≤ v + 2 * w - 1 - uu → w ≡ nearest_root n
low_w n zero v uu l e b h k g = absurd (no b)
  where
    no : 2 ^ 52 ≤ 0 → ⊥
    no b = omega arith
low_w n (suc w) v uu l e b h k g = up_at n w 0 (up_is n w (v + 2 * suc w - 1 - uu) l (over n w v uu e h (small_enough w v uu b k)) (over_le w v uu h) g)
  where
    small_enough : (w v uu : ℕ) → 2 ^ 52 ≤ suc w → uu ≤ 2 ^ 52 → uu ≤ v + 2 * suc w - 1
    small_enough w v uu b k = omega arith

low_stay : (n w v uu : ℕ) → n < 4 ^ 53 → w * w + v ≡ n + uu → 2 ^ 52 ≤ w → v < uu → uu ≤ 2 ^ 52 → v + 2 * w - 1 - uu < w → w - 1 ≡ nearest_root n
low_stay n zero v uu l e b h k g = absurd (no b)
  where
    no : 2 ^ 52 ≤ 0 → ⊥
    no b = omega arith
low_stay n (suc w) v uu l e b h k g = one w ∙ sym (stay_is n w (v + 2 * suc w - 1 - uu) l (over n w v uu e h (small_enough w v uu b k)) (over_le w v uu h) (le_of_suc-le-suc g))
  where
    one : (w : ℕ) → suc w - 1 ≡ w
    one w = omega arith

    small_enough : (w v uu : ℕ) → 2 ^ 52 ≤ suc w → uu ≤ 2 ^ 52 → uu ≤ v + 2 * suc w - 1
    small_enough w v uu b k = omega arith

module _ (a s : ℕ) (f : StepFacts a s) where
  w_low : 2 ^ 52 ≤ w_of a s
  w_low = omega (arith, f.low)

  rest_w : v_of a s ≤ 2 * w_of a s
  rest_w = omega (arith, f.v_le)

  pub is_next : u_of a s * u_of a s ≤ v_of a s → w_of a s < v_of a s - u_of a s * u_of a s → w_of a s + 1 ≡ nearest_root (a * 2 ^ 52)
  is_next h k = sym (up_is (a * 2 ^ 52) (w_of a s) (v_of a s - u_of a s * u_of a s) f.small (exact (a * 2 ^ 52) (w_of a s) (v_of a s) (u_of a s * u_of a s) f.square h) (omega (arith, rest_w)) k)

  pub is_same : u_of a s * u_of a s ≤ v_of a s → v_of a s - u_of a s * u_of a s ≤ w_of a s → w_of a s ≡ nearest_root (a * 2 ^ 52)
  is_same h k = sym (stay_is (a * 2 ^ 52) (w_of a s) (v_of a s - u_of a s * u_of a s) f.small (exact (a * 2 ^ 52) (w_of a s) (v_of a s) (u_of a s * u_of a s) f.square h) (omega (arith, rest_w)) k)

  pub is_same_below : v_of a s < u_of a s * u_of a s → w_of a s ≤ v_of a s + 2 * w_of a s - 1 - u_of a s * u_of a s → w_of a s ≡ nearest_root (a * 2 ^ 52)
  is_same_below h k = low_w (a * 2 ^ 52) (w_of a s) (v_of a s) (u_of a s * u_of a s) f.small f.square w_low h f.uu_le k

  pub is_before : v_of a s < u_of a s * u_of a s → v_of a s + 2 * w_of a s - 1 - u_of a s * u_of a s < w_of a s → w_of a s - 1 ≡ nearest_root (a * 2 ^ 52)
  is_before h k = low_stay (a * 2 ^ 52) (w_of a s) (v_of a s) (u_of a s * u_of a s) f.small f.square w_low h f.uu_le k
