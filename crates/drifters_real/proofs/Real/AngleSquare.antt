-- The square that the rule takes, against the exact one: x units of 2 ^ -64 are at most (a / b) ^ 2, and less by at most two units.
use Rattle.std.proofs.Common.{◌≡◌, ℕ, suc, ◌+◌, ◌-◌, ◌*◌, ◌/◌, ◌^◌, ◌<◌, ◌≤◌, ◌⊎◌, ℤ, pos, negsuc, sym, ap, ◌∙◌, inl, inr, le_trans, le_of_eq, le_of_lt, mul-le-mul_right, mul_assoc, mul-le-mul, lt_of_not-le, mul-one, mul_right_comm, div-mul-le_self, le_of_mul-le-mul_right, div-one, mul-div_cancel, mul_left_comm, arith, pow_pos, pow_mono, pow-add}
use native.Mathlib.Nat.{lt-div-mul-add, div-le_of_le-mul, sub-add_cancel}
use native.Mathlib.Decide.{dec_le}
use lib.Ieee.{up, down}
use lib.Ieee.Fits.{down_pos}
use Rattle.drifters_real.proofs.Real.Rounding.{Fit}

-- ---- x units of 2 ^ -64 and t units of 2 ^ -60, times b squared
by_units : (x b : ℕ) → x * (b * b) * 2 ^ 56 ≡ x * 2 ^ 56 * (b * b)
by_units x b = mul_right_comm x (b * b) (2 ^ 56)

crossed : (t b : ℕ) → t * t * (b * b) ≡ t * b * (t * b)
crossed t b = simp (mul_assoc, mul_left_comm)

squared : (a : ℕ) → a * 2 ^ 60 * (a * 2 ^ 60) ≡ a * a * 2 ^ 64 * 2 ^ 56
squared a = sym (crossed a (2 ^ 60)) ∙ sym (mul_assoc (a * a) (2 ^ 64) (2 ^ 56))

-- from below, where t is at most a * 2 ^ 60 / b
low_by : (a b x t : ℕ) → t * b ≤ a * 2 ^ 60 → x * 2 ^ 56 ≤ t * t → x * (b * b) ≤ a * a * 2 ^ 64
low_by a b x t h k =
    le_of_mul-le-mul_right
    (le_trans (le_of_eq (by_units x b))
    (le_trans (mul-le-mul_right (b * b) k)
    (le_trans (le_of_eq (crossed t b))
    (le_trans (mul-le-mul h h) (le_of_eq (squared a))))))
    (pow_pos 56)

-- from above, where t is at least that
high_by : (a b x t : ℕ) → a * 2 ^ 60 ≤ t * b → t * t ≤ x * 2 ^ 56 → a * a * 2 ^ 64 ≤ x * (b * b)
high_by a b x t h k =
    le_of_mul-le-mul_right
    (le_trans (le_of_eq (sym (squared a)))
    (le_trans (mul-le-mul h h)
    (le_trans (le_of_eq (sym (crossed t b)))
    (le_trans (mul-le-mul_right (b * b) k) (le_of_eq (sym (by_units x b)))))))
    (pow_pos 56)

-- ---- either the angle is a whole number of units, or it is below 2 ^ -8
abbrev WholeOrSmall : ℕ → ℕ → Type 0
WholeOrSmall a b = (a * 2 ^ 60 ≡ a * 2 ^ 60 / b * b) ⊎ (a * 256 ≤ b)

whole_or_small : (m : ℕ) (e : ℤ) → m < 2 ^ 53 → WholeOrSmall (m * up e) (down e)
whole_or_small m (pos k) h = inl (sym (mul-one (m * 2 ^ k * 2 ^ 60 / 1) ∙ div-one (m * 2 ^ k * 2 ^ 60)))
whole_or_small m (negsuc k) h = go (dec_le (suc k) 60)
  where
    go : Dec (suc k ≤ 60) → WholeOrSmall (m * 1) (2 ^ suc k)
    go (yes l) =
        let e : m * 1 * 2 ^ 60 ≡ m * 1 * 2 ^ (60 - suc k) * 2 ^ suc k = ap (λ (x : ℕ). m * 1 * 2 ^ x) (sym (sub-add_cancel l)) ∙ ap (λ (x : ℕ). m * 1 * x) (pow-add 2 (60 - suc k) (suc k)) ∙ sym (mul_assoc (m * 1) (2 ^ (60 - suc k)) (2 ^ suc k)) in
        inl (e ∙ sym (ap (λ (x : ℕ). x / 2 ^ suc k * 2 ^ suc k) e ∙ ap (λ (x : ℕ). x * 2 ^ suc k) (mul-div_cancel (m * 1 * 2 ^ (60 - suc k)) (pow_pos (suc k)))))
    go (no n) = inr (le_trans (le_of_eq (ap (λ (x : ℕ). x * 256) (mul-one m))) (le_trans (le_of_lt (small m h)) (pow_mono (lt_of_not-le n))))
      where
        small : (m : ℕ) → m < 2 ^ 53 → m * 256 < 2 ^ 61
        small m h = omega arith

exact_square : (t x : ℕ) → t * t ≤ x * 2 ^ 56 + 2 ^ 56 → t * t ≤ (x + 2) * 2 ^ 56
exact_square t x h = omega arith

small_square : (t x : ℕ) → t ≤ 2 ^ 52 → t * t ≤ x * 2 ^ 56 + 2 ^ 56 → (t + 1) * (t + 1) ≤ (x + 2) * 2 ^ 56
small_square t x l h = omega arith

high_x : (a b x : ℕ) → 0 < b → a * 2 ^ 60 / b * (a * 2 ^ 60 / b) ≤ x * 2 ^ 56 + 2 ^ 56 → WholeOrSmall a b → a * a * 2 ^ 64 ≤ (x + 2) * (b * b)
high_x a b x B u (inl e) = high_by a b (x + 2) (a * 2 ^ 60 / b) (le_of_eq e) (exact_square (a * 2 ^ 60 / b) x u)
high_x a b x B u (inr l) =
    high_by a b (x + 2) (a * 2 ^ 60 / b + 1) (le_trans (le_of_lt (lt-div-mul-add B)) (le_of_eq (one (a * 2 ^ 60 / b) b)))
    (small_square (a * 2 ^ 60 / b) x (div-le_of_le-mul b (le_trans (le_of_eq (sym (mul_assoc a 256 (2 ^ 52)))) (mul-le-mul_right (2 ^ 52) l))) u)
  where
    one : (t b : ℕ) → t * b + b ≡ (t + 1) * b
    one t b = omega arith

pub record SquareNear (a b x : ℕ) : Type 0 where
  pub low : x * (b * b) ≤ a * a * 2 ^ 64
  pub high : a * a * 2 ^ 64 ≤ (x + 2) * (b * b)

pub square_near : (m : ℕ) (e : ℤ) → Fit m e → SquareNear (m * up e) (down e) (m * up e * 2 ^ 60 / down e * (m * up e * 2 ^ 60 / down e) / 2 ^ 56)
square_near m e f =
    let a = m * up e in
    let b = down e in
    let t = a * 2 ^ 60 / b in
    let x = t * t / 2 ^ 56 in
    let under : t * t ≤ x * 2 ^ 56 + 2 ^ 56 = le_of_lt (lt-div-mul-add (pow_pos 56)) in
    record {
      low = low_by a b x t (div-mul-le_self (a * 2 ^ 60) b) (div-mul-le_self (t * t) (2 ^ 56));
      high = high_x a b x (down_pos e) under (whole_or_small m e f.digits);
    }
