-- The terms of the rule against the exact ones: a term is at most the exact one, and less by at most `err`, which depends on a bound X of the square.
use Rattle.std.proofs.Common.{◌≡◌, ℕ, zero, suc, ◌+◌, ◌*◌, ◌/◌, ◌^◌, ◌<◌, ◌≤◌, sym, ap, ◌∙◌, subst, ap₂, le_trans, le_of_eq, le_refl, le_of_lt, mul-le-mul_right, mul_assoc, mul_comm, mul-le-mul, mul-le-mul_left, mul-pos, pow-suc, le-div_iff_mul-le, div-mul-le_self, le_of_mul-le-mul_right, mul_left_comm, arith, pow_pos}
use native.Mathlib.Nat.{lt-div-mul-add, pow-zero, mul-mul-mul_comm}
use Rattle.drifters_real.specs.Real.{factorial, term}

-- ---- one step down: t' is the term after t, N / D the exact one that t is from, A / B the angle's square, S the unit
low_step : (S t x t' D B d N A : ℕ) → 0 < S → t' * (S * d) ≤ t * x → t * D ≤ N → x * B ≤ A * S → t' * (D * (B * d)) ≤ N * A
low_step S t x t' D B d N A P h k l =
    le_of_mul-le-mul_right
    (le_trans (le_of_eq (sort S t' D B d))
    (le_trans (mul-le-mul_right (D * B) h)
    (le_trans (le_of_eq (mul-mul-mul_comm t x D B))
    (le_trans (mul-le-mul k l) (le_of_eq (sym (mul_assoc N A S)))))))
    P
  where
    sort : (S t' D B d : ℕ) → t' * (D * (B * d)) * S ≡ t' * (S * d) * (D * B)
    sort S t' D B d = simp (mul_assoc, mul_comm, mul_left_comm)

-- ---- and one step up
high_step : (S t x t' D B d N A e e' C Y : ℕ) → 0 < S → t * x ≤ t' * (S * d) + S * d → N ≤ (t + e) * D → A * S ≤ (x + 2) * B → t ≤ C → x ≤ Y
    → 2 * C + e * (Y + 2) + S * d ≤ e' * (S * d) → N * A ≤ (t' + e') * (D * (B * d))
high_step S t x t' D B d N A e e' C Y P h k l c y b =
    le_of_mul-le-mul_right
    (le_trans (le_of_eq (mul_assoc N A S))
    (le_trans (mul-le-mul k l)
    (le_trans (le_of_eq (mul-mul-mul_comm (t + e) D (x + 2) B))
    (le_trans (mul-le-mul_right (D * B) bound) (le_of_eq (sort S (t' + e') D B d))))))
    P
  where
    sort : (S u D B d : ℕ) → u * (S * d) * (D * B) ≡ u * (D * (B * d)) * S
    sort S u D B d = simp (mul_assoc, mul_comm, mul_left_comm)

    more : e * x ≤ e * Y
    more = mul-le-mul_left e y

    bound : (t + e) * (x + 2) ≤ (t' + e') * (S * d)
    bound = omega (arith, more)

-- ---- the exact terms' denominators
abbrev pub term_denominator : ℕ → ℕ → ℕ
term_denominator B k = B ^ k * factorial (2 * k + 1)

term_denominator_suc : (B k : ℕ) → term_denominator B (suc k) ≡ term_denominator B k * (B * ((2 * k + 2) * (2 * k + 3)))
unfolding factorial
term_denominator_suc B k =
    ap₂ (λ (x y : ℕ). x * y) (pow-suc B k) (ap factorial (two_more k) ∙ ap₂ (λ (x y : ℕ). x * (y * factorial (2 * k + 1))) (three k) (two k))
    ∙ sort (B ^ k) B (2 * k + 3) (2 * k + 2) (factorial (2 * k + 1))
  where
    two_more : (k : ℕ) → 2 * suc k + 1 ≡ suc (suc (2 * k + 1))
    two_more k = omega arith

    two : (k : ℕ) → suc (2 * k + 1) ≡ 2 * k + 2
    two k = omega arith

    three : (k : ℕ) → suc (suc (2 * k + 1)) ≡ 2 * k + 3
    three k = omega arith

    sort : (p B u v f : ℕ) → p * B * (u * (v * f)) ≡ p * f * (B * (v * u))
    sort p B u v f = simp (mul_assoc, mul_comm, mul_left_comm)

-- ---- the terms
d_pos : (k : ℕ) → 0 < 2 ^ 64 * ((2 * k + 2) * (2 * k + 3))
d_pos k = mul-pos (pow_pos 64) (mul-pos (a k) (b k))
  where
    a : (k : ℕ) → 0 < 2 * k + 2
    a k = omega arith

    b : (k : ℕ) → 0 < 2 * k + 3
    b k = omega arith

-- a larger square has larger terms
pub term_mono : (x y k : ℕ) → x ≤ y → term x k ≤ term y k
unfolding term
term_mono x y zero h = le_refl (2 ^ 64)
term_mono x y (suc k) h =
    (le-div_iff_mul-le (d_pos k)).1 (le_trans (div-mul-le_self (term x k * x) (2 ^ 64 * ((2 * k + 2) * (2 * k + 3)))) (mul-le-mul (term_mono x y k h) h))

-- how far a term can be below the exact one, in its units, for a square of at most X: at each step two units, and what the error before and the square's error of two units come to
unfoldable pub err : ℕ → ℕ → ℕ
unfolding term
err X zero = 0
err X (suc k) = (2 * term X k + err X k * (X + 2)) / (2 ^ 64 * ((2 * k + 2) * (2 * k + 3))) + 2

-- s units of 2 ^ -64 are at most v / G, and less by at most E
pub record Between (s v G E : ℕ) : Type 0 where
  pub low : s * G ≤ v * 2 ^ 64
  pub high : v * 2 ^ 64 ≤ (s + E) * G

-- x units are a square A / B, rounded down to two units or less
module _ (X x A B : ℕ) (low : x * B ≤ A * 2 ^ 64) (high : A * 2 ^ 64 ≤ (x + 2) * B) (small : x ≤ X) where
  next_power : (k : ℕ) → A ^ k * 2 ^ 64 * A ≡ A ^ suc k * 2 ^ 64
  next_power k = sort (A ^ k) A (2 ^ 64) ∙ ap (λ (z : ℕ). z * 2 ^ 64) (sym (pow-suc A k))
    where
      sort : (p A S : ℕ) → p * S * A ≡ p * A * S
      sort p A S = simp (mul_assoc, mul_comm)

  pub term_between : (k : ℕ) → Between (term x k) (A ^ k) (term_denominator B k) (err X k)
  unfolding term factorial err
  term_between zero = record { low = le_of_eq (simp pow-zero); high = le_of_eq (simp pow-zero) }
  term_between (suc k) =
      let before = term_between k in
      let d = (2 * k + 2) * (2 * k + 3) in
      record {
        low =
            subst (λ (z : ℕ). term x (suc k) * z ≤ A ^ suc k * 2 ^ 64) (sym (term_denominator_suc B k))
            (le_trans
            (low_step (2 ^ 64) (term x k) x (term x (suc k)) (term_denominator B k) B d (A ^ k * 2 ^ 64) A (pow_pos 64) (div-mul-le_self (term x k * x) (2 ^ 64 * d)) before.low low)
            (le_of_eq (next_power k)));
        high =
            subst (λ (z : ℕ). A ^ suc k * 2 ^ 64 ≤ (term x (suc k) + err X (suc k)) * z) (sym (term_denominator_suc B k))
            (le_trans (le_of_eq (sym (next_power k)))
            (high_step (2 ^ 64) (term x k) x (term x (suc k)) (term_denominator B k) B d (A ^ k * 2 ^ 64) A (err X k) (err X (suc k)) (term X k) X (pow_pos 64)
            (le_of_lt (lt-div-mul-add (d_pos k))) before.high high (term_mono x X k small) small
            (two_more (2 * term X k + err X k * (X + 2)) (2 ^ 64 * d) (d_pos k))));
      }
    where
      two_more : (z c : ℕ) → 0 < c → z + c ≤ (z / c + 2) * c
      two_more z c P = omega (arith, lt-div-mul-add {a = z} P)
