-- The rule's sums against the exact ones.
use Rattle.std.proofs.Common.{◌≡◌, ℕ, zero, suc, ◌+◌, ◌-◌, ◌*◌, ◌/◌, ◌^◌, ◌<◌, ◌≤◌, sym, refl, ap, ◌∙◌, subst, ap₂, subst₂, zero-le, le_trans, le_of_eq, add-le-add, mul-le-mul_right, zero-lt-suc, mul_assoc, lt-suc_self, mul_comm, add-mul, mul-pos, one-mul, pow-suc, zero-mul, mul_right_comm, mul-div_cancel, mul_left_comm, arith, pow-add}
use native.Mathlib.Nat.{pow-zero, le-suc, suc-add, sub-add_cancel, add-sub_of_le}
use Rattle.drifters_real.specs.Real.{sum_of, factorial, power, term, exact_sin_plus, exact_sin_minus, exact_cos_plus, exact_cos_minus, sinc_plus, sinc_minus, cos_plus, cos_minus}
use Rattle.drifters_real.proofs.Real.Terms.{term_denominator, err, Between, term_between}

-- ---- sums
pub sum_le : (f g : ℕ → ℕ) (n : ℕ) → ((i : ℕ) → i < n → f i ≤ g i) → sum_of f n ≤ sum_of g n
unfolding sum_of
sum_le f g zero h = zero-le
sum_le f g (suc n) h = add-le-add (sum_le f g n (λ i l. h i (le_trans l (le-suc n)))) (h n (lt-suc_self n))

pub sum_mul : (f : ℕ → ℕ) (c n : ℕ) → sum_of (λ i. f i * c) n ≡ sum_of f n * c
unfolding sum_of
sum_mul f c zero = sym (zero-mul c)
sum_mul f c (suc n) = ap (λ (x : ℕ). x + f n * c) (sum_mul f c n) ∙ sym (add-mul (sum_of f n) (f n) c)

pub sum_add : (f g : ℕ → ℕ) (n : ℕ) → sum_of (λ i. f i + g i) n ≡ sum_of f n + sum_of g n
unfolding sum_of
sum_add f g zero = refl
sum_add f g (suc n) = ap (λ (x : ℕ). x + (f n + g n)) (sum_add f g n) ∙ four (sum_of f n) (sum_of g n) (f n) (g n)
  where
    four : (a b c d : ℕ) → a + b + (c + d) ≡ a + c + (b + d)
    four a b c d = omega arith

-- ---- factorials
pub factorial_pos : (n : ℕ) → 0 < factorial n
unfolding factorial
factorial_pos zero = zero-lt-suc 0
factorial_pos (suc n) = mul-pos (zero-lt-suc n) (factorial_pos n)

divides : (d j : ℕ) → (q : ℕ) × (factorial (d + j) ≡ q * factorial j)
unfolding factorial
divides zero j = (1, ap factorial (none j) ∙ sym (one-mul (factorial j)))
  where
    none : (j : ℕ) → 0 + j ≡ j
    none j = omega arith
divides (suc d) j =
    let r = divides d j in
    (suc (d + j) * r.0, ap factorial (suc-add d j) ∙ ap (λ (x : ℕ). suc (d + j) * x) r.1 ∙ sym (mul_assoc (suc (d + j)) r.0 (factorial j)))

pub factorial_split : (n j : ℕ) → j ≤ n → factorial n / factorial j * factorial j ≡ factorial n
factorial_split n j h =
    let r = divides (n - j) j in
    let e : factorial n ≡ r.0 * factorial j = ap factorial (sym (sub-add_cancel h)) ∙ r.1 in
    ap (λ (x : ℕ). x / factorial j * factorial j) e ∙ ap (λ (x : ℕ). x * factorial j) (mul-div_cancel r.0 (factorial_pos j)) ∙ sym e

-- ---- powers of a square
pub pow_square : (a k : ℕ) → (a * a) ^ k ≡ a ^ (2 * k)
pow_square a zero = simp pow-zero
pow_square a (suc k) = pow-suc (a * a) k ∙ ap (λ (x : ℕ). x * (a * a)) (pow_square a k) ∙ sym (mul_assoc (a ^ (2 * k)) a a) ∙ ap (λ (x : ℕ). x * a) (sym (pow-suc a (2 * k))) ∙ sym (pow-suc a (suc (2 * k))) ∙ ap (λ (x : ℕ). a ^ x) (two k)
  where
    two : (k : ℕ) → suc (suc (2 * k)) ≡ 2 * suc k
    two k = omega arith

pow_split : (b n j : ℕ) → j ≤ n → b ^ j * b ^ (n - j) ≡ b ^ n
pow_split b n j h = sym (pow-add b j (n - j)) ∙ ap (λ (x : ℕ). b ^ x) (add-sub_of_le h)

-- ---- a term over the common denominator
-- D B k, for the square B of b, times what is missing: the sine's
sin_whole : (b k : ℕ) → k ≤ 31 → term_denominator (b * b) k * (b ^ (63 - (2 * k + 1)) * (factorial 63 / factorial (2 * k + 1))) ≡ b ^ 62 * factorial 63
sin_whole b k h =
    ap (λ (x : ℕ). x * factorial (2 * k + 1) * (b ^ (63 - (2 * k + 1)) * (factorial 63 / factorial (2 * k + 1)))) (pow_square b k)
    ∙ ap (λ (z : ℕ). b ^ (2 * k) * factorial (2 * k + 1) * (b ^ z * (factorial 63 / factorial (2 * k + 1)))) (less k)
    ∙ sort (b ^ (2 * k)) (factorial (2 * k + 1)) (b ^ (62 - 2 * k)) (factorial 63 / factorial (2 * k + 1))
    ∙ ap₂ (λ (x y : ℕ). x * y) (pow_split b 62 (2 * k) (even k h)) (factorial_split 63 (2 * k + 1) (odd k h))
  where
    less : (k : ℕ) → 63 - (2 * k + 1) ≡ 62 - 2 * k
    less k = omega arith

    even : (k : ℕ) → k ≤ 31 → 2 * k ≤ 62
    even k h = omega arith

    odd : (k : ℕ) → k ≤ 31 → 2 * k + 1 ≤ 63
    odd k h = omega arith

    sort : (p f q g : ℕ) → p * f * (q * g) ≡ p * q * (g * f)
    sort p f q g = simp (mul_assoc, mul_comm, mul_left_comm)

-- the cosine's
cos_whole : (b k : ℕ) → k ≤ 31 → term_denominator (b * b) k * (b ^ (62 - 2 * k) * (factorial 62 / factorial (2 * k))) ≡ (2 * k + 1) * (b ^ 62 * factorial 62)
unfolding factorial
cos_whole b k h =
    ap₂ (λ (x y : ℕ). x * y * (b ^ (62 - 2 * k) * (factorial 62 / factorial (2 * k)))) (pow_square b k) (ap factorial (one k) ∙ ap (λ (x : ℕ). x * factorial (2 * k)) (sym (one k)))
    ∙ sort (b ^ (2 * k)) (2 * k + 1) (factorial (2 * k)) (b ^ (62 - 2 * k)) (factorial 62 / factorial (2 * k))
    ∙ ap (λ (x : ℕ). (2 * k + 1) * x) (ap₂ (λ (x y : ℕ). x * y) (pow_split b 62 (2 * k) (even k h)) (factorial_split 62 (2 * k) (even k h)))
  where
    one : (k : ℕ) → 2 * k + 1 ≡ suc (2 * k)
    one k = omega arith

    even : (k : ℕ) → k ≤ 31 → 2 * k ≤ 62
    even k h = omega arith

    sort : (p w f q g : ℕ) → p * (w * f) * (q * g) ≡ w * (p * q * (g * f))
    sort p w f q g = simp (mul_assoc, mul_comm, mul_left_comm)

-- the exact terms
cos_power : (a b k : ℕ) → (a * a) ^ k * (b ^ (62 - 2 * k) * (factorial 62 / factorial (2 * k))) ≡ power 62 a b (2 * k)
unfolding power
cos_power a b k = ap (λ (x : ℕ). x * (b ^ (62 - 2 * k) * (factorial 62 / factorial (2 * k)))) (pow_square a k) ∙ sym (mul_assoc (a ^ (2 * k)) (b ^ (62 - 2 * k)) (factorial 62 / factorial (2 * k)))

sin_power : (a b k : ℕ) → a * ((a * a) ^ k * (b ^ (63 - (2 * k + 1)) * (factorial 63 / factorial (2 * k + 1)))) ≡ power 63 a b (2 * k + 1)
unfolding power
sin_power a b k =
    ap (λ (x : ℕ). a * (x * (b ^ (63 - (2 * k + 1)) * (factorial 63 / factorial (2 * k + 1))))) (pow_square a k)
    ∙ sort a (a ^ (2 * k)) (b ^ (63 - (2 * k + 1))) (factorial 63 / factorial (2 * k + 1))
    ∙ ap (λ (x : ℕ). x * b ^ (63 - (2 * k + 1)) * (factorial 63 / factorial (2 * k + 1))) (sym (pow-suc a (2 * k)) ∙ ap (λ (x : ℕ). a ^ x) (one k))
  where
    one : (k : ℕ) → suc (2 * k) ≡ 2 * k + 1
    one k = omega arith

    sort : (a p q g : ℕ) → a * (p * (q * g)) ≡ p * a * q * g
    sort a p q g = simp (mul_assoc, mul_comm)

-- ---- a term over the common denominator, with its bounds
over_by : (s v G E c : ℕ) → Between s v G E → Between s (v * c) (G * c) E
over_by s v G E c h = record {
  low = le_trans (le_of_eq (sym (mul_assoc s G c))) (le_trans (mul-le-mul_right c h.low) (le_of_eq (mul_right_comm v (2 ^ 64) c)));
  high = le_trans (le_of_eq (mul_right_comm v c (2 ^ 64))) (le_trans (mul-le-mul_right c h.high) (le_of_eq (mul_assoc (s + E) G c)));
}

weighted : (w s v G E : ℕ) → Between s v (w * G) E → Between (w * s) v G (w * E)
weighted w s v G E h = record { low = le_trans (le_of_eq (out w s G)) h.low; high = le_trans h.high (le_of_eq (join w s E G)) }
  where
    out : (w s G : ℕ) → w * s * G ≡ s * (w * G)
    out w s G = simp (mul_assoc, mul_left_comm)

    join : (w s E G : ℕ) → (s + E) * (w * G) ≡ (w * s + w * E) * G
    join w s E G = omega arith

sum_between : (f e g : ℕ → ℕ) (G n : ℕ) → ((i : ℕ) → i < n → Between (f i) (g i) G (e i)) → Between (sum_of f n) (sum_of g n) G (sum_of e n)
sum_between f e g G n h = record {
  low = le_trans (le_of_eq (sym (sum_mul f G n))) (le_trans (sum_le (λ i. f i * G) (λ i. g i * 2 ^ 64) n (λ i l. (h i l).low)) (le_of_eq (sum_mul g (2 ^ 64) n)));
  high =
      le_trans (le_of_eq (sym (sum_mul g (2 ^ 64) n)))
      (le_trans (sum_le (λ i. g i * 2 ^ 64) (λ i. (f i + e i) * G) n (λ i l. (h i l).high)) (le_of_eq (sum_mul (λ i. f i + e i) G n ∙ ap (λ (y : ℕ). y * G) (sum_add f e n))));
}

-- ---- how far the sums can be below the exact ones, for a square of at most X
unfoldable pub sinc_plus_error : ℕ → ℕ
unfolding sum_of err
sinc_plus_error X = sum_of (λ i. err X (2 * i)) 16

unfoldable pub sinc_minus_error : ℕ → ℕ
unfolding sum_of err
sinc_minus_error X = sum_of (λ i. err X (2 * i + 1)) 16

unfoldable pub cos_plus_error : ℕ → ℕ
unfolding sum_of err
cos_plus_error X = sum_of (λ i. (4 * i + 1) * err X (2 * i)) 16

unfoldable pub cos_minus_error : ℕ → ℕ
unfolding sum_of err
cos_minus_error X = sum_of (λ i. (4 * i + 3) * err X (2 * i + 1)) 16

module _ (X a b x : ℕ) (low : x * (b * b) ≤ a * a * 2 ^ 64) (high : a * a * 2 ^ 64 ≤ (x + 2) * (b * b)) (small : x ≤ X) where
  abbrev cos_over : ℕ
  cos_over = b ^ 62 * factorial 62

  abbrev sin_over : ℕ
  sin_over = a * (b ^ 62 * factorial 63)

  cos_term : (k : ℕ) → k ≤ 31 → Between ((2 * k + 1) * term x k) (power 62 a b (2 * k)) cos_over ((2 * k + 1) * err X k)
  cos_term k h =
      let c = b ^ (62 - 2 * k) * (factorial 62 / factorial (2 * k)) in
      weighted (2 * k + 1) (term x k) (power 62 a b (2 * k)) cos_over (err X k)
      (subst (λ (G : ℕ). Between (term x k) (power 62 a b (2 * k)) G (err X k)) (cos_whole b k h)
      (subst (λ (v : ℕ). Between (term x k) v (term_denominator (b * b) k * c) (err X k)) (cos_power a b k)
      (over_by (term x k) ((a * a) ^ k) (term_denominator (b * b) k) (err X k) c (term_between X x (a * a) (b * b) low high small k))))

  sin_term : (k : ℕ) → k ≤ 31 → Between (term x k) (power 63 a b (2 * k + 1)) sin_over (err X k)
  sin_term k h =
      let c = b ^ (63 - (2 * k + 1)) * (factorial 63 / factorial (2 * k + 1)) in
      subst (λ (G : ℕ). Between (term x k) (power 63 a b (2 * k + 1)) G (err X k)) (mul_left_comm (term_denominator (b * b) k) a c ∙ ap (λ (y : ℕ). a * y) (sin_whole b k h))
      (subst (λ (v : ℕ). Between (term x k) v (term_denominator (b * b) k * (a * c)) (err X k)) (mul_left_comm ((a * a) ^ k) a c ∙ sin_power a b k)
      (over_by (term x k) ((a * a) ^ k) (term_denominator (b * b) k) (err X k) (a * c) (term_between X x (a * a) (b * b) low high small k)))

  -- ---- the sums
  even_fit : (i : ℕ) → i < 16 → 2 * i ≤ 31
  even_fit i l = omega arith

  odd_fit : (i : ℕ) → i < 16 → 2 * i + 1 ≤ 31
  odd_fit i l = omega arith

  at_4 : (i : ℕ) → 2 * (2 * i) ≡ 4 * i
  at_4 i = omega arith

  at_4_2 : (i : ℕ) → 2 * (2 * i + 1) ≡ 4 * i + 2
  at_4_2 i = omega arith

  at_4_3 : (i : ℕ) → 2 * (2 * i + 1) + 1 ≡ 4 * i + 3
  at_4_3 i = omega arith

  pub cos_plus_near : Between (cos_plus x) (exact_cos_plus a b) cos_over (cos_plus_error X)
  unfolding cos_plus exact_cos_plus cos_plus_error
  cos_plus_near =
      sum_between (λ i. (4 * i + 1) * term x (2 * i)) (λ i. (4 * i + 1) * err X (2 * i)) (λ i. power 62 a b (4 * i)) cos_over 16
      (λ i l. subst (λ (j : ℕ). Between ((j + 1) * term x (2 * i)) (power 62 a b j) cos_over ((j + 1) * err X (2 * i))) (at_4 i) (cos_term (2 * i) (even_fit i l)))

  pub cos_minus_near : Between (cos_minus x) (exact_cos_minus a b) cos_over (cos_minus_error X)
  unfolding cos_minus exact_cos_minus cos_minus_error
  cos_minus_near =
      sum_between (λ i. (4 * i + 3) * term x (2 * i + 1)) (λ i. (4 * i + 3) * err X (2 * i + 1)) (λ i. power 62 a b (4 * i + 2)) cos_over 16
      (λ i l. subst₂ (λ (w j : ℕ). Between (w * term x (2 * i + 1)) (power 62 a b j) cos_over (w * err X (2 * i + 1))) (at_4_3 i) (at_4_2 i) (cos_term (2 * i + 1) (odd_fit i l)))

  pub sin_plus_near : Between (sinc_plus x) (exact_sin_plus a b) sin_over (sinc_plus_error X)
  unfolding sinc_plus exact_sin_plus sinc_plus_error
  sin_plus_near =
      sum_between (λ i. term x (2 * i)) (λ i. err X (2 * i)) (λ i. power 63 a b (4 * i + 1)) sin_over 16
      (λ i l. subst (λ (j : ℕ). Between (term x (2 * i)) (power 63 a b (j + 1)) sin_over (err X (2 * i))) (at_4 i) (sin_term (2 * i) (even_fit i l)))

  pub sin_minus_near : Between (sinc_minus x) (exact_sin_minus a b) sin_over (sinc_minus_error X)
  unfolding sinc_minus exact_sin_minus sinc_minus_error
  sin_minus_near =
      sum_between (λ i. term x (2 * i + 1)) (λ i. err X (2 * i + 1)) (λ i. power 63 a b (4 * i + 3)) sin_over 16
      (λ i l. subst (λ (j : ℕ). Between (term x (2 * i + 1)) (power 63 a b j) sin_over (err X (2 * i + 1))) (at_4_3 i) (sin_term (2 * i + 1) (odd_fit i l)))
