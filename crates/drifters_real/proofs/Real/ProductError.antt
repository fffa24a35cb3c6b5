-- The angle times the rounded difference of two sums, rounded once more, against the exact sine: within the angle times 2 ^ -50.
-- W and U are those of `Error`.
use Rattle.std.proofs.Common.{◌≡◌, ℕ, ◌+◌, ◌-◌, ◌*◌, ◌/◌, ◌^◌, ◌<◌, ◌≤◌, true, false, ◌⊎◌, ℤ, sym, refl, ap, ◌∙◌, subst, inl, inr, true≢false, zero-le, le_trans, le_of_eq, le-add_right, lt_of_le_of_lt, le_of_lt, add-le-add, mul-le-mul_right, mul_assoc, mul_comm, div-lt_iff_lt-mul, add-mul, eq-zero-or-pos, mul-le-mul, mul-le-mul_left, mul-lt-mul_of_pos_right, mul-pos, lt_of_not-le, le-div_iff_mul-le, mul-one, mul_right_comm, le_of_mul-le-mul_right, mul_left_comm, le-add_left, arith, lit<, lit≤, pow_pos, pow_mono, pow-add}
use native.Mathlib.Nat.{le_of_mul-le-mul_left, mul-mul-mul_comm}
use native.Mathlib.Decide.{dec_le}
use lib.Ieee.{Float, nan, inf, fin, binary64, up, down, size, round, neg, mul}
use lib.Ieee.Digits.{size-le, size_reaches}
use lib.Ieee.Fits.{down_pos}
use lib.Ieee.Order.{drop}
use lib.Ieee.Exact.{HasValue}
use lib.Ieee.Scale.{grid, overflow, round_val, round_same}
use Rattle.drifters_real.specs.Real.{difference, Within}
use Rattle.drifters_real.proofs.Real.Terms.{Between}
use Rattle.drifters_real.proofs.Real.Rounding.{grid_near, kept_le, sub_le_of_le, neg_round}
use Rattle.drifters_real.proofs.Real.Error.{Near, near, Around, within_of, within_neg, difference_neg, W, U, SU, WU, Rounded, rounded}

-- ---- the angle a / b times G / W, as a fraction r / k that is within 7 units of the product, and G / W itself within 5
module _ (a b G plus minus D r k : ℕ) where
  around_sin : Near G plus minus (a * D) U W 5 → r * b * W ≤ (a * G + 7 * (a * U)) * k → a * G * k ≤ r * b * W + 7 * (a * U) * k → Around r k plus minus (b * D) a (b * 2 ^ 50)
  around_sin h o i = around a b G plus minus D r k U W WU (pow_pos 1074) h o i
    where
      around : (a b G plus minus D r k U W : ℕ) → W ≡ 2 ^ 54 * U → 0 < W → Near G plus minus (a * D) U W 5 → r * b * W ≤ (a * G + 7 * (a * U)) * k → a * G * k ≤ r * b * W + 7 * (a * U) * k → Around r k plus minus (b * D) a (b * 2 ^ 50)
      around a b G plus minus D r k U W w P h o i = record {
        over =
            le_of_mul-le-mul_right
            (le_trans (le_of_eq (left r b D k W minus))
            (le_trans (mul-le-mul_left (b * 2 ^ 50) (top (r * b * W) (a * G + 7 * (a * U)) k D (minus * W) (G * (a * D) + minus * W + 7 * (U * (a * D))) o (gather a G U D (minus * W))))
            (le_trans (mul-le-mul_left (b * 2 ^ 50) (mul-le-mul_right k (twelve (G * (a * D) + minus * W) (plus * W) (U * (a * D)) h.over)))
            (le_of_eq (right b k plus a D U W w)))))
            P;
        under =
            le_of_mul-le-mul_right
            (le_trans (le_of_eq (left' plus k b W))
            (le_trans (mul-le-mul_left (b * 2 ^ 50) (mul-le-mul_right k h.under))
            (le_trans (mul-le-mul_left (b * 2 ^ 50) (bottom a G U D k (minus * W) (r * b * W) i))
            (le_of_eq (right' r b D k W minus a U w)))))
            P;
      }
        where
          left : (r b D k W n : ℕ) → (r * (b * D) + n * k) * (b * 2 ^ 50) * W ≡ b * 2 ^ 50 * (r * b * W * D + n * W * k)
          left r b D k W n = omega arith

          top : (x y k D n g : ℕ) → x ≤ y * k → y * D + n ≡ g → x * D + n * k ≤ g * k
          top x y k D n g h e = le_trans (add-le-add (mul-le-mul_right D h) (le_of_eq refl)) (le_of_eq (sort y k D n ∙ ap (λ (z : ℕ). z * k) e))
            where
              sort : (y k D n : ℕ) → y * k * D + n * k ≡ (y * D + n) * k
              sort y k D n = omega arith

          gather : (a G U D n : ℕ) → (a * G + 7 * (a * U)) * D + n ≡ G * (a * D) + n + 7 * (U * (a * D))
          gather a G U D n = omega arith

          twelve : (x y z : ℕ) → x ≤ y + 5 * z → x + 7 * z ≤ y + 16 * z
          twelve x y z h = omega arith

          right : (b k p a D U W : ℕ) → W ≡ 2 ^ 54 * U → b * 2 ^ 50 * ((p * W + 16 * (U * (a * D))) * k) ≡ (p * k * (b * 2 ^ 50) + a * (k * (b * D))) * W
          right b k p a D U W w = expand b k p a D U W ∙ ap (λ (x : ℕ). p * k * (b * 2 ^ 50) * W + a * (k * (b * D)) * x) (sym w) ∙ sym (add-mul (p * k * (b * 2 ^ 50)) (a * (k * (b * D))) W)
            where
              expand : (b k p a D U W : ℕ) → b * 2 ^ 50 * ((p * W + 16 * (U * (a * D))) * k) ≡ p * k * (b * 2 ^ 50) * W + a * (k * (b * D)) * (2 ^ 54 * U)
              expand b k p a D U W = omega arith

          left' : (p k b W : ℕ) → p * k * (b * 2 ^ 50) * W ≡ b * 2 ^ 50 * (p * W * k)
          left' p k b W = omega arith

          bottom : (a G U D k n x : ℕ) → a * G * k ≤ x + 7 * (a * U) * k → (G * (a * D) + n + 5 * (U * (a * D))) * k ≤ x * D + n * k + 16 * (U * (a * D)) * k
          bottom a G U D k n x h = le_trans (le_of_eq (out a G U D k n)) (le_trans (add-le-add (mul-le-mul_right D h) (le_of_eq refl)) (fold a U D k n x))
            where
              out : (a G U D k n : ℕ) → (G * (a * D) + n + 5 * (U * (a * D))) * k ≡ a * G * k * D + (n * k + 5 * (U * (a * D)) * k)
              out a G U D k n = omega arith

              fold : (a U D k n x : ℕ) → (x + 7 * (a * U) * k) * D + (n * k + 5 * (U * (a * D)) * k) ≤ x * D + n * k + 16 * (U * (a * D)) * k
              fold a U D k n x = omega arith

          right' : (r b D k W n a U : ℕ) → W ≡ 2 ^ 54 * U → b * 2 ^ 50 * (r * b * W * D + n * W * k + 16 * (U * (a * D)) * k) ≡ ((r * (b * D) + n * k) * (b * 2 ^ 50) + a * (k * (b * D))) * W
          right' r b D k W n a U w = expand r b D k W n a U ∙ ap (λ (x : ℕ). (r * (b * D) + n * k) * (b * 2 ^ 50) * W + a * (k * (b * D)) * x) (sym w) ∙ sym (add-mul ((r * (b * D) + n * k) * (b * 2 ^ 50)) (a * (k * (b * D))) W)
            where
              expand : (r b D k W n a U : ℕ) → b * 2 ^ 50 * (r * b * W * D + n * W * k + 16 * (U * (a * D)) * k) ≡ (r * (b * D) + n * k) * (b * 2 ^ 50) * W + a * (k * (b * D)) * (2 ^ 54 * U)
              expand r b D k W n a U = omega arith

-- ---- the product of the angle and G / W, rounded
mul_plus : (m : ℕ) (e : ℤ) (h : Float) (G : ℕ) → HasValue h false G W → mul binary64 (fin false m e) h ≡ round binary64 false (m * up e * G) (down e * W)
unfolding mul
mul_plus m e nan G v = absurd v
mul_plus m e (inf t) G v = absurd v
mul_plus m e (fin true n d) G v = absurd (true≢false v.0)
mul_plus m e (fin false n d) G v =
    round_same binary64 false (m * up e * (n * up d)) (down e * down d) (m * up e * G) (down e * W) (mul-pos (down_pos e) (down_pos d)) (mul-pos (down_pos e) (pow_pos 1074)) (crossed (m * up e) (n * up d) (down e) (down d) G W v.1)
  where
    crossed : (a h b d G W : ℕ) → h * W ≡ G * d → a * h * (b * W) ≡ a * G * (b * d)
    crossed a h b d G W e = mul-mul-mul_comm a h b W ∙ ap (λ (x : ℕ). a * b * x) e ∙ right a b d G
      where
        right : (a b d G : ℕ) → a * b * (G * d) ≡ a * G * (b * d)
        right a b d G = omega arith

mul_neg : (m : ℕ) (e : ℤ) (h : Float) (G : ℕ) → HasValue h false G W → mul binary64 (fin false m e) (neg h) ≡ neg (mul binary64 (fin false m e) h)
unfolding mul neg
mul_neg m e nan G v = absurd v
mul_neg m e (inf t) G v = absurd v
mul_neg m e (fin true n d) G v = absurd (true≢false v.0)
mul_neg m e (fin false n d) G v = sym (neg_round binary64 (m * up e * (n * up d)) (down e * down d))

module _ (l a b G : ℕ) (small_enough : l * 3 * W < 2 ^ 1080) (B : 0 < b) (most : a ≤ l * b) (small : G ≤ 3 * W) where
  abbrev N : ℕ
  N = a * G * 2 ^ 1074

  abbrev C : ℕ
  C = b * 2 ^ 1074

  abbrev K : ℕ
  K = drop 53 N C

  abbrev R : ℕ
  R = grid binary64 (a * G) C

  C-pos : 0 < C
  C-pos = mul-pos B (pow_pos 1074)

  quotient_lt : N / C < 2 ^ 1080
  quotient_lt =
      (div-lt_iff_lt-mul C-pos).1
      (lt_of_le_of_lt (mul-le-mul_right (2 ^ 1074) (mul-le-mul most small))
      (subst (λ (x : ℕ). l * b * (3 * W) * 2 ^ 1074 < x) (mul_assoc (2 ^ 1080) b (2 ^ 1074))
      (mul-lt-mul_of_pos_right (subst (λ (x : ℕ). x < 2 ^ 1080 * b) (swap l b W) (mul-lt-mul_of_pos_right small_enough B)) (pow_pos 1074))))
    where
      swap : (l b w : ℕ) → l * 3 * w * b ≡ l * b * (3 * w)
      swap l b w = omega arith

  R-under : R < overflow binary64
  R-under = lt_of_le_of_lt (mul-le-mul (kept_le binary64 N C) (pow_mono (sub_le_of_le (size (N / C)) 53 1027 (size-le (N / C) 1080 quotient_lt)))) (lit< tt)

  -- the last place of the result, times b: at most the product's part in 2 ^ 52, and b where the result is subnormal
  last_place : 2 ^ 52 * (b * 2 ^ K) ≤ a * G + 2 ^ 52 * b
  last_place = go (eq-zero-or-pos K)
    where
      zero_case : (k : ℕ) → k ≡ 0 → 2 ^ 52 * (b * 2 ^ k) ≤ a * G + 2 ^ 52 * b
      zero_case k e = subst (λ (j : ℕ). 2 ^ 52 * (b * 2 ^ j) ≤ a * G + 2 ^ 52 * b) (sym e) (le_trans (le_of_eq (ap (λ (x : ℕ). 2 ^ 52 * x) (mul-one b))) (le-add_left (2 ^ 52 * b) (a * G)))

      digit : (z : ℕ) → 0 < z - 53 → 52 + (z - 53) < z
      digit z h = omega arith

      go : (K ≡ 0) ⊎ (0 < K) → 2 ^ 52 * (b * 2 ^ K) ≤ a * G + 2 ^ 52 * b
      go (inl e) = zero_case K e
      go (inr h) =
          let r : 2 ^ (52 + K) ≤ N / C = size_reaches (N / C) (52 + K) (digit (size (N / C)) h) in
          let t : 2 ^ (52 + K) * C ≤ N = (le-div_iff_mul-le C-pos).0 r in
          le_trans (le_of_mul-le-mul_right (le_trans (le_of_eq (sort b (2 ^ K) (2 ^ 52) (2 ^ 1074) ∙ ap (λ (x : ℕ). x * C) (sym (pow-add 2 52 K)))) t) (pow_pos 1074)) (le-add_right (a * G) (2 ^ 52 * b))
        where
          sort : (b p q w : ℕ) → q * (b * p) * w ≡ q * p * (b * w)
          sort b p q w = simp (mul_assoc, mul_comm, mul_left_comm)

  product_over : 2 * (R * b) ≤ 2 * (a * G) + b * 2 ^ K
  product_over = le_of_mul-le-mul_right (le_trans (le_of_eq (out R b (2 ^ 1074))) (le_trans (grid_near (a * G) C C-pos).0 (le_of_eq (fold (a * G) b (2 ^ K) (2 ^ 1074))))) (pow_pos 1074)
    where
      out : (r b w : ℕ) → 2 * (r * b) * w ≡ 2 * (r * (b * w))
      out r b w = omega arith

      fold : (x b p w : ℕ) → 2 * (x * w) + b * w * p ≡ (2 * x + b * p) * w
      fold x b p w = omega arith

  product_under : 2 * (a * G) ≤ 2 * (R * b) + b * 2 ^ K
  product_under = le_of_mul-le-mul_right (le_trans (le_of_eq (out (a * G) (2 ^ 1074))) (le_trans (grid_near (a * G) C C-pos).1 (le_of_eq (fold R b (2 ^ K) (2 ^ 1074))))) (pow_pos 1074)
    where
      out : (x w : ℕ) → 2 * x * w ≡ 2 * (x * w)
      out x w = omega arith

      fold : (r b p w : ℕ) → 2 * (r * (b * w)) + b * w * p ≡ (2 * (r * b) + b * p) * w
      fold r b p w = omega arith

  -- for an angle of at least 2 ^ -60
  module _ (least : b ≤ a * 2 ^ 60) where
    place_le : b * 2 ^ K ≤ 13 * (a * U)
    place_le = le_of_mul-le-mul_left (le_trans last_place (le_trans (add-le-add (mul-le-mul_left a small) (mul-le-mul_left (2 ^ 52) (le_trans least (mul-le-mul_left a (lit≤ {m = 2 ^ 60} {n = U} tt))))) (le_of_eq (sum a (2 ^ 52) U)))) (pow_pos 52)
      where
        sum : (a c u : ℕ) → a * (3 * (4 * c * u)) + c * (a * u) ≡ c * (13 * (a * u))
        sum a c u = omega arith

    over_product : R * b ≤ a * G + 7 * (a * U)
    over_product = half (R * b) (a * G) (b * 2 ^ K) (a * U) product_over place_le
      where
        half : (x y p z : ℕ) → 2 * x ≤ 2 * y + p → p ≤ 13 * z → x ≤ y + 7 * z
        half x y p z h k = omega arith

    under_product : a * G ≤ R * b + 7 * (a * U)
    under_product = half (R * b) (a * G) (b * 2 ^ K) (a * U) product_under place_le
      where
        half : (x y p z : ℕ) → 2 * y ≤ 2 * x + p → p ≤ 13 * z → y ≤ x + 7 * z
        half x y p z h k = omega arith

-- ---- the angle times the difference of two sums that are each within 2048 units of 2 ^ -64, and less than 2 apart
module _ (l m : ℕ) (e : ℤ) (D : ℕ) (small_enough : l * 3 * W < 2 ^ 1080) (most : m * up e ≤ l * down e) (least : down e ≤ m * up e * 2 ^ 60) where
  abbrev a : ℕ
  a = m * up e

  abbrev b : ℕ
  b = down e

  d_lt : (p n : ℕ) → p < n + (2 ^ 65 - 2 ^ 11) → p / 2 ^ 10 - n / 2 ^ 10 < 2 ^ 55
  d_lt p n h = omega arith

  rounded_sums : (p n plus minus E E' : ℕ) → Between p plus (a * D) E → Between n minus (a * D) E' → E ≤ 2048 → E' ≤ 2048 → p < n + (2 ^ 65 - 2 ^ 11) → n / 2 ^ 10 ≤ p / 2 ^ 10 → Rounded (p / 2 ^ 10) (n / 2 ^ 10) plus minus (a * D) 2
  rounded_sums p n plus minus E E' bp bn i i' c h = rounded p n plus minus (a * D) E E' 2 2 bp bn i i' h (d_lt p n c) (lit≤ tt) refl

  ordered_product : (p n plus minus E E' : ℕ) → Between p plus (a * D) E → Between n minus (a * D) E' → E ≤ 2048 → E' ≤ 2048 → p < n + (2 ^ 65 - 2 ^ 11) → n / 2 ^ 10 ≤ p / 2 ^ 10
      → Within (mul binary64 (fin false m e) (difference (p / 2 ^ 10) (n / 2 ^ 10))) plus minus (b * D) a (b * 2 ^ 50)
  ordered_product p n plus minus E E' bp bn i i' c h =
      let r = rounded_sums p n plus minus E E' bp bn i i' c h in
      let G = r.G in
      let small : G ≤ 3 * W = le_trans r.most (le_trans (mul-le-mul_right U (sum (p / 2 ^ 10 - n / 2 ^ 10) (d_lt p n c))) (le_of_eq (mul_assoc 3 (2 ^ 54) U))) in
      let v = difference (p / 2 ^ 10) (n / 2 ^ 10) in
      let R = grid binary64 (a * G) (b * W) in
      within_of (mul binary64 (fin false m e) v) R W plus minus (b * D) a (b * 2 ^ 50) (pow_pos 1074)
      (subst (λ (y : Float). HasValue y false R W) (sym (mul_plus m e v G r.value)) (round_val binary64 (a * G) (b * W) (R-under l a b G small_enough (down_pos e) most small)))
      (around_sin a b G plus minus D R W r.near
      (mul-le-mul_right W (over_product l a b G small_enough (down_pos e) most small least))
      (le_trans (mul-le-mul_right W (under_product l a b G small_enough (down_pos e) most small least)) (le_of_eq (add-mul (R * b) (7 * (a * U)) W))))
    where
      sum : (d : ℕ) → d < 2 ^ 55 → d + 2 ≤ 3 * 2 ^ 54
      sum d l = omega arith

  pub product_within : (p n plus minus E E' : ℕ) → Between p plus (a * D) E → Between n minus (a * D) E' → E ≤ 2048 → E' ≤ 2048 → p < n + (2 ^ 65 - 2 ^ 11) → n < p + (2 ^ 65 - 2 ^ 11)
      → Within (mul binary64 (fin false m e) (difference (p / 2 ^ 10) (n / 2 ^ 10))) plus minus (b * D) a (b * 2 ^ 50)
  product_within p n plus minus E E' bp bn i i' c c' = go (dec_le (n / 2 ^ 10) (p / 2 ^ 10))
    where
      go : Dec (n / 2 ^ 10 ≤ p / 2 ^ 10) → Within (mul binary64 (fin false m e) (difference (p / 2 ^ 10) (n / 2 ^ 10))) plus minus (b * D) a (b * 2 ^ 50)
      go (yes h) = ordered_product p n plus minus E E' bp bn i i' c h
      go (no k) =
          let h = lt_of_not-le k in
          let r = rounded_sums n p minus plus E' E bn bp i' i c' (le_of_lt h) in
          let v = difference (n / 2 ^ 10) (p / 2 ^ 10) in
          subst (λ (y : Float). Within y plus minus (b * D) a (b * 2 ^ 50)) (sym (ap (mul binary64 (fin false m e)) (difference_neg (p / 2 ^ 10) (n / 2 ^ 10) h) ∙ mul_neg m e v r.G r.value))
          (within_neg (mul binary64 (fin false m e) v) minus plus (b * D) a (b * 2 ^ 50) (ordered_product n p minus plus E' E bn bp i' i c' (le_of_lt h)))

-- ---- an angle times 1, where the exact sums are those of 1 and 0
module _ (a b D plus minus E E' : ℕ) (bp : Between (2 ^ 64) plus (a * D) E) (bn : Between 0 minus (a * D) E') (i : E ≤ 2048) (i' : E' ≤ 2048) where
  pub same_within : (v : Float) → 0 < b → HasValue v false a b → Within v plus minus (b * D) a (b * 2 ^ 50)
  same_within v B h =
      within_of v a b plus minus (b * D) a (b * 2 ^ 50) B h
      (around_sin a b W plus minus D a b (near U W SU (2 ^ 64) 0 plus minus (a * D) E E' 2 W bp bn i i' zero-le (lit≤ tt) (lit≤ tt))
      (le_trans (le_of_eq (mul_right_comm a b W)) (mul-le-mul_right b (le-add_right (a * W) (7 * (a * U)))))
      (le_trans (le_of_eq (mul_right_comm a W b)) (le-add_right (a * b * W) (7 * (a * U) * b))))
