-- Two floats of one value are one float. So a rounding that changes nothing gives back what it was handed, a power of two goes through, and a minus sign.
use Rattle.std.proofs.Common.{◌≡◌, ℕ, zero, suc, ◌+◌, ◌-◌, ◌*◌, ◌/◌, ◌%◌, ◌^◌, ◌<◌, ◌≤◌, Bool, true, false, cond, ◌&&◌, T, eqb, ltb, leb, ◌⊎◌, ℤ, pos, negsuc, sym, refl, ap, ◌∙◌, subst, inl, inr, true≢false, le_trans, le_of_eq, lt_of_lt_of_le, le_of_suc-le-suc, lt_of_le_of_lt, add-zero, add_assoc, lt_irrefl, mul-le-mul_right, mod-lt, zero-lt-suc, mul_assoc, mul_comm, eq-zero-or-pos, mul-le-mul, eq-or-lt_of_le, mul-lt-mul_of_pos_right, mul-pos, one-mul, pow-suc, lt_of_not-le, div-add-mod', zero-mul, mul-one, mul_right_comm, le_of_mul-le-mul_right, mul-div_cancel, mul_left_comm, arith, lit<, lit≤, eqb→eq, ltb→lt, leb→le, pow_pos, pow_mono, pow-add, shl_lt}
use Prim.Native.Nat.{compare, Ordering}
use native.Mathlib.Nat.{eq_of_mul-eq-mul_right, pow-succ', div-div-eq-div-mul, suc_inj, sub-add_cancel}
use lib.Pow.{pow-lt}
use lib.Ieee.{Float, nan, inf, fin, Format, binary64, prec, emax, low, up, down, size, nearest, odd, units, round, neg, mul, fits, of_bits, of_int}
use lib.Ieee.Digits.{size-le}
use lib.Ieee.Fits.{and_l, and_r, up_pos, down_pos, round-fits, round_is, nearest-le, kept-lt}
use lib.Ieee.Exact.{HasValue, round_exact}
use lib.Ieee.Nearest.{closest}
use lib.Ieee.Order.{drop, kept}
use lib.Ieee.Scale.{round_same, grid, overflow, round_val, grid_scale, normal_of_fraction}
use Rattle.drifters_real.proofs.Real.Compare.{Compared, compared}

-- ---- a value is written in one way
even_odd : (m t : ℕ) → m % 2 ≡ 1 → m ≡ 2 * t → ⊥
even_odd m t o h = omega arith

odd_pow : (m n a b : ℕ) → m % 2 ≡ 1 → n % 2 ≡ 1 → m * 2 ^ a ≡ n * 2 ^ b → (m ≡ n) × (a ≡ b)
odd_pow m n zero zero o p h = (sym (mul-one m) ∙ h ∙ mul-one n, refl)
odd_pow m n zero (suc b) o p h = absurd (even_odd m (n * 2 ^ b) o (sym (mul-one m) ∙ h ∙ ap (λ (x : ℕ). n * x) (pow-succ' 2 b) ∙ mul_left_comm n 2 (2 ^ b)))
odd_pow m n (suc a) zero o p h = absurd (even_odd n (m * 2 ^ a) p (sym (mul-one n) ∙ sym h ∙ ap (λ (x : ℕ). m * x) (pow-succ' 2 a) ∙ mul_left_comm m 2 (2 ^ a)))
odd_pow m n (suc a) (suc b) o p h =
    let r = odd_pow m n a b o p (eq_of_mul-eq-mul_right 2 (zero-lt-suc 1) (m * 2 ^ a) (n * 2 ^ b)
    (mul_assoc m (2 ^ a) 2 ∙ ap (λ (x : ℕ). m * x) (sym (pow-suc 2 a)) ∙ h ∙ ap (λ (x : ℕ). n * x) (pow-suc 2 b) ∙ sym (mul_assoc n (2 ^ b) 2))) in
    (r.0, ap suc r.1)

-- the exponents' powers, both as powers of two
same_exp : (m n : ℕ) (e d : ℤ) → m % 2 ≡ 1 → n % 2 ≡ 1 → m * up e * down d ≡ n * up d * down e → (m ≡ n) × (e ≡ d)
same_exp m n (pos a) (pos b) o p h =
    let r = odd_pow m n a b o p (sym (mul-one (m * 2 ^ a)) ∙ h ∙ mul-one (n * 2 ^ b)) in
    (r.0, ap pos r.1)
same_exp m n (pos a) (negsuc b) o p h =
    let r = odd_pow m n (a + suc b) 0 o p (ap (λ (x : ℕ). m * x) (pow-add 2 a (suc b)) ∙ sym (mul_assoc m (2 ^ a) (2 ^ suc b)) ∙ h ∙ mul-one (n * 1)) in
    absurd (no a b r.1)
  where
    no : (a b : ℕ) → a + suc b ≡ 0 → ⊥
    no a b e = omega arith
same_exp m n (negsuc a) (pos b) o p h =
    let r = odd_pow m n 0 (b + suc a) o p (sym (mul-one (m * 1)) ∙ h ∙ mul_assoc n (2 ^ b) (2 ^ suc a) ∙ ap (λ (x : ℕ). n * x) (sym (pow-add 2 b (suc a)))) in
    absurd (no b a r.1)
  where
    no : (b a : ℕ) → 0 ≡ b + suc a → ⊥
    no b a e = omega arith
same_exp m n (negsuc a) (negsuc b) o p h =
    let r = odd_pow m n (suc b) (suc a) o p (ap (λ (x : ℕ). x * 2 ^ suc b) (sym (mul-one m)) ∙ h ∙ ap (λ (x : ℕ). x * 2 ^ suc a) (mul-one n)) in
    (r.0, ap negsuc (suc_inj (sym r.1)))

is_odd : (f : Format) (s : Bool) (m : ℕ) (e : ℤ) → T (fits f (fin s (suc m) e)) → suc m % 2 ≡ 1
unfolding fits
is_odd f s m e t =
    eqb→eq (suc m % 2) 1 (and_l (eqb (suc m % 2) 1) (ltb (suc m) (2 ^ prec f)) (and_l (eqb (suc m % 2) 1 && ltb (suc m) (2 ^ prec f)) (leb (down e) (2 ^ low f))
    (and_l (eqb (suc m % 2) 1 && ltb (suc m) (2 ^ prec f) && leb (down e) (2 ^ low f)) (ltb (suc m * up e) (2 ^ suc (emax f) * down e)) t)))

two_up : (p : ℕ) → 0 < p → 2 * p ≡ 1 → ⊥
two_up p h e = omega arith

exponent_zero : (e : ℤ) → up e * down e ≡ 1 → e ≡ pos 0
exponent_zero (pos zero) h = refl
exponent_zero (pos (suc k)) h = absurd (two_up (2 ^ k) (pow_pos k) (sym (pow-succ' 2 k) ∙ sym (mul-one (2 ^ suc k)) ∙ h))
exponent_zero (negsuc k) h = absurd (two_up (2 ^ k) (pow_pos k) (sym (pow-succ' 2 k) ∙ sym (one-mul (2 ^ suc k)) ∙ h))

pub zero_exp : (f : Format) (s : Bool) (e : ℤ) → T (fits f (fin s zero e)) → e ≡ pos 0
unfolding fits
zero_exp f s e t = exponent_zero e (eqb→eq (up e * down e) 1 t)

-- ---- what `fits` says of a finite number
pub record Fit (m : ℕ) (e : ℤ) : Type 0 where
  pub digits : m < 2 ^ 53
  pub least : down e ≤ 2 ^ 1074
  pub most : m * up e < 2 ^ 1024 * down e

pub fit_of : (s : Bool) (m : ℕ) (e : ℤ) → T (fits binary64 (fin s m e)) → Fit m e
unfolding fits
fit_of s zero e t =
    subst (λ (x : ℤ). Fit 0 x) (sym (zero_exp binary64 s e t)) (record { digits = lit< tt; least = lit≤ tt; most = lit< tt })
fit_of s (suc m) e t =
    let A = eqb (suc m % 2) 1 in
    let B = ltb (suc m) (2 ^ 53) in
    let C = leb (down e) (2 ^ 1074) in
    let E = ltb (suc m * up e) (2 ^ 1024 * down e) in
    record {
      digits = ltb→lt (suc m) (2 ^ 53) (and_r A B (and_l (A && B) C (and_l (A && B && C) E t)));
      least = leb→le (down e) (2 ^ 1074) (and_r (A && B) C (and_l (A && B && C) E t));
      most = ltb→lt (suc m * up e) (2 ^ 1024 * down e) (and_r (A && B && C) E t);
    }

-- 2 ^ e times a power of two that makes it whole
pub pow_le_back : (a l : ℕ) → 2 ^ a ≤ 2 ^ l → a ≤ l
pow_le_back a l h = le_of_suc-le-suc (lt_of_not-le (λ (g : suc l ≤ a). lt_irrefl (2 ^ l) (lt_of_lt_of_le (pow-lt g) h)))

pub shift : (c : ℕ) (e : ℤ) → 1074 ≤ c → down e ≤ 2 ^ 1074 → (j : ℕ) × (up e * 2 ^ c ≡ 2 ^ j * down e)
shift c (pos a) g h = (a + c, sym (pow-add 2 a c) ∙ sym (mul-one (2 ^ (a + c))))
shift c (negsuc a) g h =
    let l : suc a ≤ c = le_trans (pow_le_back (suc a) 1074 h) g in
    (c - suc a, one-mul (2 ^ c) ∙ ap (λ (x : ℕ). 2 ^ x) (sym (sub-add_cancel l)) ∙ pow-add 2 (c - suc a) (suc a))

pos_not_zero : (x : ℕ) → 0 < x → 0 ≡ x → ⊥
pos_not_zero x h e = omega arith

-- from two values of one fraction: the cross products are equal
crossed : (m n a c : ℕ) (e d : ℤ) → 0 < c → m * up e * c ≡ a * down e → n * up d * c ≡ a * down d → m * up e * down d ≡ n * up d * down e
crossed m n a c e d C v w =
    eq_of_mul-eq-mul_right c C (m * up e * down d) (n * up d * down e)
    (mul_right_comm (m * up e) (down d) c ∙ ap (λ (x : ℕ). x * down d) v ∙ mul_right_comm a (down e) (down d) ∙ ap (λ (x : ℕ). x * down e) (sym w) ∙ mul_right_comm (n * up d) c (down e))

pub value_unique : (f : Format) (x y : Float) (s : Bool) (a c : ℕ) → 0 < c → T (fits f x) → T (fits f y) → HasValue x s a c → HasValue y s a c → x ≡ y
value_unique f nan y s a c C p q v w = absurd v
value_unique f (inf t) y s a c C p q v w = absurd v
value_unique f (fin t m e) nan s a c C p q v w = absurd w
value_unique f (fin t m e) (inf u) s a c C p q v w = absurd w
value_unique f (fin t zero e) (fin u zero d) s a c C p q v w = λ i. fin ((v.0 ∙ sym w.0) i) zero ((zero_exp f t e p ∙ sym (zero_exp f u d q)) i)
value_unique f (fin t zero e) (fin u (suc n) d) s a c C p q v w =
    absurd (pos_not_zero (suc n * up d * down e) (mul-pos (mul-pos (zero-lt-suc n) (up_pos d)) (down_pos e)) (sym (ap (λ (x : ℕ). x * down d) (zero-mul (up e)) ∙ zero-mul (down d)) ∙ crossed 0 (suc n) a c e d C v.1 w.1))
value_unique f (fin t (suc m) e) (fin u zero d) s a c C p q v w =
    absurd (pos_not_zero (suc m * up e * down d) (mul-pos (mul-pos (zero-lt-suc m) (up_pos e)) (down_pos d)) (sym (ap (λ (x : ℕ). x * down e) (zero-mul (up d)) ∙ zero-mul (down e)) ∙ sym (crossed (suc m) 0 a c e d C v.1 w.1)))
value_unique f (fin t (suc m) e) (fin u (suc n) d) s a c C p q v w =
    let r = same_exp (suc m) (suc n) e d (is_odd f t m e p) (is_odd f u n d q) (crossed (suc m) (suc n) a c e d C v.1 w.1) in
    λ i. fin ((v.0 ∙ sym w.0) i) (r.0 i) (r.1 i)

-- ---- what `round` keeps has at most `prec` digits, or is the next power of two
pub kept_le : (f : Format) (n c : ℕ) → kept (prec f) n c ≤ 2 ^ prec f
kept_le f n c =
    let k = drop (prec f) n c in
    let u = c * 2 ^ k in
    le_trans (nearest-le (n / u) (compare (n % u * 2) u)) (subst (λ (x : ℕ). x < 2 ^ prec f) (div-div-eq-div-mul n c (2 ^ k)) (kept-lt (prec f) (n / c)))

-- a number q * 2 ^ j of the smallest values, with a q of at most 53 digits, is what it is rounded to
again : (s : Bool) (q j : ℕ) → q ≤ 2 ^ 53 → q * 2 ^ j < overflow binary64 → HasValue (round binary64 s (q * 2 ^ j) (2 ^ 1074)) s (q * 2 ^ j) (2 ^ 1074)
again s q j h o = elim (eq-or-lt_of_le h) [
  | inl e ↦
      subst (λ (n : ℕ). HasValue (round binary64 s n (2 ^ 1074)) s n (2 ^ 1074)) (sym (whole e))
      (round_exact binary64 s (1 * 2 ^ (53 + j)) (2 ^ 1074) 1 (53 + j) (pow_pos 1074) (lit< tt) (subst (λ (n : ℕ). n < overflow binary64) (whole e) o) refl)
  | inr l ↦ round_exact binary64 s (q * 2 ^ j) (2 ^ 1074) q j (pow_pos 1074) l o refl
]
  where
    whole : q ≡ 2 ^ 53 → q * 2 ^ j ≡ 1 * 2 ^ (53 + j)
    whole e = ap (λ (x : ℕ). x * 2 ^ j) e ∙ sym (pow-add 2 53 j) ∙ sym (one-mul (2 ^ (53 + j)))

pub round_again : (a c : ℕ) → grid binary64 a c < overflow binary64 → round binary64 false (grid binary64 a c) (2 ^ 1074) ≡ round binary64 false a c
round_again a c o =
    let q = kept 53 (a * 2 ^ 1074) c in
    let j = drop 53 (a * 2 ^ 1074) c in
    value_unique binary64 (round binary64 false (q * 2 ^ j) (2 ^ 1074)) (round binary64 false a c) false (q * 2 ^ j) (2 ^ 1074) (pow_pos 1074)
    (round-fits binary64 false (q * 2 ^ j) (2 ^ 1074)) (round-fits binary64 false a c) (again false q j (kept_le binary64 (a * 2 ^ 1074) c) o) (round_val binary64 a c o)

-- ---- a minus sign goes through
neg_odd : (d q k l : ℕ) → neg (odd d false q k l) ≡ odd d true q k l
unfolding odd neg
neg_odd d zero k l = refl
neg_odd d (suc q) k l = refl

neg_units : (f : Format) (q k : ℕ) → neg (units f false q k) ≡ units f true q k
unfolding units neg
neg_units f q k = go (ltb (q * 2 ^ k) (2 ^ (low f + suc (emax f))))
  where
    go : (b : Bool) → neg (cond b (odd (suc (prec f)) false q k (low f)) (inf false)) ≡ cond b (odd (suc (prec f)) true q k (low f)) (inf true)
    go true = neg_odd (suc (prec f)) q k (low f)
    go false = refl

pub neg_round : (f : Format) (a c : ℕ) → neg (round f false a c) ≡ round f true a c
neg_round f a c = ap neg (round_is f false a c) ∙ neg_units f (kept (prec f) (a * 2 ^ low f) c) (drop (prec f) (a * 2 ^ low f) c) ∙ sym (round_is f true a c)

-- ---- how near `closest` is
-- g * b is within half of b of a
abbrev pub WithinHalf : ℕ → ℕ → ℕ → Type 0
WithinHalf g a b = (2 * (g * b) ≤ 2 * a + b) × (2 * a ≤ 2 * (g * b) + b)

half_of : (q r a b : ℕ) (o : Ordering) → q * b + r ≡ a → r < b → Compared o (r * 2) b → WithinHalf (nearest q o) a b
half_of q r a b Ordering.lt e h c = (omega arith, omega arith)
half_of q r a b Ordering.gt e h c = (omega arith, omega arith)
half_of q r a b Ordering.eq e h c = go (q % 2) (two q)
  where
    two : (q : ℕ) → q % 2 ≤ 1
    two q = omega arith

    go : (p : ℕ) → p ≤ 1 → WithinHalf (q + p) a b
    go zero l = subst (λ (x : ℕ). WithinHalf x a b) (sym (add-zero q)) (omega arith, omega arith)
    go (suc zero) l = (omega arith, omega arith)
    go (suc (suc p)) l = absurd (no p l)
      where
        no : (p : ℕ) → suc (suc p) ≤ 1 → ⊥
        no p l = omega arith

pub closest_near : (a b : ℕ) → 0 < b → WithinHalf (closest a b) a b
closest_near a b B = half_of (a / b) (a % b) a b (compare (a % b * 2) b) (div-add-mod' a b) (mod-lt a B) (compared (a % b * 2) b)

-- the rounded number, in smallest values, against the fraction a / c
pub grid_near : (a c : ℕ) → 0 < c → (2 * (grid binary64 a c * c) ≤ 2 * (a * 2 ^ 1074) + c * 2 ^ drop 53 (a * 2 ^ 1074) c) × (2 * (a * 2 ^ 1074) ≤ 2 * (grid binary64 a c * c) + c * 2 ^ drop 53 (a * 2 ^ 1074) c)
grid_near a c C =
    let n = a * 2 ^ 1074 in
    let k = drop 53 n c in
    let g = kept 53 n c in
    let h = closest_near n (c * 2 ^ k) (mul-pos C (pow_pos k)) in
    let e : g * (c * 2 ^ k) ≡ g * 2 ^ k * c = sort g c (2 ^ k) in
    (subst (λ (x : ℕ). 2 * x ≤ 2 * n + c * 2 ^ k) e h.0, subst (λ (x : ℕ). 2 * n ≤ 2 * x + c * 2 ^ k) e h.1)
  where
    sort : (g c p : ℕ) → g * (c * p) ≡ g * p * c
    sort g c p = simp (mul_assoc, mul_comm)

-- ---- a whole number d over 2 ^ 54
pub sub_le_of_le : (z p l : ℕ) → z ≤ p + l → z - p ≤ l
sub_le_of_le z p l h = omega arith

over_54 : (d : ℕ) → d * 2 ^ 1074 ≡ d * 2 ^ 1020 * 2 ^ 54
over_54 d = sym (mul_assoc d (2 ^ 1020) (2 ^ 54))

drop_le : (d t : ℕ) → d < 2 ^ (53 + t) → drop 53 (d * 2 ^ 1074) (2 ^ 54) ≤ t + 1020
drop_le d t h = sub_le_of_le (size (d * 2 ^ 1074 / 2 ^ 54)) 53 (t + 1020)
    (size-le (d * 2 ^ 1074 / 2 ^ 54) (53 + (t + 1020))
    (subst (λ (x : ℕ). x < 2 ^ (53 + (t + 1020))) (sym (ap (λ (x : ℕ). x / 2 ^ 54) (over_54 d) ∙ mul-div_cancel (d * 2 ^ 1020) (pow_pos 54)))
    (subst (λ (x : ℕ). d * 2 ^ 1020 < 2 ^ x) (add_assoc 53 t 1020) (shl_lt (53 + t) 1020 h))))

-- of a d below 2 ^ (53 + t) the rounding moves at most 2 ^ t / 2, in units of 2 ^ 1020 smallest values
pub near_54 : (d t : ℕ) → d < 2 ^ (53 + t) → (2 * grid binary64 d (2 ^ 54) ≤ 2 * (d * 2 ^ 1020) + 2 ^ (t + 1020)) × (2 * (d * 2 ^ 1020) ≤ 2 * grid binary64 d (2 ^ 54) + 2 ^ (t + 1020))
near_54 d t h =
    let k = drop 53 (d * 2 ^ 1074) (2 ^ 54) in
    let g = grid_near d (2 ^ 54) (pow_pos 54) in
    let m : 2 ^ k ≤ 2 ^ (t + 1020) = pow_mono (drop_le d t h) in (
      le_of_mul-le-mul_right (le_trans (le_of_eq (mul_assoc 2 (grid binary64 d (2 ^ 54)) (2 ^ 54))) (le_trans g.0 (widen (d * 2 ^ 1074) (d * 2 ^ 1020) (2 ^ 54) (2 ^ k) (2 ^ (t + 1020)) (over_54 d) m))) (pow_pos 54),
      le_of_mul-le-mul_right (le_trans (le_of_eq (mul_assoc 2 (d * 2 ^ 1020) (2 ^ 54) ∙ ap (λ (x : ℕ). 2 * x) (sym (over_54 d)))) (le_trans g.1 (spread (grid binary64 d (2 ^ 54)) (2 ^ 54) (2 ^ k) (2 ^ (t + 1020)) m))) (pow_pos 54),
    )
  where
    widen : (n x c p q : ℕ) → n ≡ x * c → p ≤ q → 2 * n + c * p ≤ (2 * x + q) * c
    widen n x c p q e h = omega (arith, mul-le-mul_right c h)

    spread : (g c p q : ℕ) → p ≤ q → 2 * (g * c) + c * p ≤ (2 * g + q) * c
    spread g c p q h = omega (arith, mul-le-mul_right c h)

-- it stays far below an infinity
pub grid_54_lt : (d : ℕ) → d < 2 ^ 64 → grid binary64 d (2 ^ 54) < 2 ^ 1090
grid_54_lt d h =
    lt_of_le_of_lt (mul-le-mul (kept_le binary64 (d * 2 ^ 1074) (2 ^ 54)) (pow_mono (drop_le d 11 h))) (lit< tt)

-- ---- d as a float, times 2 ^ -54
one_over_54 : of_bits binary64 0x3c90_0000_0000_0000 ≡ fin false 1 (negsuc 53)
unfolding of_bits
one_over_54 = refl

times_54 : (v : Float) (G : ℕ) → HasValue v false (G * 2 ^ 54) (2 ^ 1074) → mul binary64 v (fin false 1 (negsuc 53)) ≡ round binary64 false G (2 ^ 1074)
unfolding mul
times_54 nan G h = absurd h
times_54 (inf s) G h = absurd h
times_54 (fin true m e) G h = absurd (true≢false h.0)
times_54 (fin false m e) G h =
    round_same binary64 false (m * up e * (1 * 1)) (down e * 2 ^ 54) G (2 ^ 1074) (mul-pos (down_pos e) (pow_pos 54)) (pow_pos 1074)
    (ap (λ (x : ℕ). x * 2 ^ 1074) (mul-one (m * up e)) ∙ h.1 ∙ sort G (2 ^ 54) (down e))
  where
    sort : (G c d : ℕ) → G * c * d ≡ G * (d * c)
    sort G c d = simp (mul_assoc, mul_comm)

pub scaled : (d : ℕ) → 0 < d → d < 2 ^ 64 → mul binary64 (round binary64 false d 1) (fin false 1 (negsuc 53)) ≡ round binary64 false d (2 ^ 54)
scaled d P h =
    let G = grid binary64 d (2 ^ 54) in
    let small : G < 2 ^ 1090 = grid_54_lt d h in
    let e : grid binary64 (d * 2 ^ 54) (2 ^ 54) ≡ G * 2 ^ 54 =
    grid_scale binary64 d (2 ^ 54) 54 (pow_pos 54) (normal_of_fraction binary64 d (2 ^ 54) (pow_pos 54) (le_trans (lit≤ {m = 2 ^ 52 * 2 ^ 54} {n = 1 * 2 ^ 1074} tt) (mul-le-mul_right (2 ^ 1074) P))) in
    let o : grid binary64 (d * 2 ^ 54) (2 ^ 54) < overflow binary64 = subst (λ (x : ℕ). x < overflow binary64) (sym e) (lt_of_lt_of_le (mul-lt-mul_of_pos_right small (pow_pos 54)) (lit≤ tt)) in
    times_54 (round binary64 false d 1) G
    (subst (λ (v : Float). HasValue v false (G * 2 ^ 54) (2 ^ 1074)) (sym (round_same binary64 false d 1 (d * 2 ^ 54) (2 ^ 54) (zero-lt-suc 0) (pow_pos 54) (sym (mul-one (d * 2 ^ 54)))))
    (subst (λ (x : ℕ). HasValue (round binary64 false (d * 2 ^ 54) (2 ^ 54)) false x (2 ^ 1074)) e (round_val binary64 (d * 2 ^ 54) (2 ^ 54) o)))
    ∙ round_again d (2 ^ 54) (lt_of_lt_of_le small (lit≤ tt))

scaled_zero : mul binary64 (round binary64 false 0 1) (fin false 1 (negsuc 53)) ≡ round binary64 false 0 (2 ^ 54)
unfolding mul round
scaled_zero = refl

-- as the program has it
pub float_54 : (d : ℕ) → d < 2 ^ 64 → mul binary64 (of_int binary64 (pos d)) (of_bits binary64 0x3c90_0000_0000_0000) ≡ round binary64 false d (2 ^ 54)
unfolding of_int
float_54 d h = ap (mul binary64 (round binary64 false d 1)) one_over_54 ∙ go (eq-zero-or-pos d)
  where
    go : (d ≡ 0) ⊎ (0 < d) → mul binary64 (round binary64 false d 1) (fin false 1 (negsuc 53)) ≡ round binary64 false d (2 ^ 54)
    go (inl e) = subst (λ (x : ℕ). mul binary64 (round binary64 false x 1) (fin false 1 (negsuc 53)) ≡ round binary64 false x (2 ^ 54)) (sym e) scaled_zero
    go (inr p) = scaled d p h
