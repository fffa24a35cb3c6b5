-- A sum that starts at +0.0 is never -0.0, so a term that is a zero changes no such sum. Assumes nothing.
use Rattle.std.proofs.Common.{◌≡◌, ℕ, zero, suc, ◌+◌, ◌-◌, ◌*◌, ◌/◌, ◌^◌, ◌<◌, ◌≤◌, Bool, true, false, cond, ◌&&◌, ◌||◌, T, eqb, ltb, ℤ, pos, negsuc, sym, refl, ap, ◌∙◌, subst, true≢false, le_trans, le_refl, add-zero, lt_irrefl, mul-le-mul_right, zero-lt-suc, mul_assoc, mul_comm, add-mul, lt_of_mul-lt-mul_right, mul-lt-mul_of_pos_right, mul-pos, one-mul, zero-mul, mul_right_comm, mul_left_comm, arith, ltb→lt, pow_pos, pow-add}
use mathlib.Core.Bool.{beq}
use native.Mathlib.Nat.{sub-zero}
use borrow.Author.Tests.{lt-ltb}
use lib.Count.{count_trailing_zeros}
use lib.Dec.{eqb-suc-zero, leb-suc-zero}
use lib.Ieee.{Float, nan, inf, fin, Format, binary64, up, down, minus, unlike, below, level, round, sum, neg, add, mul, lt, eq, le, fits, of_bits, odd, units}
use lib.Ieee.Fits.{add-fits, up_pos, down_pos, round-fits, round_is}
use lib.Ieee.Exact.{round_exact}
use lib.Ieee.Order.{round_mono}
use lib.Ieee.Scale.{round_same}
use Rattle.drifters_real.specs.Scalar.{◌⊕◌, ◌⊗◌, plus_zero}
use Rattle.drifters_real.specs.Real.{is_finite}
use Rattle.drifters_real.proofs.Real.Rounding.{fit_of, shift, zero_exp, value_unique, neg_round}

-- ---- the operations of two finite numbers, one step open
pub add_fin : (f : Format) (s : Bool) (m : ℕ) (e : ℤ) (t : Bool) (n : ℕ) (d : ℤ) → add f (fin s m e) (fin t n d) ≡ sum f s (m * up e * down d) t (n * up d * down e) (down e * down d)
unfolding add
add_fin f s m e t n d = refl

pub mul_fin : (f : Format) (s : Bool) (m : ℕ) (e : ℤ) (t : Bool) (n : ℕ) (d : ℤ) → mul f (fin s m e) (fin t n d) ≡ round f (unlike s t) (m * up e * (n * up d)) (down e * down d)
unfolding mul
mul_fin f s m e t n d = refl

pub down_down : (e d : ℤ) → 0 < down e * down d
down_down e d = mul-pos (down_pos e) (down_pos d)

-- ---- rounding a number of the format gives it back
below_most : (m j D : ℕ) (u : ℕ) → 0 < D → u * 2 ^ 1074 ≡ 2 ^ j * D → m * u < 2 ^ 1024 * D → m * 2 ^ j < 2 ^ 2098
below_most m j D u p h l =
    lt_of_mul-lt-mul_right D
    (subst (λ (x : ℕ). x < 2 ^ 2098 * D) (mul_assoc m u (2 ^ 1074) ∙ ap (λ (x : ℕ). m * x) h ∙ sym (mul_assoc m (2 ^ j) D))
    (subst (λ (x : ℕ). m * u * 2 ^ 1074 < x) (mul_right_comm (2 ^ 1024) D (2 ^ 1074) ∙ ap (λ (x : ℕ). x * D) (sym (pow-add 2 1024 1074)))
    (mul-lt-mul_of_pos_right l (pow_pos 1074))))

pub round_self : (s : Bool) (m : ℕ) (e : ℤ) → T (fits binary64 (fin s m e)) → round binary64 s (m * up e) (down e) ≡ fin s m e
round_self s m e t =
    let F = fit_of s m e t in
    let J = shift 1074 e (le_refl 1074) F.least in
    value_unique binary64 (round binary64 s (m * up e) (down e)) (fin s m e) s (m * up e) (down e) (down_pos e) (round-fits binary64 s (m * up e) (down e)) t
    (round_exact binary64 s (m * up e) (down e) m J.0 (down_pos e) F.digits (below_most m J.0 (down e) (up e) (down_pos e) J.1 F.most)
    (mul_assoc m (up e) (2 ^ 1074) ∙ ap (λ (x : ℕ). m * x) J.1 ∙ sym (mul_assoc m (2 ^ J.0) (down e))))
    (refl, refl)

-- a fraction of no size rounds to a zero of the sign
pub round_none : (s : Bool) (c : ℕ) → 0 < c → round binary64 s 0 c ≡ fin s 0 (pos 0)
round_none s c p = round_same binary64 s 0 c 0 1 p (zero-lt-suc 0) (simp zero-mul) ∙ at_one s
  where
    at_one : (s : Bool) → round binary64 s 0 1 ≡ fin s 0 (pos 0)
    at_one true = unfold round in refl
    at_one false = unfold round in refl

-- ---- -0.0
abbrev pub minus_zero : Float → Bool
minus_zero nan = false
minus_zero (inf s) = false
minus_zero (fin s zero e) = s
minus_zero (fin s (suc m) e) = false

-- what a sum that starts at +0.0 is: a number of the format that is not -0.0
pub record Summed (x : Float) : Type 0 where
  pub fitting : T (fits binary64 x)
  pub plain : minus_zero x ≡ false

pub summed_zero : Summed plus_zero
unfolding of_bits fits
summed_zero = record { fitting = tt; plain = refl }

-- ---- a zero that is added
-- to +0.0
zero_zero : (t : Bool) (d : ℤ) → add binary64 (fin false 0 (pos 0)) (fin t 0 d) ≡ fin false 0 (pos 0)
zero_zero true d = rw (add_fin, zero-mul, zero-mul, zero-mul) (unfold sum in round_none false (1 * down d) (mul-pos (zero-lt-suc 0) (down_pos d)))
zero_zero false d = rw (add_fin, zero-mul, zero-mul, zero-mul) (unfold sum in round_none false (1 * down d) (mul-pos (zero-lt-suc 0) (down_pos d)))

-- to a number that is no zero: the sum's size is its own, and its sign decides
sum_none : (s t : Bool) (a c : ℕ) → ltb 0 a ≡ true → sum binary64 s a t 0 c ≡ round binary64 s a c
unfolding sum
sum_none true true a c h = rw add-zero refl
sum_none true false a c h = rw (leb-suc-zero, h, sub-zero) refl
sum_none false true a c h = rw (leb-suc-zero, sub-zero) refl
sum_none false false a c h = rw add-zero refl

pub add_no_size : {x : Float} → Summed x → (t : Bool) (d : ℤ) → x ⊕ fin t 0 d ≡ x
add_no_size {x = nan} h t d = unfold add in refl
add_no_size {x = inf s} h t d = unfold add in refl
add_no_size {x = fin s zero e} h t d =
    let z : fin s zero e ≡ fin false 0 (pos 0) = λ i. fin (h.plain i) 0 (zero_exp binary64 s e h.fitting i) in
    ap (λ x. x ⊕ fin t 0 d) z ∙ zero_zero t d ∙ sym z
add_no_size {x = fin s (suc m) e} h t d =
    rw (add_fin, zero-mul, zero-mul)
    (sum_none s t (suc m * up e * down d) (down e * down d) (lt-ltb 0 _ (mul-pos (mul-pos (zero-lt-suc m) (up_pos e)) (down_pos d)))
    ∙ round_same binary64 s (suc m * up e * down d) (down e * down d) (suc m * up e) (down e) (down_down e d) (down_pos e) (simp (mul_assoc, mul_comm, mul_left_comm))
    ∙ round_self s (suc m) e h.fitting)

-- ---- a product with a zero
pub plus_zero_is : plus_zero ≡ fin false 0 (pos 0)
unfolding of_bits
plus_zero_is = refl

-- what equals +0.0 is a zero
differs : (a b : ℕ) (t : Bool) → 0 < a → b ≡ 0 → (eqb a b && t) ≡ false
differs zero b t p h = absurd (lt_irrefl 0 p)
differs (suc a) b t p h = rw (h, eqb-suc-zero) refl

no_zero : (s : Bool) (m : ℕ) (e : ℤ) → eq (fin s (suc m) e) plus_zero ≡ true → ⊥
unfolding eq
no_zero s m e h =
    true≢false
    (sym h ∙ ap (λ z. eq (fin s (suc m) e) z) plus_zero_is ∙ differs (suc m * up e * 1) (0 * 1 * down e) _ (mul-pos (mul-pos (zero-lt-suc m) (up_pos e)) (zero-lt-suc 0)) (zero-mul (down e)))

-- a zero times a finite number is a zero
zero_times : (y z : Float) → eq y plus_zero ≡ true → is_finite z ≡ true → (t : Bool) × (y ⊗ z ≡ fin t 0 (pos 0))
zero_times nan z h f = absurd (true≢false (sym h ∙ unfold eq in refl))
zero_times (inf s) z h f = absurd (true≢false (sym h ∙ unfold eq of_bits in refl))
zero_times (fin s (suc m) e) z h f = absurd (no_zero s m e h)
zero_times (fin s zero e) nan h f = absurd (true≢false (sym f ∙ unfold is_finite in refl))
zero_times (fin s zero e) (inf t) h f = absurd (true≢false (sym f ∙ unfold is_finite in refl))
zero_times (fin s zero e) (fin t n d) h f = (unlike s t, rw (mul_fin, zero-mul, zero-mul) (round_none (unlike s t) (down e * down d) (down_down e d)))

-- a term with a zero on the left changes no sum
pub zero_left : {x : Float} (y z : Float) → Summed x → eq y plus_zero ≡ true → is_finite z ≡ true → x ⊕ y ⊗ z ≡ x
zero_left {x} y z h e f = let p = zero_times y z e f in ap (λ t. x ⊕ t) p.1 ∙ add_no_size h p.0 (pos 0)

-- ---- a product does not depend on the order of its factors
unlike_comm : (s t : Bool) → unlike s t ≡ unlike t s
unlike_comm true true = refl
unlike_comm true false = refl
unlike_comm false true = refl
unlike_comm false false = refl

pub mul_comm_float : (x y : Float) → x ⊗ y ≡ y ⊗ x
mul_comm_float nan nan = unfold mul in refl
mul_comm_float nan (inf t) = unfold mul in refl
mul_comm_float nan (fin t n d) = unfold mul in refl
mul_comm_float (inf s) nan = unfold mul in refl
mul_comm_float (inf s) (inf t) = unfold mul in ap inf (unlike_comm s t)
mul_comm_float (inf s) (fin t n d) = unfold mul in ap (λ u. cond (eqb n 0) nan (inf u)) (unlike_comm s t)
mul_comm_float (fin s m e) nan = unfold mul in refl
mul_comm_float (fin s m e) (inf t) = unfold mul in ap (λ u. cond (eqb m 0) nan (inf u)) (unlike_comm s t)
mul_comm_float (fin s m e) (fin t n d) =
    rw (mul_fin, mul_fin) (λ i. round binary64 (unlike_comm s t i) (mul_comm (m * up e) (n * up d) i) (mul_comm (down e) (down d) i))

-- nor does one with a zero on the right
pub zero_right : {x : Float} (y z : Float) → Summed x → is_finite y ≡ true → eq z plus_zero ≡ true → x ⊕ y ⊗ z ≡ x
zero_right {x} y z h f e = ap (λ t. x ⊕ t) (mul_comm_float y z) ∙ zero_left z y h e f

-- ---- the parts of a finite sum
pub finite_add : (x y : Float) → is_finite (x ⊕ y) ≡ true → (is_finite x ≡ true) × (is_finite y ≡ true)
finite_add nan y h = absurd (true≢false (sym h ∙ unfold add is_finite in refl))
finite_add (inf s) nan h = absurd (true≢false (sym h ∙ unfold add is_finite in refl))
finite_add (inf s) (inf t) h = absurd (true≢false (sym h ∙ unfold add is_finite in no (beq s t)))
  where
    no : (b : Bool) → is_finite (cond b (inf s) nan) ≡ false
    no true = unfold is_finite in refl
    no false = unfold is_finite in refl
finite_add (inf s) (fin t n d) h = absurd (true≢false (sym h ∙ unfold add is_finite in refl))
finite_add (fin s m e) nan h = absurd (true≢false (sym h ∙ unfold add is_finite in refl))
finite_add (fin s m e) (inf t) h = absurd (true≢false (sym h ∙ unfold add is_finite in refl))
finite_add (fin s m e) (fin t n d) h = unfold is_finite in (refl, refl)

-- ---- a sum that starts at +0.0 is never -0.0
-- a fraction that is no less than the smallest value rounds to no zero
not_below : (s : Bool) (a b : ℕ) → 0 < a → b ≡ 0 → T (below false a s b || level false a s b) → ⊥
not_below true a b p z h = subst T (differs a b _ p z) h
not_below false a b p z h = subst T (ap (λ t. t || level false a false b) (ap (ltb a) z ∙ leb-suc-zero a) ∙ differs a b _ p z) h

smallest_above : (z : Float) → T (le (fin false 1 (negsuc 1073)) z) → minus_zero (neg z) ≡ false
unfolding le lt eq neg
smallest_above nan h = refl
smallest_above (inf s) h = refl
smallest_above (fin s (suc m) e) h = refl
smallest_above (fin s zero e) h = absurd (not_below s (1 * up (negsuc 1073) * down e) (0 * up e * down (negsuc 1073)) (mul-pos (mul-pos (zero-lt-suc 0) (up_pos (negsuc 1073))) (down_pos e)) (ap (λ (x : ℕ). x * down (negsuc 1073)) (zero-mul (up e)) ∙ zero-mul (down (negsuc 1073))) h)

-- the sign of a rounded fraction is the one it is given
plain_fin : (n : ℕ) (e : ℤ) → minus_zero (fin false n e) ≡ false
plain_fin zero e = refl
plain_fin (suc n) e = refl

plain_odd : (d q k l : ℕ) → minus_zero (odd d false q k l) ≡ false
unfolding odd
plain_odd d zero k l = refl
plain_odd d (suc q) k l = let t = count_trailing_zeros d (suc q) in plain_fin (suc q / 2 ^ t) (minus (k + t) l)

plain_cond : (b : Bool) (x y : Float) → minus_zero x ≡ false → minus_zero y ≡ false → minus_zero (cond b x y) ≡ false
plain_cond true x y h k = h
plain_cond false x y h k = k

plain_units : (q k : ℕ) → minus_zero (units binary64 false q k) ≡ false
unfolding units
plain_units q k = plain_cond (ltb (q * 2 ^ k) (2 ^ 2098)) (odd 54 false q k 1074) (inf false) (plain_odd 54 q k 1074) refl

plain_plus : (a c : ℕ) → minus_zero (round binary64 false a c) ≡ false
plain_plus a c = ap minus_zero (round_is binary64 false a c) ∙ plain_units _ _

-- one unit of the smallest value, and a fraction of whole units that is above 0
plain_minus : (D c : ℕ) → 0 < c → c ≤ D * 2 ^ 1074 → minus_zero (round binary64 true D c) ≡ false
plain_minus D c p h =
    ap minus_zero (sym (neg_round binary64 D c))
    ∙ smallest_above (round binary64 false D c) (subst (λ (x : Float). T (le x (round binary64 false D c))) one_unit (round_mono binary64 1 (2 ^ 1074) D c (pow_pos 1074) p (subst (λ (x : ℕ). x ≤ D * 2 ^ 1074) (sym (one-mul c)) h)))
  where
    one_unit : round binary64 false 1 (2 ^ 1074) ≡ fin false 1 (negsuc 1073)
    one_unit = unfold round in refl

-- a number of the format is a whole number of units of the smallest value
unit_count : (s : Bool) (m : ℕ) (e : ℤ) (D : ℕ) → T (fits binary64 (fin s m e)) → (A : ℕ) × (m * up e * D * 2 ^ 1074 ≡ A * (down e * D))
unit_count s m e D t =
    let J = shift 1074 e (le_refl 1074) (fit_of s m e t).least in
    (m * 2 ^ J.0, mul_right_comm (m * up e) D (2 ^ 1074) ∙ ap (λ (x : ℕ). x * D) (mul_assoc m (up e) (2 ^ 1074) ∙ ap (λ (x : ℕ). m * x) J.1 ∙ sym (mul_assoc m (2 ^ J.0) (down e))) ∙ mul_assoc (m * 2 ^ J.0) (down e) D)

-- a difference of whole units that is above 0 is one unit or more
one_unit_more : (a b A B c u : ℕ) → a * u ≡ A * c → b * u ≡ B * c → a < b → 0 < u → c ≤ (b - a) * u
one_unit_more a b A B c u p q h k =
    let d = b - a in
    let w : b ≡ a + d = omega arith in
    let v : A * c + d * u ≡ B * c = ap (λ (x : ℕ). x + d * u) (sym p) ∙ sym (add-mul a d u) ∙ ap (λ (x : ℕ). x * u) (sym w) ∙ q in
    let l : A < B = lt_of_mul-lt-mul_right c (subst (λ (x : ℕ). x < B * c) p (subst (λ (x : ℕ). a * u < x) q (mul-lt-mul_of_pos_right h k))) in
    let m : (A + 1) * c ≤ B * c = mul-le-mul_right c (omega (arith, l)) in
    omega (arith, v, m)

-- by the signs of the two: a is the first one's size, no zero where it is negative, and b the second one's
by_signs : (s t : Bool) (a b c A B : ℕ) → 0 < c → a * 2 ^ 1074 ≡ A * c → b * 2 ^ 1074 ≡ B * c → (s ≡ true → 0 < a) → minus_zero (sum binary64 s a t b c) ≡ false
unfolding sum
by_signs false false a b c A B C p q h = plain_plus (a + b) c
by_signs false true a b c A B C p q h = larger (ltb a b) (ltb→lt a b)
  where
    larger : (l : Bool) → (T l → a < b) → minus_zero (cond l (round binary64 true (b - a) c) (round binary64 false (a - b) c)) ≡ false
    larger true f = plain_minus (b - a) c C (one_unit_more a b A B c (2 ^ 1074) p q (f tt) (pow_pos 1074))
    larger false f = plain_plus (a - b) c
by_signs true false a b c A B C p q h = larger (ltb a b) (ltb b a) (ltb→lt b a)
  where
    larger : (l g : Bool) → (T g → b < a) → minus_zero (cond l (round binary64 false (b - a) c) (round binary64 g (a - b) c)) ≡ false
    larger true g f = plain_plus (b - a) c
    larger false true f = plain_minus (a - b) c C (one_unit_more b a B A c (2 ^ 1074) q p (f tt) (pow_pos 1074))
    larger false false f = plain_plus (a - b) c
by_signs true true a b c A B C p q h =
    plain_minus (a + b) c C
    (le_trans (one_unit_more 0 a 0 A c (2 ^ 1074) (zero-mul (2 ^ 1074) ∙ sym (zero-mul c)) p (h refl) (pow_pos 1074)) (mul-le-mul_right (2 ^ 1074) (omega arith)))

pub summed_add : {x : Float} (y : Float) → Summed x → T (fits binary64 y) → Summed (x ⊕ y)
summed_add {x} y h k = record { fitting = add-fits binary64 x y; plain = go x y h k }
  where
    no_zero_size : (s : Bool) (m : ℕ) (e : ℤ) → minus_zero (fin s m e) ≡ false → s ≡ true → 0 < m
    no_zero_size s zero e h z = absurd (true≢false (sym z ∙ h))
    no_zero_size s (suc m) e h z = zero-lt-suc m

    signs : (s : Bool) (m : ℕ) (e : ℤ) (t : Bool) (n : ℕ) (d : ℤ) → Summed (fin s m e) → T (fits binary64 (fin t n d)) →
        minus_zero (sum binary64 s (m * up e * down d) t (n * up d * down e) (down e * down d)) ≡ false
    signs s m e t n d h k =
        let a = m * up e * down d in
        let b = n * up d * down e in
        let c = down e * down d in
        let A = unit_count s m e (down d) h.fitting in
        let B = unit_count t n d (down e) k in
        by_signs s t a b c A.0 B.0 (down_down e d) A.1 (B.1 ∙ ap (λ (x : ℕ). B.0 * x) (mul_comm (down d) (down e)))
        (λ z. mul-pos (mul-pos (no_zero_size s m e h.plain z) (up_pos e)) (down_pos d))

    go : (x y : Float) → Summed x → T (fits binary64 y) → minus_zero (x ⊕ y) ≡ false
    go nan y h k = unfold add in refl
    go (inf s) nan h k = unfold add in refl
    go (inf s) (inf t) h k = unfold add in plain_cond (beq s t) (inf s) nan refl refl
    go (inf s) (fin t n d) h k = unfold add in refl
    go (fin s m e) nan h k = unfold add in refl
    go (fin s m e) (inf t) h k = unfold add in refl
    go (fin s m e) (fin t n d) h k = rw add_fin (signs s m e t n d h k)
