-- The operations keep `Like`. Assumes nothing.
use mathlib.Core.Path.{◌≡◌, refl, ap, ◌∙◌}
use Prim.Native.Nat.{ℕ, zero, suc, ◌*◌}
use native.Mathlib.Nat.{zero-mul, mul-pos, mul_comm, mul_assoc, mul_left_comm, zero-lt-suc}
use mathlib.Core.Bool.{Bool, true, false, not, beq, cond}
use lib.IntN.{ℤ}
use lib.Dec.{eqb, eqb-suc-zero}
use lib.Ieee.{Float, nan, inf, fin, Format, binary64, up, down, unlike, round, neg, add, sub, mul, div}
use lib.Ieee.Fits.{up_pos, down_pos}
use lib.Ieee.Scale.{round_same}
use Rattle.drifters_real.proofs.Real.Zeros.{add_fin, mul_fin, mul_comm_float, down_down}
use Rattle.drifters_real.specs.Scalar.{◌⊕◌, ◌⊖◌, ◌⊗◌, ◌⊘◌}
use Rattle.drifters_demands.specs.Like.{unsigned_zero, signed, Like}
use Rattle.drifters_demands.proofs.Signs.Like.{fin_zero, respects, respects₂, zero_alike, neg_neg, like_as, like_neg}
use Rattle.drifters_demands.proofs.Signs.Sign.{not_unlike, unlike_not, unlike_same, unlike_false, false_unlike}
use Rattle.drifters_demands.proofs.Signs.Round.{neg_cond, neg_round, round_zero, neg_sum, sum_zero_l, sum_zero_r}

-- ---- addition
add_zero_fin_l : (f : Format) (s t : Bool) (e d : ℤ) (n : ℕ) → unsigned_zero (add f (fin s 0 e) (fin t n d)) ≡ unsigned_zero (round f t (n * up d) (down d))
add_zero_fin_l f s t e d n =
    rw (add_fin, zero-mul, zero-mul)
    (sum_zero_l f s t (n * up d * down e) (down e * down d) (down_down e d)
    ∙ ap unsigned_zero (round_same f t (n * up d * down e) (down e * down d) (n * up d) (down d) (down_down e d) (down_pos d) (simp (mul_assoc, mul_comm, mul_left_comm))))

add_zero_fin_r : (f : Format) (t s : Bool) (d e : ℤ) (m : ℕ) → unsigned_zero (add f (fin s m e) (fin t 0 d)) ≡ unsigned_zero (round f s (m * up e) (down e))
add_zero_fin_r f t s d e m =
    rw (add_fin, zero-mul, zero-mul)
    (sum_zero_r f s t (m * up e * down d) (down e * down d) (down_down e d)
    ∙ ap unsigned_zero (round_same f s (m * up e * down d) (down e * down d) (m * up e) (down e) (down_down e d) (down_pos e) (simp (mul_assoc, mul_comm, mul_left_comm))))

add_zero_l : (f : Format) (y : Float) (s : Bool) (e : ℤ) → unsigned_zero (add f (fin s 0 e) y) ≡ unsigned_zero (add f fin_zero y)
add_zero_l f = zero_alike (λ x y. unsigned_zero (add f x y)) (λ s e. unfold add in refl) (λ s t e. unfold add in refl) (add_zero_fin_l f)

add_zero_r : (f : Format) (x : Float) (t : Bool) (d : ℤ) → unsigned_zero (add f x (fin t 0 d)) ≡ unsigned_zero (add f x fin_zero)
add_zero_r f = zero_alike (λ y x. unsigned_zero (add f x y)) (λ s e. unfold add in refl) (λ s t e. unfold add in refl) (add_zero_fin_r f)

neg_add_inf : (s t : Bool) → unsigned_zero (cond (beq (not s) (not t)) (inf (not s)) nan) ≡ unsigned_zero (neg (cond (beq s t) (inf s) nan))
unfolding neg
neg_add_inf true true = refl
neg_add_inf true false = refl
neg_add_inf false true = refl
neg_add_inf false false = refl

neg_add : (f : Format) (x y : Float) → unsigned_zero (add f (neg x) (neg y)) ≡ unsigned_zero (neg (add f x y))
neg_add f nan y = unfold neg add in refl
neg_add f (inf s) nan = unfold neg add in refl
neg_add f (inf s) (inf t) = unfold add neg in neg_add_inf s t
neg_add f (inf s) (fin t n d) = unfold neg add in refl
neg_add f (fin s m e) nan = unfold neg add in refl
neg_add f (fin s m e) (inf t) = unfold neg add in refl
neg_add f (fin s m e) (fin t n d) = unfold neg in rw (add_fin, add_fin) (neg_sum f s t (m * up e * down d) (n * up d * down e) (down e * down d) (down_down e d))

add_same : (x x' y y' : Float) → unsigned_zero x ≡ unsigned_zero x' → unsigned_zero y ≡ unsigned_zero y' → unsigned_zero (x ⊕ y) ≡ unsigned_zero (x' ⊕ y')
add_same = respects₂ (λ x y. unsigned_zero (x ⊕ y)) (add_zero_l binary64) (add_zero_r binary64)

pub like_add : {s : Bool} {x x' y y' : Float} → Like s x x' → Like s y y' → Like s (x ⊕ y) (x' ⊕ y')
like_add {s = false} {x} {x'} {y} {y'} h k = record { same = add_same x x' y y' h.same k.same }
like_add {s = true} {x} {x'} {y} {y'} h k = record { same = add_same x (neg x') y (neg y') h.same k.same ∙ neg_add binary64 x' y' }

pub like_sub : {s : Bool} {x x' y y' : Float} → Like s x x' → Like s y y' → Like s (x ⊖ y) (x' ⊖ y')
unfolding sub
like_sub h k = like_add h (like_neg k)

-- ---- an operation that either sign goes through
module _ (op : Float → Float → Float) (neg-l : (x y : Float) → op (neg x) y ≡ neg (op x y)) (neg-r : (x y : Float) → op x (neg y) ≡ neg (op x y)) where
  op_signed : (s t : Bool) (x y : Float) → op (signed s x) (signed t y) ≡ signed (unlike s t) (op x y)
  op_signed true true x y = neg-l x (neg y) ∙ ap neg (neg-r x y) ∙ neg_neg (op x y)
  op_signed true false x y = neg-l x y
  op_signed false true x y = neg-r x y
  op_signed false false x y = refl

neg_mul_l : (f : Format) (x y : Float) → mul f (neg x) y ≡ neg (mul f x y)
neg_mul_l f nan y = unfold mul neg in refl
neg_mul_l f (inf s) nan = unfold mul neg in refl
neg_mul_l f (inf s) (inf t) = unfold mul neg in simp not_unlike
neg_mul_l f (inf s) (fin t n d) = unfold mul neg in simp (neg_cond, not_unlike)
neg_mul_l f (fin s m e) nan = unfold mul neg in refl
neg_mul_l f (fin s m e) (inf t) = unfold mul neg in simp (neg_cond, not_unlike)
neg_mul_l f (fin s m e) (fin t n d) = unfold neg in simp (mul_fin, neg_round, not_unlike)

neg_mul_r : (x y : Float) → x ⊗ neg y ≡ neg (x ⊗ y)
neg_mul_r x y = mul_comm_float x (neg y) ∙ neg_mul_l binary64 y x ∙ ap neg (mul_comm_float y x)

mul_zero_fin_l : (f : Format) (s t : Bool) (e d : ℤ) (n : ℕ) → unsigned_zero (mul f (fin s 0 e) (fin t n d)) ≡ fin_zero
mul_zero_fin_l f s t e d n = rw (mul_fin, zero-mul, zero-mul) (round_zero f (unlike s t) (down e * down d) (down_down e d))

mul_zero_l : (f : Format) (y : Float) (s : Bool) (e : ℤ) → unsigned_zero (mul f (fin s 0 e) y) ≡ unsigned_zero (mul f fin_zero y)
mul_zero_l f = zero_alike (λ x y. unsigned_zero (mul f x y)) (λ s e. unfold mul in refl) (λ s t e. unfold mul in refl) (mul_zero_fin_l f)

mul_zero_r : (x : Float) (t : Bool) (d : ℤ) → unsigned_zero (x ⊗ fin t 0 d) ≡ unsigned_zero (x ⊗ fin_zero)
mul_zero_r x t d = ap unsigned_zero (mul_comm_float x (fin t 0 d)) ∙ mul_zero_l binary64 x t d ∙ ap unsigned_zero (mul_comm_float fin_zero x)

pub like_mul : {s t : Bool} {x x' y y' : Float} → Like s x x' → Like t y y' → Like (unlike s t) (x ⊗ y) (x' ⊗ y')
like_mul {s} {t} {x} {x'} {y} {y'} h k = record {
  same =
      respects₂ (λ x y. unsigned_zero (x ⊗ y)) (mul_zero_l binary64) mul_zero_r x (signed s x') y (signed t y') h.same k.same
      ∙ ap unsigned_zero (op_signed (mul binary64) (neg_mul_l binary64) neg_mul_r s t x' y');
}

-- the sign of the product as it is written elsewhere
pub like_mul_as : {s t u : Bool} {x x' y y' : Float} → Like s x x' → Like t y y' → unlike s t ≡ u → Like u (x ⊗ y) (x' ⊗ y')
like_mul_as h k e = rw (← e) (like_mul h k)

-- with one sign, and with no sign on the left or on the right
pub like_mul_same : {s : Bool} {x x' y y' : Float} → Like s x x' → Like s y y' → Like false (x ⊗ y) (x' ⊗ y')
like_mul_same {s} h k = like_mul_as h k (unlike_same s)

pub like_unsigned_mul : {s : Bool} {x x' y y' : Float} → Like false x x' → Like s y y' → Like s (x ⊗ y) (x' ⊗ y')
like_unsigned_mul {s} h k = like_mul_as h k (false_unlike s)

pub like_square : {s : Bool} {x x' : Float} → Like s x x' → Like false (x ⊗ x) (x' ⊗ x')
like_square h = like_mul_same h h

-- ---- division
div_fin : (f : Format) (s : Bool) (m : ℕ) (e : ℤ) (t : Bool) (n : ℕ) (d : ℤ)
    → div f (fin s m e) (fin t n d) ≡ cond (eqb n 0) (cond (eqb m 0) nan (inf (unlike s t))) (round f (unlike s t) (m * up e * down d) (n * up d * down e))
unfolding div
div_fin f s m e t n d = refl

neg_div_l : (f : Format) (x y : Float) → div f (neg x) y ≡ neg (div f x y)
neg_div_l f nan y = unfold div neg in refl
neg_div_l f (inf s) nan = unfold div neg in refl
neg_div_l f (inf s) (inf t) = unfold div neg in refl
neg_div_l f (inf s) (fin t n d) = unfold div neg in simp not_unlike
neg_div_l f (fin s m e) nan = unfold div neg in refl
neg_div_l f (fin s m e) (inf t) = unfold div neg in simp not_unlike
neg_div_l f (fin s m e) (fin t n d) = unfold neg in simp (div_fin, neg_cond, neg_round, not_unlike)

neg_div_r : (f : Format) (x y : Float) → div f x (neg y) ≡ neg (div f x y)
neg_div_r f nan y = unfold div neg in refl
neg_div_r f (inf s) nan = unfold div neg in refl
neg_div_r f (inf s) (inf t) = unfold div neg in refl
neg_div_r f (inf s) (fin t n d) = unfold div neg in simp unlike_not
neg_div_r f (fin s m e) nan = unfold div neg in refl
neg_div_r f (fin s m e) (inf t) = unfold div neg in simp unlike_not
neg_div_r f (fin s m e) (fin t n d) = unfold neg in simp (div_fin, neg_cond, neg_round, unlike_not)

div_zero_fin : (f : Format) (s t : Bool) (e d : ℤ) (n : ℕ) → unsigned_zero (div f (fin s 0 e) (fin t n d)) ≡ cond (eqb n 0) nan fin_zero
div_zero_fin f s t e d zero = rw div_fin
div_zero_fin f s t e d (suc n) = rw (div_fin, eqb-suc-zero, zero-mul, zero-mul) (round_zero f (unlike s t) (suc n * up d * down e) (mul-pos (mul-pos (zero-lt-suc n) (up_pos d)) (down_pos e)))

div_zero : (f : Format) (y : Float) (s : Bool) (e : ℤ) → unsigned_zero (div f (fin s 0 e) y) ≡ unsigned_zero (div f fin_zero y)
div_zero f = zero_alike (λ x y. unsigned_zero (div f x y)) (λ s e. unfold div in refl) (λ s t e. unfold div in refl) (div_zero_fin f)

div_same : (y : Float) (s : Bool) (x x' : Float) → unsigned_zero x ≡ unsigned_zero (signed s x') → unsigned_zero (x ⊘ y) ≡ unsigned_zero (signed s x' ⊘ y)
div_same y s x x' p = respects (λ v. unsigned_zero (v ⊘ y)) (div_zero binary64 y) x (signed s x') p

div_signed : (s t : Bool) (x y : Float) → signed s x ⊘ signed t y ≡ signed (unlike s t) (x ⊘ y)
div_signed = op_signed (div binary64) (neg_div_l binary64) (neg_div_r binary64)

-- by one and the same divisor, be it a zero or not
pub like_div_same : {s : Bool} {x x' : Float} (y : Float) → Like s x x' → Like s (x ⊘ y) (x' ⊘ y)
like_div_same {s} {x} {x'} y h = like_as (unlike_false s) record { same = div_same y s x x' h.same ∙ ap unsigned_zero (div_signed s false x' y) }

-- by equal divisors
pub like_div_equal : {s : Bool} {x x' y y' : Float} → Like s x x' → y ≡ y' → Like s (x ⊘ y) (x' ⊘ y')
like_div_equal {y} h e = rw (← e) (like_div_same y h)
