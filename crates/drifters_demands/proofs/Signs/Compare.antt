-- Comparisons under `Like`: both zeros count as one, so they take no notice of which stands there. Assumes nothing.
use mathlib.Core.Path.{◌≡◌, refl, sym, ap₂, ◌∙◌}
use Prim.Native.Nat.{ℕ, zero, suc, ◌*◌}
use native.Mathlib.Nat.{zero-mul, mul-pos, zero-lt-suc, zero-add, add-zero, ne_of_lt}
use mathlib.Core.Bool.{Bool, true, false, not, ◌&&◌, ◌||◌, beq, or-true, and-true}
use lib.IntN.{ℤ, pos}
use borrow.Author.Tests.{both_ways, lt-ltb, ne_eqb}
use lib.Dec.{ltb, eqb, leb-suc-zero, eqb-zero-suc}
use lib.Ieee.{Float, nan, inf, fin, up, down, neg, lt, le, eq, below, level, of_bits}
use lib.Ieee.Fits.{up_pos, down_pos}
use Rattle.std.proofs.lemmas.Float.{floats_per}
use Rattle.drifters_real.specs.Scalar.{plus_zero}
use Rattle.drifters_demands.specs.Like.{Like}
use Rattle.drifters_real.proofs.Real.Zeros.{plus_zero_is}
use Rattle.drifters_demands.proofs.Signs.Like.{fin_zero, is_zero, respects₂, zero_alike, like_refl, like_plus_zero, like_exact}

-- ---- m * up e * down d is above zero where m is
above : (m : ℕ) (e d : ℤ) → ltb 0 (m * up e * down d) ≡ ltb 0 m
above zero e d = rw (zero-mul, zero-mul)
above (suc m) e d = lt-ltb 0 _ (mul-pos (mul-pos (zero-lt-suc m) (up_pos e)) (down_pos d)) ∙ sym (lt-ltb 0 (suc m) (zero-lt-suc m))

-- ---- less than
lt_fin : (s : Bool) (m : ℕ) (e : ℤ) (t : Bool) (n : ℕ) (d : ℤ) → lt (fin s m e) (fin t n d) ≡ below s (m * up e * down d) t (n * up d * down e)
unfolding lt
lt_fin s m e t n d = refl

below_zero_l : (s t : Bool) (b : ℕ) → below s 0 t b ≡ (not t && ltb 0 b)
below_zero_l false false b = refl
below_zero_l false true b = refl
below_zero_l true false b = simp zero-add
below_zero_l true true b = leb-suc-zero b

below_zero_r : (s t : Bool) (a : ℕ) → below s a t 0 ≡ (s && ltb 0 a)
below_zero_r false false a = leb-suc-zero a
below_zero_r false true a = refl
below_zero_r true false a = simp add-zero
below_zero_r true true a = refl

pub lt_zero_fin_l : (s t : Bool) (e d : ℤ) (n : ℕ) → lt (fin s 0 e) (fin t n d) ≡ (not t && ltb 0 n)
lt_zero_fin_l s t e d n = rw (lt_fin, zero-mul, zero-mul, below_zero_l, above)

lt_zero_fin_r : (t s : Bool) (d e : ℤ) (m : ℕ) → lt (fin s m e) (fin t 0 d) ≡ (s && ltb 0 m)
lt_zero_fin_r t s d e m = rw (lt_fin, zero-mul, zero-mul, below_zero_r, above)

lt_zero_l : (y : Float) (s : Bool) (e : ℤ) → lt (fin s 0 e) y ≡ lt fin_zero y
lt_zero_l = zero_alike lt (λ s e. unfold lt in refl) (λ s t e. unfold lt in refl) lt_zero_fin_l

lt_zero_r : (x : Float) (s : Bool) (e : ℤ) → lt x (fin s 0 e) ≡ lt x fin_zero
lt_zero_r = zero_alike (λ y x. lt x y) (λ s e. unfold lt in refl) (λ s t e. unfold lt in refl) lt_zero_fin_r

-- ---- equal
eq_fin : (s : Bool) (m : ℕ) (e : ℤ) (t : Bool) (n : ℕ) (d : ℤ) → eq (fin s m e) (fin t n d) ≡ level s (m * up e * down d) t (n * up d * down e)
unfolding eq
eq_fin s m e t n d = refl

eqb_zero : (m : ℕ) (e d : ℤ) → eqb 0 (m * up e * down d) ≡ eqb 0 m
eqb_zero zero e d = rw (zero-mul, zero-mul)
eqb_zero (suc m) e d = ne_eqb 0 _ (ne_of_lt (mul-pos (mul-pos (zero-lt-suc m) (up_pos e)) (down_pos d))) ∙ sym (eqb-zero-suc m)

eq_zero_fin_l : (s t : Bool) (e d : ℤ) (n : ℕ) → eq (fin s 0 e) (fin t n d) ≡ eqb 0 n
eq_zero_fin_l s t e d n = rw (eq_fin, zero-mul, zero-mul, or-true, and-true, eqb_zero)

eq_zero_l : (y : Float) (s : Bool) (e : ℤ) → eq (fin s 0 e) y ≡ eq fin_zero y
eq_zero_l = zero_alike eq (λ s e. unfold eq in refl) (λ s t e. unfold eq in refl) eq_zero_fin_l

-- ---- where both are negated equality stays
beq_not : (s t : Bool) → beq (not s) (not t) ≡ beq s t
beq_not true true = refl
beq_not true false = refl
beq_not false true = refl
beq_not false false = refl

eq_neg : (x y : Float) → eq (neg x) (neg y) ≡ eq x y
eq_neg nan y = unfold neg eq in refl
eq_neg (inf s) nan = unfold neg eq in refl
eq_neg (inf s) (inf t) = unfold neg eq in beq_not s t
eq_neg (inf s) (fin t n d) = unfold neg eq in refl
eq_neg (fin s m e) nan = unfold neg eq in refl
eq_neg (fin s m e) (inf t) = unfold neg eq in refl
eq_neg (fin s m e) (fin t n d) = unfold neg eq in rw beq_not

eq_zero_r : (x : Float) (s : Bool) (e : ℤ) → eq x (fin s 0 e) ≡ eq x fin_zero
eq_zero_r x s e = floats_per.symm x (fin s 0 e) ∙ eq_zero_l x s e ∙ floats_per.symm fin_zero x

-- what is equal to +0.0 is a zero
pub eq_is_zero : (x : Float) → eq x plus_zero ≡ is_zero x
eq_is_zero nan = unfold eq in refl
eq_is_zero (inf s) = rw plus_zero_is (unfold eq in refl)
eq_is_zero (fin s zero e) = rw plus_zero_is (eq_zero_fin_l s false e (pos 0) 0)
eq_is_zero (fin s (suc m) e) = rw plus_zero_is (floats_per.symm (fin s (suc m) e) fin_zero ∙ eq_zero_fin_l false s (pos 0) e (suc m) ∙ eqb-zero-suc m)

-- ---- the laws
pub like_lt : {x x' y y' : Float} → Like false x x' → Like false y y' → lt x y ≡ lt x' y'
like_lt {x} {x'} {y} {y'} h k = respects₂ lt lt_zero_l lt_zero_r x x' y y' h.same k.same

pub like_eq : {s : Bool} {x x' y y' : Float} → Like s x x' → Like s y y' → eq x y ≡ eq x' y'
like_eq {s = false} {x} {x'} {y} {y'} h k = respects₂ eq eq_zero_l eq_zero_r x x' y y' h.same k.same
like_eq {s = true} {x} {x'} {y} {y'} h k = respects₂ eq eq_zero_l eq_zero_r x (neg x') y (neg y') h.same k.same ∙ eq_neg x' y'

pub like_le : {x x' y y' : Float} → Like false x x' → Like false y y' → le x y ≡ le x' y'
unfolding le
like_le h k = ap₂ ◌||◌ (like_lt h k) (like_eq h k)

pub like_eq_zero : {s : Bool} {x y : Float} → Like s x y → eq x plus_zero ≡ eq y plus_zero
like_eq_zero h = like_eq h like_plus_zero

-- ---- two that are alike, where a comparison shows that they are no zeros
zero_not_above : lt plus_zero plus_zero ≡ false
unfolding lt of_bits
zero_not_above = refl

zero_le_zero : le plus_zero plus_zero ≡ true
unfolding le lt eq of_bits
zero_le_zero = refl

pub like_above : {x y : Float} → Like false x y → lt plus_zero x ≡ true → x ≡ y
like_above h p = like_exact h (λ z. both_ways _ (like_lt like_refl z ∙ zero_not_above) p)

pub like_not_le_zero : {x y : Float} → Like false x y → le x plus_zero ≡ false → x ≡ y
like_not_le_zero h p = like_exact h (λ z. both_ways _ p (like_le z like_refl ∙ zero_le_zero))

-- below no bound that is above 0
pub like_not_lt : {x y : Float} (b : Float) → lt plus_zero b ≡ true → Like false x y → lt x b ≡ false → x ≡ y
like_not_lt b q h p = like_exact h (λ z. both_ways _ p (like_lt z like_refl ∙ q))
