-- The definitions of Real.antt keep `Like`. Assumes nothing.
use mathlib.Core.Path.{◌≡◌, refl, sym, ap₂, ◌∙◌}
use Prim.Native.Nat.{ℕ}
use native.Mathlib.Nat.{zero-mul, zero-div}
use mathlib.Core.Bool.{Bool, false, cond, ◌&&◌}
use lib.IntN.{ℤ, pos}
use lib.Ieee.{Float, nan, inf, fin, neg, lt}
use Rattle.drifters_real.specs.Scalar.{plus_zero}
use Rattle.drifters_real.specs.Real.{sqrt, angle, square, sinc_of_square, cos_of_square, angle_limit, in_range, sin, cos, abs, max, clamp, is_finite}
use Rattle.drifters_demands.specs.Like.{unsigned_zero, Like}
use Rattle.drifters_demands.proofs.Signs.Like.{respects, unsigned, like_refl, like_cond, like_is_nan}
use Rattle.drifters_demands.proofs.Signs.Ops.{like_mul}
use Rattle.drifters_demands.proofs.Signs.Compare.{like_lt, like_le}

pub like_sqrt : {x y : Float} → Like false x y → Like false (sqrt x) (sqrt y)
like_sqrt {x} {y} h = record { same = respects (λ z. unsigned_zero (sqrt z)) (λ s e. unfold sqrt in refl) x y h.same }

-- ---- sine and cosine
angle_zero : (s : Bool) (e : ℤ) → angle (fin s 0 e) ≡ 0
unfolding angle
angle_zero s e = simp (zero-mul, zero-div)

pub like_angle : {x y : Float} → Like false x y → angle x ≡ angle y
like_angle {x} {y} h = respects angle (λ s e. angle_zero s e ∙ sym (angle_zero false (pos 0))) x y h.same

pub like_in_range : {x y : Float} → Like false x y → in_range x ≡ in_range y
unfolding in_range
like_in_range h = ap₂ ◌&&◌ (like_le (like_refl {x = plus_zero}) h) (like_le h (like_refl {x = angle_limit}))

-- a function of the angle alone
like_of_angle : {x y : Float} (g : ℕ → Float) → Like false x y → Like false (g (angle x)) (g (angle y))
like_of_angle g h = rw (like_angle h) like_refl

pub like_sin : {x y : Float} → Like false x y → Like false (sin x) (sin y)
unfolding sin
like_sin h = like_cond (like_in_range h) (like_mul h (like_of_angle (λ t. sinc_of_square (square t)) h)) like_refl

pub like_cos : {x y : Float} → Like false x y → Like false (cos x) (cos y)
unfolding cos
like_cos h = like_cond (like_in_range h) (like_of_angle (λ t. cos_of_square (square t)) h) like_refl

-- ---- the methods of f64
neg_abs : (x : Float) → unsigned_zero (abs (neg x)) ≡ unsigned_zero (abs x)
unfolding neg abs
neg_abs nan = refl
neg_abs (inf s) = refl
neg_abs (fin s m e) = refl

pub like_abs : {s : Bool} {x y : Float} → Like s x y → Like false (abs x) (abs y)
like_abs h = record { same = unsigned (λ z. unsigned_zero (abs z)) (λ s e. unfold abs in refl) neg_abs h }

pub like_max : {x x' y y' : Float} → Like false x x' → Like false y y' → Like false (max x y) (max x' y')
unfolding max
like_max h k = like_cond (like_lt h k) k (like_cond (like_is_nan h) k h)

pub like_clamp : {x x' l l' u u' : Float} → Like false x x' → Like false l l' → Like false u u' → Like false (clamp x l u) (clamp x' l' u')
unfolding clamp
like_clamp {x} {x'} {l} {l'} h k m =
    let raised : Like false (cond (lt x l) l x) (cond (lt x' l') l' x') = like_cond (like_lt h k) k h in
    like_cond (like_lt m raised) m raised

neg_is_finite : (x : Float) → is_finite (neg x) ≡ is_finite x
unfolding neg is_finite
neg_is_finite nan = refl
neg_is_finite (inf s) = refl
neg_is_finite (fin s m e) = refl

pub like_is_finite : {s : Bool} {x y : Float} → Like s x y → is_finite x ≡ is_finite y
like_is_finite h = unsigned is_finite (λ s e. unfold is_finite in refl) neg_is_finite h
