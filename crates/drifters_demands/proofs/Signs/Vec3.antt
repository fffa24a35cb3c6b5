-- The definitions of Vec3.antt keep `LikeVec3`, with any three signs where nothing else is said. Assumes nothing.
use mathlib.Core.Path.{◌≡◌, refl, sym, ap, ◌∙◌}
use Prim.Native.Nat.{ℕ, zero, suc, ◌<◌}
use native.Mathlib.Omega.{arith}
use mathlib.Core.Bool.{Bool, true, false, not}
use lib.Dec.{lit<}
use lib.ListN.{get_or}
use lib.Ieee.{Float, nan, unlike}
use Rattle.std.specs.Prelude.{Option, Some, None}
use Rattle.drifters_real.specs.Scalar.{plus_zero}
use Rattle.drifters_matrix.specs.Matrix.{at}
use Rattle.drifters_core.specs.Vec3.{zero_vec3, to_array, dot, cross, norm_squared, norm, div_vec3, normalized, mat3, skew, amax_vec3, add_vec3, sub_vec3, neg_vec3, mul_vec3}
use Rattle.drifters_demands.specs.Like.{Like, Signs, axis, LikeList, LikeVec3, LikeMatrix}
use Rattle.drifters_core.specs.declared.math.vec3.Vec3.{Vec3}
use Rattle.drifters_demands.proofs.Signs.Sign.{unlike_same, unlike_false, not_unlike, unlike_not, axis_1_2, axis_2_1, axis_2_0, axis_0_2, axis_0_1, axis_1_0, signed_axis}
use Rattle.drifters_demands.proofs.Signs.Like.{cond_keeps, like_as, like_refl, like_plus_zero, like_neg}
use Rattle.drifters_demands.proofs.Signs.Ops.{like_add, like_sub, like_mul, like_mul_as, like_div_equal}
use Rattle.drifters_demands.proofs.Signs.Compare.{like_lt, like_above}
use Rattle.drifters_demands.proofs.Signs.Real.{like_sqrt, like_abs}
use Rattle.drifters_demands.proofs.Signs.Matrix.{like_larger}

-- ---- vectors from components
pub like_zero_vec3 : {σ : ℕ → Bool} → LikeVec3 σ zero_vec3 zero_vec3
like_zero_vec3 = record { x = like_plus_zero; y = like_plus_zero; z = like_plus_zero }

-- what holds of 0, 1 and 2
pub below_three : (P : ℕ → Type 0) → P 0 → P 1 → P 2 → (i : ℕ) → i < 3 → P i
below_three P x y z zero h = x
below_three P x y z (suc zero) h = y
below_three P x y z (suc (suc zero)) h = z
below_three P x y z (suc (suc (suc i))) h = absurd (past i h)
  where
    past : (i : ℕ) → suc (suc (suc i)) < 3 → ⊥
    past i h = omega arith

-- the signs as they are written elsewhere
pub like_vec3_as : {σ τ : ℕ → Bool} {v v' : Vec3} → ((i : ℕ) → i < 3 → σ i ≡ τ i) → LikeVec3 σ v v' → LikeVec3 τ v v'
like_vec3_as e h = record { x = like_as (e 0 (lit< tt)) h.x; y = like_as (e 1 (lit< tt)) h.y; z = like_as (e 2 (lit< tt)) h.z }

pub like_to_array : {σ : ℕ → Bool} {v v' : Vec3} → LikeVec3 σ v v' → LikeList σ 3 (to_array v) (to_array v')
like_to_array {σ} {v} {v'} h = record { entry = below_three (λ i. Like (σ i) (get_or (to_array v) i nan) (get_or (to_array v') i nan)) h.x h.y h.z }

-- ---- component by component
module _ {σ : ℕ → Bool} {v v' w w' : Vec3} (h : LikeVec3 σ v v') (k : LikeVec3 σ w w') where
  pub like_add_vec3 : LikeVec3 σ (add_vec3 v w) (add_vec3 v' w')
  unfolding add_vec3
  like_add_vec3 = record { x = like_add h.x k.x; y = like_add h.y k.y; z = like_add h.z k.z }

  pub like_sub_vec3 : LikeVec3 σ (sub_vec3 v w) (sub_vec3 v' w')
  unfolding sub_vec3
  like_sub_vec3 = record { x = like_sub h.x k.x; y = like_sub h.y k.y; z = like_sub h.z k.z }

module _ {σ : ℕ → Bool} {v v' : Vec3} (h : LikeVec3 σ v v') where
  pub like_neg_vec3 : LikeVec3 σ (neg_vec3 v) (neg_vec3 v')
  unfolding neg_vec3
  like_neg_vec3 = record { x = like_neg h.x; y = like_neg h.y; z = like_neg h.z }

  pub like_mul_vec3_signed : {t : Bool} {a a' : Float} → Like t a a' → LikeVec3 (λ i. unlike (σ i) t) (mul_vec3 v a) (mul_vec3 v' a')
  unfolding mul_vec3
  like_mul_vec3_signed k = record { x = like_mul h.x k; y = like_mul h.y k; z = like_mul h.z k }

  pub like_mul_vec3 : {a a' : Float} → Like false a a' → LikeVec3 σ (mul_vec3 v a) (mul_vec3 v' a')
  like_mul_vec3 k = like_vec3_as (λ i I. unlike_false (σ i)) (like_mul_vec3_signed k)

  pub like_div_vec3 : {a a' : Float} → a ≡ a' → LikeVec3 σ (div_vec3 v a) (div_vec3 v' a')
  unfolding div_vec3
  like_div_vec3 e = record { x = like_div_equal h.x e; y = like_div_equal h.y e; z = like_div_equal h.z e }

  pub like_amax_vec3 : Like false (amax_vec3 v) (amax_vec3 v')
  unfolding amax_vec3
  like_amax_vec3 = like_larger (like_larger (like_abs h.x) h.y) h.z

module _ {σ τ : ℕ → Bool} {v v' w w' : Vec3} (h : LikeVec3 σ v v') (k : LikeVec3 τ w w') where
  -- where the signs of the three products are one sign
  pub like_dot_signed : {t : Bool} → ((i : ℕ) → i < 3 → unlike (σ i) (τ i) ≡ t) → Like t (dot v w) (dot v' w')
  unfolding dot
  like_dot_signed e =
      like_add
      (like_add (like_mul_as h.x k.x (e 0 (lit< tt))) (like_mul_as h.y k.y (e 1 (lit< tt))))
      (like_mul_as h.z k.z (e 2 (lit< tt)))

-- ---- products and norms
pub like_dot : {σ : ℕ → Bool} {v v' w w' : Vec3} → LikeVec3 σ v v' → LikeVec3 σ w w' → Like false (dot v w) (dot v' w')
like_dot {σ} h k = like_dot_signed h k (λ i I. unlike_same (σ i))

pub like_norm_squared : {σ : ℕ → Bool} {v v' : Vec3} → LikeVec3 σ v v' → Like false (norm_squared v) (norm_squared v')
unfolding norm_squared
like_norm_squared h = like_dot h h

pub like_norm : {σ : ℕ → Bool} {v v' : Vec3} → LikeVec3 σ v v' → Like false (norm v) (norm v')
unfolding norm
like_norm h = like_sqrt (like_norm_squared h)

-- both normalised, or both not: a norm takes no sign
pub data LikeNormalized (σ : ℕ → Bool) : Option Vec3 → Option Vec3 → Type 0 where
  both_units : {v v' : Vec3} → LikeVec3 σ v v' → LikeNormalized σ (Some v) (Some v')
  both_none : LikeNormalized σ None None

pub like_normalized : {σ : ℕ → Bool} {v v' : Vec3} → LikeVec3 σ v v' → LikeNormalized σ (normalized v) (normalized v')
unfolding normalized
like_normalized {σ} h =
    cond_keeps (LikeNormalized σ) (like_lt (like_refl {x = plus_zero}) (like_norm h)) (λ e. both_units (like_div_vec3 h (like_above (like_norm h) e))) (λ e. both_none)

-- ---- the cross product
-- where f and g change the signs of its sides, and e those of the result
cross_as : {s : Signs} {v v' w w' : Vec3} (f g e : Bool → Bool) → ((p q : Bool) → unlike (f p) (g q) ≡ e (unlike p q))
    → LikeVec3 (λ i. f (axis s i)) v v' → LikeVec3 (λ i. g (axis s i)) w w' → LikeVec3 (λ i. e (axis s i)) (cross v w) (cross v' w')
unfolding cross
cross_as {s} f g e law h k = record {
  x = like_sub (like_mul_as h.y k.z (sign 1 2 0 (axis_1_2 s))) (like_mul_as h.z k.y (sign 2 1 0 (axis_2_1 s)));
  y = like_sub (like_mul_as h.z k.x (sign 2 0 1 (axis_2_0 s))) (like_mul_as h.x k.z (sign 0 2 1 (axis_0_2 s)));
  z = like_sub (like_mul_as h.x k.y (sign 0 1 2 (axis_0_1 s))) (like_mul_as h.y k.x (sign 1 0 2 (axis_1_0 s)));
}
  where
    sign : (i j l : ℕ) → unlike (axis s i) (axis s j) ≡ axis s l → unlike (f (axis s i)) (g (axis s j)) ≡ e (axis s l)
    sign i j l a = law (axis s i) (axis s j) ∙ ap e a

pub like_cross : {s : Signs} {v v' w w' : Vec3} → LikeVec3 (axis s) v v' → LikeVec3 (axis s) w w' → LikeVec3 (axis s) (cross v w) (cross v' w')
like_cross h k = cross_as (λ p. p) (λ q. q) (λ r. r) (λ p q. refl) h k

-- where one side may have all its signs changed
pub like_cross_right : {s : Signs} (t : Bool) {v v' w w' : Vec3} → LikeVec3 (axis s) v v' → LikeVec3 (signed_axis s t) w w' → LikeVec3 (signed_axis s t) (cross v w) (cross v' w')
like_cross_right false h k = like_cross h k
like_cross_right true h k = cross_as (λ p. p) not not unlike_not h k

pub like_cross_left : {s : Signs} (t : Bool) {v v' w w' : Vec3} → LikeVec3 (signed_axis s t) v v' → LikeVec3 (axis s) w w' → LikeVec3 (signed_axis s t) (cross v w) (cross v' w')
like_cross_left false h k = like_cross h k
like_cross_left true h k = cross_as not (λ q. q) not not_unlike h k

-- ---- 3 by 3 matrices
module _ {σ τ : ℕ → Bool} {a b c d e f g h i a' b' c' d' e' f' g' h' i' : Float} where
  pub like_mat3 : Like (unlike (σ 0) (τ 0)) a a' → Like (unlike (σ 0) (τ 1)) b b' → Like (unlike (σ 0) (τ 2)) c c'
      → Like (unlike (σ 1) (τ 0)) d d' → Like (unlike (σ 1) (τ 1)) e e' → Like (unlike (σ 1) (τ 2)) f f'
      → Like (unlike (σ 2) (τ 0)) g g' → Like (unlike (σ 2) (τ 1)) h h' → Like (unlike (σ 2) (τ 2)) i i'
      → LikeMatrix σ τ 3 3 (mat3 a b c d e f g h i).«data» (mat3 a' b' c' d' e' f' g' h' i').«data»
  like_mat3 ha hb hc hd he hf hg hh hi = record {
    entry = λ p q P Q. below_three (λ m. At m q) (below_three (At 0) ha hb hc q Q) (below_three (At 1) hd he hf q Q) (below_three (At 2) hg hh hi q Q) p P;
  }
    where
      At : ℕ → ℕ → Type 0
      At p q = Like (unlike (σ p) (τ q)) (at 3 (mat3 a b c d e f g h i).«data» p q) (at 3 (mat3 a' b' c' d' e' f' g' h' i').«data» p q)

pub like_skew : {s : Signs} {v v' : Vec3} → LikeVec3 (axis s) v v' → LikeMatrix (axis s) (axis s) 3 3 (skew v).«data» (skew v').«data»
unfolding skew
like_skew {s} h =
    like_mat3
    like_plus_zero (like_as (sym (axis_0_1 s)) (like_neg h.z)) (like_as (sym (axis_0_2 s)) h.y)
    (like_as (sym (axis_1_0 s)) h.z) like_plus_zero (like_as (sym (axis_1_2 s)) (like_neg h.x))
    (like_as (sym (axis_2_0 s)) (like_neg h.y)) (like_as (sym (axis_2_1 s)) h.x) like_plus_zero
