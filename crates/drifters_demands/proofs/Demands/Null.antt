-- Which calls ask to be refused as null: those of finite numbers in which a vector to be normalised has norm 0. Assumes nothing.
use Prim.Native.Nat.{ℕ, zero, suc, ◌+◌, ◌*◌, ◌^◌, ◌<◌}
use mathlib.Core.Path.{◌≡◌, refl, sym, ap, ◌∙◌}
use mathlib.Core.Bool.{Bool, true, false, not, cond, ◌||◌, false≢true, true≢false}
use mathlib.Core.List.{List}
use native.Mathlib.Omega.{arith}
use lib.Dec.{ltb, lit<, leb-suc-suc, leb-zero}
use lib.IntN.{pos}
use lib.ListN.{length}
use lib.Ieee.{Float, nan, inf, fin, binary64, up, down, odd, units, round, sum, add, lt, eq}
use lib.Ieee.Fits.{round_is}
use Rattle.std.specs.Prelude.{Some, None}
use Rattle.drifters_real.specs.Scalar.{◌⊕◌, ◌⊗◌, plus_zero}
use Rattle.drifters_real.specs.Real.{sqrt, sqrt_units, is_finite}
use Rattle.drifters_real.proofs.Real.Zeros.{add_fin, mul_fin, plus_zero_is}
use Rattle.drifters_matrix.specs.Matrix.{all_finite}
use Rattle.drifters_matrix.proofs.Matrix.Skips.{finite_at}
use Rattle.drifters_core.specs.Vec3.{dot, norm_squared, norm, div_vec3, normalized}
use Rattle.drifters_core.specs.declared.math.vec3.Vec3.{Vec3}
use Rattle.drifters_lie.specs.Lie.{vec3_at}
use Rattle.drifters_symmetry.specs.declared.group.Symmetry.{Symmetry}
use Rattle.drifters_eqf.specs.Answer.{null_refusal}
use Rattle.drifters_eqf.specs.Filter.{measured_units, measured_direction}
use Rattle.drifters_entry.specs.Layout.{from_run}
use Rattle.drifters_kind.specs.Kind.{call_length}
use Rattle.drifters_kind.specs.declared.kind.Kind.{Kind}
use Rattle.drifters_kind.specs.declared.kind.Kind.TheVariants.{Propagate, Position, Velocity, Direction, General, State, Scalar}
use Rattle.drifters_entry.specs.Entry.{Request, refusal, propagation, measurement, estimate, direction_request, request_of}
use Rattle.drifters_demands.specs.Demands.{norm_is_zero, has_null}
use Rattle.drifters_demands.proofs.Signs.Sign.{unlike_same}
use Rattle.drifters_demands.proofs.Signs.Compare.{lt_zero_fin_l, eq_is_zero}

-- ---- numbers of the sign plus, infinity among them
abbrev plus : Float → Bool
plus nan = false
plus (inf s) = not s
plus (fin s m e) = not s

plus_cond : (b : Bool) (x y : Float) → plus x ≡ true → plus y ≡ true → plus (cond b x y) ≡ true
plus_cond true x y h k = h
plus_cond false x y h k = k

plus_odd : (d q k l : ℕ) → plus (odd d false q k l) ≡ true
unfolding odd
plus_odd d zero k l = refl
plus_odd d (suc q) k l = refl

plus_units : (q k : ℕ) → plus (units binary64 false q k) ≡ true
unfolding units
plus_units q k = plus_cond (ltb (q * 2 ^ k) (2 ^ 2098)) (odd 54 false q k 1074) (inf false) (plus_odd 54 q k 1074) refl

plus_round : (a c : ℕ) → plus (round binary64 false a c) ≡ true
plus_round a c = ap plus (round_is binary64 false a c) ∙ plus_units _ _

plus_square : (x : Float) → is_finite x ≡ true → plus (x ⊗ x) ≡ true
plus_square nan h = absurd (true≢false (sym h ∙ unfold is_finite in refl))
plus_square (inf s) h = absurd (true≢false (sym h ∙ unfold is_finite in refl))
plus_square (fin s m e) h = rw (mul_fin, unlike_same) (plus_round _ _)

plus_sum : (a b c : ℕ) → plus (sum binary64 false a false b c) ≡ true
unfolding sum
plus_sum a b c = plus_round (a + b) c

plus_add : (x y : Float) → plus x ≡ true → plus y ≡ true → plus (x ⊕ y) ≡ true
plus_add nan y h k = absurd (false≢true h)
plus_add (inf true) y h k = absurd (false≢true h)
plus_add (inf false) nan h k = absurd (false≢true k)
plus_add (inf false) (inf true) h k = absurd (false≢true k)
plus_add (inf false) (inf false) h k = unfold add in refl
plus_add (inf false) (fin t n d) h k = unfold add in refl
plus_add (fin true m e) y h k = absurd (false≢true h)
plus_add (fin false m e) nan h k = absurd (false≢true k)
plus_add (fin false m e) (inf t) h k = unfold add in k
plus_add (fin false m e) (fin true n d) h k = absurd (false≢true k)
plus_add (fin false m e) (fin false n d) h k = rw add_fin (plus_sum (m * up e * down d) (n * up d * down e) (down e * down d))

plus_sqrt : (x : Float) → plus x ≡ true → plus (sqrt x) ≡ true
unfolding sqrt sqrt_units
plus_sqrt nan h = h
plus_sqrt (inf true) h = h
plus_sqrt (inf false) h = refl
plus_sqrt (fin s zero e) h = h
plus_sqrt (fin true (suc m) e) h = absurd (false≢true h)
plus_sqrt (fin false (suc m) e) h = plus_units _ _

-- such a number is above 0 exactly where it is no zero
plus_above : (x : Float) → plus x ≡ true → lt plus_zero x ≡ not (eq x plus_zero)
plus_above nan h = absurd (false≢true h)
plus_above (inf true) h = absurd (false≢true h)
plus_above (inf false) h = rw plus_zero_is (unfold lt eq in refl)
plus_above (fin true m e) h = absurd (false≢true h)
plus_above (fin false zero e) h = rw (eq_is_zero, plus_zero_is) (lt_zero_fin_l false false (pos 0) e 0)
plus_above (fin false (suc m) e) h = rw (eq_is_zero, plus_zero_is) (lt_zero_fin_l false false (pos 0) e (suc m) ∙ leb-suc-suc 0 m ∙ leb-zero m)

-- ---- vectors of finite numbers
pub record FiniteVec3 (v : Vec3) : Type 0 where
  pub x : is_finite v.x ≡ true
  pub y : is_finite v.y ≡ true
  pub z : is_finite v.z ≡ true

plus_norm : (v : Vec3) → FiniteVec3 v → plus (norm v) ≡ true
unfolding norm norm_squared dot
plus_norm v h = plus_sqrt _ (plus_add _ _ (plus_add _ _ (plus_square v.x h.x) (plus_square v.y h.y)) (plus_square v.z h.z))

-- a norm that is not above 0 is 0
normalized_by : (v : Vec3) → FiniteVec3 v → normalized v ≡ cond (norm_is_zero v) None (Some (div_vec3 v (norm v)))
unfolding normalized
normalized_by v h = rw (plus_above (norm v) (plus_norm v h)) (turned (norm_is_zero v))
  where
    turned : (b : Bool) → cond (not b) (Some (div_vec3 v (norm v))) None ≡ cond b None (Some (div_vec3 v (norm v)))
    turned true = refl
    turned false = refl

-- ---- what a call asks
-- no refusal
abbrev pub Asks : Request → Type 0
Asks (refusal n) = ⊥
Asks (propagation u dt q) = Unit
Asks (measurement w m noise alpha) = Unit
Asks estimate = Unit

-- by whether the call has a null vector: to be refused for it, or no refusal
abbrev pub AsksBy : Bool → Request → Type 0
AsksBy true r = r ≡ refusal null_refusal
AsksBy false r = Asks r

by_units : (a b : Bool) (x : Symmetry) (u o : Vec3) (noise : List Float) (alpha : Float)
    → AsksBy (a || b) (direction_request (measured_units x (cond a None (Some u)) (cond b None (Some o))) noise alpha)
by_units true true x u o noise alpha = refl
by_units true false x u o noise alpha = refl
by_units false true x u o noise alpha = refl
by_units false false x u o noise alpha = tt

direction_asks : (x : Symmetry) (measured north : Vec3) (noise : List Float) (alpha : Float) → FiniteVec3 measured → FiniteVec3 north
    → AsksBy (norm_is_zero measured || norm_is_zero north) (direction_request (measured_direction x measured north) noise alpha)
unfolding measured_direction
direction_asks x measured north noise alpha h k =
    rw (normalized_by measured h, normalized_by north k) (by_units (norm_is_zero measured) (norm_is_zero north) x _ _ noise alpha)

pub call_asks : (kind : Kind) (run v : List Float) → length v ≡ call_length kind → all_finite v ≡ true → AsksBy (has_null kind v) (request_of kind run v)
call_asks Propagate run v l h = tt
call_asks Position run v l h = tt
call_asks Velocity run v l h = tt
call_asks Direction run v l h = direction_asks (from_run run).x _ _ _ _ (vector 0 (lit< tt)) (vector 3 (lit< tt))
  where
    vector : (i : ℕ) → i + 2 < 15 → FiniteVec3 (vec3_at v i)
    vector i I = record { x = finite_at v i h (rw l (omega arith)); y = finite_at v (i + 1) h (rw l (omega arith)); z = finite_at v (i + 2) h (rw l I) }
call_asks General run v l h = tt
call_asks State run v l h = tt
call_asks Scalar run v l h = tt
