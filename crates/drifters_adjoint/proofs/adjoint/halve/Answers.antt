-- `adjoint::halve` meets its contract: after n halvings, those still to make of w lead to the same count and the same element.
use mathlib.Core.Path.{◌≡◌, refl, sym, ap, ◌∙◌}
use mathlib.Core.Bool.{true, false}
use Prim.Native.Nat.{ℕ, zero, suc, ◌+◌, ◌-◌, ◌<◌}
use native.Mathlib.Omega.{arith}
use lib.Ieee.{Float, lt}
use Rattle.drifters_real.specs.Scalar.{half}
use Rattle.drifters_real.specs.Real.{max}
use Rattle.drifters_core.specs.Vec3.{amax_vec3}
use Rattle.drifters_lie.specs.Lie.{scaled_se3}
use Rattle.drifters_adjoint.specs.Adjoint.{sixteenth, halvings, halved, most_halvings}
use Rattle.drifters_lie.specs.declared.lie.Se3Tangent.{Se3Tangent}
use Rattle.drifters_adjoint.proofs.adjoint.halve.Invariants.{Halving}
use Rattle.drifters_adjoint.proofs.adjoint.halve.Goals as goal

-- the larger `amax` of the two parts
abbrev size : Se3Tangent → Float
size w = max (amax_vec3 w.omega) (amax_vec3 w.nu)

-- the larger of what the two calls of `amax` answer
size_is : (w : Se3Tangent) {p q r : Float} → p ≡ amax_vec3 w.omega → q ≡ amax_vec3 w.nu → r ≡ max p q → size w ≡ r
size_is w a b e = sym (e ∙ (λ i. max (a i) (b i)))

-- one halving more, where the larger `amax` is above 0.0625
halvings-more : (n : ℕ) (w : Se3Tangent) → lt sixteenth (size w) ≡ true → halvings (suc n) w ≡ suc (halvings n (scaled_se3 w half))
unfolding halvings
halvings-more n w e = rw e

-- none, where it is not
halvings-none : (n : ℕ) (w : Se3Tangent) → lt sixteenth (size w) ≡ false → halvings n w ≡ 0
unfolding halvings
halvings-none zero w e = refl
halvings-none (suc n) w e = rw e

-- none, where none are allowed
halvings-zero : (w : Se3Tangent) → halvings 0 w ≡ 0
unfolding halvings
halvings-zero w = refl

-- no halving, and one before the others
halved-zero : (w : Se3Tangent) → halved 0 w ≡ w
unfolding halved
halved-zero w = refl

halved-more : (n : ℕ) (w : Se3Tangent) → halved (suc n) w ≡ halved n (scaled_se3 w half)
unfolding halved
halved-more n w = refl

-- one made
next : {most n : ℕ} {v w w' : Se3Tangent} → Halving most v n w → n < most → lt sixteenth (size w) ≡ true → w' ≡ scaled_se3 w half → Halving most v (n + 1) w'
next {most} {n} {v} {w} {w'} h b e z =
    let left : most - n ≡ suc (most - (n + 1)) = omega arith in
    let more : halvings (most - n) w ≡ suc (halvings (most - (n + 1)) w') = rw (left, z) (halvings-more (most - (n + 1)) w e) in
    record { bound = omega arith; count = omega (arith, h.count, more); value = h.value ∙ rw (more, z) (halved-more _ w) }

-- none left: the count and the element are those of the contract
done : {most n : ℕ} {v w : Se3Tangent} → Halving most v n w → halvings (most - n) w ≡ 0 → (n ≡ halvings most v) × (w ≡ halved (halvings most v) v)
done {most} {n} {v} {w} h e = (omega (arith, h.count, e), sym (h.value ∙ rw e (halved-zero w)))

pub loop-n-preserved : goal.loop-n-preserved
loop-n-preserved c =
    let above = ap (lt sixteenth) (size_is c.loop-n.w c.amax.ensures c.amax-in-loop-n.ensures c.max.ensures) ∙ c.if-not-max.false in
    next c.loop-n.invariant (omega arith) above c.scaled-w.ensures

pub returns-then-not-max : goal.returns-then-not-max
returns-then-not-max c =
    let below = ap (lt sixteenth) (size_is c.loop-n.w c.amax.ensures c.amax-in-loop-n.ensures c.max.ensures) ∙ c.if-not-max.true in
    done c.loop-n.invariant (halvings-none _ c.loop-n.w below)

pub returns : goal.returns
returns c =
    let all : c.loop-n.n ≡ most_halvings = omega arith in
    done (rw all at c.loop-n.invariant) (halvings-zero c.loop-n.w)
