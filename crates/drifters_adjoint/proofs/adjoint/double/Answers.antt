-- `adjoint::double` meets its contract: after i doublings, those still to make of v and out lead to the same matrix.
use mathlib.Core.Path.{◌≡◌, refl, sym, ap, ◌∙◌}
use mathlib.Core.List.{List}
use Prim.Native.Nat.{ℕ, suc, ◌+◌, ◌-◌, ◌≤◌, ◌<◌}
use native.Mathlib.Omega.{arith}
use lib.Ieee.{Float}
use Rattle.drifters_real.specs.Scalar.{two, half}
use Rattle.drifters_matrix.specs.Matrix.{matmul, scaled, identity, add_matrix}
use Rattle.drifters_lie.specs.Lie.{scaled_se3, adjoint_se3, exp_se3}
use Rattle.drifters_adjoint.specs.Adjoint.{doubled}
use Rattle.drifters_lie.specs.declared.lie.Se3Tangent.{Se3Tangent}
use Rattle.drifters_adjoint.proofs.adjoint.double.Invariants.{Doubling}
use Rattle.drifters_adjoint.proofs.adjoint.double.Goals as goal

-- one doubling of psi, over w
abbrev doubled_once : Se3Tangent → List Float → List Float
doubled_once w psi = scaled 36 (matmul 6 6 6 (add_matrix 36 (identity 6) (adjoint_se3 (exp_se3 w))) psi) half

-- one doubling before the others, and none
doubled-more : (n : ℕ) (w : Se3Tangent) (psi : List Float) → doubled (suc n) w psi ≡ doubled n (scaled_se3 w two) (doubled_once w psi)
unfolding doubled
doubled-more n w psi = refl

doubled-zero : (w : Se3Tangent) (psi : List Float) → doubled 0 w psi ≡ psi
unfolding doubled
doubled-zero w psi = refl

-- one made
next : {n i : ℕ} {w v v' : Se3Tangent} {psi out out' : List Float} → Doubling n w psi i v out → i < n → v' ≡ scaled_se3 v two → out' ≡ doubled_once v out →
    Doubling n w psi (i + 1) v' out'
next {n} {i} {w} {v} {v'} {psi} {out} {out'} h b e z =
    let left : n - i ≡ suc (n - (i + 1)) = omega arith in
    record { bound = omega arith; value = h.value ∙ rw (left, e, z) (doubled-more (n - (i + 1)) v out) }

-- all made
done : {n i : ℕ} {w v : Se3Tangent} {psi out : List Float} → Doubling n w psi i v out → n ≤ i → out ≡ doubled n w psi
done {n} {i} {w} {v} {psi} {out} h b =
    let none : n - i ≡ 0 = omega arith in
    sym (h.value ∙ rw none (doubled-zero v out))

pub loop-preserved : goal.loop-preserved
loop-preserved c =
    let a = c.adjoint.ensures ∙ ap adjoint_se3 c.exp.ensures in
    let s = c.add.ensures ∙ (λ i. add_matrix 36 (c.identity.ensures i) (a i)) in
    let p = c.matmul-step.ensures ∙ (λ i. matmul 6 6 6 (s i) c.loop.out.«data») in
    next c.loop.invariant (omega arith) c.scaled-v.ensures (c.scaled-out.ensures ∙ (λ i. scaled 36 (p i) half))

pub returns : goal.returns
returns c = done c.loop.invariant (omega arith)
