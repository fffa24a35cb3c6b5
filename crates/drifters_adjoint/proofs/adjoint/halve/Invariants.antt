-- `adjoint::halve` meets its contract: after n halvings, those still to make of w lead to the same count and the same element.
use mathlib.Core.Path.{◌≡◌}
use Prim.Native.Nat.{ℕ, ◌+◌, ◌-◌, ◌≤◌}
use Rattle.drifters_adjoint.specs.Adjoint.{halvings, halved, most_halvings}
use Rattle.drifters_lie.specs.declared.lie.Se3Tangent.{Se3Tangent}
use Rattle.drifters_adjoint.proofs.adjoint.halve.Given as goal

-- after n halvings of v, at most `most` in all, w is left to halve
pub record Halving (most : ℕ) (v : Se3Tangent) (n : ℕ) (w : Se3Tangent) : Type 0 where
  pub bound : n ≤ most
  pub count : halvings most v ≡ n + halvings (most - n) w
  pub value : halved (halvings most v) v ≡ halved (halvings (most - n) w) w

abbrev pub invariant-loop-n : goal.invariant-loop-n
invariant-loop-n l = Halving most_halvings l.initial.w l.n l.w
