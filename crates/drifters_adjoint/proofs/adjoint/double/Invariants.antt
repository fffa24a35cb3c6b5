-- `adjoint::double` meets its contract: after i doublings, those still to make of v and out lead to the same matrix.
use mathlib.Core.Path.{◌≡◌}
use mathlib.Core.List.{List}
use Prim.Native.Nat.{ℕ, ◌-◌, ◌≤◌}
use lib.Ieee.{Float}
use Rattle.drifters_adjoint.specs.Adjoint.{doubled}
use Rattle.drifters_lie.specs.declared.lie.Se3Tangent.{Se3Tangent}
use Rattle.drifters_adjoint.proofs.adjoint.double.Given as goal

-- after i of the n doublings of w and psi, v and out are left to double
pub record Doubling (n : ℕ) (w : Se3Tangent) (psi : List Float) (i : ℕ) (v : Se3Tangent) (out : List Float) : Type 0 where
  pub bound : i ≤ n
  pub value : doubled n w psi ≡ doubled (n - i) v out

abbrev pub invariant-loop : goal.invariant-loop
invariant-loop l = Doubling l.fn.h.halvings l.initial.v l.initial.out.data l.counter l.v l.out.data
