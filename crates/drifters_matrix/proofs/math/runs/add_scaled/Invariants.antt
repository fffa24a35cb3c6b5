-- `math::runs::add_scaled` meets its contract.
use Prim.Native.Nat.{◌+◌, ◌-◌}
use lib.Ieee.{nan}
use lib.ListN.{length, get_or}
use Rattle.drifters_real.specs.Scalar.{◌⊕◌, ◌⊗◌}
use Rattle.drifters_matrix.proofs.Matrix.Elements.{Mapped}
use Rattle.drifters_matrix.proofs.math.runs.add_scaled.Given as goal

abbrev pub invariant-loop-j : goal.invariant-loop-j
invariant-loop-j l = Mapped (length l.initial.row) (λ i y. y ⊕ l.x ⊗ get_or l.b (l.s + i) nan) l.initial.row l.j l.row

abbrev pub decreases-loop-j : goal.decreases-loop-j
decreases-loop-j l = length l.initial.row - l.j
