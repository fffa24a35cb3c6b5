-- `math::runs::diagonal_into` meets its contract.
use Rattle.drifters_matrix.specs.Matrix.{at}
use Rattle.drifters_matrix.proofs.Matrix.Elements.{Mapped}
use Rattle.drifters_matrix.proofs.math.runs.diagonal_into.Given as goal

abbrev pub invariant-loop-i : goal.invariant-loop-i
invariant-loop-i l = Mapped l.n (λ j x. at l.n l.m j j) l.initial.out l.i l.out
