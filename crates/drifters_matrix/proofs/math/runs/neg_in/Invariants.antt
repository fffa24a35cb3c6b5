-- `math::runs::neg_in` meets its contract.
use lib.Ieee.{neg}
use lib.ListN.{length}
use Rattle.drifters_matrix.proofs.Matrix.Elements.{Mapped}
use Rattle.drifters_matrix.proofs.math.runs.neg_in.Given as goal

abbrev pub invariant-loop-x : goal.invariant-loop-x
invariant-loop-x l = Mapped (length l.initial.m) (λ j x. neg x) l.initial.m l.x-index l.m
