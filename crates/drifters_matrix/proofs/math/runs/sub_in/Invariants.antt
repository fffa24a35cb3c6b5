-- `math::runs::sub_in` meets its contract.
use lib.Ieee.{nan}
use lib.ListN.{length, get_or}
use Rattle.drifters_real.specs.Scalar.{◌⊖◌}
use Rattle.drifters_matrix.proofs.Matrix.Elements.{Mapped}
use Rattle.drifters_matrix.proofs.math.runs.sub_in.Given as goal

abbrev pub invariant-loop-k : goal.invariant-loop-k
invariant-loop-k l = Mapped (length l.initial.m) (λ j x. x ⊖ get_or l.b j nan) l.initial.m l.k l.m
