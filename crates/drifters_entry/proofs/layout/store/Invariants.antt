-- `layout::store` meets its contract.
use lib.Ieee.{nan}
use lib.ListN.{length, get_or}
use Rattle.drifters_matrix.proofs.Matrix.Elements.{Mapped}
use Rattle.drifters_entry.proofs.layout.store.Given as goal

abbrev pub invariant-loop-k : goal.invariant-loop-k
invariant-loop-k l = Mapped (length l.initial.out) (λ j x. get_or l.m j nan) l.initial.out l.k l.out
