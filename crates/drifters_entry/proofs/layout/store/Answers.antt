-- `layout::store` meets its contract.
use mathlib.Core.Path.{refl, sym, ◌∙◌}
use native.Mathlib.Omega.{arith}
use Rattle.drifters_matrix.proofs.Matrix.Tab.{tab_get_d}
use Rattle.drifters_matrix.proofs.Matrix.Elements.{mapped_none, mapped_set, mapped_done}
use Rattle.drifters_entry.proofs.layout.store.Goals as goal

pub loop-k-init : goal.loop-k-init
loop-k-init c = mapped_none refl

pub loop-k-preserved : goal.loop-k-preserved
loop-k-preserved c = mapped_set c.loop-k.invariant (omega arith)

pub returns : goal.returns
returns c = mapped_done c.loop-k.invariant (omega arith) ∙ rw c.requires (sym (tab_get_d _))
