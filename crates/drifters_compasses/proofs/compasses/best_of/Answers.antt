-- `compasses::best_of` meets its contract.
use mathlib.Core.Path.{refl, ◌∙◌}
use native.Mathlib.Omega.{arith}
use Rattle.drifters_compasses.specs.Compasses.{best_of}
use Rattle.drifters_compasses.proofs.Tries.{best_next}
use Rattle.drifters_compasses.proofs.compasses.best_of.Goals as goal

pub loop-i-init : goal.loop-i-init
unfolding best_of
loop-i-init c = record { within = omega arith; is = refl }

pub loop-i-preserved : goal.loop-i-preserved
loop-i-preserved c =
    record {
      within = omega arith;
      is = c.try_reading-best.ensures ∙ best_next _ c.loop-i.i c.loop-i.invariant.is;
    }
