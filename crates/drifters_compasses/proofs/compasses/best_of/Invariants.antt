-- `compasses::best_of` meets its contract.
use Prim.Native.Nat.{ℕ, ◌-◌, ◌≤◌}
use mathlib.Core.Path.{◌≡◌}
use mathlib.Core.List.{List}
use lib.ListN.{length}
use lib.Ieee.{Float}
use Rattle.std.specs.Prelude.{Option}
use Rattle.drifters_compasses.specs.Compasses.{best_of}
use Rattle.drifters_compasses.specs.Kept.{best_try, attempt_of}
use Rattle.drifters_compasses.specs.declared.compasses.Best.{Best}
use Rattle.drifters_compasses.proofs.compasses.best_of.Given as goal

-- the best of the first i is kept, with the filter that it left
pub record Kept (run : List Float) (readings : List (List Float)) (north_noise left : List Float) (b : Option Best) (i : ℕ) : Type 0 where
  pub within : i ≤ length readings
  pub is : best_try b left ≡ best_of (attempt_of run readings north_noise) i

abbrev pub invariant-loop-i : goal.invariant-loop-i
invariant-loop-i l = Kept l.run l.readings l.north_noise l.left l.best l.i

abbrev pub decreases-loop-i : goal.decreases-loop-i
decreases-loop-i l = length l.readings - l.i
