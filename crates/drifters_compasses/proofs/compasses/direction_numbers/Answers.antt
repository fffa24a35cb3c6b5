-- `compasses::direction_numbers` meets its contract.
use mathlib.Core.Path.{refl}
use native.Mathlib.Omega.{arith}
use Rattle.drifters_matrix.specs.Matrix.{zeros}
use Rattle.drifters_entry.proofs.Parts.{begins_none, begins_next, begins_all}
use Rattle.drifters_compasses.proofs.compasses.direction_numbers.Goals as goal

pub returns : goal.returns
returns c =
    let b1 = begins_next {m = 15} 3 (begins_none (zeros 15) refl) c.copy_from_slice.auto.self c.copy_from_slice.ensures.after (omega arith) in
    begins_all (begins_next 12 b1 c.copy_from_slice-2.auto.self c.copy_from_slice-2.ensures.after (omega arith))
