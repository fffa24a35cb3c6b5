-- `layout::to_run` meets its contract.
use mathlib.Core.Path.{◌∙◌}
use mathlib.Core.List.{◌++◌}
use native.Mathlib.Omega.{arith}
use Rattle.drifters_core.specs.Vec3.{to_array}
use Rattle.drifters_lie.specs.Lie.{to_array_se3}
use Rattle.drifters_entry.specs.Layout.{pose_numbers, to_run, state_to_run}
use Rattle.drifters_entry.proofs.Parts.{begins_none, begins_next, begins_all}
use Rattle.drifters_entry.proofs.layout.to_run.Goals as goal

-- v is written out to keep the term small
pub returns : goal.returns
unfolding to_run state_to_run
returns c =
    let x = c.args.filter.now.x in
    let b0 = begins_none c.args.run.now c.told-run in
    let b1 = begins_next {v = pose_numbers x.c ++ to_array_se3 x.gamma ++ to_array x.delta ++ x.e.«data»} 33 b0 c.copy_from_slice.auto.self (c.copy_from_slice.ensures.after ∙ rw c.state_of.ensures at c.state_numbers-numbers.ensures) (omega arith) in
    let b2 = begins_next 441 b1 c.store.auto.out c.store.ensures (omega arith) in
    let b3 = begins_next 3 b2 c.copy_from_slice-2.auto.self (c.copy_from_slice-2.ensures.after ∙ c.to_array.ensures) (omega arith) in
    begins_all (begins_next 3 b3 c.copy_from_slice-3.auto.self c.copy_from_slice-3.ensures.after (omega arith))
