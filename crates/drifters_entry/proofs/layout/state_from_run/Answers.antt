-- `layout::state_from_run` meets its contract.
use mathlib.Core.Path.{◌∙◌}
use Rattle.drifters_entry.specs.Layout.{from_run, state_from_run}
use Rattle.drifters_entry.proofs.layout.state_from_run.Goals as goal

pub returns : goal.returns
unfolding from_run state_from_run
returns c =
    let x = c.symmetry_from_run.ensures in
    c.state_of.ensures ∙ (λ i. record { pose = (x i).c; bias = (x i).gamma; lever = (x i).delta; mag = (x i).e })
