-- `layout::alphas_of` meets its contract.
use mathlib.Core.Path.{◌∙◌}
use native.Mathlib.Omega.{arith}
use lib.ListN.{length-drop}
use lib.Seq.{take_all}
use Rattle.drifters_entry.specs.Layout.{alpha_place, alphas_of}
use Rattle.drifters_entry.proofs.RoundTrips.{part_vec3}
use Rattle.drifters_entry.proofs.layout.alphas_of.Goals as goal

pub returns : goal.returns
returns c =
    let run = c.args.run.now in
    part_vec3 run alpha_place (omega (arith, c.told-run)) ∙ take_all 3 (alphas_of run) (simp length-drop (omega (arith, c.told-run)))
