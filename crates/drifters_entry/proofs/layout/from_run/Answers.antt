-- `layout::from_run` meets its contract.
use Rattle.drifters_entry.specs.Layout.{from_run}
use Rattle.drifters_entry.proofs.layout.from_run.Goals as goal

pub returns : goal.returns
unfolding from_run
returns c =
    λ i. record {
      x = c.symmetry_from_run.ensures i;
      sigma = record { «data» = c.matrix_at.ensures i };
      gravity = c.vec3_at.ensures i;
    }
