-- `layout::symmetry_from_run` meets its contract.
use Rattle.drifters_entry.specs.Layout.{from_run}
use Rattle.drifters_entry.proofs.layout.symmetry_from_run.Goals as goal

pub returns : goal.returns
unfolding from_run
returns c =
    λ i. record {
      c = record { rotation = record { «data» = c.matrix_at.ensures i }; velocity = c.vec3_at.ensures i; position = c.vec3_at-2.ensures i };
      gamma = record { omega = c.vec3_at-3.ensures i; nu = c.vec3_at-4.ensures i };
      delta = c.vec3_at-5.ensures i;
      e = record { «data» = c.matrix_at-2.ensures i };
    }
