-- `series::Blocks::series` meets its contract.
use Rattle.drifters_adjoint.specs.Series.{blocks_term, blocks_series}
use Rattle.drifters_adjoint.proofs.SeriesLaws.Loop.{Added}
use Rattle.drifters_adjoint.proofs.series.Blocks.series.Given as goal

abbrev pub invariant-loop-k : goal.invariant-loop-k
invariant-loop-k l = Added (blocks_term l.m.columns.data) (blocks_series l.m.columns.data) l.k l.term.columns.data l.psi.columns.data
