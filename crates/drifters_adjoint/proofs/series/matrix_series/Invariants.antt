-- `series::matrix_series` meets its contract.
use Rattle.drifters_adjoint.specs.Adjoint.{series_term, series}
use Rattle.drifters_adjoint.proofs.SeriesLaws.Loop.{Added}
use Rattle.drifters_adjoint.proofs.series.matrix_series.Given as goal

abbrev pub invariant-loop-k : goal.invariant-loop-k
invariant-loop-k l = Added (series_term l.m.data) (series l.m.data) l.k l.term.data l.psi.data
