-- `series::sum_series` meets its contract.
use Rattle.drifters_adjoint.proofs.SeriesLaws.Blocks.{series_whole}
use Rattle.drifters_adjoint.proofs.series.sum_series.Goals as goal

-- by blocks
pub returns-then-is_finite : goal.returns-then-is_finite
returns-then-is_finite c =
    series_whole c.args.w c.ad-m.ensures c.series-psi.ensures c.is_finite.ensures c.is_finite-2.ensures c.if-is_finite.true c.whole.ensures
