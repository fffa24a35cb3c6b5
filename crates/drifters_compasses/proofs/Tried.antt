-- How many readings are tried: `TriedBounds`. Assumes nothing.
use native.Mathlib.Omega.{arith}
use Rattle.drifters_compasses.specs.Compasses.{tried, TriedBounds}

pub tried_bounds : TriedBounds
unfolding tried
tried_bounds = record {
  budget = λ budget count. omega arith;
  count = λ budget count. omega arith;
  half = λ budget count. omega arith;
}
