-- `math::real::root27` meets its contract. The invariant of its loop: a is below the square of r + 1, and r is below 2 ^ 27. The measure is r.
use Rattle.std.proofs.Common.{ℕ, ◌+◌, ◌*◌, ◌^◌, ◌<◌}
use Rattle.drifters_real.proofs.math.real.root27.Given as goal

abbrev pub Near : ℕ → ℕ → Type 0
Near a r = (a < (r + 1) * (r + 1)) × (r < 2 ^ 27)

abbrev pub invariant-loop-r : goal.invariant-loop-r
invariant-loop-r l = Near l.a l.r

abbrev pub decreases-loop-r : goal.decreases-loop-r
decreases-loop-r l = l.r
