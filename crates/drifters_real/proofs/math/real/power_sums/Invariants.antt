-- `math::real::power_sums` meets its contract. The invariant of its loop is `SumsSoFar`.
use Rattle.drifters_real.specs.Limbs.{value}
use Rattle.drifters_real.proofs.Real.SumLoop.{SumsSoFar}
use Rattle.drifters_real.proofs.math.real.power_sums.Given as goal

abbrev pub invariant-loop-i : goal.invariant-loop-i
invariant-loop-i l = SumsSoFar (value l.x) l.w l.sp l.sn l.cp l.cn l.i
