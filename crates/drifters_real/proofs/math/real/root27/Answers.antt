-- `math::real::root27` meets its contract. The invariant of its loop: a is below the square of r + 1, and r is below 2 ^ 27.
use Rattle.std.proofs.Common.{ℕ, ◌+◌, ◌/◌, ◌^◌, ◌<◌, lt_trans, arith, pow_pos}
use Rattle.drifters_real.proofs.Real.Newton.{newton_above, newton_below, sq_pos}
use Rattle.drifters_real.proofs.math.real.root27.Goals as goal

first-lt : (a : ℕ) → a < 2 ^ 54 → (0x800_0000 + a / 2 ^ 27) / 2 < 2 ^ 27
first-lt a h = omega arith

pub loop-r-init : goal.loop-r-init
loop-r-init c = (newton_above c.args.a (2 ^ 27) (pow_pos 27), first-lt c.args.a c.requires.1)

pub loop-r-preserved : goal.loop-r-preserved
loop-r-preserved c =
    let a = c.args.a in
    let r = c.loop-r.r in
    (newton_above a r (sq_pos a r c.loop-r-test.true), lt_trans (newton_below a r c.loop-r-test.true) c.loop-r.invariant.1)
