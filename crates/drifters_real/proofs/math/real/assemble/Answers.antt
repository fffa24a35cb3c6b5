-- `math::real::assemble` meets its contract.
use Rattle.std.proofs.Common.{ℕ, ◌+◌, ◌*◌, ◌%◌, ◌^◌, ◌<◌, arith}
use Rattle.drifters_real.proofs.Real.SquareRoot.{parity_high, nearest_root_high}
use Rattle.drifters_real.proofs.math.real.assemble.Goals as goal

parity : (k : ℕ) → k % 2 < 2
parity k = omega arith

pub overflow_add-result : goal.overflow_add-result
overflow_add-result c =
    let m = (1 + c.args.k % 2) * c.args.a * 2 ^ 52 in
    let h : m < 2 ^ 106 = omega (arith, parity_high (c.args.k % 2) c.args.a (parity c.args.k)) in
    omega (arith, nearest_root_high m h, c.rounded.ensures)
