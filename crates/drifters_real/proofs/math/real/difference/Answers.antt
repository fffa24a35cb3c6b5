-- `math::real::difference` meets its contract.
use Rattle.std.proofs.Common.{◌-◌, sym, ap, ◌∙◌, lt_of_le_of_lt, sub-le}
use lib.Ieee.{Float, binary64, neg, mul, of_bits}
use Rattle.drifters_real.proofs.Real.Rounding.{float_54}
use Rattle.drifters_real.proofs.Real.Error.{difference_plus, difference_minus}
use Rattle.drifters_real.proofs.math.real.difference.Goals as goal

pub returns-then-n-p : goal.returns-then-n-p
returns-then-n-p c =
    let s = c.before.before in
    let p = s.args.p in
    let n = s.args.n in
    ap (λ (y : Float). mul binary64 y (of_bits binary64 0x3c90_0000_0000_0000)) c.nearest_u64_to_f64.ensures
    ∙ float_54 (p - n) (lt_of_le_of_lt (sub-le p n) s.ranges.p.fits)
    ∙ sym (difference_plus p n c.if-n-p.true)

pub returns-else-n-p : goal.returns-else-n-p
returns-else-n-p c =
    let s = c.before.before in
    let p = s.args.p in
    let n = s.args.n in
    ap (λ (y : Float). neg (mul binary64 y (of_bits binary64 0x3c90_0000_0000_0000))) c.nearest_u64_to_f64-else-n-p.ensures
    ∙ ap neg (float_54 (n - p) (lt_of_le_of_lt (sub-le n p) s.ranges.n.fits))
    ∙ sym (difference_minus p n c.if-n-p.false)
