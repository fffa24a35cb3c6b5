-- `math::real::sin_cos` meets its contract.
use Rattle.std.proofs.Common.{◌≡◌, ℕ, ◌+◌, ◌*◌, ◌^◌, ◌≤◌, true, false, T, sym, ap, ◌∙◌, subst, le_trans, lit≤}
use lib.Ieee.{Float, binary64, mul, of_bits}
use Rattle.drifters_real.specs.Real.{angle, square, sinc_of_square, cos_of_square, in_range, sin, cos, sin_cos}
use Rattle.drifters_real.specs.Limbs.{square_limit}
use Rattle.drifters_real.proofs.Real.SquareRoot.{nan_made}
use Rattle.drifters_real.proofs.Real.Angle.{limit, Truncated, truncated, in_both, sin_in, cos_in, sin_out, cos_out, out_high, out_low, square_limit_lem, sinc_is, cosine_is}
use Rattle.drifters_real.proofs.math.real.sin_cos.Goals as goal
use Rattle.drifters_real.proofs.math.real.sin_cos.Goals.{then-theta+else-theta-2, else-theta}

-- where both tests pass the angle is in range
within : (c : goal.Then-theta-2) → in_range c.args.theta ≡ true
within c = in_both c.args.theta c.if-theta.true c.if-theta-2.true

k : (c : goal.Then-theta-2) → Truncated limit c.args.theta (mul binary64 c.args.theta (of_bits binary64 0x43b0_0000_0000_0000))
k c = truncated c.args.theta (subst T (sym c.well_formed.0.1) tt) (subst T (sym (within c)) tt)

-- what was cut is the angle
t-is : (c : goal.After-truncating_f64_to_u64-t) → c.truncating_f64_to_u64-t.result ≡ angle c.args.theta
t-is c = c.truncating_f64_to_u64-t.ensures ∙ (k c.before).is

pub truncating_f64_to_u64-t-requires : goal.truncating_f64_to_u64-t-requires
truncating_f64_to_u64-t-requires c = record { lower_bound = (k c).above; upper_bound = (k c).below }

pub squared-requires : goal.squared-requires
squared-requires c = subst (λ (t : ℕ). t ≤ 2 ^ 63) (sym (t-is c)) (le_trans (k c.before).most (lit≤ tt))

-- what was squared
x-is : (c : goal.After-squared) → c.squared.result.h * 2 ^ 32 + c.squared.result.l ≡ square (angle c.args.theta)
x-is c = c.squared.ensures.is ∙ ap square (t-is c.before)

pub power_sums-s-requires : goal.power_sums-s-requires
power_sums-s-requires c =
    (subst (λ (x : ℕ). x ≤ square_limit) (sym (x-is c)) (square_limit_lem (angle c.args.theta) (k c.before.before).most), c.squared.ensures.digits)

both : (x : Float) (s c : Float) → s ≡ sin x → c ≡ cos x → record { sin = s; cos = c } ≡ sin_cos x
both x s c a b = λ i. record { sin = a i; cos = b i }

pub returns-then-theta-2 : goal.returns-then-theta-2
returns-then-theta-2 c =
    let d = c.before in
    let s = d.before in
    let q = s.before in
    let th = q.before.before in
    let x = th.args.theta in
    let X = q.squared.result.h * 2 ^ 32 + q.squared.result.l in
    both x _ _
    (ap (mul binary64 x) (d.difference.ensures ∙ sinc_is X s.power_sums-s.result.sp s.power_sums-s.result.sn s.power_sums-s.ensures.sin_plus s.power_sums-s.ensures.sin_minus ∙ ap sinc_of_square (x-is q)) ∙ sym (sin_in x (within th)))
    (c.difference-then-theta-2.ensures ∙ cosine_is X s.power_sums-s.result.cp s.power_sums-s.result.cn s.power_sums-s.ensures.cos_plus s.power_sums-s.ensures.cos_minus ∙ ap cos_of_square (x-is q) ∙ sym (cos_in x (within th)))

pub returns : goal.returns
returns c =
    let out : in_range c.args.theta ≡ false = elim c.if-theta.branch [
      | then-theta+else-theta-2 w ↦ out_high c.args.theta w.if-theta-2.false
      | else-theta w ↦ out_low c.args.theta w.if-theta.false
    ] in
    both c.args.theta _ _ (nan_made ∙ sym (sin_out c.args.theta out)) (nan_made ∙ sym (cos_out c.args.theta out))
