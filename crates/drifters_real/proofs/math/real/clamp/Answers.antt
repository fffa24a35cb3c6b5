-- `math::real::clamp` meets its contract.
use Rattle.std.proofs.Common.{◌≡◌, Bool, true, false, cond, sym, ap, ◌∙◌}
use lib.Ieee.{Float, lt}
use Rattle.drifters_real.specs.Real.{clamp}
use Rattle.drifters_real.proofs.math.real.clamp.Goals.{then-x-low, else-x-low}
use Rattle.drifters_real.proofs.math.real.clamp.Goals as goal

by_test : (x low high y : Float) (p : Bool) → y ≡ cond (lt x low) low x → lt high y ≡ p → cond p high y ≡ clamp x low high
unfolding clamp
by_test x low high y p e f = ap (λ (q : Bool). cond q high y) (sym f) ∙ ap (λ (z : Float). cond (lt high z) high z) e

pub returns-then-high-y : goal.returns-then-high-y
returns-then-high-y c = by_test _ _ _ _ true
    (elim c.if-x-low.branch [
      | then-x-low w ↦ w.y-is ∙ sym (ap (λ (p : Bool). cond p c.args.low c.args.x) w.if-x-low.true)
      | else-x-low w ↦ w.y-is ∙ sym (ap (λ (p : Bool). cond p c.args.low c.args.x) w.if-x-low.false)
    ])
    c.if-high-y.true

pub returns-else-high-y : goal.returns-else-high-y
returns-else-high-y c = by_test _ _ _ _ false
    (elim c.if-x-low.branch [
      | then-x-low w ↦ w.y-is ∙ sym (ap (λ (p : Bool). cond p c.args.low c.args.x) w.if-x-low.true)
      | else-x-low w ↦ w.y-is ∙ sym (ap (λ (p : Bool). cond p c.args.low c.args.x) w.if-x-low.false)
    ])
    c.if-high-y.false
