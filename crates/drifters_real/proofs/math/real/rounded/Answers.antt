-- `math::real::rounded` meets its contract.
use Rattle.drifters_real.proofs.Real.RootStep.{StepFacts, step_facts, is_next, is_same, is_same_below, is_before}
use Rattle.drifters_real.proofs.math.real.rounded.Goals as goal
use Rattle.drifters_real.proofs.math.real.rounded.Goals.{After-root27-s}

facts : (c : After-root27-s) → StepFacts c.args.a c.root27-s.result
facts c = step_facts c.args.a c.root27-s.result c.requires.0 c.requires.1 c.root27-s.ensures

pub returns-then-w-v : goal.returns-then-w-v
returns-then-w-v c = is_next c.args.a c.root27-s.result (facts c.before.before) c.if-uu-v.true c.if-w-v.true

pub returns-else-w-v : goal.returns-else-w-v
returns-else-w-v c = is_same c.args.a c.root27-s.result (facts c.before.before) c.if-uu-v.true c.if-w-v.false

pub returns-then-w-v-2 : goal.returns-then-w-v-2
returns-then-w-v-2 c = is_same_below c.args.a c.root27-s.result (facts c.before.before) c.if-uu-v.false c.if-w-v-2.true

pub returns-else-w-v-2 : goal.returns-else-w-v-2
returns-else-w-v-2 c = is_before c.args.a c.root27-s.result (facts c.before.before) c.if-uu-v.false c.if-w-v-2.false
