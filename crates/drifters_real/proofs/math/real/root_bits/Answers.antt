-- `math::real::root_bits` meets its contract.
use Rattle.std.proofs.Common.{◌≡◌, ℕ, ◌+◌, ◌-◌, ◌*◌, ◌/◌, ◌%◌, ◌^◌, sym, ap, ◌∙◌, subst, lt_of_lt_of_le, mod-eq_of_lt, pos_of_ne-zero, arith, lit≤}
use lib.Count.{count_leading_zeros}
use Rattle.drifters_real.specs.Limbs.{IsRootPattern, nearest_root}
use Rattle.drifters_real.proofs.Real.SquareRoot.{Shift, shift_is, root_pattern_normal, root_pattern_subnormal}
use Rattle.drifters_real.proofs.math.real.root_bits.Goals as goal

sh : (c : goal.Then-x-eq0) → Shift (c.args.b % 2 ^ 52) (count_leading_zeros 64 (c.args.b % 2 ^ 52))
sh c = shift_is (c.args.b % 2 ^ 52) (omega arith) (omega arith)

-- nothing is shifted out
whole : (c : goal.Then-x-eq0) → (c.args.b % 2 ^ 52 * 2 ^ (count_leading_zeros 64 (c.args.b % 2 ^ 52) - 11)) % 2 ^ 64 ≡ c.args.b % 2 ^ 52 * 2 ^ (count_leading_zeros 64 (c.args.b % 2 ^ 52) - 11)
whole c = mod-eq_of_lt (lt_of_lt_of_le (sh c).high (lit≤ tt))

pub overflow_sub-z : goal.overflow_sub-z
overflow_sub-z c = omega (arith, sh c)

pub assemble-requires : goal.assemble-requires
assemble-requires c = omega (arith, sh c, whole c)

pub returns-then-x-eq0 : goal.returns-then-x-eq0
returns-then-x-eq0 c =
    let b = c.args.b in
    let t = b % 2 ^ 52 in
    let L = count_leading_zeros 64 t in
    subst (λ (r : ℕ). IsRootPattern b r)
    (sym (c.assemble.ensures ∙ ap (λ (a : ℕ). (1074 - (L - 11) - 52) / 2 * 2 ^ 52 + nearest_root ((1 + (1074 - (L - 11)) % 2) * a * 2 ^ 52)) (whole c.before)))
    (root_pattern_subnormal b (L - 11) c.requires.0 c.if-x-eq0.true (omega (arith, sh c.before)) (sh c.before).low (sh c.before).high)

pub returns-else-x-eq0 : goal.returns-else-x-eq0
returns-else-x-eq0 c =
    let b = c.args.b in
    subst (λ (r : ℕ). IsRootPattern b r) (sym c.assemble-else-x-eq0.ensures) (root_pattern_normal b (pos_of_ne-zero c.if-x-eq0.false) c.requires.1)
