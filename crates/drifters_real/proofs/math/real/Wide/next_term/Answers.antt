-- `math::real::Wide::next_term` meets its contract.
use Rattle.std.proofs.Common.{ℕ, ◌/◌, ◌%◌, ◌^◌}
use Rattle.drifters_real.proofs.Real.LimbProducts.{Products, products, Sizes, sizes, v_fits, next_term_law}
use Rattle.drifters_real.proofs.math.real.Wide.next_term.Goals as goal

abbrev At : Type 0
At = goal.After-struct_known-4-1

-- a fact of the six digits
abbrev Digits : (ℕ → ℕ → ℕ → ℕ → ℕ → ℕ → Type 0) → At → Type 0
Digits P c =
    let s = c.args in
    P (s.self.h / 2 ^ 32) (s.self.h % 2 ^ 32) s.self.l (s.x.h / 2 ^ 32) (s.x.h % 2 ^ 32) s.x.l

p : (c : At) → Digits Products c
p c =
    let s = c.before.before.before.before in
    products s.args.self.h s.args.self.l s.args.x.h s.args.x.l s.requires.0 s.requires.1 s.requires.2 s.requires.3

f : (c : At) → Digits Sizes c
f c = sizes _ _ _ _ _ _ (p c)

pub overflow_add-v-4 : goal.overflow_add-v-4
overflow_add-v-4 c = v_fits _ _ _ _ _ _ (f c)

pub returns : goal.returns
returns c =
    let s = c.before.before.before.before in
    next_term_law s.args.self.h s.args.self.l s.args.x.h s.args.x.l s.args.d s.requires.4
