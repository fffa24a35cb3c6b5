-- `math::real::power_sums` meets its contract. The invariant of its loop is `SumsSoFar`.
use Rattle.std.proofs.Common.{ℕ, ◌+◌, ◌*◌, ◌/◌, ◌^◌, ◌<◌, ◌≤◌, refl, ap, ◌∙◌, inl, inr, one-mul, arith, lit≤}
use Rattle.drifters_real.specs.Real.{term}
use Rattle.drifters_real.specs.Limbs.{value, IsWide}
use Rattle.drifters_real.proofs.Real.SumLoop.{sp_term, sn_term, cp_term, cn_term, AllSummed, high_small, added, below_48, at_start, at_end, odd_term, even_term, Divisor, divisor}
use Rattle.drifters_real.proofs.math.real.power_sums.Goals as goal
use Rattle.drifters_real.proofs.math.real.power_sums.Goals.{else-loop-i-test, then-loop-i-test+then-w-eq0}

-- ---- in a pass
abbrev In : Type 0
In = goal.Else-w-eq0

abbrev X : In → ℕ
X a = value a.args.x

abbrev i : In → ℕ
i a = a.loop-i.i

-- a number that is a few more than four times i
few : (a : In) (n : ℕ) → n ≤ 5 → 4 * i a + n ≤ 65
few a n h = omega (arith, a.loop-i-test.true)

some : (a : In) (n : ℕ) → 0 < n → 0 < 4 * i a + n
some a n h = omega arith

w-high : (a : In) → a.loop-i.w.h ≤ 2 ^ 38
w-high a = high_small (X a) (2 * i a) a.loop-i.w a.requires.0 (omega (arith, a.loop-i-test.true)) a.loop-i.invariant.term_is

x-high : (a : In) → a.args.x.h < 2 ^ 39
x-high a = omega (arith, a.requires.0)

first : (a : In) → Divisor ((4 * i a + 2) * (4 * i a + 3))
first a = divisor (4 * i a + 2) (4 * i a + 3) (some a 2 (lit≤ tt)) (few a 2 (lit≤ tt)) (some a 3 (lit≤ tt)) (few a 3 (lit≤ tt))

second : (a : In) → Divisor ((4 * i a + 4) * (4 * i a + 5))
second a = divisor (4 * i a + 4) (4 * i a + 5) (some a 4 (lit≤ tt)) (few a 4 (lit≤ tt)) (some a 5 (lit≤ tt)) (few a 5 (lit≤ tt))

weight : (a : In) (n : ℕ) → n ≤ 3 → 4 * i a + n ≤ 64
weight a n h = omega (arith, a.loop-i-test.true)

-- after the first `next_term`
abbrev Stepped : Type 0
Stepped = goal.After-next_term-v

abbrev at : Stepped → In
at s = s.before

odd_is : (s : Stepped) → IsWide s.next_term-v.result (term (X (at s)) (2 * i (at s) + 1))
odd_is s = odd_term (X (at s)) (i (at s)) (at s).loop-i.w s.next_term-v.result (at s).loop-i.invariant.term_is s.next_term-v.ensures

odd-high : (s : Stepped) → s.next_term-v.result.h ≤ 2 ^ 38
odd-high s = high_small (X (at s)) (2 * i (at s) + 1) s.next_term-v.result (at s).requires.0 (omega (arith, (at s).loop-i-test.true)) (odd_is s)

-- ---- what the calls ask
pub loop-i-init : goal.loop-i-init
loop-i-init c = at_start (value c.args.x)

pub overflow_add-w : goal.overflow_add-w
overflow_add-w c = omega (arith, high_small (value c.args.x) (2 * c.loop-i.i) c.loop-i.w c.requires.0 (omega (arith, c.loop-i-test.true)) c.loop-i.invariant.term_is, c.loop-i.invariant.term_is.digits)

pub next_term-v-requires : goal.next_term-v-requires
next_term-v-requires c =
    let a = c in
    (omega (arith, w-high a), a.loop-i.invariant.term_is.digits, x-high a, a.requires.1, (first a).some, (first a).most)

pub add_times-sp-requires : goal.add_times-sp-requires
add_times-sp-requires c =
    let a = at c in
    let b = below_48 (i a) a.loop-i.sp _ a.loop-i.invariant.count a.loop-i.invariant.sin_plus in
    (b.0, b.1, lit≤ tt, w-high a, a.loop-i.invariant.term_is.digits)

pub add_times-cp-requires : goal.add_times-cp-requires
add_times-cp-requires c =
    let a = at c.before in
    let b = below_48 (i a) a.loop-i.cp _ a.loop-i.invariant.count a.loop-i.invariant.cos_plus in
    (b.0, b.1, weight a 1 (lit≤ tt), w-high a, a.loop-i.invariant.term_is.digits)

pub add_times-sn-requires : goal.add_times-sn-requires
add_times-sn-requires c =
    let s = c.before.before in
    let a = at s in
    let b = below_48 (i a) a.loop-i.sn _ a.loop-i.invariant.count a.loop-i.invariant.sin_minus in
    (b.0, b.1, lit≤ tt, odd-high s, (odd_is s).digits)

pub add_times-cn-requires : goal.add_times-cn-requires
add_times-cn-requires c =
    let s = c.before.before.before in
    let a = at s in
    let b = below_48 (i a) a.loop-i.cn _ a.loop-i.invariant.count a.loop-i.invariant.cos_minus in
    (b.0, b.1, weight a 3 (lit≤ tt), odd-high s, (odd_is s).digits)

pub next_term-w-requires : goal.next_term-w-requires
next_term-w-requires c =
    let s = c.before.before.before.before in
    let a = at s in
    (omega (arith, odd-high s), (odd_is s).digits, x-high a, a.requires.1, (second a).some, (second a).most)

-- ---- the pass ends
pub loop-i-preserved : goal.loop-i-preserved
loop-i-preserved c =
    let s = c.before.before.before.before.before in
    let a = at s in
    let x = X a in
    let L = a.loop-i in
    let g = L.invariant in
    record {
      count = omega (arith, a.loop-i-test.true);
      term_is = even_term x (i a) s.next_term-v.result c.next_term-w.result (odd_is s) c.next_term-w.ensures;
      sin_plus = added (sp_term x) (i a) 1 (term x (2 * i a)) L.sp L.w c.add_times-sp.result g.sin_plus g.term_is (w-high a) (lit≤ tt) (one-mul (term x (2 * i a))) c.add_times-sp.ensures;
      sin_minus = added (sn_term x) (i a) 1 (term x (2 * i a + 1)) L.sn s.next_term-v.result c.add_times-sn.result g.sin_minus (odd_is s) (odd-high s) (lit≤ tt) (one-mul (term x (2 * i a + 1))) c.add_times-sn.ensures;
      cos_plus = added (cp_term x) (i a) (4 * i a + 1) (term x (2 * i a)) L.cp L.w c.add_times-cp.result g.cos_plus g.term_is (w-high a) (weight a 1 (lit≤ tt)) refl c.add_times-cp.ensures;
      cos_minus = added (cn_term x) (i a) (4 * i a + 3) (term x (2 * i a + 1)) L.cn s.next_term-v.result c.add_times-cn.result g.cos_minus (odd_is s) (odd-high s) (weight a 3 (lit≤ tt)) refl c.add_times-cn.ensures;
    }

-- ---- after the loop
all : (c : goal.Left-loop-i) → AllSummed (value c.args.x) c.loop-i.sp c.loop-i.sn c.loop-i.cp c.loop-i.cn
all c =
    let L = c.loop-i in
    at_end (value c.args.x) L.w L.sp L.sn L.cp L.cn L.i c.requires.0 L.invariant
    (elim c.loop-i-test.branch [ else-loop-i-test w ↦ inl w.loop-i-test.false | then-loop-i-test+then-w-eq0 w ↦ inr w.if-w-eq0.true ])

pub over_1024-requires : goal.over_1024-requires
over_1024-requires c = ((all c).sin_plus.high, (all c).sin_plus.low)

pub over_1024-requires-2 : goal.over_1024-requires-2
over_1024-requires-2 c = ((all c.before).sin_minus.high, (all c.before).sin_minus.low)

pub over_1024-requires-3 : goal.over_1024-requires-3
over_1024-requires-3 c = ((all c.before.before).cos_plus.high, (all c.before.before).cos_plus.low)

pub over_1024-requires-4 : goal.over_1024-requires-4
over_1024-requires-4 c = ((all c.before.before.before).cos_minus.high, (all c.before.before.before).cos_minus.low)

pub returns : goal.returns
returns c =
    let s = all c.before.before.before.before in
    let over : ℕ → ℕ = λ y. y / 2 ^ 10 in
    record {
      sin_plus = c.over_1024.ensures ∙ ap over s.sin_plus.is;
      sin_minus = c.over_1024-2.ensures ∙ ap over s.sin_minus.is;
      cos_plus = c.over_1024-3.ensures ∙ ap over s.cos_plus.is;
      cos_minus = c.over_1024-4.ensures ∙ ap over s.cos_minus.is;
    }
