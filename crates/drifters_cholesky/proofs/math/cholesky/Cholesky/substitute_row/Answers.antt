-- `substitute_row` meets its contract. The loops keep of row i the entries that are replaced, and the products that are taken. Assumes nothing.
use mathlib.Core.Path.{◌≡◌, sym, ap, ◌∙◌}
use Prim.Native.Nat.{◌+◌, ◌-◌}
use native.Mathlib.Omega.{arith}
use lib.ListN.{length-set}
use Rattle.drifters_real.specs.Scalar.{◌⊘◌}
use Rattle.drifters_matrix.specs.Matrix.{at}
use Rattle.drifters_cholesky.specs.Cholesky.{sub_terms}
use Rattle.drifters_cholesky.proofs.SubTerms.{sub_step_from}
use Rattle.drifters_cholesky.proofs.Substitution.{replaced_set, replaced_done, same_terms}
use Rattle.drifters_cholesky.proofs.math.cholesky.Cholesky.substitute_row.Invariants.{factor, sum_after}
use Rattle.drifters_cholesky.proofs.math.cholesky.Cholesky.substitute_row.Goals as goal
use Rattle.drifters_cholesky.proofs.math.cholesky.Cholesky.substitute_row.Goals.{In-loop-k, In-loop-j}

pub loop-k-init : goal.loop-k-init
unfolding sub_terms
loop-k-init g c =
    let a = c.args in
    let z : a.from - a.from ≡ 0 = omega arith in
    (omega arith, omega arith, sym (ap (sum_after g.row.C (factor a.self.now.lower.«data» a.start a.stride) a.i a.from c.loop-j.x c.loop-j.j) z))

pub loop-k-preserved : goal.loop-k-preserved
loop-k-preserved g c =
    let a = c.args in
    (omega arith, omega arith, sub_step_from _ (factor a.self.now.lower.«data» a.start a.stride) (λ k. at g.row.C c.loop-j.x k c.loop-j.j) a.from c.loop-k.k (omega arith) c.loop-k.invariant.2)

pub loop-j-preserved : goal.loop-j-preserved
loop-j-preserved g c =
    let a = c.args in
    let f = factor a.self.now.lower.«data» a.start a.stride in
    let w = c.loop-j.invariant.4 in
    let z : c.loop-k.k - a.from ≡ a.to - a.from = omega arith in
    let e = c.loop-k.invariant.2 ∙ ap (sum_after g.row.C f a.i a.from c.loop-j.x c.loop-j.j) z
    ∙ same_terms (λ k. f (a.from + k)) a.from (a.to - a.from) w (omega arith) (λ k h. (c.requires.5 (a.from + k) (omega arith) (omega (arith, h))).0) in
    (omega arith, c.loop-j.invariant.1, c.loop-j.invariant.2, simp length-set c.loop-j.invariant.3, replaced_set w (omega arith) (ap (λ y. y ⊘ at g.row.N a.self.now.lower.«data» a.i a.i) e))

pub returns : goal.returns
returns g c =
    replaced_done g.row.N c.loop-j.invariant.4 (omega arith) c.loop-j.invariant.3
