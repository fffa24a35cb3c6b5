-- `math::runs::product_row` meets its contract: after k terms the row holds the sums of the first k. t is the start of row k of b.
use mathlib.Core.Path.{◌≡◌, refl, ap, ◌∙◌}
use mathlib.Core.Bool.{not}
use mathlib.Core.Logic.{inl, inr}
use Prim.Native.Nat.{◌+◌}
use native.Mathlib.Omega.{arith}
use borrow.Author.Tests.{not-true, not-false, eq-eqb, ne_eqb}
use lib.Ieee.{eq, ne}
use lib.ListN.{length}
use Rattle.drifters_matrix.specs.Matrix.{tab}
use Rattle.drifters_matrix.proofs.Matrix.Tab.{length_tab}
use Rattle.drifters_matrix.proofs.Matrix.RowStart.{row_start_first, row_start_next}
use Rattle.drifters_matrix.proofs.Matrix.Sums.{row_sum, row_none, row_skip, row_add, row_done}
use Rattle.drifters_matrix.proofs.math.runs.product_row.Invariants.{skip}
use Rattle.drifters_matrix.proofs.math.runs.product_row.Goals as goal
use Rattle.drifters_matrix.proofs.math.runs.product_row.Goals.{then-not-this, then-not-this-via-then-not-this, then-not-this-via-else-not-this+then-x, else-not-this+else-x}

pub loop-k-init : goal.loop-k-init
loop-k-init g c =
    let a = c.args in
    let z : length c.clear.new.row ≡ length a.row.now = omega arith in
    (omega arith, row_start_first, refl, rw z c.requires.1, row_none (skip g) a.a.now a.s a.b.now (length a.row.now) c.clear.ensures)

pub loop-k-preserved : goal.loop-k-preserved
unfolding eq ne
loop-k-preserved g c =
    let v = c.loop-k.invariant in
    let a = c.args in
    let n = length c.clear.new.row in
    let e : c.if-not-this.row ≡ tab n (row_sum (skip g) a.a.now a.s a.b.now n (c.loop-k.k + 1)) =
    elim c.if-not-this.branch [
      | then-not-this w ↦
          row_add (skip g) a.a.now a.s a.b.now n c.loop-k.k v.1 v.2 v.4 (w.row-is ∙ w.add_scaled.ensures)
          (elim w.then-not-this.branch [
            | then-not-this-via-then-not-this w' ↦ inl (ap not (eq-eqb g.row.SKIP 0 w'.if-not-this.true))
            | then-not-this-via-else-not-this+then-x w' ↦ inr (not-true _ w'.if-x.true)
          ])
      | else-not-this+else-x w ↦ w.row-is ∙ v.4 ∙ row_skip (skip g) a.a.now a.s a.b.now n c.loop-k.k (ap not (ne_eqb g.row.SKIP 0 w.if-not-this.false)) (not-false _ w.if-x.false)
    ] in
    (omega arith, row_start_next v.1, ap length e ∙ length_tab _ _, v.3, e)

pub returns : goal.returns
returns g c =
    let a = c.args in
    row_done (skip g) a.a.now a.s a.b.now a.c c.loop-k.invariant.4 (omega arith) (omega arith)
