-- `math::runs::product_into` meets its contract: the result is written row by row. s is the start of row i of a, t that of row i of out.
use mathlib.Core.Path.{◌≡◌, refl, sym, ap, ◌∙◌}
use Prim.Native.Nat.{ℕ}
use native.Mathlib.Omega.{arith}
use Rattle.drifters_matrix.specs.Matrix.{tab}
use Rattle.drifters_matrix.proofs.Matrix.Tab.{front_zero}
use Rattle.drifters_matrix.proofs.Matrix.RowStart.{row_start_first, row_start_next, row_step}
use Rattle.drifters_matrix.proofs.Matrix.Grid.{rows_done}
use Rattle.drifters_matrix.proofs.Matrix.Sums.{row_sum, row_done}
use Rattle.drifters_matrix.proofs.math.runs.product_into.Invariants.{skip, product}
use Rattle.drifters_matrix.proofs.math.runs.product_into.Goals as goal
use Rattle.drifters_matrix.proofs.math.runs.product_into.Goals.{In-loop}

pub loop-init : goal.loop-init
loop-init g c =
    let p = c.requires.1.1 in
    (omega arith, row_start_first, row_start_first, p.0, p.1, p.1, sym (front_zero _ _))

pub loop-preserved : goal.loop-preserved
loop-preserved g c =
    let v = c.loop.invariant in
    let a = c.args in
    let q = product (skip g) a.c a.d a.a.now a.b.now in
    let y : c.copy_into.new.out ≡ tab a.d (q c.loop.counter) =
    c.copy_into.ensures
    ∙ row_done (skip g) a.a.now c.loop.s a.b.now a.c c.product_row.ensures v.3 refl
    ∙ ap (λ (m : ℕ). tab a.d (row_sum (skip g) a.a.now m a.b.now a.d a.c)) v.1.start in
    let e = row_step q a.d a.out.now v.2 v.6 y in
    (omega arith, row_start_next v.1, row_start_next v.2, omega arith, v.4, omega arith, e)

pub returns : goal.returns
returns g c =
    let a = c.args in
    let v = c.loop.invariant in
    rows_done (product (skip g) a.c a.d a.a.now a.b.now) c.loop.counter a.r a.d a.out.now (rw v.2.start at v.6) (omega arith) v.4
