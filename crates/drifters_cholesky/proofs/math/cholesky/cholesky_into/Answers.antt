-- `cholesky_into` meets its contract. The loops keep the factor's entries before the one that is made. Assumes nothing.
use mathlib.Core.Path.{◌≡◌, refl, sym, ap, ◌∙◌}
use mathlib.Core.Bool.{true, cond, not}
use Prim.Native.Nat.{ℕ, ◌+◌, ◌*◌}
use native.Mathlib.Omega.{arith}
use lib.ListN.{length, set, length-set, length-replicate}
use Rattle.drifters_matrix.specs.Matrix.{at}
use Rattle.drifters_cholesky.specs.Cholesky.{none, lower, cholesky, bad_pivot, factor_rows, factor_columns, sub_terms, reduced}
use Rattle.drifters_matrix.proofs.Matrix.Grid.{row_in}
use Rattle.drifters_cholesky.proofs.SubTerms.{sub_step}
use Rattle.drifters_cholesky.proofs.Factor.{not_finite_bad, finite_bad, stop, pivot, quotient, factor_rows_next, stops}
use Rattle.drifters_cholesky.proofs.math.cholesky.cholesky_into.Goals as goal
use Rattle.drifters_cholesky.proofs.math.cholesky.cholesky_into.Goals.{then-i-j+else-not-is_finite+else-sum, else-i-j, then-not-is_finite-via-then-not-is_finite, then-not-is_finite-via-else-not-is_finite+then-sum, In-loop-k, In-columns, After-loop-k}

pub rows-init : goal.rows-init
unfolding factor_rows
rows-init c =
    let e : length c.args.l.now ≡ c.args.n * c.args.n = ap length c.requires.1 ∙ length-replicate _ _ in
    (omega arith, e, e, refl, ap lower (sym c.requires.1))

pub columns-init : goal.columns-init
unfolding factor_columns
columns-init c =
    let n = c.args.n in
    (omega arith, row_in c.rows.i n n (omega arith), c.rows.invariant.2, c.rows.invariant.3, c.rows.invariant.4)

pub loop-k-init : goal.loop-k-init
unfolding sub_terms
loop-k-init c =
    let n = c.args.n in
    (omega arith, row_in c.columns.j n n (omega arith), refl)

pub loop-k-preserved : goal.loop-k-preserved
loop-k-preserved c =
    let a = c.args in
    let f = at a.n c.columns.l c.rows.i in
    let g = at a.n c.columns.l c.columns.j in
    (omega arith, c.loop-k.invariant.1, sub_step (at a.n a.a.now c.rows.i c.columns.j) f g c.loop-k.k c.loop-k.invariant.2)

pub columns-preserved : goal.columns-preserved
columns-preserved c =
    let a = c.args in
    let s = c.loop-k.sum in
    let e = c.columns.invariant.4 in
    let z : c.loop-k.k ≡ c.columns.j = omega arith in
    let whole : c.loop-k.sum ≡ reduced a.n a.a.now c.columns.l c.rows.i c.columns.j =
    c.loop-k.invariant.2 ∙ ap (sub_terms (at a.n a.a.now c.rows.i c.columns.j) (at a.n c.columns.l c.rows.i) (at a.n c.columns.l c.columns.j)) z in
    let f = factor_rows a.n a.a.now c.rows.i in
    let x : (length c.if-i-j.l ≡ a.n * a.n) × (factor_columns a.n a.a.now c.rows.i (c.columns.j + 1) f ≡ lower c.if-i-j.l) =
    elim c.if-i-j.branch [
      | then-i-j+else-not-is_finite+else-sum w ↦ (
        ap length w.l-is ∙ simp length-set c.columns.invariant.2,
        pivot a.n a.a.now c.rows.i c.columns.j f c.columns.l s e whole w.if-i-j.true
            (finite_bad s w.is_finite.ensures (ap not w.if-not-is_finite.false) ∙ w.if-sum.false)
            ∙ ap (λ v. lower (set c.columns.l (c.rows.i * a.n + c.columns.j) v)) (sym w.sqrt.ensures)
            ∙ ap lower (sym w.l-is),
      )
      | else-i-j w ↦ (
        ap length w.l-is ∙ simp length-set c.columns.invariant.2,
        quotient a.n a.a.now c.rows.i c.columns.j f c.columns.l s e whole w.if-i-j.false ∙ ap lower (sym w.l-is),
      )
    ] in
    (omega arith, c.columns.invariant.1, x.0, c.columns.invariant.3, x.1)

pub rows-preserved : goal.rows-preserved
rows-preserved c =
    let a = c.args in
    let z : c.columns.j ≡ c.rows.i + 1 = omega arith in (
      omega arith,
      c.rows.invariant.1,
      c.columns.invariant.2,
      c.columns.invariant.3,
      factor_rows_next a.n a.a.now c.rows.i
          ∙ ap (λ (m : ℕ). factor_columns a.n a.a.now c.rows.i m (factor_rows a.n a.a.now c.rows.i)) (sym z)
          ∙ c.columns.invariant.4,
    )

pub returns-after-rows : goal.returns-after-rows
unfolding cholesky
returns-after-rows c =
    let a = c.args in
    let z : c.rows.i ≡ a.n = omega arith in
    ap (factor_rows a.n a.a.now) (sym z) ∙ c.rows.invariant.4 ∙ ap (λ t. cond t (lower c.rows.l) none) (sym c.rows.invariant.3)

pub returns-then-not-is_finite : goal.returns-then-not-is_finite
returns-then-not-is_finite c =
    let a = c.args in
    let s = c.loop-k.sum in
    let p = c.if-i-j.true in
    let z : c.loop-k.k ≡ c.columns.j = omega arith in
    let whole : c.loop-k.sum ≡ reduced a.n a.a.now c.columns.l c.rows.i c.columns.j =
    c.loop-k.invariant.2 ∙ ap (sub_terms (at a.n a.a.now c.rows.i c.columns.j) (at a.n c.columns.l c.rows.i) (at a.n c.columns.l c.columns.j)) z in
    let b : bad_pivot s ≡ true = elim c.then-not-is_finite.branch [
      | then-not-is_finite-via-then-not-is_finite w ↦ not_finite_bad s c.is_finite.ensures (ap not w.if-not-is_finite.true)
      | then-not-is_finite-via-else-not-is_finite+then-sum w ↦ finite_bad s c.is_finite.ensures (ap not w.if-not-is_finite.false) ∙ w.if-sum.true
    ] in
    let e = stop a.n a.a.now c.rows.i c.columns.j (factor_rows a.n a.a.now c.rows.i) c.columns.l s c.columns.invariant.4 whole p b in
    stops a.n a.a.now c.rows.i (omega arith) (ap (λ (m : ℕ). factor_columns a.n a.a.now c.rows.i (m + 1) (factor_rows a.n a.a.now c.rows.i)) p ∙ e)
