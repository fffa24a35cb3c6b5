-- `math::matrix::Matrix::from_columns` meets its contract.
use mathlib.Core.Path.{◌≡◌, ap, ◌∙◌}
use mathlib.Core.List.{[]}
use Prim.Native.Nat.{ℕ}
use native.Mathlib.Omega.{arith}
use lib.ListN.{get_or}
use Rattle.drifters_matrix.specs.Matrix.{zeros, from_columns}
use Rattle.drifters_matrix.proofs.Matrix.ByColumns.{no_columns, next_column, all_columns}
use Rattle.drifters_matrix.proofs.math.matrix.Matrix.from_columns.Goals as goal

pub loop-k-init : goal.loop-k-init
loop-k-init g c = (omega arith, c.zeros-m.ensures ∙ ap (λ (n : ℕ). zeros n) c.requires ∙ no_columns g.row.R g.row.C (λ k. get_or c.args.columns.now k []))

pub loop-k-preserved : goal.loop-k-preserved
loop-k-preserved g c =
    let set = rw c.loop-k.invariant.1 at c.set_column.ensures in
    (omega arith, set ∙ next_column g.row.R g.row.C c.loop-k.k (λ k. get_or c.args.columns.now k []) (omega arith))

pub returns : goal.returns
unfolding from_columns
returns g c =
    let done : c.loop-k.k ≡ g.row.C = omega arith in
    c.loop-k.invariant.1 ∙ rw done (all_columns g.row.R g.row.C (λ k. get_or c.args.columns.now k []))
