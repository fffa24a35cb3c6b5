-- `math::matrix::Matrix::from_columns` meets its contract.
use mathlib.Core.Path.{◌≡◌}
use mathlib.Core.List.{[]}
use Prim.Native.Nat.{◌≤◌}
use lib.ListN.{get_or}
use Rattle.drifters_matrix.proofs.Matrix.ByColumns.{first_columns}
use Rattle.drifters_matrix.proofs.math.matrix.Matrix.from_columns.Given as goal

abbrev pub invariant-loop-k : goal.invariant-loop-k
invariant-loop-k g l = (l.k ≤ g.row.C) × (l.m.data ≡ first_columns g.row.R g.row.C l.k (λ k. get_or l.columns k []))
