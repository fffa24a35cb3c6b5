-- `Algebra::ad` meets its contract.
use mathlib.Core.Path.{◌≡◌}
use mathlib.Core.List.{List}
use Prim.Native.Nat.{ℕ, ◌≤◌}
use lib.Ieee.{Float}
use Rattle.drifters_matrix.specs.Matrix.{unit}
use Rattle.drifters_matrix.proofs.Matrix.ByColumns.{first_columns}
use Rattle.drifters_symmetry.specs.Group.{to_array21, from_array21, bracket}
use Rattle.drifters_symmetry.specs.declared.group.Algebra.{Algebra}
use Rattle.drifters_symmetry.proofs.group.Algebra.ad.Given as goal

-- column j of the matrix
abbrev pub column : Algebra → ℕ → List Float
column u j = to_array21 (bracket u (from_array21 (unit 21 j)))

abbrev pub invariant-loop-k : goal.invariant-loop-k
invariant-loop-k l = (l.k ≤ 21) × (l.m.data ≡ first_columns 21 21 l.k (column l.self))
