-- `math::runs::product_into` meets its contract: the result is written row by row. s is the start of row i of a, t that of row i of out.
use mathlib.Core.Path.{◌≡◌}
use mathlib.Core.Bool.{Bool}
use mathlib.Core.List.{List}
use Prim.Native.Nat.{ℕ, ◌*◌, ◌-◌, ◌≤◌}
use denote.Param.{number}
use lib.ListN.{length}
use lib.Ieee.{Float}
use Rattle.drifters_matrix.specs.Matrix.{at, sum_terms}
use Rattle.drifters_matrix.proofs.Matrix.Tab.{front}
use Rattle.drifters_matrix.proofs.Matrix.RowStart.{RowStart}
use Rattle.drifters_matrix.proofs.Matrix.Grid.{by_row}
use Rattle.drifters_matrix.specs.contracts.math.runs.product_into.{SKIP-type}
use Rattle.drifters_matrix.proofs.math.runs.product_into.Given as goal

-- entry (i, j) of the product
abbrev pub product : Bool → ℕ → ℕ → List Float → List Float → ℕ → ℕ → Float
product skip c d a b i j = sum_terms skip (at c a i) (λ k. at d b k j) c

-- whether zeros are skipped
abbrev pub skip : goal.Over → Bool
skip g = SKIP-type (number g.row.SKIP)

abbrev pub invariant-loop : goal.invariant-loop
invariant-loop g l =
    (l.counter ≤ l.r) × RowStart l.counter l.c l.s × RowStart l.counter l.d l.t × (length l.row ≡ l.d) × (length l.initial.out ≡ l.r * l.d) × (length l.out ≡ l.r * l.d)
    × (l.out ≡ front l.t (by_row l.d (product (skip g) l.c l.d l.a l.b)) l.initial.out)

abbrev pub decreases-loop : goal.decreases-loop
decreases-loop g l = l.r - l.counter
