-- `math::runs::scale_columns_into` meets its contract: before round j of a row, the entries before that at column j are made.
use mathlib.Core.Path.{◌≡◌}
use mathlib.Core.List.{List}
use Prim.Native.Nat.{ℕ, ◌+◌, ◌*◌, ◌-◌, ◌≤◌}
use lib.ListN.{length, get_or}
use lib.Ieee.{Float, nan}
use Rattle.drifters_real.specs.Scalar.{◌⊕◌, ◌⊗◌, plus_zero}
use Rattle.drifters_matrix.specs.Matrix.{at}
use Rattle.drifters_matrix.proofs.Matrix.Grid.{Entries}
use Rattle.drifters_matrix.proofs.Matrix.RowStart.{RowStart}
use Rattle.drifters_matrix.proofs.math.runs.scale_columns_into.Given as goal

-- entry (i, j): that of a times number j of d
abbrev pub times : ℕ → List Float → List Float → ℕ → ℕ → Float
times c a d i j = plus_zero ⊕ at c a i j ⊗ get_or d j nan

abbrev pub invariant-loop-j : goal.invariant-loop-j
invariant-loop-j l =
    (l.j ≤ l.c) × RowStart l.counter l.c l.s × (l.s + l.c ≤ l.r * l.c) × (length l.a ≡ l.r * l.c) × (length l.d ≡ l.c) × (length l.out ≡ l.r * l.c) × Entries l.c (times l.c l.a l.d) l.counter l.j l.out

abbrev pub decreases-loop-j : goal.decreases-loop-j
decreases-loop-j l = l.c - l.j

abbrev pub invariant-loop : goal.invariant-loop
invariant-loop l = (l.counter ≤ l.r) × RowStart l.counter l.c l.s × (length l.a ≡ l.r * l.c) × (length l.d ≡ l.c) × (length l.out ≡ l.r * l.c) × Entries l.c (times l.c l.a l.d) l.counter 0 l.out

abbrev pub decreases-loop : goal.decreases-loop
decreases-loop l = l.r - l.counter
