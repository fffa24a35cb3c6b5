-- `block_into` meets its contract: the result is written row by row. Assumes nothing.
use mathlib.Core.Path.{◌≡◌}
use mathlib.Core.List.{List}
use Prim.Native.Nat.{ℕ, ◌+◌, ◌*◌, ◌≤◌}
use lib.ListN.{length}
use lib.Ieee.{Float}
use Rattle.drifters_matrix.specs.Matrix.{at}
use Rattle.drifters_matrix.proofs.Matrix.Tab.{front}
use Rattle.drifters_matrix.proofs.Matrix.Grid.{by_row}
use Rattle.drifters_matrix.proofs.math.runs.block_into.Given as goal

-- entry (i, j) of the block
abbrev pub block_entry : ℕ → ℕ → ℕ → List Float → ℕ → ℕ → Float
block_entry c r0 c0 m i j = at c m (r0 + i) (c0 + j)

abbrev pub invariant-loop-i : goal.invariant-loop-i
invariant-loop-i l =
    (l.i ≤ l.br) × (l.r0 + l.br ≤ l.r) × (l.c0 + l.bc ≤ l.c) × (length l.initial.out ≡ l.br * l.bc)
    × (l.out ≡ front (l.i * l.bc) (by_row l.bc (block_entry l.c l.r0 l.c0 l.m)) l.initial.out)
