-- `set_block_in` meets its contract. The loop keeps the rows of the block before row i. Assumes nothing.
use mathlib.Core.Path.{◌≡◌}
use Prim.Native.Nat.{◌+◌, ◌*◌, ◌≤◌}
use lib.ListN.{length}
use Rattle.drifters_matrix.proofs.Matrix.Block.{BlockStored}
use Rattle.drifters_matrix.proofs.math.runs.set_block_in.Given as goal

abbrev pub invariant-loop-i : goal.invariant-loop-i
invariant-loop-i l = (l.i ≤ l.br) × (l.r0 + l.br ≤ l.r) × (l.c0 + l.bc ≤ l.c) × (length l.m ≡ l.r * l.c) × BlockStored l.c l.br l.bc l.r0 l.c0 l.src l.initial.m l.i l.m
