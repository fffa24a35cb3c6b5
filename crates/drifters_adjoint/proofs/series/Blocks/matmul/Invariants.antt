-- `series::Blocks::matmul` meets its contract: the entries are written row by row, those of P and then those of Q. s is the start of row i, upper that
-- of the row of P beside a row of Q.
use mathlib.Core.Path.{◌≡◌}
use mathlib.Core.List.{List}
use Prim.Native.Nat.{ℕ, ◌-◌, ◌≤◌}
use lib.Ieee.{Float}
use lib.ListN.{length}
use Rattle.drifters_matrix.proofs.Matrix.RowStart.{RowStart}
use Rattle.drifters_matrix.proofs.Matrix.Grid.{Entries}
use Rattle.drifters_adjoint.specs.Series.{product_at}
use Rattle.drifters_adjoint.proofs.series.Blocks.matmul.Given as goal

-- the entries before (i, j) are written, and row i starts at s
pub record Written (t m : List Float) (i s j : ℕ) (l : List Float) : Type 0 where
  pub row-start : RowStart i 3 s
  pub column : j ≤ 3
  pub size : length l ≡ 18
  pub entries : Entries 3 (product_at t m) i j l

abbrev pub invariant-loop-j : goal.invariant-loop-j
invariant-loop-j l = Written l.t l.r l.counter l.s l.j l.data

abbrev pub invariant-loop : goal.invariant-loop
invariant-loop l = (l.counter ≤ 3) × Written l.t l.r l.counter l.s 0 l.data

abbrev pub invariant-loop-j-2 : goal.invariant-loop-j-2
invariant-loop-j-2 l = RowStart (l.counter - 3) 3 l.upper × Written l.t l.r l.counter l.s l.j l.data

abbrev pub invariant-loop-2 : goal.invariant-loop-2
invariant-loop-2 l = (3 ≤ l.counter) × (l.counter ≤ 6) × RowStart (l.counter - 3) 3 l.upper × Written l.t l.r l.counter l.s 0 l.data
