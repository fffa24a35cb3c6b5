-- `math::runs::from_diagonal_in` meets its contract.
use mathlib.Core.Path.{◌≡◌}
use mathlib.Core.Bool.{cond}
use mathlib.Core.List.{List}
use Prim.Native.Nat.{ℕ, ◌*◌, ◌≤◌, ◌<◌}
use lib.Dec.{eqb}
use lib.Ieee.{Float, nan}
use lib.ListN.{length, get_or}
use Rattle.drifters_real.specs.Scalar.{plus_zero}
use Rattle.drifters_matrix.specs.Matrix.{at}
use Rattle.drifters_matrix.proofs.math.runs.from_diagonal_in.Given as goal

-- entry (p, q) of the result
abbrev pub entry_of : List Float → ℕ → ℕ → Float
entry_of d p q = cond (eqb p q) (get_or d p nan) plus_zero

-- What the loop keeps: the rows before i are those of the result, and the others zeros.
pub record Rows (n : ℕ) (d : List Float) (i : ℕ) (l : List Float) : Type 0 where
  pub bound : i ≤ n
  pub size : length l ≡ n * n
  pub passed : (p : ℕ) → p < i → (q : ℕ) → q < n → at n l p q ≡ entry_of d p q
  pub rest : (p q : ℕ) → i ≤ p → p < n → q < n → at n l p q ≡ plus_zero

abbrev pub invariant-loop-i : goal.invariant-loop-i
invariant-loop-i l = (length l.initial.m ≡ l.n * l.n) × Rows l.n l.d l.i l.m
