-- `substitute_row` meets its contract. The loops keep of row i the entries that are replaced, and the products that are taken. Assumes nothing.
use mathlib.Core.Path.{◌≡◌}
use mathlib.Core.List.{List}
use Prim.Native.Nat.{ℕ, ◌+◌, ◌*◌, ◌-◌, ◌≤◌}
use lib.ListN.{length, get_or}
use lib.Ieee.{Float, nan}
use Rattle.drifters_real.specs.Scalar.{◌⊘◌}
use Rattle.drifters_matrix.specs.Matrix.{at}
use Rattle.drifters_cholesky.specs.Cholesky.{sub_terms}
use Rattle.drifters_cholesky.proofs.Substitution.{RowReplaced}
use Rattle.drifters_cholesky.proofs.math.cholesky.Cholesky.substitute_row.Given as goal

-- the factor of row k
abbrev pub factor : List Float → ℕ → ℕ → ℕ → Float
factor l start stride k = get_or l (k * stride + start) nan

-- the sum for entry (i, j) after the products with m rows from the given one on
abbrev pub sum_after : ℕ → (ℕ → Float) → ℕ → ℕ → List Float → ℕ → ℕ → Float
sum_after c f i from x j m = sub_terms (at c x i j) (λ k. f (from + k)) (λ k. at c x (from + k) j) m

abbrev pub invariant-loop-k : goal.invariant-loop-k
invariant-loop-k g l = (l.from ≤ l.k) × (l.k ≤ l.to) × (l.sum ≡ sum_after g.row.C (factor l.self.lower.«data» l.start l.stride) l.i l.from l.x l.j (l.k - l.from))

abbrev pub decreases-loop-k : goal.decreases-loop-k
decreases-loop-k g l = l.to - l.k

abbrev pub invariant-loop-j : goal.invariant-loop-j
invariant-loop-j g l =
    (l.j ≤ g.row.C) × (l.i * g.row.N + g.row.N ≤ g.row.N * g.row.N) × (l.i * g.row.C + g.row.C ≤ g.row.N * g.row.C) × (length l.x ≡ g.row.N * g.row.C)
    × RowReplaced g.row.C l.i (λ q. sum_after g.row.C (factor l.self.lower.«data» l.start l.stride) l.i l.from l.initial.x q (l.to - l.from) ⊘ at g.row.N l.self.lower.«data» l.i l.i) l.initial.x l.j l.x

abbrev pub decreases-loop-j : goal.decreases-loop-j
decreases-loop-j g l = g.row.C - l.j
