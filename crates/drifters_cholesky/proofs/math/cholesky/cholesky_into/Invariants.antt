-- `cholesky_into` meets its contract. The loops keep the factor's entries before the one that is made. Assumes nothing.
use mathlib.Core.Path.{◌≡◌}
use mathlib.Core.Bool.{true}
use Prim.Native.Nat.{◌+◌, ◌*◌, ◌-◌, ◌≤◌}
use lib.ListN.{length}
use Rattle.drifters_matrix.specs.Matrix.{at}
use Rattle.drifters_cholesky.specs.Cholesky.{lower, factor_rows, factor_columns, sub_terms}
use Rattle.drifters_cholesky.proofs.math.cholesky.cholesky_into.Given as goal

abbrev pub invariant-loop-k : goal.invariant-loop-k
invariant-loop-k l = (l.k ≤ l.j) × (l.j * l.n + l.n ≤ l.n * l.n) × (l.sum ≡ sub_terms (at l.n l.a l.i l.j) (at l.n l.l l.i) (at l.n l.l l.j) l.k)

abbrev pub decreases-loop-k : goal.decreases-loop-k
decreases-loop-k l = l.j - l.k

abbrev pub invariant-columns : goal.invariant-columns
invariant-columns l =
    (l.j ≤ l.i + 1) × (l.i * l.n + l.n ≤ l.n * l.n) × (length l.l ≡ l.n * l.n) × (l.definite ≡ true) × (factor_columns l.n l.a l.i l.j (factor_rows l.n l.a l.i) ≡ lower l.l)

abbrev pub decreases-columns : goal.decreases-columns
decreases-columns l = l.i + 1 - l.j

abbrev pub invariant-rows : goal.invariant-rows
invariant-rows l = (l.i ≤ l.n) × (length l.initial.l ≡ l.n * l.n) × (length l.l ≡ l.n * l.n) × (l.definite ≡ true) × (factor_rows l.n l.a l.i ≡ lower l.l)

abbrev pub decreases-rows : goal.decreases-rows
decreases-rows l = l.n - l.i
