-- Port of gcu.rs: inflation of the innovation covariance, for every width. Definitions only.
use Rattle.std.specs.Prelude.{ℕ, ◌*◌, false, cond, List, get_or, Float}
use Rattle.std.specs.Float.{nan}
use Rattle.std.specs.Float.Ieee.{lt}
use Rattle.drifters_real.specs.Scalar.{◌⊕◌, ◌⊗◌, ◌⊘◌, plus_zero, one, two}
use Rattle.drifters_real.specs.Real.{sqrt, max, clamp}
use Rattle.drifters_matrix.specs.Matrix.{sum_terms, mul_transpose, scaled, add_matrix}
use Rattle.drifters_cholesky.specs.Cholesky.{definite, entries_of, cholesky, solve}

-- the dot product of two columns of n, summed from +0.0
unfoldable pub dot_vector : ℕ → List Float → List Float → Float
dot_vector n a b = sum_terms false (λ i. get_or a i nan) (λ i. get_or b i nan) n

-- the factor of inflation: from 1 at r = 0 to 2 at r = 1, and 2 for larger r and for not a number; 1 / (1 + r) below 0, infinite at -1
unfoldable pub beta : Float → Float
beta r =
    let root = sqrt (max r plus_zero) in
    cond (lt r one) ((one ⊕ root) ⊗ (one ⊕ root) ⊘ (one ⊕ r)) two

-- the normalised innovation squared, with the factor l of the innovation covariance
unfoldable pub nis : ℕ → List Float → List Float → Float
nis n l y = dot_vector n y (solve n 1 l y)

-- the covariance inflated by the innovation's share: beta projected + beta alpha y yᵀ + noise
unfoldable pub inflated_by : ℕ → Float → List Float → List Float → List Float → Float → List Float
inflated_by n b y projected noise alpha =
    add_matrix (n * n) (add_matrix (n * n) (scaled (n * n) projected b) (scaled (n * n) (mul_transpose n 1 n y y) (b ⊗ clamp alpha plus_zero one))) noise

-- the inflated innovation covariance; the sum of projected and noise where that has no factor
unfoldable pub inflate : ℕ → List Float → List Float → List Float → Float → List Float
inflate n y projected noise alpha =
    let s = add_matrix (n * n) projected noise in
    cond (definite (cholesky n s)) (inflated_by n (beta (nis n (entries_of n (cholesky n s)) y)) y projected noise alpha) s
