-- Port of the factorisation of math/matrix.rs, for all widths. Definitions and statements only.
use Rattle.std.specs.Prelude.{ℕ, zero, suc, ◌+◌, ◌-◌, ◌*◌, ◌≤◌, ◌<◌, ◌≡◌, Bool, true, false, not, ◌||◌, cond, List, Option, Some, None, eqb, set, Float}
use Rattle.std.specs.Float.Ieee.{le}
use Rattle.drifters_real.specs.Scalar.{◌⊖◌, ◌⊗◌, ◌⊘◌, plus_zero}
use Rattle.drifters_real.specs.Real.{sqrt, is_finite}
use Rattle.drifters_matrix.specs.Matrix.{at, matrix, zeros}
use Rattle.drifters_cholesky.specs.declared.math.cholesky.Cholesky.{Cholesky}

-- a pivot at which the factorisation stops: not finite, or at most 0
abbrev pub bad_pivot : Float → Bool
bad_pivot x = not (is_finite x) || le x plus_zero

-- the lower factor as far as it is made, or none
pub data Factor : Type 0 where
  none : Factor
  lower : List Float → Factor

-- the lower factor that the factorisation answers with, or none
abbrev pub factor_of : {n nn : ℕ} → Option (Cholesky n nn) → Factor
factor_of None = none
factor_of (Some c) = lower c.lower.«data»

-- whether there is a factor
abbrev pub definite : Factor → Bool
definite none = false
definite (lower l) = true

-- the entries of an n by n factor; zeros where there is none
abbrev pub entries_of : ℕ → Factor → List Float
entries_of n none = zeros (n * n)
entries_of n (lower l) = l

-- the products f 0 ⊗ g 0, .., f (n - 1) ⊗ g (n - 1) taken from start in that order
unfoldable pub sub_terms : Float → (ℕ → Float) → (ℕ → Float) → ℕ → Float
sub_terms start f g zero = start
sub_terms start f g (suc n) = sub_terms start f g n ⊖ f n ⊗ g n

-- entry (i, j) of a less the products of the factor's entries in the columns before j
abbrev pub reduced : ℕ → List Float → List Float → ℕ → ℕ → Float
reduced n a l i j = sub_terms (at n a i j) (at n l i) (at n l j) j

-- entry (i, j) of the factor after those before it: on the diagonal the root of the pivot, unless that is bad
unfoldable pub factor_entry : ℕ → List Float → ℕ → ℕ → Factor → Factor
factor_entry n a i j none = none
factor_entry n a i j (lower l) =
    cond (eqb i j)
    (cond (bad_pivot (reduced n a l i j)) none (lower (set l (i * n + j) (sqrt (reduced n a l i j)))))
    (lower (set l (i * n + j) (reduced n a l i j ⊘ at n l j j)))

-- the first j entries of row i
unfoldable pub factor_columns : ℕ → List Float → ℕ → ℕ → Factor → Factor
factor_columns n a i zero f = f
factor_columns n a i (suc j) f = factor_entry n a i j (factor_columns n a i j f)

-- the first i rows, from zeros: of row i the columns 0 to i
unfoldable pub factor_rows : ℕ → List Float → ℕ → Factor
factor_rows n a zero = lower (zeros (n * n))
factor_rows n a (suc i) = factor_columns n a i (suc i) (factor_rows n a i)

-- the lower factor of the n by n matrix a, of which the lower triangle is read; none at the first bad pivot
unfoldable pub cholesky : ℕ → List Float → Factor
cholesky n a = factor_rows n a n

-- the n by c matrix x with row i replaced by f
unfoldable pub set_row : ℕ → ℕ → ℕ → (ℕ → Float) → List Float → List Float
set_row n c i f x = matrix n c (λ p j. cond (eqb p i) (f j) (at c x p j))

-- row i of a substitution: less the products of f k with row k, for m rows k from the given one on, and divided by the pivot
abbrev pub substituted : ℕ → ℕ → List Float → ℕ → (ℕ → Float) → ℕ → ℕ → List Float → List Float
substituted n c l i f from m x =
    set_row n c i (λ j. sub_terms (at c x i j) (λ k. f (from + k)) (λ k. at c x (from + k) j) m ⊘ at n l i i) x

-- row i of the forward substitution, after the rows above it
abbrev pub forward_row : ℕ → ℕ → List Float → ℕ → List Float → List Float
forward_row n c l i x = substituted n c l i (at n l i) 0 i x

-- the first i rows of the forward substitution: L Y = B
unfoldable pub forward : ℕ → ℕ → List Float → List Float → ℕ → List Float
forward n c l b zero = b
forward n c l b (suc i) = forward_row n c l i (forward n c l b i)

-- row i of the back substitution, after the rows below it
abbrev pub back_row : ℕ → ℕ → List Float → ℕ → List Float → List Float
back_row n c l i x = substituted n c l i (λ k. at n l k i) (i + 1) (n - (i + 1)) x

-- the last p rows of the back substitution: Lᵀ X = Y
unfoldable pub back : ℕ → ℕ → List Float → List Float → ℕ → List Float
back n c l y zero = y
back n c l y (suc p) = back_row n c l (n - (p + 1)) (back n c l y p)

-- the solution of A X = B, with the n by n factor l of A and the n by c matrix b
unfoldable pub solve : ℕ → ℕ → List Float → List Float → List Float
solve n c l b = back n c l (forward n c l b n) n

-- the factorisation reads the lower triangle only
abbrev pub LowerOnly : Type 0
LowerOnly =
    (n : ℕ) (a b : List Float) → ((i j : ℕ) → i < n → j ≤ i → at n a i j ≡ at n b i j) → cholesky n a ≡ cholesky n b
