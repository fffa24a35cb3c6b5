-- The series of specs/Adjoint.antt by blocks: only private contracts cite these definitions. A matrix [[P, 0], [Q, P]] of 3 by 3 blocks is held
-- by its first three columns, P and then Q, 18 numbers.
use Rattle.std.specs.Prelude.{ℕ, zero, suc, ◌+◌, ◌-◌, false, cond, List, ◌++◌, ltb, eqb, pos, get_or, Float}
use Rattle.std.specs.Float.{nan, binary64}
use Rattle.std.specs.Float.Ieee.{of_int}
use Rattle.drifters_real.specs.Scalar.{◌⊕◌, ◌⊗◌, ◌⊘◌, plus_zero, one}
use Rattle.drifters_matrix.specs.Matrix.{at, matrix, sum_terms, add_matrix}
use Rattle.drifters_core.specs.Vec3.{skew}
use Rattle.drifters_lie.specs.declared.lie.Se3Tangent.{Se3Tangent}

-- entry (i, j) of the whole matrix
abbrev pub whole_at : List Float → ℕ → ℕ → Float
whole_at t i j = cond (ltb j 3) (at 3 t i j) (cond (ltb i 3) plus_zero (at 3 t (i - 3) (j - 3)))

-- the whole matrix
unfoldable pub whole : List Float → List Float
whole t = matrix 6 6 (whole_at t)

-- the first three columns of the identity
unfoldable pub identity_blocks : List Float
identity_blocks = matrix 6 3 (λ i j. cond (eqb i j) one plus_zero)

-- those of the matrix of the bracket with u
unfoldable pub ad_blocks : Se3Tangent → List Float
ad_blocks u = (skew u.omega).«data» ++ (skew u.nu).«data»

-- entry (i, j) of the product of t and m, j below 3: a row of P ends in zeros, whose terms are left out
abbrev pub product_at : List Float → List Float → ℕ → ℕ → Float
product_at t m i j = sum_terms false (whole_at t i) (λ k. at 3 m k j) (cond (ltb i 3) 3 6)

-- three terms of such an entry added to acc: of a row of t from the place p on, and of a column of m from q on
abbrev pub add_terms : Float → List Float → ℕ → List Float → ℕ → Float
add_terms acc t p m q = acc ⊕ get_or t p nan ⊗ get_or m q nan ⊕ get_or t (p + 1) nan ⊗ get_or m (q + 3) nan ⊕ get_or t (p + 2) nan ⊗ get_or m (q + 6) nan

-- the product of t and m, times s
unfoldable pub times_blocks : List Float → List Float → Float → List Float
times_blocks t m s = matrix 6 3 (λ i j. product_at t m i j ⊗ s)

-- term k of the series
unfoldable pub blocks_term : List Float → ℕ → List Float
blocks_term m zero = identity_blocks
blocks_term m (suc k) = times_blocks (blocks_term m k) m (one ⊘ of_int binary64 (pos (suc k + 1)))

-- the identity, and the terms 1 to k added to it
unfoldable pub blocks_series : List Float → ℕ → List Float
blocks_series m zero = identity_blocks
blocks_series m (suc k) = add_matrix 18 (blocks_series m k) (blocks_term m (suc k))
