-- Port of math/matrix.rs, for all dimensions: a matrix is the flat list of its entries, row by row; the factorisation is in drifters_cholesky.
-- Definitions and statements only.
use Rattle.std.specs.Prelude.{ℕ, zero, suc, ◌+◌, ◌-◌, ◌*◌, ◌/◌, ◌%◌, ◌<◌, ◌≡◌, Bool, true, false, ◌&&◌, cond, List, [], ◌∷◌, ◌++◌, eqb, leb, ltb, get_or, set, replicate, Float}
use Rattle.std.specs.Float.{nan}
use Rattle.std.specs.Float.Ieee.{neg, lt, eq}
use Rattle.drifters_real.specs.Scalar.{◌⊕◌, ◌⊖◌, ◌⊗◌, plus_zero, one, half}
use Rattle.drifters_real.specs.Real.{abs, is_finite}

-- f 0, f 1, .., f (n - 1)
unfoldable pub tab : {A : Type 0} → ℕ → (ℕ → A) → List A
tab zero f = []
tab (suc n) f = tab n f ++ (f n ∷ [])

-- entry (i, j) of a matrix of c columns
abbrev pub at : ℕ → List Float → ℕ → ℕ → Float
at c m i j = get_or m (i * c + j) nan

-- the r by c matrix whose entry (i, j) is f i j
unfoldable pub matrix : ℕ → ℕ → (ℕ → ℕ → Float) → List Float
matrix r c f = tab (r * c) (λ n. f (n / c) (n % c))

-- n entries of +0.0
abbrev pub zeros : ℕ → List Float
zeros n = replicate n plus_zero

-- n numbers, a one at place k and zeros elsewhere
abbrev pub unit : ℕ → ℕ → List Float
unit n k = set (zeros n) k one

-- the c by r matrix whose rows are the columns of an r by c matrix
unfoldable pub transpose : ℕ → ℕ → List Float → List Float
transpose r c m = matrix c r (λ i j. at c m j i)

-- x ⊗ y added to acc; where skip is set and x is a zero of either sign, acc as it is
abbrev pub add_term : Bool → Float → Float → Float → Float
add_term skip acc x y = cond (skip && eq x plus_zero) acc (acc ⊕ x ⊗ y)

-- the products f 0 ⊗ g 0, .., f (n - 1) ⊗ g (n - 1) added to +0.0 in that order
unfoldable pub sum_terms : Bool → (ℕ → Float) → (ℕ → Float) → ℕ → Float
sum_terms skip f g zero = plus_zero
sum_terms skip f g (suc n) = add_term skip (sum_terms skip f g n) (f n) (g n)

-- the product of an r by c and a c by d matrix; a left entry equal to zero is skipped
unfoldable pub matmul : ℕ → ℕ → ℕ → List Float → List Float → List Float
matmul r c d a b = matrix r d (λ i j. sum_terms true (at c a i) (λ k. at d b k j) c)

-- the product of an r by c matrix and the transpose of a d by c matrix; nothing is skipped
unfoldable pub mul_transpose : ℕ → ℕ → ℕ → List Float → List Float → List Float
mul_transpose r c d a b = matrix r d (λ i j. sum_terms false (at c a i) (at c b j) c)

-- each of n entries times s
unfoldable pub scaled : ℕ → List Float → Float → List Float
scaled n m s = tab n (λ k. get_or m k nan ⊗ s)

-- a block of br rows and bc columns at (r0, c0) lies within an r by c matrix
abbrev pub block_fits : ℕ → ℕ → ℕ → ℕ → ℕ → ℕ → Bool
block_fits r c br bc r0 c0 = leb (r0 + br) r && leb (c0 + bc) c

-- (i, j) lies within the block of br rows and bc columns at (r0, c0)
abbrev pub in_block : ℕ → ℕ → ℕ → ℕ → ℕ → ℕ → Bool
in_block br bc r0 c0 i j = leb r0 i && ltb i (r0 + br) && (leb c0 j && ltb j (c0 + bc))

-- the r by c matrix m with the block at (r0, c0) replaced by src; m as it is where the block does not fit
unfoldable pub set_block : ℕ → ℕ → ℕ → ℕ → ℕ → ℕ → List Float → List Float → List Float
set_block r c br bc r0 c0 m src =
    cond (block_fits r c br bc r0 c0)
    (matrix r c (λ i j. cond (in_block br bc r0 c0 i j) (at bc src (i - r0) (j - c0)) (at c m i j)))
    m

-- the r by c matrix of these columns
unfoldable pub from_columns : ℕ → ℕ → List (List Float) → List Float
from_columns r c columns = matrix r c (λ i k. get_or (get_or columns k []) i nan)

-- the block of br rows and bc columns at (r0, c0) of an r by c matrix; zeros where it does not fit
unfoldable pub block : ℕ → ℕ → ℕ → ℕ → ℕ → ℕ → List Float → List Float
block r c br bc r0 c0 m = cond (block_fits r c br bc r0 c0) (matrix br bc (λ i j. at c m (r0 + i) (c0 + j))) (zeros (br * bc))

-- every entry is finite
unfoldable pub all_finite : List Float → Bool
all_finite [] = true
all_finite (x ∷ m) = is_finite x && all_finite m

-- the larger of acc and the size of x; acc where x is not a number
abbrev pub larger : Float → Float → Float
larger acc x = cond (lt acc (abs x)) (abs x) acc

-- the largest size among the first n entries, from +0.0: not-a-numbers are passed over
unfoldable pub amax : ℕ → List Float → Float
amax zero m = plus_zero
amax (suc n) m = larger (amax n m) (get_or m n nan)

-- the n by n matrix with d on its diagonal and +0.0 elsewhere
unfoldable pub from_diagonal : ℕ → List Float → List Float
from_diagonal n d = matrix n n (λ i j. cond (eqb i j) (get_or d i nan) plus_zero)

-- the n by n identity matrix: ones on the diagonal
abbrev pub identity : ℕ → List Float
identity n = from_diagonal n (replicate n one)

-- the diagonal of an n by n matrix
unfoldable pub diagonal : ℕ → List Float → List Float
diagonal n m = tab n (λ i. at n m i i)

-- half the sum of entry (i, j) and its mirror image
abbrev pub mean : ℕ → List Float → ℕ → ℕ → Float
mean n m i j = half ⊗ (at n m i j ⊕ at n m j i)

-- the n by n matrix m with each mirrored pair replaced by its mean, the entry above the diagonal added first
unfoldable pub symmetrize : ℕ → List Float → List Float
symmetrize n m = matrix n n (λ i j. cond (ltb i j) (mean n m i j) (cond (ltb j i) (mean n m j i) (at n m i j)))

-- each entry of a plus that of b, of n entries
unfoldable pub add_matrix : ℕ → List Float → List Float → List Float
add_matrix n a b = tab n (λ k. get_or a k nan ⊕ get_or b k nan)

-- each entry of a less that of b
unfoldable pub sub_matrix : ℕ → List Float → List Float → List Float
sub_matrix n a b = tab n (λ k. get_or a k nan ⊖ get_or b k nan)

-- each entry negated
unfoldable pub neg_matrix : ℕ → List Float → List Float
neg_matrix n a = tab n (λ k. neg (get_or a k nan))

-- mirrored entries of a symmetrized matrix are one number
abbrev pub Mirrored : Type 0
Mirrored =
    (n : ℕ) (m : List Float) (i j : ℕ) → i < n → j < n → at n (symmetrize n m) i j ≡ at n (symmetrize n m) j i
