-- Terms of a product that change nothing: zeros among finite numbers, and the order of two factors. Assumes nothing.
use mathlib.Core.Path.{◌≡◌, refl, sym, ap, ◌∙◌}
use mathlib.Core.Bool.{Bool, true, false, ◌&&◌, cond, and-eq-true_iff}
use mathlib.Core.List.{List, [], ◌∷◌}
use mathlib.Core.Logic.{⊎_elim}
use Prim.Native.Nat.{ℕ, zero, suc, ◌+◌, ◌*◌, ◌≤◌, ◌<◌}
use native.Mathlib.Nat.{le_refl, le_step, lt_irrefl, not-suc-le-zero, le_of_suc-le-suc, zero-add}
use native.Mathlib.Omega.{arith}
use borrow.Author.Tests.{eq-eqb, ne_eqb}
use lib.Dec.{eqb}
use lib.ListN.{length, get_or}
use lib.Ieee.{Float, nan, binary64, eq, of_bits}
use lib.Ieee.Fits.{mul-fits}
use Rattle.drifters_real.specs.Scalar.{◌⊕◌, ◌⊗◌, plus_zero}
use Rattle.drifters_real.specs.Real.{is_finite}
use Rattle.drifters_real.proofs.Real.Zeros.{Summed, summed_zero, summed_add, zero_left, zero_right, mul_comm_float}
use Rattle.drifters_matrix.specs.Matrix.{tab, at, matrix, transpose, sum_terms, matmul, mul_transpose, scaled, from_diagonal, all_finite, add_matrix}
use Rattle.drifters_matrix.proofs.Matrix.Tab.{tab_ext, get_d_tab}
use Rattle.drifters_matrix.proofs.Matrix.Grid.{entry, matrix_ext, at_in, lt_or_le}
use Rattle.drifters_matrix.proofs.Matrix.Sums.{sum_ext, product_transpose}

-- ---- finite entries
pub finite_at : (m : List Float) (k : ℕ) → all_finite m ≡ true → k < length m → is_finite (get_or m k nan) ≡ true
unfolding all_finite
finite_at [] k h p = absurd (not-suc-le-zero p)
finite_at (x ∷ m) zero h p = ((and-eq-true_iff (is_finite x) (all_finite m)).0 h).0
finite_at (x ∷ m) (suc k) h p = finite_at m k ((and-eq-true_iff (is_finite x) (all_finite m)).0 h).1 (le_of_suc-le-suc p)

-- ---- a sum of products starts at +0.0
pub summed : (skip : Bool) (f g : ℕ → Float) (n : ℕ) → Summed (sum_terms skip f g n)
unfolding sum_terms
summed skip f g zero = summed_zero
summed skip f g (suc n) = next (skip && eq (f n) plus_zero) (summed skip f g n)
  where
    next : (b : Bool) {x : Float} → Summed x → Summed (cond b x (x ⊕ f n ⊗ g n))
    next true h = h
    next false h = summed_add (f n ⊗ g n) h (mul-fits binary64 (f n) (g n))

-- ---- where the right factors are finite, a zero on the left may be skipped
pub skip_same : (f g : ℕ → Float) (n : ℕ) → ((k : ℕ) → k < n → is_finite (g k) ≡ true) → sum_terms true f g n ≡ sum_terms false f g n
unfolding sum_terms
skip_same f g zero h = refl
skip_same f g (suc n) h = last (eq (f n) plus_zero) refl ∙ ap (λ x. x ⊕ f n ⊗ g n) (skip_same f g n (λ k p. h k (le_step p)))
  where
    last : (b : Bool) → eq (f n) plus_zero ≡ b → cond b (sum_terms true f g n) (sum_terms true f g n ⊕ f n ⊗ g n) ≡ sum_terms true f g n ⊕ f n ⊗ g n
    last true e = sym (zero_left (f n) (g n) (summed true f g n) e (h n (le_refl (suc n))))
    last false e = refl

-- an entry of a transpose
transposed_at : (r c : ℕ) (m : List Float) {t : List Float} (i j : ℕ) → t ≡ transpose r c m → i < c → j < r → at r t i j ≡ at c m j i
unfolding transpose
transposed_at r c m i j e p q = ap (λ (l : List Float). at r l i j) e ∙ entry c r (λ x y. at c m y x) i j p q

-- o is the product with t that skips zeros, t the transpose of b, and b is finite
pub product_transpose_finite : (r c d : ℕ) (a b : List Float) {t o : List Float} → length b ≡ d * c → all_finite b ≡ true → t ≡ transpose d c b →
    o ≡ matmul r c d a t → o ≡ mul_transpose r c d a b
unfolding matmul
product_transpose_finite r c d a b {t} {o} l f e q =
    product_transpose r c d a b e
    (q
    ∙ matrix_ext r d _ _
    (λ i j h p.
    skip_same (at c a i) (λ k. at d t k j) c (λ k s. ap is_finite (transposed_at d c b k j e s p) ∙ finite_at b (j * c + k) f (rw l (at_in j k d c p s)))))

-- ---- the order of two factors
pub sum_comm : (f g : ℕ → Float) (n : ℕ) → sum_terms false f g n ≡ sum_terms false g f n
unfolding sum_terms
sum_comm f g zero = refl
sum_comm f g (suc n) = λ i. sum_comm f g n i ⊕ mul_comm_float (f n) (g n) i

-- a times the transpose of b, as the transpose of b times the transpose of a
pub transposed_product : (r c d : ℕ) (a b : List Float) {p o : List Float} → p ≡ mul_transpose d c r b a → o ≡ transpose d r p → o ≡ mul_transpose r c d a b
unfolding mul_transpose transpose
transposed_product r c d a b {p} {o} e q =
    q
    ∙ matrix_ext r d _ _
    (λ i j h k. ap (λ (l : List Float). at r l j i) e ∙ entry d r (λ x y. sum_terms false (at c b x) (at c a y) c) j i k h ∙ sum_comm (at c b j) (at c a i) c)

-- s ⊗ b added to each entry of m, as the entries of b times s
pub scaled_added : (n : ℕ) (m b : List Float) (s : Float) {o : List Float} → o ≡ tab n (λ k. get_or m k nan ⊕ s ⊗ get_or b (0 + k) nan) → o ≡ add_matrix n m (scaled n b s)
unfolding add_matrix scaled
scaled_added n m b s e =
    e ∙ tab_ext n _ _ (λ k h. ap (λ x. get_or m k nan ⊕ x) (rw zero-add (mul_comm_float s (get_or b k nan)) ∙ sym (get_d_tab n (λ j. get_or b j nan ⊗ s) k nan h)))

-- ---- a product with a diagonal matrix
zero_is : eq plus_zero plus_zero ≡ true
unfolding eq of_bits
zero_is = refl

zero_finite : is_finite plus_zero ≡ true
unfolding is_finite of_bits
zero_finite = refl

-- column j of a diagonal matrix
abbrev diagonal_column : (ℕ → Float) → ℕ → ℕ → Float
diagonal_column d j k = cond (eqb k j) (d k) plus_zero

-- a term off the diagonal changes nothing
off_diagonal : (f d : ℕ → Float) (j n : ℕ) → eqb n j ≡ false → is_finite (f n) ≡ true →
    sum_terms false f (diagonal_column d j) (suc n) ≡ sum_terms false f (diagonal_column d j) n
unfolding sum_terms
off_diagonal f d j n e h = rw e (zero_right (f n) plus_zero (summed false f (diagonal_column d j) n) h zero_is)

-- the terms before place j are zeros
before_diagonal : (f d : ℕ → Float) (j n : ℕ) → n ≤ j → ((k : ℕ) → k < n → is_finite (f k) ≡ true) → sum_terms false f (diagonal_column d j) n ≡ plus_zero
before_diagonal f d j zero l h = unfold sum_terms in refl
before_diagonal f d j (suc n) l h =
    off_diagonal f d j n (ne_eqb n j (λ e. lt_irrefl n (rw (← e) at l))) (h n (le_refl (suc n)))
    ∙ before_diagonal f d j n (omega (arith, l)) (λ k p. h k (le_step p))

-- of the whole sum the term at place j is left
diagonal_sum : (f d : ℕ → Float) (j n : ℕ) → j < n → ((k : ℕ) → k < n → is_finite (f k) ≡ true) → sum_terms false f (diagonal_column d j) n ≡ plus_zero ⊕ f j ⊗ d j
diagonal_sum f d j zero l h = absurd (not-suc-le-zero l)
diagonal_sum f d j (suc n) l h =
    ⊎_elim
    (λ (p : j < n). off_diagonal f d j n (ne_eqb n j (λ e. lt_irrefl n (rw (← e) at p))) (h n (le_refl (suc n))) ∙ diagonal_sum f d j n p (λ k q. h k (le_step q)))
    (λ (p : n ≤ j). on_diagonal (omega (arith, l, p)) (before_diagonal f d j n p (λ k q. h k (le_step q))))
    (lt_or_le j n)
  where
    on_diagonal : n ≡ j → sum_terms false f (diagonal_column d j) n ≡ plus_zero → sum_terms false f (diagonal_column d j) (suc n) ≡ plus_zero ⊕ f j ⊗ d j
    on_diagonal e z = unfold sum_terms in rw (z, eq-eqb n j e, e) refl

-- the product of a finite r by c matrix and the diagonal matrix of finite numbers: each column times its number
pub diagonal_product : (r c : ℕ) (a d : List Float) → length a ≡ r * c → length d ≡ c → all_finite a ≡ true → all_finite d ≡ true →
    matrix r c (λ i j. plus_zero ⊕ at c a i j ⊗ get_or d j nan) ≡ matmul r c c a (from_diagonal c d)
unfolding matmul from_diagonal
diagonal_product r c a d l m f g =
    matrix_ext r c _ _
    (λ i j h p.
    sym
    (sum_ext true (at c a i) (λ k. at c (from_diagonal c d) k j) (diagonal_column (λ k. get_or d k nan) j) c (λ k q. entry c c (λ x y. cond (eqb x y) (get_or d x nan) plus_zero) k j q p)
    ∙ skip_same (at c a i) (diagonal_column (λ k. get_or d k nan) j) c (λ k q. finite_cond (eqb k j) (get_or d k nan) (finite_at d k g (rw m q)))
    ∙ diagonal_sum (at c a i) (λ k. get_or d k nan) j c p (λ k q. finite_at a (i * c + k) f (rw l (at_in i k r c h q)))))
  where
    finite_cond : (b : Bool) (x : Float) → is_finite x ≡ true → is_finite (cond b x plus_zero) ≡ true
    finite_cond true x e = e
    finite_cond false x e = zero_finite
