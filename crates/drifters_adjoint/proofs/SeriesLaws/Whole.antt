-- The matrix [[P, 0], [Q, P]] and its first three columns: the product and the sum of two such matrices are of that form. Assumes nothing.
use mathlib.Core.Path.{◌≡◌, refl, sym, ap, ◌∙◌}
use mathlib.Core.Bool.{true, false}
use mathlib.Core.List.{List}
use mathlib.Core.Logic.{⊎_elim}
use Prim.Native.Nat.{ℕ, ◌+◌, ◌-◌, ◌*◌, ◌≤◌, ◌<◌}
use native.Mathlib.Omega.{arith}
use borrow.Author.Tests.{lt-ltb, le-ltb}
use lib.Ieee.{Float, nan, add, of_bits}
use lib.ListN.{length, get_or}
use Rattle.drifters_real.specs.Scalar.{◌⊕◌, ◌⊗◌, plus_zero}
use Rattle.drifters_real.specs.Real.{is_finite}
use Rattle.drifters_matrix.specs.Matrix.{at, sum_terms, matmul, scaled, add_matrix}
use Rattle.drifters_matrix.proofs.Matrix.Tab.{length_tab, get_d_tab}
use Rattle.drifters_matrix.proofs.Matrix.Grid.{at_in, entry, matrix_is, lt_or_le}
use Rattle.drifters_adjoint.specs.Series.{whole_at, whole, product_at, times_blocks}
use Rattle.drifters_matrix.proofs.Matrix.Skips.{skip_same}
use Rattle.drifters_adjoint.proofs.SeriesLaws.Terms.{idle_left, idle_right, sum_start, sum_rest, sum_same}

-- the 18 numbers are finite
pub record Finite (t : List Float) : Type 0 where
  pub each : (n : ℕ) → n < 18 → is_finite (get_or t n nan) ≡ true

finite_entry : {t : List Float} → Finite t → (i j : ℕ) → i < 6 → j < 3 → is_finite (at 3 t i j) ≡ true
finite_entry h i j p q = h.each (i * 3 + j) (at_in i j 6 3 p q)

-- ---- the blocks of the whole matrix

at_left : (t : List Float) (i j : ℕ) → j < 3 → whole_at t i j ≡ at 3 t i j
at_left t i j q = rw (lt-ltb j 3 q)

at_above : (t : List Float) (i j : ℕ) → i < 3 → whole_at t i (3 + j) ≡ plus_zero
at_above t i j p = rw (le-ltb (3 + j) 3 (omega arith), lt-ltb i 3 p)

at_lower : (t : List Float) (i j : ℕ) → whole_at t (3 + i) (3 + j) ≡ at 3 t i j
at_lower t i j =
    let d : 3 + i - 3 ≡ i = omega arith in
    let e : 3 + j - 3 ≡ j = omega arith in
    rw (le-ltb (3 + j) 3 (omega arith), le-ltb (3 + i) 3 (omega arith), d, e)

-- a law of every entry, block by block
module _ (R : ℕ → ℕ → Type 0) (left : (i j : ℕ) → i < 6 → j < 3 → R i j) (above : (i j : ℕ) → i < 3 → j < 3 → R i (3 + j))
    (lower : (i j : ℕ) → i < 3 → j < 3 → R (3 + i) (3 + j)) where
  right : (i j : ℕ) → i < 6 → j < 3 → R i (3 + j)
  right i j p q =
      ⊎_elim
      (λ (h : i < 3). above i j h q)
      (λ (h : 3 ≤ i). let e : 3 + (i - 3) ≡ i = omega arith in rw e at (lower (i - 3) j (omega arith) q))
      (lt_or_le i 3)

  by_blocks : (i j : ℕ) → i < 6 → j < 6 → R i j
  by_blocks i j p q =
      ⊎_elim
      (λ (h : j < 3). left i j p h)
      (λ (h : 3 ≤ j). let e : 3 + (j - 3) ≡ j = omega arith in rw e at (right i (j - 3) p (omega arith)))
      (lt_or_le j 3)

-- every entry of the whole matrix is finite
finite_whole : {t : List Float} → Finite t → (i j : ℕ) → i < 6 → j < 6 → is_finite (whole_at t i j) ≡ true
unfolding is_finite of_bits
finite_whole {t} h =
    by_blocks (λ i j. is_finite (whole_at t i j) ≡ true)
    (λ i j p q. ap is_finite (at_left t i j q) ∙ finite_entry h i j p q)
    (λ i j p q. ap is_finite (at_above t i j p))
    (λ i j p q. ap is_finite (at_lower t i j) ∙ finite_entry h i j (omega arith) q)

-- a matrix is the whole of u where its blocks are those of u
whole_is : (l u : List Float) → length l ≡ 36 → ((i j : ℕ) → i < 6 → j < 3 → at 6 l i j ≡ at 3 u i j) → ((i j : ℕ) → i < 3 → j < 3 → at 6 l i (3 + j) ≡ plus_zero) →
    ((i j : ℕ) → i < 3 → j < 3 → at 6 l (3 + i) (3 + j) ≡ at 3 u i j) → l ≡ whole u
unfolding whole
whole_is l u e left above lower =
    matrix_is 6 6 (whole_at u) l e
    (by_blocks (λ i j. at 6 l i j ≡ whole_at u i j)
    (λ i j p q. left i j p q ∙ sym (at_left u i j q))
    (λ i j p q. above i j p q ∙ sym (at_above u i j p))
    (λ i j p q. lower i j p q ∙ sym (at_lower u i j)))

whole_at_lem : (t : List Float) (i j : ℕ) → i < 6 → j < 6 → at 6 (whole t) i j ≡ whole_at t i j
unfolding whole
whole_at_lem t = entry 6 6 (whole_at t)

-- ---- the sum

pub whole_add : (p t : List Float) → add_matrix 36 (whole p) (whole t) ≡ whole (add_matrix 18 p t)
unfolding add_matrix
whole_add p t =
    whole_is _ _ (length_tab 36 _)
    (λ i j a b. sums i j a (omega arith) ∙ (λ x. at_left p i j b x ⊕ at_left t i j b x) ∙ sym (sum_at i j a b))
    (λ i j a b. sums i (3 + j) (omega arith) (omega arith) ∙ (λ x. at_above p i j a x ⊕ at_above t i j a x) ∙ zeros)
    (λ i j a b. sums (3 + i) (3 + j) (omega arith) (omega arith) ∙ (λ x. at_lower p i j x ⊕ at_lower t i j x) ∙ sym (sum_at i j (omega arith) b))
  where
    zeros : plus_zero ⊕ plus_zero ≡ plus_zero
    zeros = unfold add of_bits in refl

    sums : (i j : ℕ) → i < 6 → j < 6 → at 6 (add_matrix 36 (whole p) (whole t)) i j ≡ whole_at p i j ⊕ whole_at t i j
    sums i j a b = get_d_tab 36 _ (i * 6 + j) nan (at_in i j 6 6 a b) ∙ (λ x. whole_at_lem p i j a b x ⊕ whole_at_lem t i j a b x)

    sum_at : (i j : ℕ) → i < 6 → j < 3 → at 3 (add_matrix 18 p t) i j ≡ at 3 p i j ⊕ at 3 t i j
    sum_at i j a b = get_d_tab 18 _ (i * 3 + j) nan (at_in i j 6 3 a b)

-- ---- the product

-- entry (i, j) of the product of the whole matrices, no zero skipped
abbrev dot : List Float → List Float → ℕ → ℕ → Float
dot t m i j = sum_terms false (whole_at t i) (λ n. whole_at m n j) 6

module _ {t m : List Float} (h : Finite t) (k : Finite m) where
  -- in the first three columns
  dot_left : (i j : ℕ) → i < 6 → j < 3 → dot t m i j ≡ product_at t m i j
  dot_left i j p q =
      sum_same (whole_at t i) (whole_at t i) (λ n. whole_at m n j) (λ n. at 3 m n j) 6 (λ n a. refl) (λ n a. at_left m n j q)
      ∙ ⊎_elim
      (λ (a : i < 3). rw (lt-ltb i 3 a) (sum_start (whole_at t i) (λ n. at 3 m n j) 3 3 (λ n b. idle_left (at_above t i n a) (finite_entry k (3 + n) j (omega arith) q))))
      (λ (a : 3 ≤ i). rw (le-ltb i 3 a))
      (lt_or_le i 3)

  -- above the diagonal
  dot_above : (i j : ℕ) → i < 3 → j < 3 → dot t m i (3 + j) ≡ plus_zero
  unfolding sum_terms
  dot_above i j p q =
      sum_start (whole_at t i) (λ n. whole_at m n (3 + j)) 3 3 (λ n a. idle_left (at_above t i n p) (finite_whole k (3 + n) (3 + j) (omega arith) (omega arith)))
      ∙ sum_start (whole_at t i) (λ n. whole_at m n (3 + j)) 0 3 (λ n a. idle_right (finite_whole h i (0 + n) (omega arith) (omega arith)) (at_above m (0 + n) j (omega arith)))

  -- below it, the sums of the first rows
  dot_lower : (i j : ℕ) → i < 3 → j < 3 → dot t m (3 + i) (3 + j) ≡ product_at t m i j
  dot_lower i j p q =
      sum_rest (whole_at t (3 + i)) (λ n. whole_at m n (3 + j)) 3 3 (λ n a. idle_right (finite_whole h (3 + i) n (omega arith) (omega arith)) (at_above m n j a))
      ∙ sum_same _ (whole_at t i) _ (λ n. at 3 m n j) 3 (λ n a. at_lower t i n ∙ sym (at_left t i n a)) (λ n a. at_lower m n j)
      ∙ rw (lt-ltb i 3 p) refl

  product_at_lem : (i j : ℕ) → i < 6 → j < 6 → at 6 (matmul 6 6 6 (whole t) (whole m)) i j ≡ dot t m i j
  unfolding matmul
  product_at_lem i j a b =
      entry 6 6 _ i j a b
      ∙ skip_same _ _ 6 (λ n c. ap is_finite (whole_at_lem m n j c b) ∙ finite_whole k n j c b)
      ∙ sum_same _ _ _ _ 6 (λ n c. whole_at_lem t i n a c) (λ n c. whole_at_lem m n j c b)

  -- the product, times an s that keeps zeros
  pub whole_times : (s : Float) → plus_zero ⊗ s ≡ plus_zero → scaled 36 (matmul 6 6 6 (whole t) (whole m)) s ≡ whole (times_blocks t m s)
  unfolding scaled times_blocks
  whole_times s z =
      whole_is _ _ (length_tab 36 _)
      (λ i j a b. products i j a (omega arith) ∙ ap (λ (x : Float). x ⊗ s) (dot_left i j a b) ∙ sym (next_at i j a b))
      (λ i j a b. products i (3 + j) (omega arith) (omega arith) ∙ ap (λ (x : Float). x ⊗ s) (dot_above i j a b) ∙ z)
      (λ i j a b. products (3 + i) (3 + j) (omega arith) (omega arith) ∙ ap (λ (x : Float). x ⊗ s) (dot_lower i j a b) ∙ sym (next_at i j (omega arith) b))
    where
      next_at : (i j : ℕ) → i < 6 → j < 3 → at 3 (times_blocks t m s) i j ≡ product_at t m i j ⊗ s
      next_at = entry 6 3 _

      products : (i j : ℕ) → i < 6 → j < 6 → at 6 (scaled 36 (matmul 6 6 6 (whole t) (whole m)) s) i j ≡ dot t m i j ⊗ s
      products i j a b = get_d_tab 36 _ (i * 6 + j) nan (at_in i j 6 6 a b) ∙ ap (λ (x : Float). x ⊗ s) (product_at_lem i j a b)
