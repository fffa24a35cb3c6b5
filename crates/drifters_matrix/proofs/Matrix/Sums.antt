-- The laws of the sums of products. Assumes nothing.
use mathlib.Core.Path.{◌≡◌, refl, sym, ap, ◌∙◌}
use mathlib.Core.Bool.{Bool, true, false, and-false}
use mathlib.Core.List.{List}
use mathlib.Core.Logic.{◌⊎◌, ⊎_elim}
use Prim.Native.Nat.{ℕ, zero, suc, ◌+◌, ◌*◌, ◌<◌}
use native.Mathlib.Nat.{le_refl, le_step}
use native.Mathlib.Numerals.{add-one}
use lib.ListN.{length, get_or, replicate, length-replicate}
use lib.Ieee.{Float, nan, eq}
use Rattle.drifters_real.specs.Scalar.{◌⊕◌, ◌⊗◌, plus_zero}
use Rattle.drifters_matrix.specs.Matrix.{tab, at, matrix, transpose, add_term, sum_terms, mul_transpose}
use Rattle.drifters_matrix.proofs.Matrix.Tab.{tab_ext, tab_replicate, get_d_tab}
use Rattle.drifters_matrix.proofs.Matrix.Grid.{length_matrix, entry, matrix_is}
use Rattle.drifters_matrix.proofs.Matrix.RowStart.{RowStart}

module _ (skip : Bool) (f g : ℕ → Float) (k : ℕ) where
  -- a term that is skipped
  pub sum_skip : skip ≡ true → eq (f k) plus_zero ≡ true → sum_terms skip f g (k + 1) ≡ sum_terms skip f g k
  unfolding sum_terms
  sum_skip t z = rw (add-one, t, z) (ap (λ (s : Bool). sum_terms s f g k) t)

  -- a term that is added
  pub sum_add : (skip ≡ false) ⊎ (eq (f k) plus_zero ≡ false) → sum_terms skip f g (k + 1) ≡ sum_terms skip f g k ⊕ f k ⊗ g k
  unfolding sum_terms
  sum_add = ⊎_elim (λ t. rw (add-one, t) (ap (λ (s : Bool). sum_terms s f g k ⊕ f k ⊗ g k) t)) (λ z. rw (add-one, z, and-false))

pub sum_ext : (skip : Bool) (f g h : ℕ → Float) (n : ℕ) → ((k : ℕ) → k < n → g k ≡ h k) → sum_terms skip f g n ≡ sum_terms skip f h n
unfolding sum_terms
sum_ext skip f g h zero e = refl
sum_ext skip f g h (suc n) e = let t = sum_ext skip f g h n (λ k p. e k (le_step p)) in λ i. add_term skip (t i) (f n) (e n (le_refl (suc n)) i)

-- o is the product with t, and t the transpose of b
pub product_transpose : (r c d : ℕ) (a b : List Float) {t o : List Float} → t ≡ transpose d c b →
    o ≡ matrix r d (λ i j. sum_terms false (at c a i) (λ k. at d t k j) c) → o ≡ mul_transpose r c d a b
unfolding transpose mul_transpose
product_transpose r c d a b {t} {o} e q =
    q ∙ matrix_is r d (λ i j. sum_terms false (at c a i) (at c b j) c) (matrix r d p) (length_matrix r d p)
    (λ i j h k. entry r d p i j h k ∙ sum_ext false (at c a i) (λ m. at d t m j) (at c b j) c (λ m s. ap (λ (l : List Float). at d l m j) e ∙ entry c d (λ y x. at c b x y) m j s k))
  where
    p : ℕ → ℕ → Float
    p i j = sum_terms false (at c a i) (λ k. at d t k j) c

-- entry j of a row of n entries after k terms: the row a[s..] times the columns of b
abbrev pub row_sum : Bool → List Float → ℕ → List Float → ℕ → ℕ → ℕ → Float
row_sum skip a s b n k j = sum_terms skip (λ m. get_or a (s + m) nan) (λ m. get_or b (m * n + j) nan) k

module _ (skip : Bool) (a : List Float) (s : ℕ) (b : List Float) where
  -- zeros are the sums of no term
  pub row_none : (n : ℕ) {l : List Float} → l ≡ replicate n plus_zero → l ≡ tab (length l) (row_sum skip a s b (length l) 0)
  unfolding sum_terms
  row_none n {l} e = rw (ap length e ∙ length-replicate n plus_zero) (e ∙ tab_replicate n plus_zero)

  pub row_skip : (n k : ℕ) → skip ≡ true → eq (get_or a (s + k) nan) plus_zero ≡ true → tab n (row_sum skip a s b n k) ≡ tab n (row_sum skip a s b n (k + 1))
  row_skip n k t z = tab_ext n _ _ (λ j h. sym (sum_skip skip _ _ k t z))

  -- l is the row before term k, l' after it; row k of b starts at t
  pub row_add : (n k : ℕ) {t : ℕ} {l l' : List Float} → RowStart k n t → length l ≡ n → l ≡ tab n (row_sum skip a s b n k) →
      l' ≡ tab (length l) (λ j. get_or l j nan ⊕ get_or a (s + k) nan ⊗ get_or b (t + j) nan) →
      (skip ≡ false) ⊎ (eq (get_or a (s + k) nan) plus_zero ≡ false) → l' ≡ tab n (row_sum skip a s b n (k + 1))
  row_add n k {t} {l} h w q r z =
      r ∙ (λ i. tab (w i) (λ j. get_or l j nan ⊕ get_or a (s + k) nan ⊗ get_or b (h.start i + j) nan))
      ∙ tab_ext n _ _
      (λ j p.
      ap (λ y. y ⊕ get_or a (s + k) nan ⊗ get_or b (k * n + j) nan) (ap (λ (m : List Float). get_or m j nan) q ∙ get_d_tab n _ j nan p)
      ∙ sym (sum_add skip _ _ k z))

  pub row_done : (c : ℕ) {n k d : ℕ} {l : List Float} → l ≡ tab n (row_sum skip a s b n k) → n ≡ d → k ≡ c → l ≡ tab d (row_sum skip a s b d c)
  row_done c e p q = e ∙ (λ i. tab (p i) (row_sum skip a s b (p i) (q i)))
