-- What the loop of `substitute_row` over the entries of a row keeps, one row more of a substitution, and both substitutions. Assumes nothing.
use mathlib.Core.Path.{◌≡◌, refl, sym, ap, ◌∙◌}
use mathlib.Core.Bool.{Bool, true, false, cond}
use mathlib.Core.List.{List}
use mathlib.Core.Logic.{⊎_elim, ◌≢◌}
use Prim.Native.Nat.{ℕ, ◌+◌, ◌-◌, ◌*◌, ◌≤◌, ◌<◌}
use native.Mathlib.Nat.{eq-or-lt_of_le, le_refl}
use native.Mathlib.Numerals.{add-one}
use native.Mathlib.Omega.{arith}
use borrow.Author.Count.{below_more}
use borrow.Author.Tests.{eqb-true, eqb-false}
use lib.Dec.{eqb}
use lib.ListN.{length, get_or, set}
use lib.Seq.{get_or-set_same, get_or-set_other}
use lib.Ieee.{Float, nan}
use Rattle.drifters_matrix.specs.Matrix.{at}
use Rattle.drifters_cholesky.specs.Cholesky.{sub_terms, set_row, substituted, forward_row, forward, back_row, back, solve}
use Rattle.drifters_matrix.proofs.Matrix.Grid.{row_in, lt_or_le, matrix_is}
use Rattle.drifters_cholesky.proofs.SubTerms.{sub_ext}

-- x is o, a matrix of c columns, with the first j entries of row i replaced by those of f
pub record RowReplaced (c i : ℕ) (f : ℕ → Float) (o : List Float) (j : ℕ) (x : List Float) : Type 0 where
  pub done : (q : ℕ) → q < j → at c x i q ≡ f q
  pub above : (k : ℕ) → k < i * c → get_or x k nan ≡ get_or o k nan
  pub left : (k : ℕ) → i * c + j ≤ k → get_or x k nan ≡ get_or o k nan

pub replaced_set : {c i : ℕ} {f : ℕ → Float} {o : List Float} {j : ℕ} {x : List Float} {v : Float} → RowReplaced c i f o j x → i * c + j < length x → v ≡ f j →
    RowReplaced c i f o (j + 1) (set x (i * c + j) v)
replaced_set {c} {i} {f} {o} {j} {x} {v} w h e = record {
  done = below_more (λ q. at c (set x (i * c + j) v) i q ≡ f q) j
      (λ q a. get_or-set_other x (i * c + j) (i * c + q) v nan (λ z. omega (arith, z, a)) ∙ w.done q a)
      (get_or-set_same x (i * c + j) v nan h ∙ e);
  above = λ k a. get_or-set_other x (i * c + j) k v nan (λ z. omega (arith, z, a)) ∙ w.above k a;
  left = λ k a. get_or-set_other x (i * c + j) k v nan (λ z. omega (arith, z, a)) ∙ w.left k (omega (arith, a));
}

-- the other rows are as they were
pub other_row : {c i : ℕ} {f : ℕ → Float} {o : List Float} {j : ℕ} {x : List Float} (p q : ℕ) → RowReplaced c i f o j x → p ≢ i → j ≤ c → q < c → at c x p q ≡ at c o p q
other_row {c} {i} p q w d a b =
    ⊎_elim
    (λ (h : p < i). w.above (p * c + q) (omega (arith, row_in p i c h)))
    (λ (h : i ≤ p). w.left (p * c + q) (⊎_elim
    (λ (z : i ≡ p). absurd (d (sym z)))
    (λ (z : i < p). omega (arith, row_in i p c z))
    (eq-or-lt_of_le h)))
    (lt_or_le p i)

-- entry (i, j) less products with entries of other rows, which are as they were
pub same_terms : {c i : ℕ} {f : ℕ → Float} {o : List Float} {j : ℕ} {x : List Float} (g : ℕ → Float) (from m : ℕ) → RowReplaced c i f o j x → j < c →
    ((k : ℕ) → k < m → from + k ≢ i) → sub_terms (at c x i j) g (λ k. at c x (from + k) j) m ≡ sub_terms (at c o i j) g (λ k. at c o (from + k) j) m
same_terms {c} {i} {f} {o} {j} {x} g from m w h d =
    sub_ext g (λ k. at c x (from + k) j) (λ k. at c o (from + k) j) m (w.left (i * c + j) (le_refl (i * c + j))) (λ k a. other_row (from + k) j w (d k a) (omega arith) h)

pub replaced_done : {c i : ℕ} {f : ℕ → Float} {o : List Float} {j : ℕ} {x : List Float} (n : ℕ) → RowReplaced c i f o j x → j ≡ c → length x ≡ n * c → x ≡ set_row n c i f o
unfolding set_row
replaced_done {c} {i} {f} {o} {j} {x} n w e s = matrix_is n c _ x s (λ p q h k. entry p q k (eqb p i) refl)
  where
    entry : (p q : ℕ) → q < c → (t : Bool) → eqb p i ≡ t → at c x p q ≡ cond t (f q) (at c o p q)
    entry p q k true y = rw (eqb-true p i y) (w.done q (omega arith))
    entry p q k false y = other_row p q w (eqb-false p i y) (omega arith) k

-- one row more
pub forward_next : (n c : ℕ) (l b : List Float) (i : ℕ) {x x' : List Float} → x ≡ forward n c l b i →
    x' ≡ substituted n c l i (λ k. get_or l (k * 1 + i * n) nan) 0 (i - 0) x → x' ≡ forward n c l b (i + 1)
unfolding forward
forward_next n c l b i {x} e h =
    let z : (k : ℕ) → k * 1 + i * n ≡ i * n + k = λ k. omega arith in
    let m : i - 0 ≡ i = omega arith in
    h ∙ (λ t. substituted n c l i (λ k. get_or l (z k t) nan) 0 (m t) x) ∙ ap (forward_row n c l i) e ∙ sym (ap (forward n c l b) (add-one i))

pub back_next : (n c : ℕ) (l y : List Float) (p : ℕ) {i : ℕ} {x x' : List Float} → i ≡ n - (p + 1) → x ≡ back n c l y p → x' ≡ back_row n c l i x → x' ≡ back n c l y (p + 1)
unfolding back
back_next n c l y p {i} z e h = h ∙ ap (back_row n c l i) e ∙ ap (λ (q : ℕ). back_row n c l q (back n c l y p)) z ∙ sym (ap (back n c l y) (add-one p))

-- both substitutions
pub solved : (n c : ℕ) (l b : List Float) {y x : List Float} → y ≡ forward n c l b n → x ≡ back n c l y n → x ≡ solve n c l b
unfolding solve
solved n c l b h e = e ∙ ap (λ z. back n c l z n) h
