-- The definitions of Cholesky.antt keep `LikeMatrix`: the pivots of two factors are the same numbers, since a pivot is above 0. Assumes nothing.
use mathlib.Core.Path.{◌≡◌, refl, sym, ap, ap₂, ◌∙◌}
use mathlib.Core.List.{List}
use mathlib.Core.Logic.{⊎_elim}
use Prim.Native.Nat.{ℕ, zero, suc, ◌+◌, ◌-◌, ◌*◌, ◌≤◌, ◌<◌}
use native.Mathlib.Nat.{le_refl, lt_irrefl, eq-or-lt_of_le, le_of_suc-le-suc}
use native.Mathlib.Omega.{arith}
use mathlib.Core.Bool.{Bool, true, false, not, ◌||◌}
use borrow.Author.Tests.{eqb-true, eqb-false}
use lib.Dec.{eqb}
use lib.ListN.{length, set, length-set, length-replicate}
use lib.Seq.{get_or-set_same, get_or-set_other}
use lib.Ieee.{Float, nan, unlike, le}
use Rattle.std.proofs.lemmas.Nat.{same_from_place}
use Rattle.std.proofs.lemmas.Bool.{or_parts}
use Rattle.drifters_real.specs.Scalar.{plus_zero}
use Rattle.drifters_real.specs.Real.{sqrt, is_finite}
use Rattle.drifters_matrix.specs.Matrix.{at}
use Rattle.drifters_cholesky.specs.Cholesky.{Factor, none, lower, bad_pivot, reduced, factor_entry, factor_columns, factor_rows, cholesky, set_row, substituted, forward, back, solve}
use Rattle.drifters_demands.specs.Like.{Like, LikeMatrix}
use Rattle.drifters_matrix.proofs.Matrix.Grid.{at_in}
use Rattle.drifters_demands.proofs.Signs.Sign.{unlike_same, unlike_comm, signs}
use Rattle.drifters_demands.proofs.Signs.Like.{cond_keeps, cond_keeps_same, like_as, like_refl}
use Rattle.drifters_demands.proofs.Signs.Ops.{like_mul_as, like_div_equal}
use Rattle.drifters_demands.proofs.Signs.Compare.{like_le, like_not_le_zero}
use Rattle.drifters_demands.proofs.Signs.Real.{like_is_finite}
use Rattle.drifters_demands.proofs.Signs.Matrix.{like_matrix, like_zeros, like_sub_terms}

-- two n by n factors: alike, and the first d entries on the diagonal the same
pub record LikeLower (σ : ℕ → Bool) (n d : ℕ) (l l' : List Float) : Type 0 where
  pub alike : LikeMatrix σ σ n n l l'
  pub pivots : (i : ℕ) → i < d → at n l i i ≡ at n l' i i

-- the same, of n * n entries each
pub record LikeSizedLower (σ : ℕ → Bool) (n d : ℕ) (l l' : List Float) : Type 0 where
  pub size : length l ≡ n * n
  pub size' : length l' ≡ n * n
  pub lowers : LikeLower σ n d l l'

-- both are none, or both factors that are alike
pub data LikeFactor (σ : ℕ → Bool) (n d : ℕ) : Factor → Factor → Type 0 where
  like_none : LikeFactor σ n d none none
  like_lower : {l l' : List Float} → LikeSizedLower σ n d l l' → LikeFactor σ n d (lower l) (lower l')

-- ---- one more entry is stored
module _ (n i j : ℕ) (I : i < n) (J : j < n) (l : List Float) (size : length l ≡ n * n) (v : Float) where
  stored : at n (set l (i * n + j) v) i j ≡ v
  stored = get_or-set_same l (i * n + j) v nan (rw size (at_in i j n n I J))

  not_stored : (p q : ℕ) → q < n → ((p ≡ i) × (q ≡ j) → ⊥) → at n (set l (i * n + j) v) p q ≡ at n l p q
  not_stored p q Q differ = get_or-set_other l (i * n + j) (p * n + q) v nan (λ e. differ (same_from_place p q i j n Q J e))

module _ {σ : ℕ → Bool} {n i : ℕ} {l l' : List Float} (h : LikeSizedLower σ n i l l') (j : ℕ) (I : i < n) (J : j < n) where
  store_alike : {v v' : Float} → Like (unlike (σ i) (σ j)) v v' → LikeMatrix σ σ n n (set l (i * n + j) v) (set l' (i * n + j) v')
  store_alike {v} {v'} k = record { entry = λ p q P Q. at_place p q P Q (eqb p i) refl (eqb q j) refl }
    where
      other : (p q : ℕ) → p < n → q < n → ((p ≡ i) × (q ≡ j) → ⊥) → Like (unlike (σ p) (σ q)) (at n (set l (i * n + j) v) p q) (at n (set l' (i * n + j) v') p q)
      other p q P Q differ = rw (not_stored n i j I J l h.size v p q Q differ, not_stored n i j I J l' h.size' v' p q Q differ) (h.lowers.alike.entry p q P Q)

      at_place : (p q : ℕ) → p < n → q < n → (t : Bool) → eqb p i ≡ t → (u : Bool) → eqb q j ≡ u
          → Like (unlike (σ p) (σ q)) (at n (set l (i * n + j) v) p q) (at n (set l' (i * n + j) v') p q)
      at_place p q P Q false e u f = other p q P Q (λ z. eqb-false p i e z.0)
      at_place p q P Q true e false f = other p q P Q (λ z. eqb-false q j f z.1)
      at_place p q P Q true e true f =
          rw (eqb-true p i e, eqb-true q j f, stored n i j I J l h.size v, stored n i j I J l' h.size' v') k

  -- the pivots above row i stay
  store_pivots : (v v' : Float) (p : ℕ) → p < i → at n (set l (i * n + j) v) p p ≡ at n (set l' (i * n + j) v') p p
  store_pivots v v' p P =
      let Q : p < n = omega arith in
      let differ : (p ≡ i) × (p ≡ j) → ⊥ = λ z. omega (arith, z.0) in
      not_stored n i j I J l h.size v p p Q differ ∙ h.lowers.pivots p P ∙ sym (not_stored n i j I J l' h.size' v' p p Q differ)

-- an entry left of the diagonal
store_entry : {σ : ℕ → Bool} {n i : ℕ} {l l' : List Float} (h : LikeSizedLower σ n i l l') (j : ℕ) (I : i < n) (J : j < n) {v v' : Float} → Like (unlike (σ i) (σ j)) v v'
    → LikeSizedLower σ n i (set l (i * n + j) v) (set l' (i * n + j) v')
store_entry {n} {i} {l} {l'} h j I J {v} {v'} k = record {
  size = length-set l (i * n + j) v ∙ h.size;
  size' = length-set l' (i * n + j) v' ∙ h.size';
  lowers = record {
    alike = store_alike h j I J k;
    pivots = store_pivots h j I J v v';
  };
}

-- the root of a pivot
store_pivot : {σ : ℕ → Bool} {n i : ℕ} {l l' : List Float} (h : LikeSizedLower σ n i l l') (I : i < n) {v v' : Float} → v ≡ v'
    → LikeSizedLower σ n (suc i) (set l (i * n + i) v) (set l' (i * n + i) v')
store_pivot {σ} {n} {i} {l} {l'} h I {v} {v'} e = record {
  size = length-set l (i * n + i) v ∙ h.size;
  size' = length-set l' (i * n + i) v' ∙ h.size';
  lowers = record {
    alike = store_alike h i I I (rw (unlike_same (σ i), e) like_refl);
    pivots = λ p P.
        ⊎_elim
        (λ (q : p ≡ i). rw q (stored n i i I I l h.size v ∙ e ∙ sym (stored n i i I I l' h.size' v')))
        (store_pivots h i I I v v' p)
        (eq-or-lt_of_le (le_of_suc-le-suc P));
  };
}

-- ---- the factorisation
pub like_bad_pivot : {x x' : Float} → Like false x x' → bad_pivot x ≡ bad_pivot x'
like_bad_pivot h = ap₂ (λ p q. not p || q) (like_is_finite h) (like_le h (like_refl {x = plus_zero}))

-- two pivots that are alike and not bad are the same
pub like_good_pivot : {x x' : Float} → Like false x x' → bad_pivot x ≡ false → x ≡ x'
like_good_pivot {x} h e = like_not_le_zero h (or_parts (not (is_finite x)) (le x plus_zero) e).1

-- the entries left of the diagonal are divided by a pivot that is there already; one more pivot is made at the row's end
module _ {σ : ℕ → Bool} {n : ℕ} {a a' : List Float} (A : LikeMatrix σ σ n n a a') where
  like_reduced : {d : ℕ} {l l' : List Float} → LikeLower σ n d l l' → (i j : ℕ) → i < n → j < n → Like (unlike (σ i) (σ j)) (reduced n a l i j) (reduced n a' l' i j)
  like_reduced h i j I J =
      like_sub_terms _ _ _ _ j (A.entry i j I J)
      (λ k K. let N : k < n = omega arith in like_mul_as (h.alike.entry i k I N) (h.alike.entry j k J N) (simp signs))

  like_factor_entry_left : {f f' : Factor} (i j : ℕ) → i < n → j < i → LikeFactor σ n i f f' → LikeFactor σ n i (factor_entry n a i j f) (factor_entry n a' i j f')
  unfolding factor_entry
  like_factor_entry_left i j I J like_none = like_none
  like_factor_entry_left i j I J (like_lower {l} {l'} h) =
      let N : j < n = omega arith in
      cond_keeps_same (LikeFactor σ n i) (eqb i j)
      (λ e. absurd (lt_irrefl j (rw (eqb-true i j e) at J)))
      (λ e. like_lower (store_entry h j I N (like_div_equal (like_reduced h.lowers i j I N) (h.lowers.pivots j J))))

  like_factor_entry_pivot : {f f' : Factor} (i : ℕ) → i < n → LikeFactor σ n i f f' → LikeFactor σ n (suc i) (factor_entry n a i i f) (factor_entry n a' i i f')
  unfolding factor_entry
  like_factor_entry_pivot i I like_none = like_none
  like_factor_entry_pivot i I (like_lower {l} {l'} h) =
      let x : Float = reduced n a l i i in
      let x' : Float = reduced n a' l' i i in
      let k : Like false x x' = like_as (unlike_same (σ i)) (like_reduced h.lowers i i I I) in
      cond_keeps_same (LikeFactor σ n (suc i)) (eqb i i)
      (λ e.
      cond_keeps (LikeFactor σ n (suc i)) (like_bad_pivot k)
      (λ bad. like_none)
      (λ good. like_lower (store_pivot h I (ap sqrt (like_good_pivot k good)))))
      (λ e. absurd (eqb-false i i e refl))

  like_factor_columns : {f f' : Factor} (i j : ℕ) → i < n → j ≤ i → LikeFactor σ n i f f' → LikeFactor σ n i (factor_columns n a i j f) (factor_columns n a' i j f')
  unfolding factor_columns
  like_factor_columns i zero I J h = h
  like_factor_columns i (suc j) I J h = like_factor_entry_left i j I J (like_factor_columns i j I (omega arith) h)

  like_factor_rows : (i : ℕ) → i ≤ n → LikeFactor σ n i (factor_rows n a i) (factor_rows n a' i)
  unfolding factor_rows factor_columns
  like_factor_rows zero I = like_lower record {
    size = length-replicate (n * n) plus_zero;
    size' = length-replicate (n * n) plus_zero;
    lowers = record { alike = like_zeros; pivots = λ i h. refl };
  }
  like_factor_rows (suc i) I = like_factor_entry_pivot i I (like_factor_columns i i I (le_refl i) (like_factor_rows i (omega arith)))

  pub like_cholesky : LikeFactor σ n n (cholesky n a) (cholesky n a')
  unfolding cholesky
  like_cholesky = like_factor_rows n (le_refl n)

-- ---- the solution
pub like_set_row : {σ τ : ℕ → Bool} {n c : ℕ} {x x' : List Float} {f f' : ℕ → Float} (i : ℕ) → ((j : ℕ) → j < c → Like (unlike (σ i) (τ j)) (f j) (f' j)) → LikeMatrix σ τ n c x x'
    → LikeMatrix σ τ n c (set_row n c i f x) (set_row n c i f' x')
unfolding set_row
like_set_row {σ} {τ} i k X =
    like_matrix
    (λ p j P J.
    cond_keeps_same (Like _) (eqb p i)
    (λ e. like_as (ap (λ m. unlike (σ m) (τ j)) (sym (eqb-true p i e))) (k j J))
    (λ e. X.entry p j P J))

module _ {σ τ : ℕ → Bool} {n c : ℕ} {l l' : List Float} (h : LikeLower σ n n l l') where
  -- row i of a substitution, with factors that take the signs of their rows and of row i
  like_substituted : {f f' : ℕ → Float} {x x' : List Float} (i from m : ℕ) → i < n → from + m ≤ n → ((k : ℕ) → k < n → Like (unlike (σ i) (σ k)) (f k) (f' k)) → LikeMatrix σ τ n c x x'
      → LikeMatrix σ τ n c (substituted n c l i f from m x) (substituted n c l' i f' from m x')
  like_substituted i from m I M F X =
      like_set_row i
      (λ j J.
      like_div_equal
      (like_sub_terms _ _ _ _ m (X.entry i j I J)
      (λ k K. let N : from + k < n = omega arith in like_mul_as (F (from + k) N) (X.entry (from + k) j N J) (simp signs)))
      (h.pivots i I))
      X

  pub like_forward : {b b' : List Float} (i : ℕ) → i ≤ n → LikeMatrix σ τ n c b b' → LikeMatrix σ τ n c (forward n c l b i) (forward n c l' b' i)
  unfolding forward
  like_forward zero I B = B
  like_forward (suc i) I B = like_substituted i 0 i I (omega arith) (λ k K. h.alike.entry i k I K) (like_forward i (omega arith) B)

  pub like_back : {y y' : List Float} (p : ℕ) → p ≤ n → LikeMatrix σ τ n c y y' → LikeMatrix σ τ n c (back n c l y p) (back n c l' y' p)
  unfolding back
  like_back zero P Y = Y
  like_back (suc p) P Y =
      let i : ℕ = n - (p + 1) in
      let I : i < n = omega arith in
      like_substituted i (i + 1) (n - (i + 1)) I (omega arith) (λ k K. like_as (unlike_comm (σ k) (σ i)) (h.alike.entry k i K I)) (like_back p (omega arith) Y)

  pub like_solve : {b b' : List Float} → LikeMatrix σ τ n c b b' → LikeMatrix σ τ n c (solve n c l b) (solve n c l' b')
  unfolding solve
  like_solve B = like_back n (le_refl n) (like_forward n (le_refl n) B)
