-- The definitions of Matrix.antt keep `LikeMatrix`, for all dimensions, over a sign for each row and each column. Assumes nothing.
use mathlib.Core.Path.{◌≡◌, refl, sym, ap, ap₂, ◌∙◌, subst}
use mathlib.Core.List.{List, [], ◌∷◌}
use mathlib.Core.Logic.{⊎_elim}
use Prim.Native.Nat.{ℕ, zero, suc, ◌+◌, ◌-◌, ◌*◌, ◌/◌, ◌%◌, ◌≤◌, ◌<◌}
use native.Mathlib.Nat.{zero-lt-suc, not-suc-le-zero, le_refl, le_step, eq-zero-or-pos, mul-zero, div-lt_iff_lt-mul, mod-lt, div-add-mod'}
use native.Mathlib.Omega.{arith}
use mathlib.Core.Bool.{Bool, true, false, ◌&&◌}
use borrow.Author.Tests.{leb-true, ltb-true, eqb-true}
use lib.Dec.{eqb, leb, ltb, lit<}
use lib.ListN.{length, get_or, replicate, get_or-replicate}
use lib.Ieee.{Float, nan, unlike, eq}
use Rattle.std.proofs.lemmas.Bool.{and_parts}
use Rattle.drifters_real.specs.Scalar.{◌⊗◌, plus_zero, one}
use Rattle.drifters_real.specs.Real.{is_finite}
use Rattle.drifters_matrix.specs.Matrix.{tab, matrix, zeros, transpose, sum_terms, matmul, mul_transpose, scaled, block_fits, in_block, set_block, all_finite, larger, from_diagonal, identity, mean, symmetrize, add_matrix, sub_matrix, neg_matrix}
use Rattle.drifters_core.specs.Vec3.{row_times, mul_mat3_vec3}
use Rattle.drifters_cholesky.specs.Cholesky.{sub_terms}
use Rattle.drifters_demands.specs.Like.{Like, Signs, axis, LikeList, LikeVec3, LikeMatrix}
use Rattle.drifters_core.specs.declared.math.vec3.Vec3.{Vec3}
use Rattle.drifters_matrix.specs.Shapes.{Mat3}
use Rattle.drifters_matrix.proofs.Matrix.Tab.{get_d_tab}
use Rattle.drifters_matrix.proofs.Matrix.Grid.{at_in, entry}
use Rattle.drifters_demands.proofs.Signs.Sign.{unlike_comm, unlike_same, unlike_false, unlike_nots, signs, signed_axis}
use Rattle.drifters_demands.proofs.Signs.Like.{cond_keeps_same, like_as, like_refl, like_plus_zero, like_neg, like_cond}
use Rattle.drifters_demands.proofs.Signs.Ops.{like_add, like_sub, like_mul_as}
use Rattle.drifters_demands.proofs.Signs.Compare.{like_lt, like_eq_zero}
use Rattle.drifters_demands.proofs.Signs.Real.{like_abs, like_is_finite}

-- ---- matrices from entries
pub like_matrix : {σ τ : ℕ → Bool} {r c : ℕ} {f f' : ℕ → ℕ → Float} → ((i j : ℕ) → i < r → j < c → Like (unlike (σ i) (τ j)) (f i j) (f' i j))
    → LikeMatrix σ τ r c (matrix r c f) (matrix r c f')
like_matrix {r} {c} {f} {f'} h = record { entry = λ i j I J. rw (entry r c f i j I J, entry r c f' i j I J) (h i j I J) }

pub like_tab : {σ τ : ℕ → Bool} {r c : ℕ} (f f' : ℕ → Float) → ((i j : ℕ) → i < r → j < c → Like (unlike (σ i) (τ j)) (f (i * c + j)) (f' (i * c + j)))
    → LikeMatrix σ τ r c (tab (r * c) f) (tab (r * c) f')
like_tab {r} {c} f f' h = record {
  entry = λ i j I J. rw (get_d_tab (r * c) f (i * c + j) nan (at_in i j r c I J), get_d_tab (r * c) f' (i * c + j) nan (at_in i j r c I J)) (h i j I J);
}

pub like_zeros : {σ τ : ℕ → Bool} {r c : ℕ} → LikeMatrix σ τ r c (zeros (r * c)) (zeros (r * c))
like_zeros {r} {c} = record { entry = λ i j I J. rw (get_or-replicate (r * c) (i * c + j) plus_zero nan (at_in i j r c I J)) like_plus_zero }

-- the signs as they are written elsewhere
pub like_matrix_as : {σ σ' τ τ' : ℕ → Bool} {r c : ℕ} {a a' : List Float} → ((i : ℕ) → i < r → σ i ≡ σ' i) → ((j : ℕ) → j < c → τ j ≡ τ' j)
    → LikeMatrix σ τ r c a a' → LikeMatrix σ' τ' r c a a'
like_matrix_as p q h = record { entry = λ i j I J. like_as (ap₂ unlike (p i I) (q j J)) (h.entry i j I J) }

-- the entries one after another
pub like_flat : {σ τ : ℕ → Bool} {r c : ℕ} {a a' : List Float} → LikeMatrix σ τ r c a a' → LikeList (λ k. unlike (σ (k / c)) (τ (k % c))) (r * c) a a'
like_flat {σ} {τ} {r} {c} {a} {a'} h = record {
  entry = λ k p.
      let z : 0 < c = ⊎_elim (λ (y : c ≡ 0). absurd (not-suc-le-zero (rw (mul-zero) at (rw y at p)))) (λ (y : 0 < c). y) (eq-zero-or-pos c) in
      subst (λ (m : ℕ). Like (unlike (σ (k / c)) (τ (k % c))) (get_or a m nan) (get_or a' m nan)) (div-add-mod' k c)
      (h.entry (k / c) (k % c) ((div-lt_iff_lt-mul z).1 p) (mod-lt k z));
}

-- a list as one column, and back
pub like_column : {σ : ℕ → Bool} {n : ℕ} {a a' : List Float} → LikeList σ n a a' → LikeMatrix σ (λ j. false) n 1 a a'
like_column {σ} {a} {a'} h = record {
  entry = λ i j I J.
      let p : i * 1 + j ≡ i = omega arith in
      rw (unlike_false (σ i), p) (h.entry i I);
}

pub like_of_column : {σ : ℕ → Bool} {n : ℕ} {a a' : List Float} → LikeMatrix σ (λ j. false) n 1 a a' → LikeList σ n a a'
like_of_column {σ} {a} {a'} h = record {
  entry = λ i I.
      let p : i * 1 + 0 ≡ i = omega arith in
      rw (unlike_false (σ i), p) at (h.entry i 0 I (lit< tt));
}

-- ---- entry by entry
module _ {σ τ : ℕ → Bool} {r c : ℕ} {a a' : List Float} (h : LikeMatrix σ τ r c a a') where
  pub like_transpose : LikeMatrix τ σ c r (transpose r c a) (transpose r c a')
  unfolding transpose
  like_transpose = like_matrix (λ i j I J. like_as (unlike_comm (σ j) (τ i)) (h.entry j i J I))

  pub like_scaled : {s s' : Float} → Like false s s' → LikeMatrix σ τ r c (scaled (r * c) a s) (scaled (r * c) a' s')
  unfolding scaled
  like_scaled k = like_tab _ _ (λ i j I J. like_mul_as (h.entry i j I J) k (simp signs))

  pub like_neg_matrix : LikeMatrix σ τ r c (neg_matrix (r * c) a) (neg_matrix (r * c) a')
  unfolding neg_matrix
  like_neg_matrix = like_tab _ _ (λ i j I J. like_neg (h.entry i j I J))

module _ {σ τ : ℕ → Bool} {r c : ℕ} {a a' b b' : List Float} (h : LikeMatrix σ τ r c a a') (k : LikeMatrix σ τ r c b b') where
  pub like_add_matrix : LikeMatrix σ τ r c (add_matrix (r * c) a b) (add_matrix (r * c) a' b')
  unfolding add_matrix
  like_add_matrix = like_tab _ _ (λ i j I J. like_add (h.entry i j I J) (k.entry i j I J))

  pub like_sub_matrix : LikeMatrix σ τ r c (sub_matrix (r * c) a b) (sub_matrix (r * c) a' b')
  unfolding sub_matrix
  like_sub_matrix = like_tab _ _ (λ i j I J. like_sub (h.entry i j I J) (k.entry i j I J))

-- ---- sums of products
pub like_sum_terms : {s : Bool} (skip : Bool) (f f' g g' : ℕ → Float) (n : ℕ) → ((k : ℕ) → k < n → eq (f k) plus_zero ≡ eq (f' k) plus_zero)
    → ((k : ℕ) → k < n → Like s (f k ⊗ g k) (f' k ⊗ g' k)) → Like s (sum_terms skip f g n) (sum_terms skip f' g' n)
unfolding sum_terms
like_sum_terms skip f f' g g' zero z t = like_plus_zero
like_sum_terms skip f f' g g' (suc n) z t =
    let before : Like _ (sum_terms skip f g n) (sum_terms skip f' g' n) = like_sum_terms skip f f' g g' n (λ k K. z k (le_step K)) (λ k K. t k (le_step K)) in
    like_cond (ap (λ b. skip && b) (z n (le_refl (suc n)))) before (like_add before (t n (le_refl (suc n))))

pub like_sub_terms : {s : Bool} {start start' : Float} (f f' g g' : ℕ → Float) (n : ℕ) → Like s start start'
    → ((k : ℕ) → k < n → Like s (f k ⊗ g k) (f' k ⊗ g' k)) → Like s (sub_terms start f g n) (sub_terms start' f' g' n)
unfolding sub_terms
like_sub_terms f f' g g' zero h t = h
like_sub_terms f f' g g' (suc n) h t = like_sub (like_sub_terms f f' g g' n h (λ k K. t k (le_step K))) (t n (le_refl (suc n)))

pub like_matmul : {σ τ υ : ℕ → Bool} {r c d : ℕ} {a a' b b' : List Float} → LikeMatrix σ τ r c a a' → LikeMatrix τ υ c d b b'
    → LikeMatrix σ υ r d (matmul r c d a b) (matmul r c d a' b')
unfolding matmul
like_matmul {c} h k =
    like_matrix
    (λ i j I J. like_sum_terms true _ _ _ _ c (λ l L. like_eq_zero (h.entry i l I L)) (λ l L. like_mul_as (h.entry i l I L) (k.entry l j L J) (simp signs)))

pub like_mul_transpose : {σ τ υ : ℕ → Bool} {r c d : ℕ} {a a' b b' : List Float} → LikeMatrix σ τ r c a a' → LikeMatrix υ τ d c b b'
    → LikeMatrix σ υ r d (mul_transpose r c d a b) (mul_transpose r c d a' b')
unfolding mul_transpose
like_mul_transpose {c} h k =
    like_matrix
    (λ i j I J. like_sum_terms false _ _ _ _ c (λ l L. like_eq_zero (h.entry i l I L)) (λ l L. like_mul_as (h.entry i l I L) (k.entry j l J L) (simp signs)))

-- ---- blocks
-- a place within a block, counted from its corner
within : (b o i : ℕ) → (leb o i && ltb i (o + b)) ≡ true → (i - o < b) × (o + (i - o) ≡ i)
within b o i e =
    let both = and_parts (leb o i) (ltb i (o + b)) e in
    let p : o ≤ i = leb-true o i both.0 in
    let q : i < o + b = ltb-true i (o + b) both.1 in
    (omega arith, omega arith)

pub like_set_block : {σ τ : ℕ → Bool} {r c : ℕ} {a a' b b' : List Float} {br bc : ℕ} (r0 c0 : ℕ) → LikeMatrix σ τ r c a a'
    → LikeMatrix (λ i. σ (r0 + i)) (λ j. τ (c0 + j)) br bc b b' → LikeMatrix σ τ r c (set_block r c br bc r0 c0 a b) (set_block r c br bc r0 c0 a' b')
unfolding set_block
like_set_block {σ} {τ} {r} {c} {br} {bc} r0 c0 h k =
    cond_keeps_same (LikeMatrix σ τ r c) (block_fits r c br bc r0 c0)
    (λ f.
    like_matrix
    (λ i j I J.
    cond_keeps_same (Like _) (in_block br bc r0 c0 i j)
    (λ e.
    let both = and_parts (leb r0 i && ltb i (r0 + br)) (leb c0 j && ltb j (c0 + bc)) e in
    let p = within br r0 i both.0 in
    let q = within bc c0 j both.1 in
    like_as (ap₂ (λ m n. unlike (σ m) (τ n)) p.1 q.1) (k.entry (i - r0) (j - c0) p.0 q.0))
    (λ e. h.entry i j I J)))
    (λ f. h)

-- ---- tests and sizes of all entries
same_finite : (a b : List Float) → length a ≡ length b → ((k : ℕ) → k < length a → is_finite (get_or a k nan) ≡ is_finite (get_or b k nan)) → all_finite a ≡ all_finite b
unfolding all_finite
same_finite [] [] e h = refl
same_finite [] (y ∷ b) e h = absurd (omega (arith, e))
same_finite (x ∷ a) [] e h = absurd (omega (arith, e))
same_finite (x ∷ a) (y ∷ b) e h = ap₂ ◌&&◌ (h 0 (zero-lt-suc (length a))) (same_finite a b (omega (arith, e)) (λ k K. h (suc k) (omega arith)))

pub like_all_finite_list : {σ : ℕ → Bool} {n : ℕ} {a a' : List Float} → LikeList σ n a a' → length a ≡ n → length a' ≡ n → all_finite a ≡ all_finite a'
like_all_finite_list {a} {a'} h p q = same_finite a a' (p ∙ sym q) (λ k K. like_is_finite (h.entry k (rw (← p) K)))

pub like_larger : {s : Bool} {x x' y y' : Float} → Like false x x' → Like s y y' → Like false (larger x y) (larger x' y')
like_larger h k = like_cond (like_lt h (like_abs k)) (like_abs k) h

-- ---- diagonals
pub like_from_diagonal : {σ τ : ℕ → Bool} {n : ℕ} {d d' : List Float} → LikeList (λ i. unlike (σ i) (τ i)) n d d' → LikeMatrix σ τ n n (from_diagonal n d) (from_diagonal n d')
unfolding from_diagonal
like_from_diagonal {σ} {τ} {n} {d} {d'} h =
    like_matrix
    (λ i j I J.
    cond_keeps_same (Like (unlike (σ i) (τ j))) (eqb i j)
    (λ e. like_as (ap (λ k. unlike (σ i) (τ k)) (eqb-true i j e)) (h.entry i I))
    (λ e. like_plus_zero))

pub like_identity : {σ : ℕ → Bool} {n : ℕ} → LikeMatrix σ σ n n (identity n) (identity n)
like_identity {σ} {n} = like_from_diagonal {d = replicate n one} {d' = replicate n one} record { entry = λ i I. like_as (sym (unlike_same (σ i))) like_refl }

pub like_symmetrize : {σ : ℕ → Bool} {n : ℕ} {a a' : List Float} → LikeMatrix σ σ n n a a' → LikeMatrix σ σ n n (symmetrize n a) (symmetrize n a')
unfolding symmetrize
like_symmetrize {σ} {n} {a} {a'} h =
    like_matrix
    (λ i j I J.
    cond_keeps_same (Like _) (ltb i j) (λ e. pair i j I J)
    (λ e. cond_keeps_same (Like _) (ltb j i) (λ e. like_as (unlike_comm (σ j) (σ i)) (pair j i J I)) (λ e. h.entry i j I J)))
  where
    pair : (i j : ℕ) → i < n → j < n → Like (unlike (σ i) (σ j)) (mean n a i j) (mean n a' i j)
    pair i j I J = like_mul_as like_refl (like_add (h.entry i j I J) (like_as (unlike_comm (σ j) (σ i)) (h.entry j i J I))) (simp signs)

-- ---- times a vector
pub like_mul_mat3_vec3 : {σ τ : ℕ → Bool} {m m' : Mat3} {v v' : Vec3} → LikeMatrix σ τ 3 3 m.«data» m'.«data» → LikeVec3 τ v v' → LikeVec3 σ (mul_mat3_vec3 m v) (mul_mat3_vec3 m' v')
unfolding mul_mat3_vec3
like_mul_mat3_vec3 {σ} {τ} {m} {m'} {v} {v'} h k = record { x = row 0 (lit< tt); y = row 1 (lit< tt); z = row 2 (lit< tt) }
  where
    row : (i : ℕ) → i < 3 → Like (σ i) (row_times m.«data» i v) (row_times m'.«data» i v')
    row i I =
        like_add
        (like_add (like_mul_as (h.entry i 0 I (lit< tt)) k.x (simp signs)) (like_mul_as (h.entry i 1 I (lit< tt)) k.y (simp signs)))
        (like_mul_as (h.entry i 2 I (lit< tt)) k.z (simp signs))

-- from the frame b to s, where the vector may have all its signs changed
pub like_rotated : {s b : Signs} (t : Bool) {m m' : Mat3} {v v' : Vec3} → LikeMatrix (axis s) (axis b) 3 3 m.«data» m'.«data» → LikeVec3 (signed_axis b t) v v'
    → LikeVec3 (signed_axis s t) (mul_mat3_vec3 m v) (mul_mat3_vec3 m' v')
like_rotated false h k = like_mul_mat3_vec3 h k
like_rotated {s} {b} true h k =
    like_mul_mat3_vec3 {σ = signed_axis s true} {τ = signed_axis b true} record { entry = λ i j I J. like_as (sym (unlike_nots (axis s i) (axis b j))) (h.entry i j I J) } k
