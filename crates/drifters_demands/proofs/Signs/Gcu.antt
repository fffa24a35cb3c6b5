-- The definitions of Gcu.antt keep `LikeMatrix`, with any signs of the measured numbers. Assumes nothing.
use mathlib.Core.Path.{◌≡◌, refl}
use mathlib.Core.Bool.{Bool, false}
use mathlib.Core.List.{List}
use Prim.Native.Nat.{ℕ}
use lib.IntN.{pos}
use lib.Ieee.{Float, fin, add, of_bits}
use Rattle.drifters_real.specs.Scalar.{◌⊕◌, plus_zero, one}
use Rattle.drifters_real.specs.Real.{sqrt, max}
use Rattle.drifters_matrix.specs.Matrix.{add_matrix}
use Rattle.drifters_cholesky.specs.Cholesky.{Factor, definite, entries_of, cholesky}
use Rattle.drifters_demands.specs.Like.{Like, LikeList, LikeMatrix}
use Rattle.drifters_demands.proofs.Signs.Like.{fin_zero, respects, is_zero, exact, cond_keeps, like_refl, like_fin_zeros, like_cond}
use Rattle.drifters_demands.proofs.Signs.Ops.{like_add, like_mul, like_mul_same, like_div_equal}
use Rattle.drifters_demands.proofs.Signs.Compare.{like_lt, like_eq_zero}
use Rattle.drifters_demands.proofs.Signs.Real.{like_sqrt, like_max, like_clamp}
use Rattle.drifters_demands.proofs.Signs.Matrix.{like_zeros, like_scaled, like_add_matrix, like_sum_terms, like_mul_transpose, like_column, like_of_column}
use Rattle.drifters_demands.proofs.Signs.Cholesky.{LikeLower, LikeFactor, like_none, like_lower, like_cholesky, like_solve}
use Rattle.drifters_gcu.specs.Gcu.{dot_vector, beta, nis, inflated_by, inflate}

-- ---- factors
pub like_definite : {σ : ℕ → Bool} {n d : ℕ} {f f' : Factor} → LikeFactor σ n d f f' → definite f ≡ definite f'
like_definite like_none = refl
like_definite (like_lower h) = refl

pub like_entries_of : {σ : ℕ → Bool} {n : ℕ} {f f' : Factor} → LikeFactor σ n n f f' → LikeLower σ n n (entries_of n f) (entries_of n f')
like_entries_of like_none = record { alike = like_zeros; pivots = λ i I. refl }
like_entries_of (like_lower h) = h.lowers

-- ---- numbers
pub like_dot_vector : {σ : ℕ → Bool} {n : ℕ} {a a' b b' : List Float} → LikeList σ n a a' → LikeList σ n b b' → Like false (dot_vector n a b) (dot_vector n a' b')
unfolding dot_vector
like_dot_vector {n} h k = like_sum_terms false _ _ _ _ n (λ i I. like_eq_zero (h.entry i I)) (λ i I. like_mul_same (h.entry i I) (k.entry i I))

one_not_zero : is_zero (one ⊕ fin_zero) ≡ false
unfolding add of_bits
one_not_zero = refl

-- the sum of 1 and either zero is 1, so the divisor is the same number
one-add : {r r' : Float} → Like false r r' → one ⊕ r ≡ one ⊕ r'
one-add {r} {r'} h =
    respects (λ z. one ⊕ z)
    (λ s e. exact (one ⊕ fin s 0 e) (one ⊕ fin_zero) (like_add {s = false} (like_refl {x = one}) (like_fin_zeros false s false e (pos 0))).same one_not_zero)
    r r' h.same

pub like_beta : {r r' : Float} → Like false r r' → Like false (beta r) (beta r')
unfolding beta
like_beta {r} {r'} h =
    let root : Like false (one ⊕ sqrt (max r plus_zero)) (one ⊕ sqrt (max r' plus_zero)) = like_add like_refl (like_sqrt (like_max h like_refl)) in
    like_cond (like_lt h like_refl) (like_div_equal (like_mul root root) (one-add h)) like_refl

pub like_nis : {σ : ℕ → Bool} {n : ℕ} {l l' y y' : List Float} → LikeLower σ n n l l' → LikeList σ n y y' → Like false (nis n l y) (nis n l' y')
unfolding nis
like_nis h k = like_dot_vector k (like_of_column (like_solve h (like_column k)))

-- ---- the covariance
module _ {σ : ℕ → Bool} {n : ℕ} {y y' p p' noise noise' : List Float} {alpha alpha' : Float}
    (Y : LikeList σ n y y') (P : LikeMatrix σ σ n n p p') (N : LikeMatrix σ σ n n noise noise') (A : Like false alpha alpha') where
  pub like_inflated_by : {b b' : Float} → Like false b b' → LikeMatrix σ σ n n (inflated_by n b y p noise alpha) (inflated_by n b' y' p' noise' alpha')
  unfolding inflated_by
  like_inflated_by B =
      like_add_matrix
      (like_add_matrix (like_scaled P B) (like_scaled (like_mul_transpose (like_column Y) (like_column Y)) (like_mul B (like_clamp A like_refl like_refl))))
      N

  pub like_inflate : LikeMatrix σ σ n n (inflate n y p noise alpha) (inflate n y' p' noise' alpha')
  unfolding inflate
  like_inflate =
      let S : LikeMatrix σ σ n n (add_matrix _ p noise) (add_matrix _ p' noise') = like_add_matrix P N in
      let F : LikeFactor σ n n (cholesky n (add_matrix _ p noise)) (cholesky n (add_matrix _ p' noise')) = like_cholesky S in
      cond_keeps (LikeMatrix σ σ n n) (like_definite F) (λ e. like_inflated_by (like_beta (like_nis (like_entries_of F) Y))) (λ e. S)
