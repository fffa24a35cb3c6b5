-- The laws of sums, differences and scalings of matrices whose number of entries is written as a numeral. Assumes nothing.
use mathlib.Core.Path.{◌≡◌}
use mathlib.Core.Bool.{Bool, false}
use mathlib.Core.List.{List}
use Prim.Native.Nat.{ℕ, ◌*◌}
use lib.Ieee.{Float}
use Rattle.drifters_matrix.specs.Matrix.{scaled, add_matrix, sub_matrix, neg_matrix}
use Rattle.drifters_demands.specs.Like.{Like, LikeMatrix}
use Rattle.drifters_demands.proofs.Signs.Matrix.{like_scaled, like_neg_matrix, like_add_matrix, like_sub_matrix}

module _ {σ τ : ℕ → Bool} {r c n : ℕ} {a a' : List Float} (h : LikeMatrix σ τ r c a a') (e : n ≡ r * c) where
  pub scaled_of : {t t' : Float} → Like false t t' → LikeMatrix σ τ r c (scaled n a t) (scaled n a' t')
  scaled_of k = rw e (like_scaled h k)

  pub neg_matrix_of : LikeMatrix σ τ r c (neg_matrix n a) (neg_matrix n a')
  neg_matrix_of = rw e (like_neg_matrix h)

  pub add_matrix_of : {b b' : List Float} → LikeMatrix σ τ r c b b' → LikeMatrix σ τ r c (add_matrix n a b) (add_matrix n a' b')
  add_matrix_of k = rw e (like_add_matrix h k)

  pub sub_matrix_of : {b b' : List Float} → LikeMatrix σ τ r c b b' → LikeMatrix σ τ r c (sub_matrix n a b) (sub_matrix n a' b')
  sub_matrix_of k = rw e (like_sub_matrix h k)
