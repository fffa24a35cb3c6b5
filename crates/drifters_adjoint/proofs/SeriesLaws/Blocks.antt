-- Where it is finite, the series by blocks is that of the matrix of the bracket. Assumes nothing.
use mathlib.Core.Path.{◌≡◌, refl, sym, ap, ◌∙◌}
use mathlib.Core.Bool.{Bool, true, ◌&&◌, and-eq-true_iff}
use mathlib.Core.List.{List}
use Prim.Native.Nat.{ℕ, zero, suc, ◌+◌, ◌≤◌, ◌<◌}
use native.Mathlib.Omega.{arith}
use lib.IntN.{pos}
use lib.Ieee.{Float, nan, binary64, mul, div, of_int, of_bits}
use lib.ListN.{length, get_or, replicate, get_or-replicate}
use Rattle.drifters_real.specs.Scalar.{◌⊗◌, ◌⊘◌, plus_zero, one}
use Rattle.drifters_real.specs.Real.{is_finite}
use Rattle.drifters_matrix.specs.Matrix.{tab, matrix, matmul, scaled, set_block, all_finite, from_diagonal, identity, add_matrix}
use Rattle.drifters_core.specs.Vec3.{skew}
use Rattle.drifters_matrix.proofs.Matrix.Tab.{length_tab, get_d_tab}
use Rattle.drifters_lie.specs.Lie.{ad_se3}
use Rattle.drifters_adjoint.specs.Adjoint.{series_term, series}
use Rattle.drifters_adjoint.specs.Series.{whole, identity_blocks, ad_blocks, blocks_term, blocks_series}
use Rattle.drifters_lie.specs.declared.lie.Se3Tangent.{Se3Tangent}
use Rattle.drifters_real.proofs.Real.Zeros.{finite_add}
use Rattle.drifters_matrix.proofs.Matrix.Skips.{finite_at}
use Rattle.drifters_adjoint.proofs.SeriesLaws.Whole.{Finite, whole_add, whole_times}

finite : (t : List Float) → length t ≡ 18 → all_finite t ≡ true → Finite t
finite t e h = record { each = λ n q. finite_at t n h (rw e q) }

-- the two parts of a finite sum
parts : (p t : List Float) → Finite (add_matrix 18 p t) → Finite p × Finite t
unfolding add_matrix
parts p t h = (record { each = λ n q. (both n q).0 }, record { each = λ n q. (both n q).1 })
  where
    both : (n : ℕ) → n < 18 → (is_finite (get_or p n nan) ≡ true) × (is_finite (get_or t n nan) ≡ true)
    both n q = finite_add (get_or p n nan) (get_or t n nan) (ap is_finite (sym (get_d_tab 18 _ n nan q)) ∙ h.each n q)

-- the factors of the terms keep zeros
factors : tab 15 (λ k. plus_zero ⊗ (one ⊘ of_int binary64 (pos (suc k + 1)))) ≡ replicate 15 plus_zero
unfolding tab mul div of_int of_bits
factors = refl

zero_scaled : (k : ℕ) → k < 15 → plus_zero ⊗ (one ⊘ of_int binary64 (pos (suc k + 1))) ≡ plus_zero
zero_scaled k q = sym (get_d_tab 15 _ k nan q) ∙ ap (λ (l : List Float). get_or l k nan) factors ∙ get_or-replicate 15 k plus_zero nan q

identity_whole : identity 6 ≡ whole identity_blocks
unfolding from_diagonal whole identity_blocks matrix tab
identity_whole = refl

ad_whole : (u : Se3Tangent) → ad_se3 u ≡ whole (ad_blocks u)
unfolding ad_se3 set_block skew whole ad_blocks matrix tab
ad_whole u = refl

-- term k and the sum through it
record Same (m : List Float) (k : ℕ) : Type 0 where
  term : series_term (whole m) k ≡ whole (blocks_term m k)
  sum : series (whole m) k ≡ whole (blocks_series m k)
  finite_term : Finite (blocks_term m k)

same : (m : List Float) → Finite m → (k : ℕ) → k ≤ 15 → Finite (blocks_series m k) → Same m k
unfolding series_term series blocks_term blocks_series
same m h zero b f = record { term = identity_whole; sum = identity_whole; finite_term = f }
same m h (suc k) b f =
    let s = one ⊘ of_int binary64 (pos (suc k + 1)) in
    let p = parts (blocks_series m k) (blocks_term m (suc k)) f in
    let e = same m h k (omega arith) p.0 in
    let t = ap (λ (l : List Float). scaled 36 (matmul 6 6 6 l (whole m)) s) e.term ∙ whole_times e.finite_term h s (zero_scaled k b) in
    record { term = t; sum = (λ i. add_matrix 36 (e.sum i) (t i)) ∙ whole_add (blocks_series m k) (blocks_term m (suc k)); finite_term = p.1 }

length_ad : (u : Se3Tangent) → length (ad_blocks u) ≡ 18
unfolding ad_blocks skew
length_ad u = refl

length_series : (m : List Float) → length (blocks_series m 15) ≡ 18
unfolding blocks_series add_matrix
length_series m = length_tab 18 _

-- what is found finite, the matrix and the series, is the series of the whole
pub series_whole : (u : Se3Tangent) {m psi r : List Float} {a b : Bool} → m ≡ ad_blocks u → psi ≡ blocks_series m 15 → a ≡ all_finite m → b ≡ all_finite psi → a && b ≡ true →
    r ≡ whole psi → r ≡ series (ad_se3 u) 15
series_whole u {m} {psi} {r} {a} {b} d e f g t h =
    let z = (and-eq-true_iff a b).0 t in
    let finite-m = finite m (ap length d ∙ length_ad u) (sym f ∙ z.0) in
    let finite-psi = finite (blocks_series m 15) (length_series m) (ap all_finite (sym e) ∙ sym g ∙ z.1) in
    h ∙ ap whole e ∙ sym (same m finite-m 15 (omega arith) finite-psi).sum ∙ ap (λ (l : List Float). series l 15) (ap whole d ∙ sym (ad_whole u))
