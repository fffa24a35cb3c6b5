-- Terms that change no sum of products. Assumes nothing.
use mathlib.Core.Path.{◌≡◌, refl, sym, ap, ◌∙◌}
use mathlib.Core.Bool.{true, false}
use Prim.Native.Nat.{ℕ, zero, suc, ◌+◌, ◌<◌}
use native.Mathlib.Nat.{le_refl, le_step, zero-add, add-zero, add-suc}
use lib.Ieee.{Float, eq, of_bits}
use Rattle.drifters_real.specs.Scalar.{◌⊕◌, ◌⊗◌, plus_zero}
use Rattle.drifters_real.specs.Real.{is_finite}
use Rattle.drifters_matrix.specs.Matrix.{sum_terms}
use Rattle.drifters_real.proofs.Real.Zeros.{Summed, zero_left, zero_right}
use Rattle.drifters_matrix.proofs.Matrix.Skips.{summed}

-- x ⊗ y changes no sum
pub record Idle (x y : Float) : Type 0 where
  pub keeps : {a : Float} → Summed a → a ⊕ x ⊗ y ≡ a

pub idle_left : {x y : Float} → x ≡ plus_zero → is_finite y ≡ true → Idle x y
unfolding eq of_bits
idle_left {x} {y} e h = record { keeps = λ s. zero_left x y s (ap (λ (z : Float). eq z plus_zero) e) h }

pub idle_right : {x y : Float} → is_finite x ≡ true → y ≡ plus_zero → Idle x y
unfolding eq of_bits
idle_right {x} {y} h e = record { keeps = λ s. zero_right x y s h (ap (λ (z : Float). eq z plus_zero) e) }

-- the last n terms change nothing
pub sum_start : (f g : ℕ → Float) (p n : ℕ) → ((k : ℕ) → k < n → Idle (f (p + k)) (g (p + k))) → sum_terms false f g (p + n) ≡ sum_terms false f g p
unfolding sum_terms
sum_start f g p zero h = rw add-zero refl
sum_start f g p (suc n) h =
    rw add-suc ((h n (le_refl (suc n))).keeps (summed false f g (p + n)) ∙ sum_start f g p n (λ k q. h k (le_step q)))

-- the first p terms change nothing
pub sum_rest : (f g : ℕ → Float) (p n : ℕ) → ((k : ℕ) → k < p → Idle (f k) (g k)) →
    sum_terms false f g (p + n) ≡ sum_terms false (λ k. f (p + k)) (λ k. g (p + k)) n
unfolding sum_terms
sum_rest f g p zero h = rw add-zero (ap (sum_terms false f g) (sym (zero-add p)) ∙ sum_start f g 0 p (λ k q. rw zero-add (h k q)))
sum_rest f g p (suc n) h = rw add-suc (ap (λ (a : Float). a ⊕ f (p + n) ⊗ g (p + n)) (sum_rest f g p n h))

pub sum_same : (f f' g g' : ℕ → Float) (n : ℕ) → ((k : ℕ) → k < n → f k ≡ f' k) → ((k : ℕ) → k < n → g k ≡ g' k) →
    sum_terms false f g n ≡ sum_terms false f' g' n
unfolding sum_terms
sum_same f f' g g' zero d e = refl
sum_same f f' g g' (suc n) d e =
    let s = sum_same f f' g g' n (λ k q. d k (le_step q)) (λ k q. e k (le_step q)) in
    λ i. s i ⊕ d n (le_refl (suc n)) i ⊗ e n (le_refl (suc n)) i
