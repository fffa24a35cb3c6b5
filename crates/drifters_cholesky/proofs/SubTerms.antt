-- The laws of `sub_terms`. Assumes nothing.
use mathlib.Core.Path.{◌≡◌, sym, ap, ◌∙◌}
use Prim.Native.Nat.{ℕ, zero, suc, ◌+◌, ◌-◌, ◌≤◌, ◌<◌}
use native.Mathlib.Nat.{le_refl, le_step, add-sub_of_le}
use native.Mathlib.Numerals.{add-one}
use native.Mathlib.Omega.{arith}
use lib.Ieee.{Float}
use Rattle.drifters_real.specs.Scalar.{◌⊖◌, ◌⊗◌}
use Rattle.drifters_cholesky.specs.Cholesky.{sub_terms}

-- a step of a loop that takes the products from a sum
pub sub_step : (s : Float) (f g : ℕ → Float) (k : ℕ) {v : Float} → v ≡ sub_terms s f g k → v ⊖ f k ⊗ g k ≡ sub_terms s f g (k + 1)
unfolding sub_terms
sub_step s f g k e = rw (add-one, e)

-- the same where the loop counts from a
pub sub_step_from : (s : Float) (f g : ℕ → Float) (a k : ℕ) {v : Float} → a ≤ k → v ≡ sub_terms s (λ m. f (a + m)) (λ m. g (a + m)) (k - a) →
    v ⊖ f k ⊗ g k ≡ sub_terms s (λ m. f (a + m)) (λ m. g (a + m)) (k + 1 - a)
sub_step_from s f g a k {v} h e =
    let z : k - a + 1 ≡ k + 1 - a = omega arith in
    ap (λ (m : ℕ). v ⊖ f m ⊗ g m) (sym (add-sub_of_le h)) ∙ sub_step s (λ m. f (a + m)) (λ m. g (a + m)) (k - a) e ∙ ap (sub_terms s (λ m. f (a + m)) (λ m. g (a + m))) z

-- the right factors may be given another way
pub sub_ext : {s t : Float} (f g h : ℕ → Float) (n : ℕ) → s ≡ t → ((k : ℕ) → k < n → g k ≡ h k) → sub_terms s f g n ≡ sub_terms t f h n
unfolding sub_terms
sub_ext f g h zero e w = e
sub_ext f g h (suc n) e w = rw (sub_ext f g h n e (λ k p. w k (le_step p)), w n (le_refl (suc n)))
