-- What `array::from_fn` makes. Assumes nothing.
use mathlib.Core.Path.{◌≡◌, sym, ap, ◌∙◌, subst}
use mathlib.Core.List.{List}
use mathlib.Core.Logic.{⊎_elim}
use Prim.Native.Nat.{ℕ, zero, suc, ◌+◌, ◌≤◌, ◌<◌}
use native.Mathlib.Nat.{eq-or-lt_of_le}
use native.Mathlib.Omega.{arith}
use denote.Param.Members.{Mut, Called}
use lib.ListN.{get_or}
use lib.Seq.{ext_get_or}
use Rattle.std.specs.Array.{IsFromFnResult, IsFromFnResultFrom}
use Rattle.drifters_matrix.specs.Matrix.{tab}
use Rattle.drifters_matrix.proofs.Matrix.Tab.{length_tab, get_d_tab}

-- the elements that a closure makes, which at each place below n computes f and stays as it is
module _ {F A : Type 0} {g : Mut F (ℕ × Unit {0}) A} {s : F} {ys : List A} {n : ℕ} (d : A) (f : ℕ → A) (e : IsFromFnResult g s ys n) (h : (i : ℕ) (y : A) (q : F) → i < n → Called g s (i, tt) y q → (q ≡ s) × (y ≡ f i)) where
  made_from : (i m : ℕ) → i + m ≤ n → IsFromFnResultFrom g s ys i m → (k : ℕ) → i ≤ k → k < i + m → get_or ys k d ≡ f k
  made_from i zero b e k l u = absurd (omega arith)
  made_from i (suc m) b e k l u =
      let w = h i e.1 e.0 (omega arith) e.3 in
      ⊎_elim
      (λ (z : i ≡ k). ap (λ j. get_or ys j d) (sym z) ∙ e.2.1 d ∙ w.1 ∙ ap f z)
      (λ (z : i < k). made_from (i + 1) m (omega arith) (subst (λ t. IsFromFnResultFrom g t ys (i + 1) m) w.0 e.4) k (omega arith) (omega arith))
      (eq-or-lt_of_le l)

  pub made_is : ys ≡ tab n f
  made_is =
      ext_get_or d ys (tab n f) (e.long ∙ sym (length_tab n f))
      (λ k p. let l : k < n = omega (arith, e.long) in made_from 0 n (omega arith) e.each k (omega arith) (omega arith) ∙ sym (get_d_tab n f k d l))
