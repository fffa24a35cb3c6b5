-- Definitions that count a place, as folds over the entries. Assumes nothing.
use mathlib.Core.Path.{◌≡◌, refl, sym, ap, ◌∙◌}
use mathlib.Core.List.{List, [], ◌∷◌}
use mathlib.Core.Bool.{Bool, true, ◌&&◌, and_assoc, and-true}
use Prim.Native.Nat.{ℕ, zero, suc, ◌≤◌}
use native.Mathlib.Omega.{arith}
use lib.Ieee.{Float, nan}
use lib.ListN.{length, get_or, take}
use lib.Seq.{take-suc, take-length}
use Rattle.std.specs.List.{fold}
use Rattle.std.proofs.lemmas.List.Sums.{fold_push}
use Rattle.drifters_real.specs.Real.{is_finite}
use Rattle.drifters_real.specs.Scalar.{plus_zero}
use Rattle.drifters_matrix.specs.Matrix.{all_finite, amax, larger}

-- what was found so far, and whether the entries that are left are finite
finite_after : (b : Bool) (m : List Float) → fold (λ (a : Bool) (x : Float). a && is_finite x) b m ≡ b && all_finite m
unfolding all_finite
finite_after b [] = sym (and-true b)
finite_after b (x ∷ m) = finite_after (b && is_finite x) m ∙ and_assoc b (is_finite x) (all_finite m)

pub finite_fold : (m : List Float) → fold (λ (a : Bool) (x : Float). a && is_finite x) true m ≡ all_finite m
finite_fold m = finite_after true m

-- the largest of the first n
amax_take : (m : List Float) (n : ℕ) → n ≤ length m → amax n m ≡ fold larger plus_zero (take n m)
unfolding amax
amax_take m zero h = refl
amax_take m (suc n) h =
    ap (λ (x : Float). larger x (get_or m n nan)) (amax_take m n (omega arith))
    ∙ sym (ap (fold larger plus_zero) (take-suc m n nan h) ∙ fold_push larger plus_zero (take n m) (get_or m n nan))

pub amax_fold : (m : List Float) → fold larger plus_zero m ≡ amax (length m) m
amax_fold m = sym (amax_take m (length m) (omega arith) ∙ ap (fold larger plus_zero) (take-length m))
