-- `gcu::dot` meets its contract.
use mathlib.Core.Path.{◌≡◌, refl, sym, ap, ◌∙◌}
use mathlib.Core.Bool.{false}
use mathlib.Core.List.{List}
use Prim.Native.Nat.{ℕ, zero, suc, ◌≤◌}
use native.Mathlib.Omega.{arith}
use borrow.Author.Rules.{rules}
use lib.Ieee.{Float, nan}
use lib.ListN.{length, get_or, take}
use lib.Seq.{take-suc, take-length}
use Rattle.std.specs.List.{fold, zip}
use Rattle.std.proofs.lemmas.Iterator.{YieldsList-from_slice, YieldsList-from_zip}
use Rattle.std.proofs.lemmas.Iterator.Consumers.{fold_from_yields_List}
use Rattle.std.proofs.lemmas.List.Sums.{fold_push}
use Rattle.std.proofs.lemmas.Slice.Zip.{get_or-zip, length-zip}
use Rattle.drifters_real.specs.Scalar.{◌⊕◌, ◌⊗◌, plus_zero}
use Rattle.drifters_matrix.specs.Matrix.{sum_terms}
use Rattle.drifters_gcu.specs.Gcu.{dot_vector}
use Rattle.drifters_gcu.proofs.gcu.dot.Goals as goal

-- one product more
abbrev add_product : Float → Float × Float → Float
add_product sum p = sum ⊕ p.0 ⊗ p.1

-- the sum of the first n products
sum_take : (a b : List Float) (n : ℕ) → n ≤ length a → n ≤ length b →
    sum_terms false (λ k. get_or a k nan) (λ k. get_or b k nan) n ≡ fold add_product plus_zero (take n (zip a b))
unfolding sum_terms
sum_take a b zero h k = refl
sum_take a b (suc n) h k =
    let size : suc n ≤ length (zip a b) = rw length-zip (omega arith) in
    ap (λ s. s ⊕ get_or a n nan ⊗ get_or b n nan) (sum_take a b n (omega arith) (omega arith))
    ∙ sym
    (ap (fold add_product plus_zero) (take-suc (zip a b) n (nan, nan) size)
    ∙ fold_push add_product plus_zero (take n (zip a b)) (get_or (zip a b) n (nan, nan))
    ∙ ap (add_product (fold add_product plus_zero (take n (zip a b)))) (get_or-zip a b n (nan, nan) h k))

sum_zip : (a b : List Float) {n : ℕ} → length a ≡ n → length b ≡ n → fold add_product plus_zero (zip a b) ≡ dot_vector n a b
unfolding dot_vector
sum_zip a b {n} e f =
    let size : length (zip a b) ≡ n = rw length-zip (omega arith) in
    sym (sum_take a b n (omega arith) (omega arith) ∙ ap (fold add_product plus_zero) (ap (λ (m : ℕ). take m (zip a b)) (sym size) ∙ take-length (zip a b)))

pub returns : goal.returns
returns g c =
    let a = c.args.a.now in
    let b = c.args.b.now in
    fold_from_yields_List _ add_product plus_zero _ c.fold.ensures.ran (YieldsList-from_zip (YieldsList-from_slice a (search rules)) (YieldsList-from_slice b (search rules))) (λ s x t q k. search rules)
    ∙ sum_zip a b (omega arith) (omega arith)
