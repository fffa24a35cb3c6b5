-- `unit` meets its contract.
use mathlib.Core.Path.{◌≡◌, refl, sym, ap, ◌∙◌}
use mathlib.Core.Bool.{Bool, true, false, cond}
use Prim.Native.Nat.{ℕ, ◌<◌}
use borrow.Author.Rules.{rules}
use borrow.Author.Tests.{eqb-true, eqb-false}
use lib.Dec.{eqb}
use lib.Ieee.{nan}
use lib.ListN.{get_or, length-set, length-replicate, get_or-replicate}
use lib.Seq.{get_or-set_same, get_or-set_other}
use Rattle.drifters_real.specs.Scalar.{one, plus_zero}
use Rattle.drifters_matrix.specs.Matrix.{tab, zeros, unit}
use Rattle.drifters_matrix.proofs.Matrix.Tab.{tab_is}
use Rattle.drifters_matrix.proofs.Matrix.Made.{made_is}
use Rattle.drifters_matrix.proofs.math.matrix.unit.Goals as goal

unit_at : (n k i : ℕ) → i < n → (b : Bool) → eqb i k ≡ b → get_or (unit n k) i nan ≡ cond b one plus_zero
unit_at n k i h true e =
    ap (λ j. get_or (unit n k) j nan) (eqb-true i k e)
    ∙ get_or-set_same (zeros n) k one nan (rw (length-replicate, ← eqb-true i k e) h)
unit_at n k i h false e = get_or-set_other (zeros n) k i one nan (eqb-false i k e) ∙ get_or-replicate n i plus_zero nan h

unit_is : (n k : ℕ) → tab n (λ i. cond (eqb i k) one plus_zero) ≡ unit n k
unit_is n k = sym (tab_is (unit n k) n _ (length-set (zeros n) k one ∙ length-replicate n plus_zero) (λ i h. unit_at n k i h (eqb i k) refl))

pub returns : goal.returns
returns g c = made_is nan (λ i. cond (eqb i c.args.k) one plus_zero) c.from_fn.ensures.items (λ i y q l e. search rules) ∙ unit_is _ _
