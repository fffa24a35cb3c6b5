-- `math::runs::from_diagonal_in` meets its contract.
use mathlib.Core.Path.{◌≡◌, refl, sym, ap, ◌∙◌}
use mathlib.Core.Bool.{Bool, true, false, cond}
use mathlib.Core.List.{List}
use Prim.Native.Nat.{ℕ, ◌+◌, ◌*◌, ◌<◌}
use native.Mathlib.Omega.{arith}
use borrow.Author.Count.{below_more}
use borrow.Author.Tests.{eqb-true, eqb-false}
use lib.Dec.{eqb}
use lib.Ieee.{Float, nan}
use lib.ListN.{get_or, set, length-set}
use lib.Seq.{get_or-set_same, get_or-set_other}
use Rattle.std.proofs.lemmas.Nat.{same_from_place}
use Rattle.drifters_real.specs.Scalar.{plus_zero}
use Rattle.drifters_matrix.specs.Matrix.{at, from_diagonal}
use Rattle.drifters_matrix.proofs.Matrix.Grid.{at_in, matrix_is}
use Rattle.drifters_matrix.proofs.math.runs.from_diagonal_in.Invariants.{Rows, entry_of}
use Rattle.drifters_matrix.proofs.math.runs.from_diagonal_in.Goals as goal

rows-set : {n : ℕ} {d : List Float} {i : ℕ} {l : List Float} → Rows n d i l → i < n → Rows n d (i + 1) (set l (i * n + i) (get_or d i nan))
rows-set {n} {d} {i} {l} w h =
    record {
      bound = omega arith;
      size = simp length-set w.size;
      passed = below_more (λ p. (q : ℕ) → q < n → at n l' p q ≡ entry_of d p q) i (λ p s q k. other p q k (λ y _. omega (arith, y, s)) ∙ w.passed p s q k) (λ q k. here q k (eqb i q) refl);
      rest = λ p q s t k. other p q k (λ y _. omega (arith, y, s)) ∙ w.rest p q (omega arith) t k;
    }
  where
    l' : List Float
    l' = set l (i * n + i) (get_or d i nan)

    other : (p q : ℕ) → q < n → (p ≡ i → q ≡ i → ⊥) → at n l' p q ≡ at n l p q
    other p q k ne = get_or-set_other l (i * n + i) (p * n + q) (get_or d i nan) nan (λ z. let y = same_from_place p q i i n k h z in ne y.0 y.1)

    here : (q : ℕ) → q < n → (t : Bool) → eqb i q ≡ t → at n l' i q ≡ cond (eqb i q) (get_or d i nan) plus_zero
    here q k true e =
        rw e (ap (λ (m : ℕ). at n l' i m) (sym (eqb-true i q e)) ∙ get_or-set_same l (i * n + i) (get_or d i nan) nan (omega (arith, at_in i i n n h h, w.size)))
    here q k false e = rw e (other i q k (λ _ y. eqb-false i q e (sym y)) ∙ w.rest i q (omega arith) h k)

rows_done : {n : ℕ} {d : List Float} {i : ℕ} {l : List Float} → Rows n d i l → i ≡ n → l ≡ from_diagonal n d
unfolding from_diagonal
rows_done {n} {d} {i} {l} w e = matrix_is n n (entry_of d) l w.size (λ p q h k. w.passed p (omega arith) q k)

pub loop-i-preserved : goal.loop-i-preserved
loop-i-preserved c = let w = c.loop-i.invariant in (w.0, rows-set w.1 (omega arith))

pub returns : goal.returns
returns c = rows_done c.loop-i.invariant.1 (omega arith)
