-- `series::Blocks::matmul` meets its contract: the entries are written row by row, those of P and then those of Q. s is the start of row i, upper that
-- of the row of P beside a row of Q.
use mathlib.Core.Path.{◌≡◌, refl, sym, ap, ◌∙◌}
use mathlib.Core.List.{List}
use Prim.Native.Nat.{ℕ, ◌+◌, ◌-◌, ◌*◌, ◌≤◌, ◌<◌}
use native.Mathlib.Nat.{zero-add, add-zero}
use native.Mathlib.Omega.{arith}
use borrow.Author.Tests.{lt-ltb, le-ltb}
use lib.Ieee.{Float, nan}
use lib.ListN.{get_or, set, length-set}
use Rattle.drifters_real.specs.Scalar.{◌⊕◌, ◌⊗◌, plus_zero}
use Rattle.drifters_matrix.specs.Matrix.{at, sum_terms}
use Rattle.drifters_matrix.proofs.Matrix.RowStart.{RowStart}
use Rattle.drifters_matrix.proofs.Matrix.Grid.{entries_set, entries_done}
use Rattle.drifters_adjoint.specs.Series.{add_terms, product_at}
use Rattle.drifters_adjoint.proofs.series.Blocks.matmul.Invariants.{Written}
use Rattle.drifters_adjoint.proofs.series.Blocks.matmul.Goals as goal

-- three terms by row and column: those of the rows k / 3 to k / 3 + 2 of m
three : (acc : Float) (t m : List Float) (n k j q : ℕ) → q ≡ k + j →
    add_terms acc t (n * 3) m q ≡ acc ⊕ at 3 t n 0 ⊗ get_or m (k + j) nan ⊕ at 3 t n 1 ⊗ get_or m (k + 3 + j) nan ⊕ at 3 t n 2 ⊗ get_or m (k + 6 + j) nan
three acc t m n k j q e =
    let d : q + 3 ≡ k + 3 + j = omega arith in
    let f : q + 6 ≡ k + 6 + j = omega arith in
    rw (add-zero, d, f, e) refl

-- an entry of P, and one of Q
upper : (t m : List Float) (j : ℕ) {i s : ℕ} → RowStart i 3 s → i < 3 → add_terms plus_zero t s m j ≡ product_at t m i j
unfolding sum_terms
upper t m j {i} h p = rw (h.start, lt-ltb i 3 p) (three plus_zero t m i 0 j j (sym (zero-add j)))

lower : (t m : List Float) (j : ℕ) {i s u : ℕ} → RowStart i 3 s → RowStart (i - 3) 3 u → 3 ≤ i → add_terms (add_terms plus_zero t s m j) t u m (j + 9) ≡ product_at t m i j
unfolding sum_terms
lower t m j {i} h k p =
    rw (h.start, k.start, le-ltb i 3 p, le-ltb i 3 p)
    (ap (λ (x : Float). add_terms x t ((i - 3) * 3) m (j + 9)) (three plus_zero t m i 0 j j (sym (zero-add j))) ∙ three _ t m (i - 3) 9 j (j + 9) (omega arith))

-- one entry more
next : {t m : List Float} {i s j : ℕ} {l : List Float} {v : Float} → Written t m i s j l → i < 6 → j < 3 → v ≡ product_at t m i j → Written t m i s (j + 1) (set l (s + j) v)
next {t} {m} {i} {s} {j} {l} {v} w p q e =
    record {
      row-start = w.row-start;
      column = omega arith;
      size = simp length-set w.size;
      entries = rw w.row-start.start (entries_set w.entries q (omega (arith, w.size)) e);
    }

upper-next : {t m : List Float} {i s j : ℕ} {l : List Float} {v : Float} → Written t m i s j l → i < 3 → j < 3 → v ≡ add_terms plus_zero t s m j →
    Written t m i s (j + 1) (set l (s + j) v)
upper-next {t} {m} {i} {s} {j} w p q e = next w (omega arith) q (e ∙ upper t m j w.row-start p)

lower-next : {t m : List Float} {i s u j : ℕ} {l : List Float} {x v : Float} → Written t m i s j l → RowStart (i - 3) 3 u → 3 ≤ i → i < 6 → j < 3 →
    x ≡ add_terms plus_zero t s m j → v ≡ add_terms x t u m (j + 9) → Written t m i s (j + 1) (set l (s + j) v)
lower-next {t} {m} {i} {s} {u} {j} w h o p q d e =
    next w p q (e ∙ ap (λ (x : Float). add_terms x t u m (j + 9)) d ∙ lower t m j w.row-start h o)

pub loop-j-preserved : goal.loop-j-preserved
loop-j-preserved c = upper-next c.loop-j.invariant (omega arith) (omega arith) c.add_terms.ensures

pub loop-j-2-preserved : goal.loop-j-2-preserved
loop-j-2-preserved c =
    let v = c.loop-j-2.invariant in
    (v.0, lower-next v.1 v.0 (omega arith) (omega arith) (omega arith) c.add_terms-sum.ensures c.add_terms-in-loop-j-2.ensures)

pub returns : goal.returns
returns c = let w = c.loop-2.invariant in entries_done w.3.entries (omega arith) w.3.size
