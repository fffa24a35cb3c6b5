-- The start of each row as a running value: what the loops of products carry from row to row, by addition. Assumes nothing.
use mathlib.Core.Path.{◌≡◌, sym, ◌∙◌}
use mathlib.Core.List.{List}
use Prim.Native.Nat.{ℕ, ◌+◌, ◌-◌, ◌*◌, ◌≤◌, ◌<◌}
use native.Mathlib.Nat.{zero-mul, add-sub_cancel_left}
use native.Mathlib.Omega.{arith}
use borrow.Rule.Slice.PartMut.{put_mid}
use lib.Seq.{get_or-take, get_or-drop}
use lib.Ieee.{Float, nan}
use lib.ListN.{length, get_or, take, drop, length-take, length-drop}
use Rattle.std.proofs.lemmas.Nat.{div-mul-add, mod-mul-add}
use Rattle.drifters_matrix.specs.Matrix.{tab}
use Rattle.drifters_matrix.proofs.Matrix.Tab.{tab_is, tab_ext, front, front_part}
use Rattle.drifters_matrix.proofs.Matrix.Grid.{row_in, row_next, by_row}

-- s, the carried start of row i of rows of c entries, is row number times row length; rows are counted from 0
pub record RowStart (i c s : ℕ) : Type 0 where
  pub start : s ≡ i * c

-- row 0 starts at 0
pub row_start_first : {c : ℕ} → RowStart 0 c 0
row_start_first {c} = record { start = sym (zero-mul c) }

-- the next row starts a row's length further on
pub row_start_next : {i c s : ℕ} → RowStart i c s → RowStart (i + 1) c (s + c)
row_start_next {i} {c} h = record { start = omega (arith, h.start, row_next i c) }

-- a row of r rows lies within r * c
pub row_start_in : {i c s r : ℕ} → RowStart i c s → i < r → s + c ≤ r * c
row_start_in {i} {c} {s} {r} h k = omega (arith, h.start, row_in i r c k)

-- a step of a loop over the rows that has lent row i of l, which starts at p, and got y back
pub row_step : (f : ℕ → ℕ → Float) {i : ℕ} (c : ℕ) {p : ℕ} (o : List Float) {l y : List Float} → RowStart i c p → l ≡ front p (by_row c f) o → y ≡ tab c (f i) →
    put_mid p (p + c - p) l y ≡ front (p + c) (by_row c f) o
row_step f {i} c {p} o {l} {y} h e q =
    rw (add-sub_cancel_left p c, e, q ∙ tab_ext c (f i) (λ j. by_row c f (p + j)) (λ j k. rw (h.start, div-mul-add i c j k, mod-mul-add i c j k)))
    (front_part p c (by_row c f) o)

-- a part of a list by its entries
pub part_is : (p c : ℕ) (l : List Float) → p + c ≤ length l → take (p + c - p) (drop p l) ≡ tab c (λ j. get_or l (p + j) nan)
part_is p c l h =
    rw add-sub_cancel_left
    (tab_is (take c (drop p l)) c _ (simp (length-take, length-drop) (omega arith)) (λ j k. get_or-take c (drop p l) j nan k ∙ get_or-drop p l j nan))
