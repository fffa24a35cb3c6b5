-- The laws of a block within a matrix, and what the loops of `set_block_in` keep. Assumes nothing.
use mathlib.Core.Path.{◌≡◌, refl, sym, ap, ap₂, ◌∙◌}
use mathlib.Core.Bool.{Bool, true, false, true≢false, ◌&&◌, cond, and-eq-true_iff}
use mathlib.Core.List.{List}
use mathlib.Core.Logic.{⊎_elim}
use Prim.Native.Nat.{ℕ, ◌+◌, ◌-◌, ◌*◌, ◌≤◌, ◌<◌}
use native.Mathlib.Nat.{eq-or-lt_of_le, add-sub_of_le, add-zero, add_assoc, add-sub_cancel_left}
use native.Mathlib.Omega.{arith}
use borrow.Author.Tests.{leb-true, ltb-true, le-leb, lt-ltb}
use lib.Dec.{leb, ltb}
use borrow.Rule.Slice.PartMut.{put_mid}
use lib.ListN.{length, get_or, take, drop, length-take, length-drop, get_or-append}
use lib.Seq.{get_or-take, get_or-drop, get_or-append-add, length-take-le}
use lib.Ieee.{Float, nan}
use Rattle.drifters_matrix.specs.Matrix.{at, matrix, zeros, block_fits, in_block, set_block, block}
use Rattle.std.proofs.lemmas.Slice.{drop-put_mid}
use Rattle.drifters_matrix.proofs.Matrix.Grid.{row_in, lt_or_le, matrix_is}

-- the tests of the rows and of the columns, joined
pub fits_tested : {x y p q t : Bool} → x ≡ p → y ≡ q → x && y ≡ t → p && q ≡ t
fits_tested e h k = sym (ap₂ (λ (p q : Bool). p && q) e h) ∙ k

pub fits : (r c br bc r0 c0 : ℕ) → r0 + br ≤ r → c0 + bc ≤ c → block_fits r c br bc r0 c0 ≡ true
fits r c br bc r0 c0 h k = ap₂ (λ (p q : Bool). p && q) (le-leb (r0 + br) r h) (le-leb (c0 + bc) c k)

pub block_fits_lem : (r c br bc r0 c0 : ℕ) → block_fits r c br bc r0 c0 ≡ true → (r0 + br ≤ r) × (c0 + bc ≤ c)
block_fits_lem r c br bc r0 c0 e =
    let z = (and-eq-true_iff (leb (r0 + br) r) (leb (c0 + bc) c)).0 e in
    (leb-true (r0 + br) r z.0, leb-true (c0 + bc) c z.1)

-- what `in_block` says
in_block_lem : (br bc r0 c0 i j : ℕ) → i < br → j < bc → in_block br bc r0 c0 (r0 + i) (c0 + j) ≡ true
in_block_lem br bc r0 c0 i j h k =
    rw (le-leb r0 (r0 + i) (omega arith), lt-ltb (r0 + i) (r0 + br) (omega arith), le-leb c0 (c0 + j) (omega arith), lt-ltb (c0 + j) (c0 + bc) (omega arith))

from_block : (br bc r0 c0 p q : ℕ) → in_block br bc r0 c0 p q ≡ true → ((r0 ≤ p) × (p < r0 + br)) × ((c0 ≤ q) × (q < c0 + bc))
from_block br bc r0 c0 p q e =
    let z = (and-eq-true_iff (leb r0 p && ltb p (r0 + br)) (leb c0 q && ltb q (c0 + bc))).0 e in
    let y = (and-eq-true_iff (leb r0 p) (ltb p (r0 + br))).0 z.0 in
    let x = (and-eq-true_iff (leb c0 q) (ltb q (c0 + bc))).0 z.1 in
    ((leb-true r0 p y.0, ltb-true p (r0 + br) y.1), (leb-true c0 q x.0, ltb-true q (c0 + bc) x.1))

-- `block`, where the block fits and where it does not
pub block_is : (r c br bc r0 c0 : ℕ) (m : List Float) (t : Bool) → block_fits r c br bc r0 c0 ≡ t →
    cond t (matrix br bc (λ i j. at c m (r0 + i) (c0 + j))) (zeros (br * bc)) ≡ block r c br bc r0 c0 m
unfolding block
block_is r c br bc r0 c0 m t e = sym (ap (λ t. cond t (matrix br bc (λ i j. at c m (r0 + i) (c0 + j))) (zeros (br * bc))) e)

-- `set_block`, where the block fits and where it does not
pub set_is : (r c br bc r0 c0 : ℕ) (o src : List Float) (t : Bool) → block_fits r c br bc r0 c0 ≡ t →
    cond t (matrix r c (λ p q. cond (in_block br bc r0 c0 p q) (at bc src (p - r0) (q - c0)) (at c o p q))) o ≡ set_block r c br bc r0 c0 o src
unfolding set_block
set_is r c br bc r0 c0 o src t e =
    sym (ap (λ t. cond t (matrix r c (λ p q. cond (in_block br bc r0 c0 p q) (at bc src (p - r0) (q - c0)) (at c o p q))) o) e)

-- the elements of a list part of which was lent and came back as ys: those before, in and after it
before_part : {X : Type 0} (a k : ℕ) (xs ys : List X) (n : ℕ) (d : X) → n < a → a ≤ length xs → get_or (put_mid a k xs ys) n d ≡ get_or xs n d
before_part a k xs ys n d h l = get_or-append (take a xs) _ d n (rw (length-take-le a xs l) h) ∙ get_or-take a xs n d h

in_part : {X : Type 0} (a k : ℕ) (xs ys : List X) (j : ℕ) (d : X) → j < length ys → a ≤ length xs → get_or (put_mid a k xs ys) (a + j) d ≡ get_or ys j d
in_part a k xs ys j d h l =
    ap (λ (n : ℕ). get_or (put_mid a k xs ys) (n + j) d) (sym (length-take-le a xs l))
    ∙ get_or-append-add (take a xs) _ j d ∙ get_or-append ys _ d j h

after_part : {X : Type 0} (a k : ℕ) (xs ys : List X) (n : ℕ) (d : X) → a + k ≤ n → a ≤ length xs → length ys ≡ k → get_or (put_mid a k xs ys) n d ≡ get_or xs n d
after_part a k xs ys n d h l e =
    ap (λ (m : ℕ). get_or (put_mid a k xs ys) m d) (sym (add-zero n))
    ∙ sym (get_or-drop n (put_mid a k xs ys) 0 d) ∙ ap (λ (z : List _). get_or z 0 d) (drop-put_mid a k xs ys n h l e)
    ∙ get_or-drop n xs 0 d ∙ ap (λ (m : ℕ). get_or xs m d) (add-zero n)

-- m is o, of c columns, with the first i rows of the block replaced by those of src. What the rest of the block holds does not matter.
pub record BlockStored (c br bc r0 c0 : ℕ) (src o : List Float) (i : ℕ) (m : List Float) : Type 0 where
  pub done : (p q : ℕ) → p < i → q < bc → at c m (r0 + p) (c0 + q) ≡ at bc src p q
  pub outside : (p q : ℕ) → q < c → in_block br bc r0 c0 p q ≡ false → at c m p q ≡ at c o p q

module _ {c br bc r0 c0 : ℕ} {src o : List Float} where
  -- row i of the block is lent, and comes back as that of src
  pub stored_row : {i : ℕ} {m y : List Float} → BlockStored c br bc r0 c0 src o i m → i < br → c0 + bc ≤ c → (r0 + i) * c + c ≤ length m → i * bc + bc ≤ length src → y ≡ take (i * bc + bc - i * bc) (drop (i * bc) src) →
      BlockStored c br bc r0 c0 src o (i + 1) (put_mid ((r0 + i) * c + c0) ((r0 + i) * c + c0 + bc - ((r0 + i) * c + c0)) m y)
  stored_row {i} {m} {y} w h b s l e =
      rw (add-sub_cancel_left ((r0 + i) * c + c0) bc) record {
        done = λ p q a d. ⊎_elim
            (λ (z : p ≡ i). rw z (here q d))
            (λ (z : p < i).
            before_part start bc m y ((r0 + p) * c + (c0 + q)) nan (omega (arith, row_in (r0 + p) (r0 + i) c (omega arith))) (omega arith)
            ∙ w.done p q z d)
            (eq-or-lt_of_le (omega arith));
        outside = λ p q a d. ⊎_elim
            (λ (z : p < r0 + i). before_part start bc m y (p * c + q) nan (omega (arith, row_in p (r0 + i) c z)) (omega arith))
            (λ (z : r0 + i ≤ p). ⊎_elim
            (λ (x : r0 + i ≡ p). rw (← x) (beside q (λ (g : c0 ≤ q) (u : q < c0 + bc). true≢false (sym (in_block_lem br bc r0 c0 i (q - c0) h (omega arith)) ∙ rw (add-sub_of_le g, x) d))))
            (λ (x : r0 + i < p). after_part start bc m y (p * c + q) nan (omega (arith, row_in (r0 + i) p c x)) (omega arith) size)
            (eq-or-lt_of_le z))
            (lt_or_le p (r0 + i))
            ∙ w.outside p q a d;
      }
    where
      start : ℕ
      start = (r0 + i) * c + c0

      row : y ≡ take bc (drop (i * bc) src)
      row = rw add-sub_cancel_left at e

      size : length y ≡ bc
      size = rw (row, length-take, length-drop) (omega arith)

      here : (q : ℕ) → q < bc → at c (put_mid start bc m y) (r0 + i) (c0 + q) ≡ at bc src i q
      here q d =
          ap (λ (n : ℕ). get_or (put_mid start bc m y) n nan) (sym (add_assoc ((r0 + i) * c) c0 q))
          ∙ in_part start bc m y q nan (rw size d) (omega arith)
          ∙ ap (λ (z : List Float). get_or z q nan) row ∙ get_or-take bc (drop (i * bc) src) q nan d ∙ get_or-drop (i * bc) src q nan

      -- in the row, outside the block
      beside : (q : ℕ) → (c0 ≤ q → q < c0 + bc → ⊥) → at c (put_mid start bc m y) (r0 + i) q ≡ at c m (r0 + i) q
      beside q out = ⊎_elim
          (λ (g : q < c0). before_part start bc m y ((r0 + i) * c + q) nan (omega arith) (omega arith))
          (λ (g : c0 ≤ q). ⊎_elim
          (λ (u : q < c0 + bc). absurd (out g u))
          (λ (u : c0 + bc ≤ q). after_part start bc m y ((r0 + i) * c + q) nan (omega arith) (omega arith) size)
          (lt_or_le q (c0 + bc)))
          (lt_or_le q c0)

  pub stored_done : {i : ℕ} {m : List Float} (r : ℕ) → BlockStored c br bc r0 c0 src o i m → i ≡ br → length m ≡ r * c → block_fits r c br bc r0 c0 ≡ true →
      m ≡ set_block r c br bc r0 c0 o src
  stored_done {i} {m} r w e s f = matrix_is r c _ m s (λ p q h k. entry p q k (in_block br bc r0 c0 p q) refl) ∙ set_is r c br bc r0 c0 o src true f
    where
      entry : (p q : ℕ) → q < c → (t : Bool) → in_block br bc r0 c0 p q ≡ t → at c m p q ≡ cond t (at bc src (p - r0) (q - c0)) (at c o p q)
      entry p q k true x =
          let y = from_block br bc r0 c0 p q x in
          ap (λ (n : ℕ). at c m n q) (sym (add-sub_of_le y.0.0))
          ∙ ap (λ (n : ℕ). at c m (r0 + (p - r0)) n) (sym (add-sub_of_le y.1.0))
          ∙ w.done (p - r0) (q - c0) (omega arith) (omega arith)
      entry p q k false x = w.outside p q k x
