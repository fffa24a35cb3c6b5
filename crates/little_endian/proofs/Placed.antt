-- The laws of `placed`. Assumes nothing.
use Prim.Native.Nat.{ℕ, ◌+◌, ◌≤◌}
use mathlib.Core.Path.{◌≡◌, sym, ap, ◌∙◌}
use mathlib.Core.List.{List, [], ◌++◌, append_assoc, append-nil}
use native.Mathlib.Nat.{add-zero}
use native.Mathlib.Omega.{arith}
use borrow.Rule.Slice.PartMut.{put_mid}
use lib.ListN.{length, take, drop, length-append, length-drop, take-append-drop}
use lib.Seq.{length-take-le, take_at, drop-append-add, drop-drop}
use Rattle.little_endian.specs.Bytes.{placed}

-- nothing is placed
pub placed_none : (run : List ℕ) (p : ℕ) → placed run p [] ≡ run
unfolding placed
placed_none run p = rw (add-zero, append-nil) (take-append-drop p run)

module _ (run : List ℕ) (p : ℕ) (a : List ℕ) where
  front_length : p ≤ length run → length (take p run ++ a) ≡ p + length a
  front_length h = length-append (take p run) a ∙ ap (λ (m : ℕ). m + length a) (length-take-le p run h)

  -- a run keeps its length
  pub length_placed : p + length a ≤ length run → length (placed run p a) ≡ length run
  unfolding placed
  length_placed h =
      let begins = front_length (omega (arith, h)) in
      let ends = length-drop (p + length a) run in
      length-append (take p run ++ a) (drop (p + length a) run) ∙ omega (arith, begins, ends, h)

  -- what is placed right after what was placed
  pub placed_after : (b : List ℕ) → p ≤ length run → placed (placed run p a) (p + length a) b ≡ placed run p (a ++ b)
  unfolding placed
  placed_after b h =
      let begins = front_length h in
      let rest = drop (p + length a) run in
      let size : p + length a + length b ≡ p + length (a ++ b) = omega (arith, length-append a b) in
      let dropped : drop (p + length a + length b) (take p run ++ a ++ rest) ≡ drop (p + length (a ++ b)) run =
      ap (λ (m : ℕ). drop (m + length b) (take p run ++ a ++ rest)) (sym begins)
      ∙ drop-append-add (take p run ++ a) rest (length b) ∙ drop-drop (length b) (p + length a) run ∙ ap (λ (m : ℕ). drop m run) size in
      (λ i. take_at (take p run ++ a) rest (p + length a) begins i ++ b ++ dropped i)
      ∙ ap (λ (l : List ℕ). l ++ drop (p + length (a ++ b)) run) (append_assoc (take p run) a b)

  -- a lent part of n places, come back as a
  pub placed_part : (n : ℕ) → length a ≡ n → put_mid p n run a ≡ placed run p a
  unfolding placed
  placed_part n e =
      sym (append_assoc (take p run) a (drop n (drop p run)))
      ∙ ap (λ (l : List ℕ). take p run ++ a ++ l) (drop-drop n p run ∙ ap (λ (m : ℕ). drop (p + m) run) (sym e))

-- out is run with a in its places from p on, and q is the place after them
pub record Put (run : List ℕ) (p : ℕ) (a out : List ℕ) (q : ℕ) : Type 0 where
  pub within : p ≤ length run
  pub until : q ≡ p + length a
  pub is : out ≡ placed run p a

-- nothing is put
pub put_none : (run : List ℕ) (p : ℕ) → p ≤ length run → Put run p [] run p
put_none run p h = record { within = h; until = sym (add-zero p); is = sym (placed_none run p) }

-- b is put after a
pub put_then : {run mid out a : List ℕ} {p q r : ℕ} (b : List ℕ) → Put run p a mid q → r ≡ q + length b → out ≡ placed mid q b → Put run p (a ++ b) out r
put_then {run} {mid} {out} {a} {p} {q} {r} b g e f =
    record {
      within = g.within;
      until = e ∙ omega (arith, g.until, length-append a b);
      is = f ∙ (λ i. placed (g.is i) (g.until i) b) ∙ placed_after run p a b g.within;
    }
