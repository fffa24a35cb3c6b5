-- What the loops of `symmetrize_in` keep. The pairs (p, q) with p < q are gone through in the order of their places p * n + q. Assumes nothing.
use mathlib.Core.Path.{◌≡◌, ◌∙◌}
use mathlib.Core.List.{List}
use mathlib.Core.Logic.{⊎_elim, ◌≢◌}
use Prim.Native.Nat.{ℕ, ◌+◌, ◌*◌, ◌≤◌, ◌<◌}
use native.Mathlib.Nat.{eq-or-lt_of_le, mul-le-mul_right}
use native.Mathlib.Omega.{arith}
use borrow.Author.Tests.{lt-ltb, le-ltb}
use lib.ListN.{length, set, length-set}
use lib.Seq.{get_or-set_same, get_or-set_other}
use lib.Ieee.{Float, nan}
use Rattle.std.proofs.lemmas.Nat.{same_from_place}
use Rattle.drifters_real.specs.Scalar.{◌⊕◌, ◌⊗◌, half}
use Rattle.drifters_matrix.specs.Matrix.{at, mean, symmetrize}
use Rattle.drifters_matrix.proofs.Matrix.Grid.{at_in, row_next, lt_or_le, matrix_is}

-- l is o with each pair before place t replaced by its mean in o
pub record Symmetrized (n : ℕ) (o : List Float) (t : ℕ) (l : List Float) : Type 0 where
  pub done : (p q : ℕ) → p < q → q < n → p * n + q < t → (at n l p q ≡ mean n o p q) × (at n l q p ≡ mean n o p q)
  pub left : (p q : ℕ) → p < q → q < n → t ≤ p * n + q → (at n l p q ≡ at n o p q) × (at n l q p ≡ at n o q p)
  pub diag : (p : ℕ) → p < n → at n l p p ≡ at n o p p

-- one pair is replaced
module _ (n : ℕ) (o l : List Float) (i j : ℕ) (v : Float) (size : length l ≡ n * n) (H : Symmetrized n o (i * n + j) l) (h : i < j) (k : j < n) (e : v ≡ half ⊗ (at n l i j ⊕ at n l j i)) where
  new : List Float
  new = set (set l (i * n + j) v) (j * n + i) v

  -- another place is as it was
  other : (p q : ℕ) → p * n + q ≢ i * n + j → p * n + q ≢ j * n + i → at n new p q ≡ at n l p q
  unfolding new
  other p q a b = get_or-set_other (set l (i * n + j) v) (j * n + i) (p * n + q) v nan b ∙ get_or-set_other l (i * n + j) (p * n + q) v nan a

  above : at n new i j ≡ v
  unfolding new
  above =
      get_or-set_other (set l (i * n + j) v) (j * n + i) (i * n + j) v nan
      (λ z. let y = same_from_place i j j i n k (omega arith) z in omega arith)
      ∙ get_or-set_same l (i * n + j) v nan (rw size (at_in i j n n (omega arith) k))

  below : at n new j i ≡ v
  unfolding new
  below = get_or-set_same (set l (i * n + j) v) (j * n + i) v nan (rw (length-set, size) (at_in j i n n k (omega arith)))

  is_mean : v ≡ mean n o i j
  is_mean = let y = H.left i j h k (omega arith) in e ∙ rw (y.0, y.1)

  others : (p q : ℕ) → p < q → q < n → p * n + q ≢ i * n + j → (at n new p q ≡ at n l p q) × (at n new q p ≡ at n l q p)
  others p q a b d = (
    other p q d (λ z. let y = same_from_place p q j i n b (omega arith) z in omega arith),
    other q p
        (λ z. let y = same_from_place q p i j n (omega arith) k z in omega arith)
        (λ z. let y = same_from_place q p j i n (omega arith) (omega arith) z in d (rw (y.0, y.1))),
  )

  pub symmetrized_step : Symmetrized n o (i * n + (j + 1)) (set (set l (i * n + j) v) (j * n + i) v)
  unfolding new
  symmetrized_step = record {
    done = λ p q a b s. ⊎_elim
        (λ (z : p * n + q ≡ i * n + j). let y = same_from_place p q i j n b k z in rw (y.0, y.1) (above ∙ is_mean, below ∙ is_mean))
        (λ (z : p * n + q < i * n + j).
        let w = others p q a b (λ x. omega (arith, x, z)) in
        let y = H.done p q a b z in (w.0 ∙ y.0, w.1 ∙ y.1))
        (eq-or-lt_of_le (omega (arith, s)));
    left = λ p q a b s.
        let w = others p q a b (λ x. omega (arith, x, s)) in
        let y = H.left p q a b (omega (arith, s)) in (w.0 ∙ y.0, w.1 ∙ y.1);
    diag = λ p a.
        other p p
        (λ z. let y = same_from_place p p i j n a k z in omega arith)
        (λ z. let y = same_from_place p p j i n a (omega arith) z in omega arith) ∙ H.diag p a;
  }

-- between two rows no pair is passed
pub symmetrized_next : (n : ℕ) (o l : List Float) (i j : ℕ) → Symmetrized n o (i * n + j) l → i < n → n ≤ j → j ≤ n → Symmetrized n o ((i + 1) * n + (i + 1 + 1)) l
symmetrized_next n o l i j H g a b = record {
  done = λ p q h k s. ⊎_elim
      (λ (z : p < i + 1). H.done p q h k (omega (arith, at_in p q (i + 1) n z k, row_next i n)))
      (λ (z : i + 1 ≤ p). absurd (omega (arith, s, h, mul-le-mul_right n z)))
      (lt_or_le p (i + 1));
  left = λ p q h k s. H.left p q h k (omega (arith, s, row_next i n));
  diag = H.diag;
}

pub symmetrized_done : (n : ℕ) (o l : List Float) (i : ℕ) → length l ≡ n * n → Symmetrized n o (i * n + (i + 1)) l → i ≡ n → l ≡ symmetrize n o
unfolding symmetrize
symmetrized_done n o l i size H e =
    matrix_is n n _ l size
    (λ p q h k. ⊎_elim
    (λ (z : p < q). (H.done p q z k (all p q h k)).0 ∙ rw (lt-ltb p q z))
    (λ (z : q ≤ p). ⊎_elim
    (λ (y : q ≡ p). rw (le-ltb p q z, le-ltb q p (omega arith)) (rw y (H.diag p h)))
    (λ (y : q < p). (H.done q p y h (all q p k h)).1 ∙ rw (le-ltb p q z, lt-ltb q p y))
    (eq-or-lt_of_le z))
    (lt_or_le p q))
  where
    all : (p q : ℕ) → p < n → q < n → p * n + q < i * n + (i + 1)
    all p q h k = rw e (omega (arith, at_in p q n n h k))
