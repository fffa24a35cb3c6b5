-- `compare`, by the order of its two numbers.
use Rattle.std.proofs.Common.{◌≡◌, ℕ, zero, suc, ◌*◌, ◌<◌, ◌≤◌, not, T, eqb, ◌⊎◌, sym, refl, ◌∙◌, subst, inl, inr, le_of_eq, le_of_lt, eq-or-lt_of_le, mul-lt-mul_of_pos_right, lt_of_not-le, arith, eqb→eq, leb→le}
use Prim.Native.Nat.{compare, Ordering}
use native.Mathlib.Decide.{dec_le}
use lib.Dec.{is_le, compare_is_eq, nleb→lt, eqb_refl}

abbrev pub Compared : Ordering → ℕ → ℕ → Type 0
Compared Ordering.lt a b = a < b
Compared Ordering.eq a b = a ≡ b
Compared Ordering.gt a b = b < a

pub compared : (a b : ℕ) → Compared (compare a b) a b
compared a b = go (compare a b) (leb→le a b) (nleb→lt a b) (eqb→eq a b) (λ (e : a ≡ b). subst (λ (x : ℕ). T (eqb a x)) e (eqb_refl a))
  where
    less : a ≤ b → (a ≡ b → ⊥) → a < b
    less h n = omega arith

    go : (o : Ordering) → (T (is_le o) → a ≤ b) → (T (not (is_le o)) → b < a) → (T (compare_is_eq o) → a ≡ b) → (a ≡ b → T (compare_is_eq o)) → Compared o a b
    go Ordering.lt h k e n = less (h tt) n
    go Ordering.eq h k e n = e tt
    go Ordering.gt h k e n = k tt

pub compare_lt : (a b : ℕ) → a < b → compare a b ≡ Ordering.lt
compare_lt a b h = go (compare a b) (compared a b)
  where
    no : a < b → b ≤ a → ⊥
    no p q = omega arith

    go : (o : Ordering) → Compared o a b → o ≡ Ordering.lt
    go Ordering.lt c = refl
    go Ordering.eq c = absurd (no h (le_of_eq (sym c)))
    go Ordering.gt c = absurd (no h (le_of_lt c))

pub compare_gt : (a b : ℕ) → b < a → compare a b ≡ Ordering.gt
compare_gt a b h = go (compare a b) (compared a b)
  where
    no : b < a → a ≤ b → ⊥
    no p q = omega arith

    go : (o : Ordering) → Compared o a b → o ≡ Ordering.gt
    go Ordering.lt c = absurd (no h (le_of_lt c))
    go Ordering.eq c = absurd (no h (le_of_eq c))
    go Ordering.gt c = refl

-- at multiples
pub compare_scale : (x y c : ℕ) → 0 < c → compare (x * c) (y * c) ≡ compare x y
compare_scale x y c C = pick (dec_le x y)
  where
    both : (x ≡ y) ⊎ (x < y) → compare (x * c) (y * c) ≡ compare x y
    both (inl e) = subst (λ (z : ℕ). compare (x * c) (z * c) ≡ compare x z) e (twins x)
      where
        refl_eq : (n : ℕ) → compare n n ≡ compare 0 0
        refl_eq zero = refl
        refl_eq (suc n) = Prim.Native.Nat.compare.suc-suc n n ∙ refl_eq n

        twins : (x : ℕ) → compare (x * c) (x * c) ≡ compare x x
        twins x = refl_eq (x * c) ∙ sym (refl_eq x)
    both (inr l) = compare_lt (x * c) (y * c) (mul-lt-mul_of_pos_right l C) ∙ sym (compare_lt x y l)

    pick : Dec (x ≤ y) → compare (x * c) (y * c) ≡ compare x y
    pick (yes h) = both (eq-or-lt_of_le h)
    pick (no f) = compare_gt (x * c) (y * c) (mul-lt-mul_of_pos_right (lt_of_not-le f) C) ∙ sym (compare_gt x y (lt_of_not-le f))
