-- The arithmetic of Newton's iteration for a square root, on natural numbers, after examples/hackers_delight of the kit.
use Rattle.std.proofs.Common.{◌≡◌, ℕ, zero, suc, ◌+◌, ◌*◌, ◌/◌, ◌<◌, ◌≤◌, sym, refl, ap, ◌∙◌, subst, le_trans, le_of_eq, le_refl, lt_of_lt_of_le, not-suc-le-zero, le_of_lt, add_assoc, add-suc, mul-le-mul_right, zero-lt-suc, lt-suc_self, add-lt-add_of_le_of_lt, mul_comm, div-lt_iff_lt-mul, add-mul, add_comm, lt_of_not-le, mul-add, two-mul, add-one}
use native.Mathlib.Nat.{le_dest, le_intro, add_left_comm}
use native.Mathlib.Decide.{dec_le}
use lib.Arith.{add-le_cancel_left}

-- Twice a product is at most the two squares, which is what makes the mean of two numbers at least the root of their product

-- For b written a + d: (a + d) * (a + d) + a * a is a * (a + d) twice and d * d more, which `simp` proves by sorting the sums and products of both sides.
squares_regrouped : (a d : ℕ) → a * (a + d) + a * (a + d) + d * d ≡ (a + d) * (a + d) + a * a
squares_regrouped a d = simp (mul-add, add-mul, mul_comm, add_assoc, add_comm, add_left_comm) refl

products_le_squares_at : (a d : ℕ) → a * (a + d) + a * (a + d) ≤ (a + d) * (a + d) + a * a
products_le_squares_at a d = le_intro (a * (a + d) + a * (a + d)) (d * d) (squares_regrouped a d)

products_le_squares_of_le : (a b : ℕ) → a ≤ b → a * b + a * b ≤ b * b + a * a
products_le_squares_of_le a b h = subst (λ (x : ℕ). a * x + a * x ≤ x * x + a * a) (le_dest h).1 (products_le_squares_at a (le_dest h).0)

products_le_squares : (a b : ℕ) → a * b + a * b ≤ b * b + a * a
products_le_squares a b = either (dec_le a b)
  where
    either : Dec (a ≤ b) → a * b + a * b ≤ b * b + a * a
    either (yes h) = products_le_squares_of_le a b h
    either (no f) =
        le_trans (le_of_eq (ap (λ (z : ℕ). z + z) (mul_comm a b)))
        (le_trans (products_le_squares_of_le b a (le_of_lt (lt_of_not-le f))) (le_of_eq (add_comm (a * a) (b * b))))

mul_two : (m : ℕ) → m * 2 ≡ m + m
mul_two m = mul_comm m 2 ∙ two-mul m

-- With q for n / r and m for one more than the new guess: n is below the next multiple of r, (q + 1) * r, and r + q is below m twice.
-- So r * r + (q + 1) * r, which is (r + q + 1) * r, is at most m * r twice, and so at most r * r + m * m: n < (q + 1) * r ≤ m * m.
above : (n r q m : ℕ) → n < suc q * r → r + q < m + m → n < m * m
above n r q m Below-next below-twice =
    lt_of_lt_of_le Below-next
    (add-le_cancel_left (r * r)
    (le_trans (le_of_eq (sym (add-mul r (suc q) r) ∙ ap (λ (x : ℕ). x * r) (add-suc r q)))
    (le_trans (mul-le-mul_right r below-twice)
    (le_trans (le_of_eq (add-mul m m r)) (products_le_squares m r)))))

-- A step from any guess r above 0: one more than the new guess, squared, is above n. So the new guess is at least the root, whether or not r was.
pub newton_above : (n r : ℕ) → zero < r → n < ((r + n / r) / 2 + 1) * ((r + n / r) / 2 + 1)
newton_above n r hr =
    subst (λ (x : ℕ). n < x * x) (sym (add-one ((r + n / r) / 2)))
    (above n r (n / r) (suc ((r + n / r) / 2))
    ((div-lt_iff_lt-mul hr).0 (lt-suc_self (n / r)))
    (lt_of_lt_of_le ((div-lt_iff_lt-mul (zero-lt-suc 1)).0 (lt-suc_self ((r + n / r) / 2))) (le_of_eq (mul_two (suc ((r + n / r) / 2))))))

-- a number whose square is above another is above 0
pub sq_pos : (n r : ℕ) → n < r * r → zero < r
sq_pos n zero h = absurd (not-suc-le-zero h)
sq_pos n (suc k) h = zero-lt-suc k

-- A step from a guess whose square is above n: n / r is below r, so r + n / r is below r twice, and its half is below r.
pub newton_below : (n r : ℕ) → n < r * r → (r + n / r) / 2 < r
newton_below n r h =
    (div-lt_iff_lt-mul (zero-lt-suc 1)).1
    (lt_of_lt_of_le (add-lt-add_of_le_of_lt (le_refl r) ((div-lt_iff_lt-mul (sq_pos n r h)).1 h)) (le_of_eq (sym (mul_two r))))
