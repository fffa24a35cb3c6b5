-- The whole part of a root, `whole_root`: it is what its square and the next say of it, and it's the only such number.
-- Then the root to the nearest whole number, by what is left of n when the square of the whole part is taken off.
use Rattle.std.proofs.Common.{◌≡◌, ℕ, zero, suc, ◌+◌, ◌*◌, ◌/◌, ◌^◌, ◌<◌, ◌≤◌, Bool, true, false, cond, not, T, leb, sym, ap, ◌∙◌, subst, le_trans, le_of_suc-le-suc, zero-lt-suc, div-lt_iff_lt-mul, mul-le-mul, le_antisymm, pow-suc, lt_of_not-le, not-le_of_lt, add-one, arith, leb→le}
use Prim.Native.Nat.{compare}
use lib.Dec.{nleb→lt}
use lib.Ieee.{nearest}
use Rattle.drifters_real.specs.Real.{whole_root}
use Rattle.drifters_real.proofs.Real.Compare.{compare_lt, compare_gt}
use Rattle.drifters_real.specs.Limbs.{IsWholeRoot}

-- ---- the whole part of a root
root_le : (n r s : ℕ) → r * r ≤ n → n < (s + 1) * (s + 1) → r ≤ s
root_le n r s h k = le_of_suc-le-suc (lt_of_not-le (λ (g : suc s ≤ r). not-le_of_lt k (le_trans (mul-le-mul (more g) (more g)) h)))
  where
    more : suc s ≤ r → s + 1 ≤ r
    more g = omega arith

pub whole_unique : (n r s : ℕ) → IsWholeRoot n r → IsWholeRoot n s → r ≡ s
whole_unique n r s h k = le_antisymm (root_le n r s h.below k.above) (root_le n s r k.below h.above)

-- from a quarter of n to n: twice its root, or one more
quarter_below : (n r : ℕ) → r * r ≤ n / 4 → 2 * r * (2 * r) ≤ n
quarter_below n r h = omega arith

quarter_above : (n r : ℕ) → n / 4 < (r + 1) * (r + 1) → n < (2 * r + 1 + 1) * (2 * r + 1 + 1)
quarter_above n r h = omega arith

pub whole_root_is : (k n : ℕ) → n < 4 ^ k → IsWholeRoot n (whole_root k n)
unfolding whole_root
whole_root_is zero n h = record { below = zero_le' n; above = h }
  where
    zero_le' : (n : ℕ) → 0 * 0 ≤ n
    zero_le' n = omega arith
whole_root_is (suc k) n h = go (leb ((2 * whole_root k (n / 4) + 1) * (2 * whole_root k (n / 4) + 1)) n) (leb→le ((2 * whole_root k (n / 4) + 1) * (2 * whole_root k (n / 4) + 1)) n) (nleb→lt ((2 * whole_root k (n / 4) + 1) * (2 * whole_root k (n / 4) + 1)) n)
    (whole_root_is k (n / 4) ((div-lt_iff_lt-mul (zero-lt-suc 3)).1 (subst (λ (x : ℕ). n < x) (pow-suc 4 k) h)))
  where
    go : (b : Bool) → (T b → (2 * whole_root k (n / 4) + 1) * (2 * whole_root k (n / 4) + 1) ≤ n) → (T (not b) → n < (2 * whole_root k (n / 4) + 1) * (2 * whole_root k (n / 4) + 1))
        → IsWholeRoot (n / 4) (whole_root k (n / 4)) → IsWholeRoot n (cond b (2 * whole_root k (n / 4) + 1) (2 * whole_root k (n / 4)))
    go true y z ih = record { below = y tt; above = quarter_above n (whole_root k (n / 4)) ih.above }
    go false y z ih = record { below = quarter_below n (whole_root k (n / 4)) ih.below; above = z tt }

-- ---- to the nearest, where n is q * q + r
pub rounds_up : (q r n : ℕ) → q * q + r ≡ n → q < r → nearest q (compare (4 * n) ((2 * q + 1) * (2 * q + 1))) ≡ q + 1
rounds_up q r n e h = ap (nearest q) (compare_gt (4 * n) ((2 * q + 1) * (2 * q + 1)) (beyond q r n e h)) ∙ sym (add-one q)
  where
    beyond : (q r n : ℕ) → q * q + r ≡ n → q < r → (2 * q + 1) * (2 * q + 1) < 4 * n
    beyond q r n e h = omega arith

pub rounds_down : (q r n : ℕ) → q * q + r ≡ n → r ≤ q → nearest q (compare (4 * n) ((2 * q + 1) * (2 * q + 1))) ≡ q
rounds_down q r n e h = ap (nearest q) (compare_lt (4 * n) ((2 * q + 1) * (2 * q + 1)) (short q r n e h))
  where
    short : (q r n : ℕ) → q * q + r ≡ n → r ≤ q → 4 * n < (2 * q + 1) * (2 * q + 1)
    short q r n e h = omega arith

-- a rest of at most 2 * q makes q the whole part
pub whole_of_rest : (q r n : ℕ) → q * q + r ≡ n → r ≤ 2 * q → IsWholeRoot n q
whole_of_rest q r n e h = record { below = lo q r n e; above = hi q r n e h }
  where
    lo : (q r n : ℕ) → q * q + r ≡ n → q * q ≤ n
    lo q r n e = omega arith

    hi : (q r n : ℕ) → q * q + r ≡ n → r ≤ 2 * q → n < (q + 1) * (q + 1)
    hi q r n e h = omega arith
