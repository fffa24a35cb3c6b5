-- Two functions that grow stay within a distance of each other on an interval: a test at the ends of the interval, and where that fails on its halves.
use Rattle.std.proofs.Common.{ℕ, zero, suc, ◌+◌, ◌/◌, ◌<◌, ◌≤◌, Bool, true, false, ◌&&◌, T, ltb, le_refl, lt_of_lt_of_le, lt_of_le_of_lt, le_of_lt, add-le-add, lt_of_not-le, ltb→lt}
use native.Mathlib.Decide.{dec_le}
use lib.Ieee.Fits.{and_l, and_r}

pub record Close (f g : ℕ → ℕ) (lim x : ℕ) : Type 0 where
  pub over : f x < g x + lim
  pub under : g x < f x + lim

-- a and b are the values at the lower end, c and d those at the upper one
abbrev test : ℕ → ℕ → ℕ → ℕ → ℕ → Bool
test lim a b c d = ltb c (b + lim) && ltb d (a + lim)

-- the interval from lo to hi, halved at most n times
unfoldable pub tested : (f g : ℕ → ℕ) → ℕ → ℕ → ℕ → ℕ → ℕ → ℕ → ℕ → ℕ → Bool
tested f g lim zero lo hi a b c d = test lim a b c d
tested f g lim (suc n) lo hi a b c d = elim (test lim a b c d) [
  | true ↦ true
  | false ↦
      let m = (lo + hi) / 2 in
      let p = f m in
      let q = g m in
      tested f g lim n lo m a b p q && tested f g lim n m hi p q c d
]

-- from 0 to X
abbrev pub tested_to : (f g : ℕ → ℕ) → ℕ → ℕ → Bool
tested_to f g lim X = tested f g lim 16 0 X (f 0) (g 0) (f X) (g X)

module _ (f g : ℕ → ℕ) (f-mono : (x y : ℕ) → x ≤ y → f x ≤ f y) (g-mono : (x y : ℕ) → x ≤ y → g x ≤ g y) (lim : ℕ) where
  ends : (lo hi x : ℕ) → lo ≤ x → x ≤ hi → T (test lim (f lo) (g lo) (f hi) (g hi)) → Close f g lim x
  ends lo hi x l h t = record {
    over = lt_of_le_of_lt (f-mono x hi h) (lt_of_lt_of_le (ltb→lt (f hi) (g lo + lim) (and_l (ltb (f hi) (g lo + lim)) (ltb (g hi) (f lo + lim)) t)) (add-le-add (g-mono lo x l) (le_refl lim)));
    under = lt_of_le_of_lt (g-mono x hi h) (lt_of_lt_of_le (ltb→lt (g hi) (f lo + lim) (and_r (ltb (f hi) (g lo + lim)) (ltb (g hi) (f lo + lim)) t)) (add-le-add (f-mono lo x l) (le_refl lim)));
  }

  pub sound : (n lo hi x : ℕ) → T (tested f g lim n lo hi (f lo) (g lo) (f hi) (g hi)) → lo ≤ x → x ≤ hi → Close f g lim x
  unfolding tested
  sound zero lo hi x t l h = ends lo hi x l h t
  sound (suc n) lo hi x t l h =
      let m = (lo + hi) / 2 in
      go (test lim (f lo) (g lo) (f hi) (g hi)) (ends lo hi x l h) (sound n lo m x) (sound n m hi x) t
    where
      halves : (a b : Bool) → (T a → lo ≤ x → x ≤ (lo + hi) / 2 → Close f g lim x) → (T b → (lo + hi) / 2 ≤ x → x ≤ hi → Close f g lim x) → T (a && b) → Dec (x ≤ (lo + hi) / 2) → Close f g lim x
      halves a b p q t (yes s) = p (and_l a b t) l s
      halves a b p q t (no s) = q (and_r a b t) (le_of_lt (lt_of_not-le s)) h

      go : (b : Bool) → (T b → Close f g lim x)
          → (T (tested f g lim n lo ((lo + hi) / 2) (f lo) (g lo) (f ((lo + hi) / 2)) (g ((lo + hi) / 2))) → lo ≤ x → x ≤ (lo + hi) / 2 → Close f g lim x)
          → (T (tested f g lim n ((lo + hi) / 2) hi (f ((lo + hi) / 2)) (g ((lo + hi) / 2)) (f hi) (g hi)) → (lo + hi) / 2 ≤ x → x ≤ hi → Close f g lim x)
          → T (elim b as (λ _. Bool) [
            | true ↦ true
            | false ↦ tested f g lim n lo ((lo + hi) / 2) (f lo) (g lo) (f ((lo + hi) / 2)) (g ((lo + hi) / 2)) && tested f g lim n ((lo + hi) / 2) hi (f ((lo + hi) / 2)) (g ((lo + hi) / 2)) (f hi) (g hi)
          ]) → Close f g lim x
      go true e p q t = e tt
      go false e p q t =
          halves (tested f g lim n lo ((lo + hi) / 2) (f lo) (g lo) (f ((lo + hi) / 2)) (g ((lo + hi) / 2))) (tested f g lim n ((lo + hi) / 2) hi (f ((lo + hi) / 2)) (g ((lo + hi) / 2)) (f hi) (g hi))
          p q t (dec_le x ((lo + hi) / 2))
