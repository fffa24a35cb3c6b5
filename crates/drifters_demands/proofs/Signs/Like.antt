-- `Like s x y`: what a function gives for two that are alike, and the first laws. Assumes nothing.
use mathlib.Core.Path.{◌≡◌, refl, sym, ap, ◌∙◌, subst}
use Prim.Native.Nat.{ℕ, zero, suc}
use mathlib.Core.Bool.{Bool, true, false, cond, not-not, true≢false}
use lib.IntN.{ℤ, pos}
use lib.Ieee.{Float, nan, inf, fin, neg, is_nan}
use Rattle.drifters_real.specs.Scalar.{plus_zero}
use Rattle.drifters_real.proofs.Real.Zeros.{plus_zero_is}
use Rattle.drifters_demands.specs.Like.{unsigned_zero, signed, Like}

-- +0, of which `plus_zero` is the bits
abbrev pub fin_zero : Float
fin_zero = fin false 0 (pos 0)

-- ---- a function that does not tell the zeros apart gives the same for two that are alike
pub at_unsigned_zero : {A : Type 0} (g : Float → A) → ((s : Bool) (e : ℤ) → g (fin s 0 e) ≡ g fin_zero) → (x : Float) → g x ≡ g (unsigned_zero x)
at_unsigned_zero g h nan = refl
at_unsigned_zero g h (inf s) = refl
at_unsigned_zero g h (fin s zero e) = h s e
at_unsigned_zero g h (fin s (suc m) e) = refl

pub respects : {A : Type 0} (g : Float → A) → ((s : Bool) (e : ℤ) → g (fin s 0 e) ≡ g fin_zero) → (x y : Float) → unsigned_zero x ≡ unsigned_zero y → g x ≡ g y
respects g h x y p = at_unsigned_zero g h x ∙ ap g p ∙ sym (at_unsigned_zero g h y)

-- the same for a function of two
pub respects₂ : {A : Type 0} (op : Float → Float → A) → ((y : Float) (s : Bool) (e : ℤ) → op (fin s 0 e) y ≡ op fin_zero y)
    → ((x : Float) (s : Bool) (e : ℤ) → op x (fin s 0 e) ≡ op x fin_zero)
    → (x x' y y' : Float) → unsigned_zero x ≡ unsigned_zero x' → unsigned_zero y ≡ unsigned_zero y' → op x y ≡ op x' y'
respects₂ op l r x x' y y' p q = respects (λ z. op z y) (l y) x x' p ∙ respects (op x') (r x') y y' q

-- a function of two that takes every zero on the left for the same: it is enough to say what it gives for a finite number on the right
pub zero_alike : {A : Type 0} (op : Float → Float → A) {g : Bool → ℤ → ℕ → A} → ((s : Bool) (e : ℤ) → op (fin s 0 e) nan ≡ op fin_zero nan)
    → ((s t : Bool) (e : ℤ) → op (fin s 0 e) (inf t) ≡ op fin_zero (inf t)) → ((s t : Bool) (e d : ℤ) (n : ℕ) → op (fin s 0 e) (fin t n d) ≡ g t d n)
    → (y : Float) (s : Bool) (e : ℤ) → op (fin s 0 e) y ≡ op fin_zero y
zero_alike op a b c nan s e = a s e
zero_alike op a b c (inf t) s e = b s t e
zero_alike op a b c (fin t n d) s e = c s t e d n ∙ sym (c false t (pos 0) d n)

-- ---- a zero, of either sign
abbrev pub is_zero : Float → Bool
is_zero nan = false
is_zero (inf s) = false
is_zero (fin s zero e) = true
is_zero (fin s (suc m) e) = false

-- two that are alike and no zeros are the same
pub exact : (x y : Float) → unsigned_zero x ≡ unsigned_zero y → is_zero y ≡ false → x ≡ y
exact x y p z = sym (itself x (respects is_zero (λ s e. refl) x y p ∙ z)) ∙ p ∙ itself y z
  where
    itself : (x : Float) → is_zero x ≡ false → unsigned_zero x ≡ x
    itself nan h = refl
    itself (inf s) h = refl
    itself (fin s zero e) h = absurd (true≢false h)
    itself (fin s (suc m) e) h = refl

-- ---- the sign
pub neg_neg : (x : Float) → neg (neg x) ≡ x
unfolding neg
neg_neg nan = refl
neg_neg (inf s) = simp not-not
neg_neg (fin s m e) = simp not-not

pub signed_same : (s : Bool) (x y : Float) → unsigned_zero x ≡ unsigned_zero y → unsigned_zero (signed s x) ≡ unsigned_zero (signed s y)
signed_same false x y p = p
signed_same true x y p = respects (λ z. unsigned_zero (neg z)) (λ s e. unfold neg in refl) x y p

-- ---- the first laws
pub like_refl : {x : Float} → Like false x x
like_refl = record { same = refl }

-- the sign as it is written elsewhere
pub like_as : {s t : Bool} {x y : Float} → s ≡ t → Like s x y → Like t x y
like_as e h = rw (← e) h

-- every zero is like every zero, with either sign
pub like_fin_zeros : (s t u : Bool) (e d : ℤ) → Like s (fin t 0 e) (fin u 0 d)
unfolding neg
like_fin_zeros true t u e d = record { same = refl }
like_fin_zeros false t u e d = record { same = refl }

pub like_plus_zero : {s : Bool} → Like s plus_zero plus_zero
like_plus_zero {s} = rw plus_zero_is (like_fin_zeros s false false (pos 0) (pos 0))

pub like_neg : {s : Bool} {x y : Float} → Like s x y → Like s (neg x) (neg y)
like_neg {s = true} {x} {y} h = record { same = signed_same true x (neg y) h.same }
like_neg {s = false} {x} {y} h = record { same = signed_same true x y h.same }

-- any relation between what one test chooses
pub cond_keeps_same : {A : Type 0} (R : A → A → Type 0) (b : Bool) {x x' y y' : A} → (b ≡ true → R x x') → (b ≡ false → R y y') → R (cond b x y) (cond b x' y')
cond_keeps_same R true h k = h refl
cond_keeps_same R false h k = k refl

-- and between what two equal tests choose
pub cond_keeps : {A : Type 0} (R : A → A → Type 0) {b b' : Bool} {x x' y y' : A} → b ≡ b' → (b ≡ true → R x x') → (b ≡ false → R y y') → R (cond b x y) (cond b' x' y')
cond_keeps R {b} {x} {x'} {y} {y'} e h k = subst (λ (c : Bool). R (cond b x y) (cond c x' y')) e (cond_keeps_same R b h k)

pub like_cond : {s : Bool} {x x' y y' : Float} {b b' : Bool} → b ≡ b' → Like s x x' → Like s y y' → Like s (cond b x y) (cond b' x' y')
like_cond {s} e h k = cond_keeps (Like s) e (λ t. h) (λ t. k)

-- ---- a function that takes no notice of the sign
pub unsigned : {A : Type 0} (g : Float → A) → ((s : Bool) (e : ℤ) → g (fin s 0 e) ≡ g fin_zero) → ((x : Float) → g (neg x) ≡ g x)
    → {s : Bool} {x y : Float} → Like s x y → g x ≡ g y
unsigned g h n {s = false} {x} {y} l = respects g h x y l.same
unsigned g h n {s = true} {x} {y} l = respects g h x (neg y) l.same ∙ n y

neg_is_nan : (x : Float) → is_nan (neg x) ≡ is_nan x
unfolding neg is_nan
neg_is_nan nan = refl
neg_is_nan (inf s) = refl
neg_is_nan (fin s m e) = refl

pub like_is_nan : {s : Bool} {x y : Float} → Like s x y → is_nan x ≡ is_nan y
like_is_nan l = unsigned is_nan (λ s e. unfold is_nan in refl) neg_is_nan l

-- two that are alike are the same but for the sign, unless they are zeros
pub like_exact : {s : Bool} {x y : Float} → Like s x y → (Like false x plus_zero → ⊥) → x ≡ signed s y
like_exact {s} {x} {y} h n = exact x (signed s y) h.same (sym (respects is_zero (λ t e. refl) x (signed s y) h.same) ∙ no_zero x n)
  where
    no_zero : (x : Float) → (Like false x plus_zero → ⊥) → is_zero x ≡ false
    no_zero nan n = refl
    no_zero (inf s) n = refl
    no_zero (fin s zero e) n = absurd (n (rw plus_zero_is (like_fin_zeros false s false e (pos 0))))
    no_zero (fin s (suc m) e) n = refl
