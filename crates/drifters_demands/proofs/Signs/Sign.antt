-- The product of signs: `unlike s t` of `lib.Ieee` is a group of order two. `simp signs` proves an equation between such products. Assumes nothing.
use mathlib.Core.Path.{◌≡◌, refl, sym, ap, ◌∙◌}
use mathlib.Core.Bool.{Bool, true, false, not}
use Prim.Native.Nat.{ℕ, zero, suc, ◌+◌, ◌*◌}
use native.Mathlib.Nat.{zero-add}
use native.Mathlib.Omega.{arith}
use lib.Ieee.{unlike}
use Rattle.std.specs.Cmp.{bool_eq_equiv}
use Rattle.drifters_demands.specs.Like.{Signs, axis}

pub unlike_same : (s : Bool) → unlike s s ≡ false
unlike_same true = refl
unlike_same false = refl

pub unlike_false : (s : Bool) → unlike s false ≡ s
unlike_false true = refl
unlike_false false = refl

pub false_unlike : (s : Bool) → unlike false s ≡ s
false_unlike true = refl
false_unlike false = refl

unlike_true : (s : Bool) → unlike s true ≡ not s
unlike_true true = refl
unlike_true false = refl

true_unlike : (s : Bool) → unlike true s ≡ not s
true_unlike true = refl
true_unlike false = refl

pub not_unlike : (s t : Bool) → unlike (not s) t ≡ not (unlike s t)
not_unlike true true = refl
not_unlike true false = refl
not_unlike false true = refl
not_unlike false false = refl

pub unlike_not : (s t : Bool) → unlike s (not t) ≡ not (unlike s t)
unlike_not true true = refl
unlike_not true false = refl
unlike_not false true = refl
unlike_not false false = refl

pub unlike_nots : (s t : Bool) → unlike (not s) (not t) ≡ unlike s t
unlike_nots true true = refl
unlike_nots true false = refl
unlike_nots false true = refl
unlike_nots false false = refl

pub unlike_comm : (s t : Bool) → unlike s t ≡ unlike t s
unlike_comm s t = ap not (bool_eq_equiv.symm s t)

pub unlike_cancel : (s t : Bool) → unlike s (unlike s t) ≡ t
unlike_cancel true true = refl
unlike_cancel true false = refl
unlike_cancel false true = refl
unlike_cancel false false = refl

pub unlike_assoc : (s t u : Bool) → unlike (unlike s t) u ≡ unlike s (unlike t u)
unlike_assoc true t u = simp (true_unlike, not_unlike)
unlike_assoc false t u = simp false_unlike

pub unlike_left_comm : (s t u : Bool) → unlike s (unlike t u) ≡ unlike t (unlike s u)
unlike_left_comm true t u = simp (true_unlike, unlike_not)
unlike_left_comm false t u = simp false_unlike

pub ruleset signs = (unlike_assoc, unlike_comm, unlike_left_comm, unlike_same, unlike_cancel, unlike_false, false_unlike)

-- ---- the signs of the axes: each is the product of the other two
product_first : (p q : Bool) → unlike q (unlike p q) ≡ p
product_first p q = simp signs

product_first' : (p q : Bool) → unlike (unlike p q) q ≡ p
product_first' p q = simp signs

product_second : (p q : Bool) → unlike (unlike p q) p ≡ q
product_second p q = simp signs

module _ (s : Signs) where
  pub axis_1_2 : unlike (axis s 1) (axis s 2) ≡ axis s 0
  axis_1_2 = product_first s.first s.second

  pub axis_2_1 : unlike (axis s 2) (axis s 1) ≡ axis s 0
  axis_2_1 = product_first' s.first s.second

  pub axis_2_0 : unlike (axis s 2) (axis s 0) ≡ axis s 1
  axis_2_0 = product_second s.first s.second

  pub axis_0_2 : unlike (axis s 0) (axis s 2) ≡ axis s 1
  axis_0_2 = unlike_cancel s.first s.second

  pub axis_0_1 : unlike (axis s 0) (axis s 1) ≡ axis s 2
  axis_0_1 = refl

  pub axis_1_0 : unlike (axis s 1) (axis s 0) ≡ axis s 2
  axis_1_0 = unlike_comm s.second s.first

  -- they repeat after every third
  pub axis_add : (k i : ℕ) → axis s (3 * k + i) ≡ axis s i
  axis_add zero i = ap (axis s) (zero-add i)
  axis_add (suc k) i = ap (axis s) (next k i) ∙ axis_add k i
    where
      next : (k i : ℕ) → 3 * suc k + i ≡ suc (suc (suc (3 * k + i)))
      next k i = omega arith

-- ---- the signs of the axes, or, where t, all of them changed: a turn changes unit vector k by these, where t is the sign of axis k
abbrev pub signed_axis : Signs → Bool → ℕ → Bool
signed_axis s false = axis s
signed_axis s true = λ i. not (axis s i)

pub signed_axis_is : (s : Signs) (t : Bool) (i : ℕ) → signed_axis s t i ≡ unlike (axis s i) t
signed_axis_is s false i = sym (unlike_false (axis s i))
signed_axis_is s true i = sym (unlike_true (axis s i))

pub signed_axis_add : (s : Signs) (t : Bool) (k i : ℕ) → signed_axis s t (3 * k + i) ≡ signed_axis s t i
signed_axis_add s false k i = axis_add s k i
signed_axis_add s true k i = ap not (axis_add s k i)
