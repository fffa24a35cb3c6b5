-- What the contracts of the private functions of math/real.rt say: roots of whole numbers, and numbers in two parts. Not for the reader of the results.
use Rattle.std.specs.Prelude.{◌≡◌, ℕ, ◌+◌, ◌*◌, ◌/◌, ◌^◌, ◌<◌, ◌≤◌, false, from_bits}
use Prim.Native.Nat.{compare}
use Rattle.std.specs.Float.{binary64}
use Rattle.std.specs.Float.Ieee.{nearest, nan_bits}
use Rattle.drifters_real.specs.Real.{whole_root, sqrt, sinc_plus, sinc_minus, cos_plus, cos_minus}
use Rattle.drifters_real.specs.declared.math.real.Wide.{Wide}
use Rattle.drifters_real.specs.declared.math.real.Sums.{Sums}

-- r is the whole part of the root of n
pub record IsWholeRoot (n r : ℕ) : Type 0 where
  pub below : r * r ≤ n
  pub above : n < (r + 1) * (r + 1)

-- the root of an n below 4 ^ 53, to the nearest whole number
unfoldable pub nearest_root : ℕ → ℕ
nearest_root n = let q = whole_root 53 n in nearest q (compare (4 * n) ((2 * q + 1) * (2 * q + 1)))

-- r is the bit pattern of the root of what b is the pattern of
pub record IsRootPattern (b r : ℕ) : Type 0 where
  pub value : from_bits binary64 r ≡ sqrt (from_bits binary64 b)
  pub number : nan_bits binary64 r ≡ false

-- the number that two parts stand for
abbrev pub value : Wide → ℕ
value w = w.h * 2 ^ 32 + w.l

-- w stands for v, and its low part has 32 digits
pub record IsWide (w : Wide) (v : ℕ) : Type 0 where
  pub is : value w ≡ v
  pub digits : w.l < 2 ^ 32

-- s has the four sums for the square x, in units of 2 ^ -54
pub record AreSums (x : ℕ) (s : Sums) : Type 0 where
  pub sin_plus : s.sp ≡ sinc_plus x / 2 ^ 10
  pub sin_minus : s.sn ≡ sinc_minus x / 2 ^ 10
  pub cos_plus : s.cp ≡ cos_plus x / 2 ^ 10
  pub cos_minus : s.cn ≡ cos_minus x / 2 ^ 10

-- the largest square, in units of 2 ^ -64, that the terms are summed for: that of `angle_limit`
abbrev pub square_limit : ℕ
square_limit = 2 ^ 70
