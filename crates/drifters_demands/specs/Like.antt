-- Numbers, vectors, quaternions and matrices that are the same but for signs, both zeros counting as one: what a half turn of the frame does. Definitions only.
use Rattle.std.specs.Prelude.{◌≡◌, Bool, true, false, List, ℕ, zero, suc, ◌<◌, pos, get_or, Float}
use Rattle.std.specs.Float.{nan, inf, fin}
use Rattle.std.specs.Float.Ieee.{neg, unlike}
use Rattle.drifters_matrix.specs.Matrix.{at}
use Rattle.drifters_core.specs.declared.math.vec3.Vec3.{Vec3}
use Rattle.drifters_quat.specs.declared.math.quat.Quat.{Quat}

-- the number itself, and +0 for either zero
abbrev pub unsigned_zero : Float → Float
unsigned_zero nan = nan
unsigned_zero (inf s) = inf s
unsigned_zero (fin s zero e) = fin false 0 (pos 0)
unsigned_zero (fin s (suc m) e) = fin s (suc m) e

-- x, negated where the sign s is true
abbrev pub signed : Bool → Float → Float
signed false x = x
signed true x = neg x

-- x is y, negated where s is true, both zeros counting as one
pub record Like (s : Bool) (x y : Float) : Type 0 where
  pub same : unsigned_zero x ≡ unsigned_zero (signed s y)

-- the signs of the first two axes: the three half turns about an axis, and no turn
pub record Signs : Type 0 where
  pub first : Bool
  pub second : Bool

-- a half turn about the first reference axis: the signs 1, -1, -1
abbrev pub about_x : Signs
about_x = record { first = false; second = true }

-- a half turn about the second: -1, 1, -1
abbrev pub about_y : Signs
about_y = record { first = true; second = false }

-- a half turn about the third: -1, -1, 1
abbrev pub about_z : Signs
about_z = record { first = true; second = true }

-- no turn
abbrev pub no_turn : Signs
no_turn = record { first = false; second = false }

-- whether component i is negated, i counted modulo 3: the third sign is the product of the first two
abbrev pub axis : Signs → ℕ → Bool
axis s zero = s.first
axis s (suc zero) = s.second
axis s (suc (suc zero)) = unlike s.first s.second
axis s (suc (suc (suc i))) = axis s i

-- the first n numbers of a are those of b, with the sign σ i at place i
pub record LikeList (σ : ℕ → Bool) (n : ℕ) (a b : List Float) : Type 0 where
  pub entry : (i : ℕ) → i < n → Like (σ i) (get_or a i nan) (get_or b i nan)

-- the components of v are those of w, with the signs σ 0, σ 1, σ 2
pub record LikeVec3 (σ : ℕ → Bool) (v w : Vec3) : Type 0 where
  pub x : Like (σ 0) v.x w.x
  pub y : Like (σ 1) v.y w.y
  pub z : Like (σ 2) v.z w.z

-- the scalar part of p is that of q, and the vector part with the signs of the axes
pub record LikeQuat (s : Signs) (p q : Quat) : Type 0 where
  pub w : Like false p.w q.w
  pub x : Like (axis s 0) p.x q.x
  pub y : Like (axis s 1) p.y q.y
  pub z : Like (axis s 2) p.z q.z

-- the r by c matrix a is b, with a sign σ i for each row and τ j for each column
pub record LikeMatrix (σ τ : ℕ → Bool) (r c : ℕ) (a b : List Float) : Type 0 where
  pub entry : (i j : ℕ) → i < r → j < c → Like (unlike (σ i) (τ j)) (at c a i j) (at c b i j)
