-- Records that are the same but for signs, both zeros counting as one. A frame has its signs: s is the reference frame's, b the body's,
-- m the magnetometer's; a rotation has the signs of one frame for its rows and of another for its columns. Assumes nothing.
use mathlib.Core.Path.{◌≡◌, refl}
use mathlib.Core.Bool.{Bool, false}
use Prim.Native.Nat.{ℕ, zero, suc}
use Rattle.drifters_demands.specs.Like.{Signs, no_turn, axis, LikeVec3, LikeMatrix}
use Rattle.drifters_demands.proofs.Signs.Sign.{signed_axis}
use Rattle.drifters_lie.specs.declared.lie.Se23Tangent.{Se23Tangent}
use Rattle.drifters_lie.specs.declared.lie.Se3Tangent.{Se3Tangent}
use Rattle.drifters_lie.specs.declared.lie.Se23.{Se23}
use Rattle.drifters_lie.specs.declared.lie.Se3.{Se3}
use Rattle.drifters_symmetry.specs.declared.group.Symmetry.{Symmetry}
use Rattle.drifters_symmetry.specs.declared.group.Algebra.{Algebra}
use Rattle.drifters_symmetry.specs.declared.group.State.{State}
use Rattle.drifters_symmetry.specs.declared.lift.Input.{Input}

pub axis_no_turn : (i : ℕ) → axis no_turn i ≡ false
axis_no_turn zero = refl
axis_no_turn (suc zero) = refl
axis_no_turn (suc (suc zero)) = refl
axis_no_turn (suc (suc (suc i))) = axis_no_turn i

-- elements of the algebras, with the signs of a frame or, where t, all of these changed: so unit element k is alike to itself, where t is the sign
-- of axis k, and a column that is made from it has the signs of its frame in this way
pub record SignedSe3Tangent (s : Signs) (t : Bool) (u v : Se3Tangent) : Type 0 where
  pub omega : LikeVec3 (signed_axis s t) u.omega v.omega
  pub nu : LikeVec3 (signed_axis s t) u.nu v.nu

pub record SignedSe23Tangent (s : Signs) (t : Bool) (u v : Se23Tangent) : Type 0 where
  pub omega : LikeVec3 (signed_axis s t) u.omega v.omega
  pub nu : LikeVec3 (signed_axis s t) u.nu v.nu
  pub rho : LikeVec3 (signed_axis s t) u.rho v.rho

-- e in a frame of its own
pub record SignedAlgebra (s m : Signs) (t : Bool) (u v : Algebra) : Type 0 where
  pub c : SignedSe23Tangent s t u.c v.c
  pub gamma : SignedSe3Tangent s t u.gamma v.gamma
  pub delta : LikeVec3 (signed_axis s t) u.delta v.delta
  pub e : LikeVec3 (signed_axis m t) u.e v.e

-- the same with the signs of a frame as they are
abbrev pub LikeSe3Tangent : Signs → Se3Tangent → Se3Tangent → Type 0
LikeSe3Tangent s = SignedSe3Tangent s false

abbrev pub LikeSe23Tangent : Signs → Se23Tangent → Se23Tangent → Type 0
LikeSe23Tangent s = SignedSe23Tangent s false

abbrev pub LikeAlgebra : Signs → Signs → Algebra → Algebra → Type 0
LikeAlgebra s m = SignedAlgebra s m false

pub record LikeSe23 (s b : Signs) (c d : Se23) : Type 0 where
  pub rotation : LikeMatrix (axis s) (axis b) 3 3 c.rotation.«data» d.rotation.«data»
  pub velocity : LikeVec3 (axis s) c.velocity d.velocity
  pub position : LikeVec3 (axis s) c.position d.position

pub record LikeSe3 (s b : Signs) (c d : Se3) : Type 0 where
  pub rotation : LikeMatrix (axis s) (axis b) 3 3 c.rotation.«data» d.rotation.«data»
  pub translation : LikeVec3 (axis s) c.translation d.translation

-- C from the frame b to s, E from m to t
pub record LikeSymmetry (s b t m : Signs) (x y : Symmetry) : Type 0 where
  pub c : LikeSe23 s b x.c y.c
  pub gamma : LikeSe3Tangent s x.gamma y.gamma
  pub delta : LikeVec3 (axis s) x.delta y.delta
  pub e : LikeMatrix (axis t) (axis m) 3 3 x.e.«data» y.e.«data»

-- pose from the body frame to s, biases and lever arm in the body frame, the calibration from m to the body frame
pub record LikeState (s b m : Signs) (xi zeta : State) : Type 0 where
  pub pose : LikeSe23 s b xi.pose zeta.pose
  pub bias : LikeSe3Tangent b xi.bias zeta.bias
  pub lever : LikeVec3 (axis b) xi.lever zeta.lever
  pub mag : LikeMatrix (axis b) (axis m) 3 3 xi.mag.«data» zeta.mag.«data»

pub record LikeInput (b : Signs) (u v : Input) : Type 0 where
  pub omega : LikeVec3 (axis b) u.omega v.omega
  pub accel : LikeVec3 (axis b) u.accel v.accel
