-- Filters, answers and measurements that are the same but for signs, both zeros counting as one: s is the reference frame's signs, b the
-- body's, m the magnetometer's. Assumes nothing.
use mathlib.Core.Bool.{Bool, false}
use mathlib.Core.List.{List}
use Prim.Native.Nat.{ℕ}
use lib.Ieee.{Float}
use Rattle.std.specs.Prelude.{Option, Some, None}
use Rattle.drifters_demands.specs.Like.{Like, Signs, axis, LikeList, LikeVec3, LikeMatrix, no_turn}
use Rattle.drifters_demands.proofs.Signs.GroupRecords.{LikeSymmetry, LikeInput}
use Rattle.drifters_eqf.specs.Filter.{Answered, Measurement}
use Rattle.drifters_entry.specs.Entry.{Request, refusal, propagation, measurement, estimate}
use Rattle.drifters_symmetry.specs.declared.lift.Input.{Input}
use Rattle.drifters_covariance.specs.declared.covariance.ProcessNoise.{ProcessNoise}
use Rattle.drifters_eqf.specs.declared.filter.EqFilter.{EqFilter}
use Rattle.drifters_eqf.specs.Answer.{Answer, Nis, Fine, Refused}

-- densities take no sign
pub record LikeProcessNoise (q r : ProcessNoise) : Type 0 where
  pub gyro : LikeVec3 (axis no_turn) q.gyro r.gyro
  pub accel : LikeVec3 (axis no_turn) q.accel r.accel
  pub gyro_bias : LikeVec3 (axis no_turn) q.gyro_bias r.gyro_bias
  pub accel_bias : LikeVec3 (axis no_turn) q.accel_bias r.accel_bias
  pub lever : LikeVec3 (axis no_turn) q.lever r.lever
  pub mag : LikeVec3 (axis no_turn) q.mag r.mag

pub record LikeFilter (s b m : Signs) (f g : EqFilter) : Type 0 where
  pub x : LikeSymmetry s b s m f.x g.x
  pub sigma : LikeMatrix (axis s) (axis s) 21 21 f.sigma.«data» g.sigma.«data»
  pub gravity : LikeVec3 (axis s) f.gravity g.gravity

-- both a normalised innovation squared, alike as numbers; both fine; or both refused with the same number
pub data LikeAnswer : Answer → Answer → Type 0 where
  both_nis_lem : {x y : Float} → Like false x y → LikeAnswer (Nis x) (Nis y)
  both_fine : LikeAnswer Fine Fine
  both_refused_lem : {n : ℕ} → LikeAnswer (Refused n) (Refused n)

pub record LikeAnswered (s b m : Signs) (a z : Answered) : Type 0 where
  pub answer : LikeAnswer a.answer z.answer
  pub filter : LikeFilter s b m a.filter z.filter

-- a measurement of w numbers, which take the signs σ
pub record LikeMeasurement (σ : ℕ → Bool) (s : Signs) (w : ℕ) (z y : Measurement) : Type 0 where
  pub output : LikeMatrix σ (axis s) w 21 z.output y.output
  pub innovation : LikeList σ w z.innovation y.innovation

-- what two directions measure: both three numbers, or both nothing
pub data LikeMeasured (s : Signs) : Option Measurement → Option Measurement → Type 0 where
  both_measured : {z y : Measurement} → LikeMeasurement (axis s) s 3 z y → LikeMeasured s (Some z) (Some y)
  both_unmeasured : LikeMeasured s None None

-- what two calls ask: the same refusal of its own; a propagation, the body not turned; a measurement of w numbers, whatever signs they take; the estimate
pub data LikeRequest (s : Signs) : Request → Request → Type 0 where
  like_refusal : {n : ℕ} → LikeRequest s (refusal n) (refusal n)
  like_propagation : {u v : Input} {t r : Float} {p q : ProcessNoise} → LikeInput no_turn u v → Like false t r → LikeProcessNoise p q
      → LikeRequest s (propagation u t p) (propagation v r q)
  like_measurement : {σ : ℕ → Bool} {w : ℕ} {z y : Measurement} {noise noise' : List Float} {a b : Float} → LikeMeasurement σ s w z y → LikeMatrix σ σ w w noise noise'
      → Like false a b → LikeRequest s (measurement w z noise a) (measurement w y noise' b)
  like_estimate : LikeRequest s estimate estimate
