-- The filter and the state as runs of numbers, both ways, with the round trips, and where the alphas stand. Definitions and statements only.
use Rattle.std.specs.Prelude.{ℕ, ◌+◌, ◌≡◌, ◌≤◌, cond, List, ◌++◌, eqb, length, take, drop, Float}
use Rattle.drifters_core.specs.Vec3.{to_array}
use Rattle.drifters_matrix.specs.Shapes.{Mat3}
use Rattle.drifters_lie.specs.Lie.{mat3_of, to_array_se3, vec3_at, se3_tangent_at}
use Rattle.drifters_lie.specs.declared.lie.Se23.{Se23}
use Rattle.drifters_symmetry.specs.declared.group.State.{State}
use Rattle.drifters_kind.specs.Kind.{state_length}
use Rattle.drifters_eqf.specs.declared.filter.EqFilter.{EqFilter}

-- where the velocity of C begins, after its rotation
abbrev pub velocity_place : ℕ
velocity_place = 9

-- where the position of C begins
abbrev pub position_place : ℕ
position_place = velocity_place + 3

-- where gamma begins
abbrev pub gamma_place : ℕ
gamma_place = position_place + 3

-- where delta begins
abbrev pub delta_place : ℕ
delta_place = gamma_place + 6

-- where E begins
abbrev pub e_place : ℕ
e_place = delta_place + 3

-- where the covariance begins
abbrev pub sigma_place : ℕ
sigma_place = e_place + 9

-- where gravity begins
abbrev pub gravity_place : ℕ
gravity_place = sigma_place + 441

-- where the alphas begin, after the numbers of `EqFilter`: each is the share of inflation along the innovation for a sensor
abbrev pub alpha_place : ℕ
alpha_place = gravity_place + 3

-- how many numbers a filter has
abbrev pub filter_length : ℕ
filter_length = alpha_place + 3

-- how many numbers a filter with one alpha has
abbrev pub one_alpha_length : ℕ
one_alpha_length = alpha_place + 1

-- how the run of a filter ends: how many numbers it has, and where the alphas for position, velocity and direction stand
pub record Layout : Type 0 where
  pub length : ℕ
  pub position : ℕ
  pub velocity : ℕ
  pub direction : ℕ

-- an alpha for each sensor
abbrev pub three_alphas : Layout
three_alphas = record { length = filter_length; position = alpha_place; velocity = alpha_place + 1; direction = alpha_place + 2 }

-- one alpha for all: the layout before there were three
abbrev pub one_alpha : Layout
one_alpha = record { length = one_alpha_length; position = alpha_place; velocity = alpha_place; direction = alpha_place }

-- where the biases begin in a state, after its pose
abbrev pub bias_place : ℕ
bias_place = position_place + 3

-- where the lever arm begins
abbrev pub lever_place : ℕ
lever_place = bias_place + 6

-- where the magnetometer calibration begins
abbrev pub mag_place : ℕ
mag_place = lever_place + 3

-- how many numbers a start takes: a state, a covariance, gravity
abbrev pub start_length : ℕ
start_length = state_length + 441 + 3

-- n numbers from place i on
abbrev pub part : List Float → ℕ → ℕ → List Float
part v i n = take n (drop i v)

-- the numbers of a run, copied to another that is as long; one of another length stays
abbrev pub copied : List Float → List Float → List Float
copied from to = cond (eqb (length to) (length from)) from to

-- nine numbers from place i on, as a matrix
abbrev pub mat3_at : List Float → ℕ → Mat3
mat3_at v i = mat3_of (part v i 9)

-- an extended pose from its fifteen numbers, the first of the run
abbrev pub pose_of : List Float → Se23
pose_of v = record { rotation = mat3_at v 0; velocity = vec3_at v velocity_place; position = vec3_at v position_place }

-- and back
abbrev pub pose_numbers : Se23 → List Float
pose_numbers c = c.rotation.«data» ++ to_array c.velocity ++ to_array c.position

-- the alphas of a run, one after the other
abbrev pub alphas_of : List Float → List Float
alphas_of run = drop alpha_place run

-- a filter from its run
unfoldable pub from_run : List Float → EqFilter
from_run run = record {
  x = record { c = pose_of run; gamma = se3_tangent_at run gamma_place; delta = vec3_at run delta_place; e = mat3_at run e_place };
  sigma = record { «data» = part run sigma_place 441 };
  gravity = vec3_at run gravity_place;
}

-- and back, with the alphas after it
unfoldable pub to_run : EqFilter → List Float → List Float
to_run f alphas =
    pose_numbers f.x.c ++ to_array_se3 f.x.gamma ++ to_array f.x.delta ++ f.x.e.«data» ++ f.sigma.«data» ++ to_array f.gravity ++ alphas

-- a state from its run: pose, bias, lever arm, magnetometer calibration
unfoldable pub state_from_run : List Float → State
state_from_run run = record { pose = pose_of run; bias = se3_tangent_at run bias_place; lever = vec3_at run lever_place; mag = mat3_at run mag_place }

-- and back
unfoldable pub state_to_run : State → List Float
state_to_run xi = pose_numbers xi.pose ++ to_array_se3 xi.bias ++ to_array xi.lever ++ xi.mag.«data»

-- the matrices of a filter have their sizes
pub record SizedFilter (f : EqFilter) : Type 0 where
  pub rotation : length f.x.c.rotation.«data» ≡ 9
  pub e : length f.x.e.«data» ≡ 9
  pub sigma : length f.sigma.«data» ≡ 441

-- the matrices of a state have their sizes
pub record SizedState (xi : State) : Type 0 where
  pub rotation : length xi.pose.rotation.«data» ≡ 9
  pub mag : length xi.mag.«data» ≡ 9

-- from a run to a record and back, and from a record to a run and back, nothing is lost
pub record RoundTrips : Type 0 where
  pub filter_run : (run : List Float) → alpha_place ≤ length run → to_run (from_run run) (alphas_of run) ≡ run
  pub filter_record : (f : EqFilter) (alphas : List Float) → SizedFilter f → from_run (to_run f alphas) ≡ f
  pub alphas_kept : (f : EqFilter) (alphas : List Float) → SizedFilter f → alphas_of (to_run f alphas) ≡ alphas
  pub state_run : (run : List Float) → length run ≡ state_length → state_to_run (state_from_run run) ≡ run
  pub state_record : (xi : State) → SizedState xi → state_from_run (state_to_run xi) ≡ xi
