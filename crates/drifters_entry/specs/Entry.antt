-- The seven kinds of call and the start, on lent runs: their lengths, their answers, and every lent number afterwards. Definitions only.
use Rattle.std.specs.Prelude.{ℕ, ◌+◌, Bool, ◌&&◌, cond, List, [], ◌∷◌, eqb, length, get_or, Float, Option, Some, None}
use Rattle.std.specs.Float.{nan}
use Rattle.drifters_real.specs.Scalar.{half}
use Rattle.drifters_matrix.specs.Matrix.{zeros, all_finite}
use Rattle.drifters_eqf.specs.Answer.{Answer, Nis, Fine, Refused, length_refusal, blank_refusal, range_refusal, null_refusal, values_of}
use Rattle.drifters_lie.specs.Lie.{vec3_at}
use Rattle.drifters_eqf.specs.Filter.{Answered, new, nav_state, propagate, Measurement, update_by, measured_position, measured_velocity, measured_direction}
use Rattle.drifters_kind.specs.Kind.{form_of, written_length}
use Rattle.drifters_kind.specs.declared.kind.Form.{Form}
use Rattle.drifters_entry.specs.Layout.{sigma_place, gravity_place, filter_length, start_length, Layout, three_alphas, part, alphas_of, from_run, to_run, state_from_run, state_to_run}
use Rattle.drifters_symmetry.specs.declared.lift.Input.{Input}
use Rattle.drifters_covariance.specs.declared.covariance.ProcessNoise.{ProcessNoise}
use Rattle.drifters_eqf.specs.declared.filter.EqFilter.{EqFilter}
use Rattle.drifters_kind.specs.declared.kind.Kind.{Kind}
use Rattle.drifters_kind.specs.declared.kind.Kind.TheVariants.{Propagate, Position, Velocity, Direction, General, State, Scalar}

-- what a call asks of the filter: to propagate, to be updated by a measurement of w numbers with its noise and an alpha,
-- or its estimate; `refusal` is of a kind with a check of its own, which stands between blank and pivot: a direction's
pub data Request : Type 0 where
  refusal : ℕ → Request
  propagation : Input → Float → ProcessNoise → Request
  measurement : ℕ → Measurement → List Float → Float → Request
  estimate : Request

-- six numbers from place i on, as an input
abbrev pub input_at : List Float → ℕ → Input
input_at v i = record { omega = vec3_at v i; accel = vec3_at v (i + 3) }

-- eighteen densities from place i on
abbrev pub process_noise_at : List Float → ℕ → ProcessNoise
process_noise_at v i = record {
  gyro = vec3_at v i;
  accel = vec3_at v (i + 3);
  gyro_bias = vec3_at v (i + 6);
  accel_bias = vec3_at v (i + 9);
  lever = vec3_at v (i + 12);
  mag = vec3_at v (i + 15);
}

-- the update by what a direction measures; the refusal 'null' where it measures nothing
abbrev pub direction_request : Option Measurement → List Float → Float → Request
direction_request None noise alpha = refusal null_refusal
direction_request (Some m) noise alpha = measurement 3 m noise alpha

-- what the numbers v of a call ask of the filter whose run is given, in a layout; general and scalar updates take the alpha for position
abbrev pub request_in : Layout → Kind → List Float → List Float → Request
request_in l Propagate run v = propagation (input_at v 0) (get_or v 6 nan) (process_noise_at v 7)
request_in l Position run v = measurement 3 (measured_position (from_run run).x (vec3_at v 0)) (part v 3 9) (get_or run l.position nan)
request_in l Velocity run v = measurement 3 (measured_velocity (from_run run).x (vec3_at v 0) (vec3_at v 3)) (part v 6 9) (get_or run l.velocity nan)
request_in l Direction run v = direction_request (measured_direction (from_run run).x (vec3_at v 0) (vec3_at v 3)) (part v 6 9) (get_or run l.direction nan)
request_in l General run v = measurement 3 (record { output = part v 0 63; innovation = part v 63 3 }) (part v 66 9) (get_or run l.position nan)
request_in l State run v = estimate
request_in l Scalar run v = measurement 1 (record { output = part v 0 21; innovation = part v 21 1 }) (part v 22 1) (get_or run l.position nan)

-- the same of a filter with an alpha for each sensor
abbrev pub request_of : Kind → List Float → List Float → Request
request_of = request_in three_alphas

-- an answer, the filter's run, and the run that a state call writes, as they are after a call
pub record Outcome : Type 0 where
  pub answer : Answer
  pub run : List Float
  pub written : List Float

-- an outcome of its parts
abbrev pub outcome : Answer → List Float → List Float → Outcome
outcome answer run written = record { answer = answer; run = run; written = written }

-- an answer with the filter beside it, on the run that the call was given: its alphas stay, and nothing else is written
abbrev pub outcome_of : Answered → List Float → List Float → Outcome
outcome_of a run written = record { answer = a.answer; run = to_run a.filter (alphas_of run); written = written }

-- a refusal leaves every lent run as it was
abbrev pub refused : ℕ → List Float → List Float → Outcome
refused n run written = record { answer = Refused n; run = run; written = written }

-- what is asked, made, before the results are tested
unfoldable pub performed : Request → EqFilter → List Float → List Float → Outcome
performed (refusal n) f run written = refused n run written
performed (propagation u dt q) f run written = outcome_of (propagate f u dt q) run written
performed (measurement w m noise alpha) f run written = outcome_of (update_by w f m noise alpha) run written
performed estimate f run written = record { answer = Fine; run = run; written = state_to_run (nav_state f) }

-- the values of an answer and the filter left are finite
abbrev pub finite_outcome : Outcome → Bool
finite_outcome o = all_finite (values_of o.answer o.written) && all_finite o.run

-- an outcome, where it is finite
abbrev pub if_finite : Outcome → List Float → List Float → Outcome
if_finite o run written = cond (finite_outcome o) o (refused range_refusal run written)

-- an outcome as it is given out: a refusal, or what is finite
abbrev pub range_checked_as : Answer → Outcome → List Float → List Float → Outcome
range_checked_as (Nis x) o run written = if_finite o run written
range_checked_as Fine o run written = if_finite o run written
range_checked_as (Refused n) o run written = refused n run written

-- an outcome as it is given out, by its own answer
unfoldable pub range_checked : Outcome → List Float → List Float → Outcome
range_checked o run written = range_checked_as o.answer o run written

-- every lent run of a call of a form has its stated length in a layout, n that of the run to be written, which is empty where nothing is written
-- beside the filter
abbrev pub lengths_fit_in : Layout → Form → List Float → List Float → ℕ → Bool
lengths_fit_in l form run v n = eqb (length run) l.length && eqb (length v) form.numbers && eqb n form.written

-- the same of a filter with an alpha for each sensor
abbrev pub lengths_fit : Form → List Float → List Float → ℕ → Bool
lengths_fit = lengths_fit_in three_alphas

-- a call of a kind with the numbers v, on the filter's run in a layout; `written` is the run that a state call writes
unfoldable pub call_in : Layout → Kind → List Float → List Float → List Float → Outcome
call_in l kind run v written =
    cond (lengths_fit_in l (form_of kind) run v (length written))
    (cond (all_finite run && all_finite v)
    (range_checked (performed (request_in l kind run v) (from_run run) run written) run written)
    (refused blank_refusal run written))
    (refused length_refusal run written)

-- a call on a filter with an alpha for each sensor
abbrev pub call : Kind → List Float → List Float → List Float → Outcome
call = call_in three_alphas

-- a call of a kind with the numbers v in a layout, a state written over zeros
abbrev pub outcome_in : Layout → List Float → Kind → List Float → Outcome
outcome_in l run kind v = call_in l kind run v (zeros (written_length kind))

-- the same on a filter with an alpha for each sensor
abbrev pub outcome_on : List Float → Kind → List Float → Outcome
outcome_on = outcome_in three_alphas

-- a filter's run from the numbers of a start: each alpha is 0.5
unfoldable pub started : List Float → List Float
started v = to_run (new (state_from_run v) (part v sigma_place 441) (vec3_at v gravity_place)) (half ∷ half ∷ half ∷ [])

-- a start with the numbers v; what the filter's run held before does not matter
unfoldable pub start : List Float → List Float → Outcome
start run v =
    cond (eqb (length run) filter_length && eqb (length v) start_length)
    (cond (all_finite v) (range_checked (record { answer = Fine; run = started v; written = [] }) run []) (refused blank_refusal run []))
    (refused length_refusal run [])
