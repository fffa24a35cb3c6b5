-- What a half turn does to each number of a filter, a call and a state, and a log read through it. Definitions only.
use Rattle.std.specs.Prelude.{ℕ, ◌-◌, ◌/◌, ◌%◌, Bool, false, cond, List, map, ltb, length, get_or, Float}
use Rattle.std.specs.Float.{nan}
use Rattle.std.specs.Float.Ieee.{unlike}
use Rattle.drifters_matrix.specs.Matrix.{tab}
use Rattle.drifters_kind.specs.Kind.{call_length}
use Rattle.drifters_compasses.specs.Compasses.{north_noise_length}
use Rattle.drifters_kind.specs.declared.kind.Kind.{Kind}
use Rattle.drifters_kind.specs.declared.kind.Kind.TheVariants.{Propagate, Position, Velocity, Direction, General, State, Scalar}
use Rattle.drifters_demands.specs.Like.{signed, Signs, axis}
use Rattle.drifters_demands.specs.Log.{Call, kind_call, compasses_call, CallAnswer, kind_answer, compasses_answer, LogEntry, Log}

-- ---- signs at each place of a run

-- no sign
abbrev pub plain : ℕ → Bool
plain i = false

-- the first n places have the signs σ, the others τ, counted from there
abbrev pub then_signs : ℕ → (ℕ → Bool) → (ℕ → Bool) → ℕ → Bool
then_signs n σ τ i = cond (ltb i n) (σ i) (τ (i - n))

-- a matrix of c columns, row by row: a sign for each row and one for each column
abbrev pub matrix_signs : ℕ → (ℕ → Bool) → (ℕ → Bool) → ℕ → Bool
matrix_signs c σ τ i = unlike (σ (i / c)) (τ (i % c))

-- the rows of A, of E, of a pose
abbrev pub row_signs : Signs → ℕ → Bool
row_signs s = matrix_signs 3 (axis s) plain

-- the rows and columns of a noise matrix
abbrev pub noise_signs : Signs → ℕ → Bool
noise_signs s = matrix_signs 3 (axis s) (axis s)

-- the north and the noise of a direction, or of several compasses
abbrev pub north_noise_signs : Signs → ℕ → Bool
north_noise_signs s = then_signs 3 (axis s) (noise_signs s)

-- a filter: rows of A; velocity, position, gamma and delta; rows of E; rows and columns of the covariance; gravity; the alphas do not turn
abbrev pub filter_signs : Signs → ℕ → Bool
filter_signs s =
    then_signs 9 (row_signs s) (then_signs 15 (axis s) (then_signs 9 (row_signs s) (then_signs 441 (matrix_signs 21 (axis s) (axis s)) (then_signs 3 (axis s) plain))))

-- a call: antenna, north and the innovation of three turn, noise and output matrix by rows and columns, an output row by its columns; omega, accel, dt,
-- densities, measured, and the innovation and variance of one number do not
abbrev pub call_signs : Kind → Signs → ℕ → Bool
call_signs Propagate s = plain
call_signs Position s = then_signs 3 (axis s) (noise_signs s)
call_signs Velocity s = then_signs 3 (axis s) (then_signs 3 plain (noise_signs s))
call_signs Direction s = then_signs 3 plain (north_noise_signs s)
call_signs General s = then_signs 63 (matrix_signs 21 (axis s) (axis s)) (then_signs 3 (axis s) (noise_signs s))
call_signs State s = plain
call_signs Scalar s = then_signs 21 (axis s) plain

-- the numbers of a state: the pose alone turns
abbrev pub state_signs : Signs → ℕ → Bool
state_signs s = then_signs 9 (row_signs s) (then_signs 6 (axis s) plain)

-- ---- reading through a half turn

-- the half turn of a run (docs/MANUAL.md): each number with its sign
unfoldable pub turned : (ℕ → Bool) → List Float → List Float
turned σ v = tab (length v) (λ i. signed (σ i) (get_or v i nan))

-- the numbers of a call of a kind, as far as the kind has them; places past these stay
abbrev pub turn_numbers : Signs → Kind → List Float → List Float
turn_numbers s kind v = turned (then_signs (call_length kind) (call_signs kind s) plain) v

-- the north and the noise of several compasses; places past these stay
abbrev pub turn_north_noise : Signs → List Float → List Float
turn_north_noise s v = turned (then_signs north_noise_length (north_noise_signs s) plain) v

-- a call; the readings of several compasses stay
abbrev pub turn_call : Signs → Call → Call
turn_call s (kind_call kind v) = kind_call kind (turn_numbers s kind v)
turn_call s (compasses_call readings north_noise budget) = compasses_call readings (turn_north_noise s north_noise) budget

-- an answer: what a state call wrote; NIS, refusals, the index of the reading that was applied and how many were tried do not change
abbrev pub turn_answer : Signs → CallAnswer → CallAnswer
turn_answer s (kind_answer a written) = kind_answer a (turned (state_signs s) written)
turn_answer s (compasses_answer a) = compasses_answer a

-- a call with its answer and the filter left
abbrev pub turn_entry : Signs → LogEntry → LogEntry
turn_entry s e = record { called = turn_call s e.called; answer = turn_answer s e.answer; left = turned (filter_signs s) e.left }

-- a log
abbrev pub turn_log : Signs → Log → Log
turn_log s l = record { first = turned (filter_signs s) l.first; entries = map (turn_entry s) l.entries }
