-- The three demands, each a named statement. The proofs are in proofs/Demands/. Definitions and statements only.
-- They are about the definitions `call`, `update_compasses`, `start`, `upgrade`, `downgrade` and `read_into`, and of the code the contracts say it: the
-- outcome of `filter_call` of drifters_entry is `call` at its kind, that of `nav_state` is `call` at State, that of `start` is `start`; that of
-- `update_compasses` of drifters_compasses is `update_compasses`; those of `upgrade` and `downgrade` of drifters_upgrade are `upgrade` and `downgrade`;
-- `read_sheet` and `run_sheet` of call_sheet leave what `read_into` and `sheet_text` say; square root, sine and cosine are those of drifters_real.
use Rattle.std.specs.Prelude.{ℕ, ◌+◌, ◌*◌, ◌<◌, ◌≡◌, ◌↔◌, Bool, true, false, not, ◌&&◌, ◌||◌, cond, eqb, length, get_or, Float, Some, Err}
use mathlib.Core.List.{List, [], ◌∷◌, ◌++◌, map, Forall₂}
use Rattle.std.specs.Float.{nan, ◌≤ᶠ◌, ◌<ᶠ◌}
use Rattle.std.specs.Float.Ieee.{eq, is_nan}
use Rattle.drifters_real.specs.Scalar.{plus_zero}
use Rattle.drifters_real.specs.Real.{is_finite, SqrtNearest, SineBound, CosineBound}
use Rattle.drifters_matrix.specs.Matrix.{all_finite}
use Rattle.drifters_core.specs.Vec3.{norm}
use Rattle.drifters_core.specs.declared.math.vec3.Vec3.{Vec3}
use Rattle.drifters_lie.specs.Lie.{vec3_at}
use Rattle.drifters_eqf.specs.Answer.{Answer, Nis, Fine, Refused, length_refusal, blank_refusal, turn_refusal, pivot_refusal, range_refusal, sheet_refusal, null_refusal, unequal_refusal, number_of, values_of}
use Rattle.drifters_cholesky.specs.Cholesky.{definite, entries_of}
use Rattle.drifters_gcu.specs.Gcu.{nis}
use Rattle.drifters_eqf.specs.Filter.{turn_fits, nav_state, half_step, full_step, propagated, raw_factor, inflated_factor, gain, correction, step, corrected}
use Rattle.drifters_eqf.specs.declared.filter.EqFilter.{EqFilter}
use Rattle.drifters_entry.specs.Layout.{filter_length, one_alpha_length, start_length, sigma_place, part, alphas_of, from_run, to_run, state_to_run}
use Rattle.drifters_kind.specs.Kind.{form_of, written_length}
use Rattle.drifters_entry.specs.Entry.{Request, refusal, propagation, measurement, estimate, request_of, Outcome, refused, lengths_fit, call, started, start}
use Rattle.drifters_compasses.specs.Compasses.{reading_length, count_of, compasses_fit, tried, CompassesAnswer, CompassesOutcome, update_compasses, compasses_number, TriedBounds}
use Rattle.drifters_compasses.specs.Compasses as compasses
use Rattle.drifters_upgrade.specs.Upgrade.{upgraded, downgraded, alphas_equal, upgrade, downgrade}
use Rattle.drifters_kind.specs.declared.kind.Kind.{Kind}
use Rattle.drifters_kind.specs.declared.kind.Kind.TheVariants.{Propagate, Position, Velocity, Direction, General, State, Scalar}
use Rattle.call_sheet.specs.Sheet.{SheetCall, Sheet, Runs, read_sheet, is_some, refusal_of, runs_fit, in_runs, read_into}
use Rattle.call_sheet.specs.Text.{refused_line, numbers_of, line_text, sheet_text}
use Rattle.drifters_eqf.specs.declared.answer.Refusal.{Refusal}
use Rattle.drifters_demands.specs.Like.{Signs}
use Rattle.drifters_demands.specs.Log.{Call, kind_call, compasses_call, CallAnswer, kind_answer, compasses_answer, LogEntry, Log, log_of}
use Rattle.drifters_demands.specs.Turn.{filter_signs, turned, turn_call, turn_log}

-- ---- demand 1: bad input is refused by number, all else is accepted

-- a check: the number that it refuses with, and whether it does
pub record Check : Type 0 where
  pub number : ℕ
  pub refuses : Bool

-- a check that refuses where a test fails
abbrev pub unless : ℕ → Bool → Check
unless n passed = record { number = n; refuses = not passed }

-- the number of the first check that refuses; 0 where none does
unfoldable pub first_of : List Check → ℕ
first_of [] = 0
first_of (c ∷ cs) = cond c.refuses c.number (first_of cs)

-- a vector has norm 0, be it by underflow
abbrev pub norm_is_zero : Vec3 → Bool
norm_is_zero v = eq (norm v) plus_zero

-- a call has a vector to be normalised whose norm is 0: a direction call's measured vector or north
abbrev pub has_null : Kind → List Float → Bool
has_null Propagate v = false
has_null Position v = false
has_null Velocity v = false
has_null Direction v = norm_is_zero (vec3_at v 0) || norm_is_zero (vec3_at v 3)
has_null General v = false
has_null State v = false
has_null Scalar v = false

-- the checks of what is asked of the filter f with its run, after length, blank and null; what a kind refuses by a check of its own is null
abbrev pub later_checks : Request → EqFilter → List Float → List Check
later_checks (refusal n) f run = []
later_checks (propagation u dt q) f run =
    unless turn_refusal (turn_fits (half_step f u dt))
    ∷ unless turn_refusal (turn_fits (full_step f u dt))
    ∷ unless range_refusal (all_finite (to_run (propagated f u dt q) (alphas_of run)))
    ∷ []
later_checks (measurement w m noise alpha) f run =
    let c = m.output in
    let y = m.innovation in
    let u = correction w (gain w f c y noise alpha) c y noise in
    unless pivot_refusal (definite (raw_factor w f c noise))
    ∷ unless pivot_refusal (definite (inflated_factor w f c y noise alpha))
    ∷ unless turn_refusal (turn_fits (step u))
    ∷ unless range_refusal (is_finite (nis w (entries_of w (raw_factor w f c noise)) y) && all_finite (to_run (corrected f u) (alphas_of run)))
    ∷ []
later_checks estimate f run = unless range_refusal (all_finite (state_to_run (nav_state f))) ∷ []

-- the checks of a call, in the manual's order (docs/MANUAL.md, 'Refusals')
abbrev pub checks : Kind → List Float → List Float → List Float → List Check
checks kind run v written =
    unless length_refusal (lengths_fit (form_of kind) run v (length written))
    ∷ unless blank_refusal (all_finite run && all_finite v)
    ∷ unless null_refusal (not (has_null kind v))
    ∷ later_checks (request_of kind run v) (from_run run) run

-- the checks of a start
abbrev pub start_checks : List Float → List Float → List Check
start_checks run v =
    unless length_refusal (eqb (length run) filter_length && eqb (length v) start_length)
    ∷ unless blank_refusal (all_finite v)
    ∷ unless range_refusal (all_finite (started v))
    ∷ []

-- the checks of changing a filter with one alpha over, into a run for a filter
abbrev pub upgrade_checks : List Float → List Float → List Check
upgrade_checks run written =
    unless length_refusal (eqb (length run) one_alpha_length && eqb (length written) filter_length) ∷ unless blank_refusal (all_finite run) ∷ []

-- the checks of the way back, into a run for a filter with one alpha
abbrev pub downgrade_checks : List Float → List Float → List Check
downgrade_checks run written =
    unless length_refusal (eqb (length run) filter_length && eqb (length written) one_alpha_length)
    ∷ unless blank_refusal (all_finite run)
    ∷ unless unequal_refusal (alphas_equal run)
    ∷ []

-- a filter's run whose numbers are finite and whose covariance mirrors
pub record FiniteMirrored (run : List Float) : Type 0 where
  pub size : length run ≡ filter_length
  pub finite : all_finite run ≡ true
  pub mirrored : (i j : ℕ) → i < 21 → j < 21 → get_or run (sigma_place + (i * 21 + j)) nan ≡ get_or run (sigma_place + (j * 21 + i)) nan

-- What came of a call: the number of its first check that refuses, 0 where none does; where it is refused every lent number as it was; where
-- it is accepted finite values and a finite filter.
pub record Checked (checks : List Check) (run written : List Float) (o : Outcome) : Type 0 where
  pub number : number_of o.answer ≡ first_of checks
  pub refusal : (n : ℕ) → o.answer ≡ Refused n → (o.run ≡ run) × (o.written ≡ written)
  pub accepted : first_of checks ≡ 0 → (n : ℕ) → o.answer ≡ Refused n → ⊥
  pub finite : first_of checks ≡ 0 → (all_finite (values_of o.answer o.written) ≡ true) × (all_finite o.run ≡ true)

-- the checks of an update by several compasses, in the manual's order
abbrev pub compasses_checks : List Float → List Float → List Float → ℕ → List Check
compasses_checks run readings north_noise budget =
    unless length_refusal (compasses_fit (length run) (length readings) (length north_noise) budget)
    ∷ unless blank_refusal (all_finite run && all_finite north_noise)
    ∷ []

-- What came of an update by several compasses: the number of its first check that refuses, 0 where none does; where it is refused, or no reading was
-- accepted, the filter as it was; else a finite value, and a finite filter whose covariance mirrors.
pub record CheckedCompasses (checks : List Check) (run : List Float) (o : CompassesOutcome) : Type 0 where
  pub number : compasses_number o.answer ≡ first_of checks
  pub refusal : (n : ℕ) → o.answer ≡ compasses.Refused n → o.run ≡ run
  pub accepted : first_of checks ≡ 0 → (n : ℕ) → o.answer ≡ compasses.Refused n → ⊥
  pub none : (k : ℕ) → o.answer ≡ compasses.None k → o.run ≡ run
  pub chosen : (i k : ℕ) (x : Float) → o.answer ≡ compasses.Chosen i x k → (is_finite x ≡ true) × FiniteMirrored o.run

-- the checks of a file's bytes that are read into lent runs
abbrev pub sheet_checks : {K : Type 0} → List ℕ → List ℕ → List K → List ℕ → List Check
sheet_checks s filter kinds numbers = unless length_refusal (runs_fit filter kinds numbers) ∷ unless sheet_refusal (is_some (read_sheet s)) ∷ []

-- What came of reading a file's bytes: the number of the first check that refuses, 0 where none does; where it is refused every lent run as it was;
-- else the sheet, taken into the runs, the kinds by a function of them. Of a broken sheet only `refused 6` is printed.
pub record CheckedSheet {K : Type 0} (from_kind : Kind → K) (s filter : List ℕ) (kinds : List K) (numbers : List ℕ) (o : Runs K) : Type 0 where
  pub number : refusal_of o.answer ≡ first_of (sheet_checks s filter kinds numbers)
  pub refusal : (r : Refusal) → o.answer ≡ Err r → (o.filter ≡ filter) × (o.kinds ≡ kinds) × (o.numbers ≡ numbers)
  pub taken : first_of (sheet_checks s filter kinds numbers) ≡ 0 → (sheet : Sheet) × (read_sheet s ≡ Some sheet) × (o ≡ in_runs from_kind (Some sheet) filter kinds numbers)
  pub broken : is_some (read_sheet s) ≡ false → sheet_text s ≡ refused_line sheet_refusal

-- a call passes the checks of length and blank, and is a direction call whose measured vector or north has norm 0
pub record NullCall (kind : Kind) (run v written : List Float) : Type 0 where
  pub lengths : lengths_fit (form_of kind) run v (length written) ≡ true
  pub finite : all_finite run && all_finite v ≡ true
  pub null : has_null kind v ≡ true

-- Every call of a kind, every update by several compasses, every start, every change-over and way back and every sheet is so checked; a call is refused
-- as null exactly where it is such a call; and an accepted propagation or update of a kind leaves a covariance that mirrors bit for bit.
pub record Demand1 : Type 1 where
  pub calls : (kind : Kind) (run v written : List Float) → Checked (checks kind run v written) run written (call kind run v written)
  pub null : (kind : Kind) (run v written : List Float) → (call kind run v written).answer ≡ Refused null_refusal ↔ NullCall kind run v written
  pub compasses :
      (run readings north_noise : List Float) (budget : ℕ)
      → CheckedCompasses (compasses_checks run readings north_noise budget) run (update_compasses run readings north_noise budget)
  pub starts : (run v : List Float) → Checked (start_checks run v) run [] (start run v)
  pub upgrades : (run written : List Float) → Checked (upgrade_checks run written) run written (upgrade run written)
  pub downgrades : (run written : List Float) → Checked (downgrade_checks run written) run written (downgrade run written)
  pub sheets :
      {K : Type 0} (from_kind : Kind → K) (s filter : List ℕ) (kinds : List K) (numbers : List ℕ)
      → CheckedSheet from_kind s filter kinds numbers (read_into from_kind s filter kinds numbers)
  pub mirrored :
      (kind : Kind) (run v written : List Float) → (kind ≡ State → ⊥) → first_of (checks kind run v written) ≡ 0
      → FiniteMirrored (call kind run v written).run

-- ---- demand 2: an accepted call gives the definition's bits, each operation rounded by IEEE 754

-- what comes of what is asked of a filter, where it is accepted: an update answers its normalised innovation squared, an estimate leaves the filter
-- as it was; a refusal of its own is never accepted
abbrev pub accepted_outcome : Request → EqFilter → List Float → List Float → Outcome
accepted_outcome (refusal n) f run written = refused n run written
accepted_outcome (propagation u dt q) f run written = record { answer = Fine; run = to_run (propagated f u dt q) (alphas_of run); written = written }
accepted_outcome (measurement w m noise alpha) f run written =
    let c = m.output in
    let y = m.innovation in
    record {
      answer = Nis (nis w (entries_of w (raw_factor w f c noise)) y);
      run = to_run (corrected f (correction w (gain w f c y noise alpha) c y noise)) (alphas_of run);
      written = written;
    }
accepted_outcome estimate f run written = record { answer = Fine; run = run; written = state_to_run (nav_state f) }

-- of the answers to the first k tries, that to try i is a normalised innovation squared x; none is smaller, and each one before it is larger
pub record EarliestSmallest (answers : ℕ → Answer) (k i : ℕ) (x : Float) : Type 0 where
  pub within : i < k
  pub accepted : answers i ≡ Nis x
  pub smallest : (j : ℕ) (y : Float) → j < k → answers j ≡ Nis y → x ≤ᶠ y
  pub earliest : (j : ℕ) (y : Float) → j < i → answers j ≡ Nis y → x <ᶠ y

-- What is chosen of k tries: the one with the smallest normalised innovation squared, the earliest among equals, and left is what that try left; none
-- exactly where each is refused.
pub record Chooses (k : ℕ) (tries : ℕ → Outcome) (o : CompassesOutcome) : Type 0 where
  pub chosen : (i n : ℕ) (x : Float) → o.answer ≡ compasses.Chosen i x n ↔ ((n ≡ k) × EarliestSmallest (λ j. (tries j).answer) k i x)
  pub left : (i n : ℕ) (x : Float) → o.answer ≡ compasses.Chosen i x n → o.run ≡ (tries i).run
  pub none : (n : ℕ) → o.answer ≡ compasses.None n ↔ ((n ≡ k) × ((j : ℕ) → j < k → (m : ℕ) × ((tries j).answer ≡ Refused m)))

-- reading i of several, tried: the direction call by its numbers, with north and noise after them, on the filter that the update was given
abbrev pub direction_try : List Float → List Float → List Float → ℕ → Outcome
direction_try run readings north_noise i = call Direction run (part readings (i * reading_length) reading_length ++ north_noise) []

-- a call of a sheet, as a call of a log
abbrev pub call_of : SheetCall → Call
call_of c = kind_call c.kind (numbers_of c.bits)

-- a text has a line for each entry of a log of calls of kinds: the index, counted from i, the kind and the answer
pub data LinesOf : ℕ → List LogEntry → List ℕ → Type 0 where
  no_line : {i : ℕ} → LinesOf i [] []
  one_line : {i : ℕ} {kind : Kind} {v written left : List Float} {a : Answer} {es : List LogEntry} {text : List ℕ} → LinesOf (i + 1) es text
      → LinesOf i (record { called = kind_call kind v; answer = kind_answer a written; left = left } ∷ es) (line_text i kind a ++ text)

-- An accepted call of a kind comes to what it asks for, and so do a start, a change-over and the way back; an update by several compasses tries its first
-- readings and chooses among these, and how many keeps to its bounds; a sheet prints the lines of its log; the square root is the nearest f64; sine and
-- cosine keep their bounds.
pub record Demand2 : Type 0 where
  pub calls :
      (kind : Kind) (run v written : List Float) → first_of (checks kind run v written) ≡ 0
      → call kind run v written ≡ accepted_outcome (request_of kind run v) (from_run run) run written
  pub compasses :
      (run readings north_noise : List Float) (budget : ℕ) → first_of (compasses_checks run readings north_noise budget) ≡ 0
      → Chooses (tried budget (count_of (length readings))) (direction_try run readings north_noise) (update_compasses run readings north_noise budget)
  pub tries : TriedBounds
  pub starts : (run v : List Float) → first_of (start_checks run v) ≡ 0 → start run v ≡ record { answer = Fine; run = started v; written = [] }
  pub upgrades : (run written : List Float) → first_of (upgrade_checks run written) ≡ 0 → upgrade run written ≡ record { answer = Fine; run = run; written = upgraded run }
  pub downgrades :
      (run written : List Float) → first_of (downgrade_checks run written) ≡ 0 → downgrade run written ≡ record { answer = Fine; run = run; written = downgraded run }
  pub sheets :
      (s : List ℕ) (sheet : Sheet) → read_sheet s ≡ Some sheet
      → LinesOf 1 (log_of (numbers_of sheet.filter) (map call_of sheet.calls)).entries (sheet_text s)
  pub root : SqrtNearest
  pub sine : SineBound
  pub cosine : CosineBound

-- ---- demand 3: the half turn

-- two numbers are equal if their bits are, if both are zeros, or if both are not numbers
pub data EqualNumber : Float → Float → Type 0 where
  same_bits : {x y : Float} → x ≡ y → EqualNumber x y
  both_zeros : {x y : Float} → eq x plus_zero ≡ true → eq y plus_zero ≡ true → EqualNumber x y
  both_nan : {x y : Float} → is_nan x ≡ true → is_nan y ≡ true → EqualNumber x y

-- two runs of as many numbers are equal, number by number
pub record Equal (a b : List Float) : Type 0 where
  pub size : length a ≡ length b
  pub number : (i : ℕ) → i < length a → EqualNumber (get_or a i nan) (get_or b i nan)

-- two calls are of the same kind, and their numbers are equal; or both by several compasses, with equal readings, north and noise, and the same budget
pub data EqualCall : Call → Call → Type 0 where
  same_kind : {kind : Kind} {v w : List Float} → Equal v w → EqualCall (kind_call kind v) (kind_call kind w)
  both_compasses : {r r' v v' : List Float} {budget : ℕ} → Equal r r' → Equal v v' → EqualCall (compasses_call r v budget) (compasses_call r' v' budget)

-- two answers to calls of a kind, each with the numbers written, are equal: both `ok`, with equal numbers written, 33 each from a state call and
-- none from another; or both a NIS, equal as numbers; or both refused with the same number
pub data EqualAnswer (kind : Kind) : Answer → List Float → Answer → List Float → Type 0 where
  both_ok : {w w' : List Float} → length w ≡ written_length kind → Equal w w' → EqualAnswer kind Fine w Fine w'
  both_nis : {x x' : Float} {w w' : List Float} → EqualNumber x x' → EqualAnswer kind (Nis x) w (Nis x') w'
  both_refused : {n : ℕ} {w w' : List Float} → EqualAnswer kind (Refused n) w (Refused n) w'

-- two answers of updates by several compasses are equal: both the same reading of as many tried, with a NIS that is equal as a number; or both none of
-- as many; or both refused with the same number
pub data EqualChoice : CompassesAnswer → CompassesAnswer → Type 0 where
  both_chosen : {i k : ℕ} {x x' : Float} → EqualNumber x x' → EqualChoice (compasses.Chosen i x k) (compasses.Chosen i x' k)
  both_none : {k : ℕ} → EqualChoice (compasses.None k) (compasses.None k)
  both_compasses_refused : {n : ℕ} → EqualChoice (compasses.Refused n) (compasses.Refused n)

-- two answers to a call are equal, by what was called
pub data EqualCallAnswer : Call → CallAnswer → CallAnswer → Type 0 where
  to_kind : {kind : Kind} {v w w' : List Float} {a b : Answer} → EqualAnswer kind a w b w' → EqualCallAnswer (kind_call kind v) (kind_answer a w) (kind_answer b w')
  to_compasses : {r v : List Float} {budget : ℕ} {a b : CompassesAnswer} → EqualChoice a b
      → EqualCallAnswer (compasses_call r v budget) (compasses_answer a) (compasses_answer b)

-- two entries: the calls, the answers and the filters left are equal
pub record EqualEntry (e f : LogEntry) : Type 0 where
  pub called : EqualCall e.called f.called
  pub answer : EqualCallAnswer e.called e.answer f.answer
  pub left : Equal e.left f.left

-- two logs: the first filters are equal, and as many entries, each to the one at its place
pub record EqualLog (l m : Log) : Type 0 where
  pub first : Equal l.first m.first
  pub entries : Forall₂ EqualEntry l.entries m.entries

-- Any two logs are equal, the second read through a half turn about any reference axis (`about_x`, `about_y`, `about_z`, or `no_turn`), exactly when
-- their first filters and calls are. Logs hold every call, of every kind and by several compasses, accepted or refused, and runs may have any length.
abbrev pub Demand3 : Type 0
Demand3 =
    (s : Signs) (first first' : List Float) (calls calls' : List Call)
    → EqualLog (log_of first calls) (turn_log s (log_of first' calls'))
    ↔ (Equal first (turned (filter_signs s) first') × Forall₂ EqualCall calls (map (turn_call s) calls'))
