-- One update by the best of several compasses' readings, on lent runs: its answers, and every lent number afterwards. Definitions and statements only.
use Rattle.std.specs.Prelude.{ℕ, zero, suc, ◌*◌, ◌/◌, ◌%◌, ◌≤◌, min, Bool, true, ◌&&◌, cond, List, [], ◌∷◌, ◌++◌, eqb, leb, length, Float, Option, Some, Result, Ok, Err}
use Rattle.std.specs.Float.Ieee.{lt}
use Rattle.drifters_matrix.specs.Matrix.{all_finite}
use Rattle.drifters_eqf.specs.Answer.{length_refusal, blank_refusal, refusal_number}
use Rattle.drifters_eqf.specs.Answer as direction
use Rattle.drifters_eqf.specs.declared.answer.Refusal.{Refusal}
use Rattle.drifters_kind.specs.declared.kind.Kind.TheVariants.{Direction}
use Rattle.drifters_entry.specs.Layout.{Layout, three_alphas, part}
use Rattle.drifters_entry.specs.Entry.{Outcome, call_in}
use Rattle.drifters_compasses.specs.declared.compasses.Best.{Best}
use Rattle.drifters_compasses.specs.declared.compasses.Tried.{Tried}

-- how many numbers a reading has: a measured vector
abbrev pub reading_length : ℕ
reading_length = 3

-- how many numbers north and noise have, which stand in a direction call after what is measured
abbrev pub north_noise_length : ℕ
north_noise_length = 12

-- the most readings of a call, and its largest budget
abbrev pub most_readings : ℕ
most_readings = 8

-- how many readings a run of so many numbers has
abbrev pub count_of : ℕ → ℕ
count_of n = n / reading_length

-- the filter's run in a layout, the readings, from one to the most of them, and north with noise have their stated lengths, and the budget is at
-- most the most
abbrev pub compasses_fit_in : Layout → ℕ → ℕ → ℕ → ℕ → Bool
compasses_fit_in l run readings north_noise budget =
    eqb run l.length && eqb (readings % reading_length) 0 && leb 1 (count_of readings) && leb (count_of readings) most_readings
    && eqb north_noise north_noise_length && leb budget most_readings

-- the same of a filter with an alpha for each sensor
abbrev pub compasses_fit : ℕ → ℕ → ℕ → ℕ → Bool
compasses_fit = compasses_fit_in three_alphas

-- how many readings are tried, by the budget and their count alone: the smaller of the two
unfoldable pub tried : ℕ → ℕ → ℕ
tried budget count = min budget count

-- the numbers of a direction call by reading i: what it measured, then north and noise
unfoldable pub direction_numbers : List Float → List Float → ℕ → List Float
direction_numbers readings north_noise i = part readings (i * reading_length) reading_length ++ north_noise

-- reading i, tried: the direction call by it, on the filter's run in a layout
unfoldable pub attempt_in : Layout → List Float → List Float → List Float → ℕ → Outcome
attempt_in l run readings north_noise i = call_in l Direction run (direction_numbers readings north_noise i) []

-- the best of some tries: its index, its normalised innovation squared and the filter that it left; `nothing` where none was accepted
pub data BestTry : Type 0 where
  nothing : BestTry
  reading : ℕ → Float → List Float → BestTry

-- whether a try with the normalised innovation squared x takes the place of the best so far: only where it is smaller, so that the earliest of equals
-- stays
abbrev pub takes_place : Float → BestTry → Bool
takes_place x nothing = true
takes_place x (reading j y left) = lt x y

-- the best of those so far and try i, by its answer and the filter that it left: a refused one is passed over
abbrev pub better_by : BestTry → ℕ → direction.Answer → List Float → BestTry
better_by b i (direction.Nis x) left = cond (takes_place x b) (reading i x left) b
better_by b i direction.Fine left = b
better_by b i (direction.Refused n) left = b

-- the same, by its outcome
abbrev pub better : BestTry → ℕ → Outcome → BestTry
better b i o = better_by b i o.answer o.run

-- the best of the first k tries
unfoldable pub best_of : (ℕ → Outcome) → ℕ → BestTry
best_of attempts zero = nothing
best_of attempts (suc k) = better (best_of attempts k) k (attempts k)

-- what an update by several compasses answers: the index of the reading that was applied, its normalised innovation squared, and how many were
-- tried; how many were tried where none was accepted; or the number of a refusal
pub data CompassesAnswer : Type 0 where
  Chosen : ℕ → Float → ℕ → CompassesAnswer
  None : ℕ → CompassesAnswer
  Refused : ℕ → CompassesAnswer

-- the answer of k tries, by the best of them; none where none was accepted
abbrev pub tried_answer : ℕ → Option Best → CompassesAnswer
tried_answer k (Some b) = Chosen b.index b.nis k
tried_answer k _ = None k

-- the answer that the code gives
abbrev pub compasses_answer_of : Result Tried Refusal → CompassesAnswer
compasses_answer_of (Ok t) = tried_answer t.tried t.best
compasses_answer_of (Err r) = Refused (refusal_number r)

-- an answer, and the filter's run, as they are after a call
pub record CompassesOutcome : Type 0 where
  pub answer : CompassesAnswer
  pub run : List Float

-- an outcome of its parts
abbrev pub compasses_outcome : CompassesAnswer → List Float → CompassesOutcome
compasses_outcome answer run = record { answer = answer; run = run }

-- what comes of the best of k tries on the filter's run: it is applied; none, and the filter stays, where none was accepted
abbrev pub selected : ℕ → List Float → BestTry → CompassesOutcome
selected k run nothing = compasses_outcome (None k) run
selected k run (reading i x left) = compasses_outcome (Chosen i x k) left

-- the update, in a layout, by the best of the first readings, as many as are tried; a refusal leaves the filter's run as it was
unfoldable pub update_compasses_in : Layout → List Float → List Float → List Float → ℕ → CompassesOutcome
update_compasses_in l run readings north_noise budget =
    let k = tried budget (count_of (length readings)) in
    cond (compasses_fit_in l (length run) (length readings) (length north_noise) budget)
    (cond (all_finite run && all_finite north_noise) (selected k run (best_of (attempt_in l run readings north_noise) k)) (compasses_outcome (Refused blank_refusal) run))
    (compasses_outcome (Refused length_refusal) run)

-- the same on a filter with an alpha for each sensor
abbrev pub update_compasses : List Float → List Float → List Float → ℕ → CompassesOutcome
update_compasses = update_compasses_in three_alphas

-- the number of an answer: that of a refusal, and 0 where the call is accepted, be it that no reading was
abbrev pub compasses_number : CompassesAnswer → ℕ
compasses_number (Chosen i x k) = 0
compasses_number (None k) = 0
compasses_number (Refused n) = n

-- the values of an answer that are counts: how many were tried, and the index of the one that was applied
abbrev pub compasses_counts : CompassesAnswer → List ℕ
compasses_counts (Chosen i x k) = k ∷ i ∷ []
compasses_counts (None k) = k ∷ []
compasses_counts (Refused n) = []

-- the values of an answer that are numbers: the normalised innovation squared of the one that was applied
abbrev pub compasses_values : CompassesAnswer → List Float
compasses_values (Chosen i x k) = x ∷ []
compasses_values (None k) = []
compasses_values (Refused n) = []

-- how many are tried: at most the budget, at most the count, and at least half of the smaller
pub record TriedBounds : Type 0 where
  pub budget : (budget count : ℕ) → tried budget count ≤ budget
  pub count : (budget count : ℕ) → tried budget count ≤ count
  pub half : (budget count : ℕ) → min budget count ≤ 2 * tried budget count
