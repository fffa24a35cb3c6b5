-- The best try as the code has it, its filter in a lent run beside it, and a try by a reading that stands by itself; only private contracts cite these.
-- Definitions only.
use Rattle.std.specs.Prelude.{ℕ, List, [], ◌++◌, get_or, Float, Option, Some, None}
use Rattle.drifters_kind.specs.declared.kind.Kind.TheVariants.{Direction}
use Rattle.drifters_entry.specs.Entry.{Outcome, call}
use Rattle.drifters_compasses.specs.Compasses.{BestTry, nothing, reading}
use Rattle.drifters_compasses.specs.declared.compasses.Best.{Best}

-- the best try, with the filter that it left
abbrev pub best_try : Option Best → List Float → BestTry
best_try None left = nothing
best_try (Some b) left = reading b.index b.nis left

-- a reading, tried: the direction call by it, on the filter's run
unfoldable pub attempt_by : List Float → List Float → List Float → Outcome
attempt_by run one north_noise = call Direction run (one ++ north_noise) []

-- the same, of reading i of several
abbrev pub attempt_of : List Float → List (List Float) → List Float → ℕ → Outcome
attempt_of run readings north_noise i = attempt_by run (get_or readings i []) north_noise
