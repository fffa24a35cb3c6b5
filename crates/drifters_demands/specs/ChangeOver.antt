-- What changing a filter over between one alpha and an alpha for each sensor keeps: a named statement. The proof is in proofs/ChangeOver.antt.
-- Definitions and statements only.
use Rattle.std.specs.Prelude.{ℕ, ◌<◌, ◌≡◌, T, true, List, map, length, get_or, Float}
use Rattle.std.specs.Float.{nan, binary64}
use Rattle.std.specs.Float.Ieee.{fits}
use Rattle.drifters_matrix.specs.Matrix.{all_finite}
use Rattle.drifters_eqf.specs.Answer.{Fine}
use Rattle.drifters_entry.specs.Layout.{filter_length, one_alpha_length, one_alpha}
use Rattle.drifters_entry.specs.Entry.{Outcome, outcome}
use Rattle.drifters_upgrade.specs.Upgrade.{upgraded, upgrade, downgrade}
use Rattle.drifters_demands.specs.Like.{Signs}
use Rattle.drifters_demands.specs.Log.{Call, LogEntry, Log, log_in, log_of}
use Rattle.drifters_demands.specs.Turn.{filter_signs, turned}

-- an entry of a log on a filter with one alpha, with the filter that it left changed over
abbrev pub upgraded_entry : LogEntry → LogEntry
upgraded_entry e = record { called = e.called; answer = e.answer; left = upgraded e.left }

-- such a log, with each of its filters changed over
abbrev pub upgraded_log : Log → Log
upgraded_log l = record { first = upgraded l.first; entries = map upgraded_entry l.entries }

-- the half turn of a filter, of either layout
abbrev pub half_turned : Signs → List Float → List Float
half_turned s run = turned (filter_signs s) run

-- the half turn of what a conversion gives
abbrev pub turn_outcome : Signs → Outcome → Outcome
turn_outcome s o = outcome o.answer (half_turned s o.run) (half_turned s o.written)

-- each number of a run is an f64, as each is in memory
abbrev pub Floats : List Float → Type 0
Floats run = (i : ℕ) → i < length run → T (fits binary64 (get_or run i nan))

-- After a change-over every later call answers as it would have on the filter with one alpha, and leaves that filter changed over: the logs say it of
-- any calls, of every kind and by several compasses, accepted or refused. Over and back gives the filter that was; back and over too, where
-- there is a way back. Changing over commutes with every half turn, and so does the way back, refusals included.
pub record ChangeOver : Type 0 where
  pub later : (run : List Float) (calls : List Call) → log_of (upgraded run) calls ≡ upgraded_log (log_in one_alpha run calls)
  pub downgrade_upgraded :
      (run written : List Float) → length run ≡ one_alpha_length → all_finite run ≡ true → length written ≡ one_alpha_length
      → downgrade (upgraded run) written ≡ outcome Fine (upgraded run) run
  pub upgrade_downgraded :
      (run written : List Float) → Floats run → (downgrade run written).answer ≡ Fine → (into : List Float) → length into ≡ filter_length
      → upgrade (downgrade run written).written into ≡ outcome Fine (downgrade run written).written run
  pub upgrade_turned : (s : Signs) (run written : List Float) → upgrade (half_turned s run) (half_turned s written) ≡ turn_outcome s (upgrade run written)
  pub downgrade_turned : (s : Signs) (run written : List Float) → downgrade (half_turned s run) (half_turned s written) ≡ turn_outcome s (downgrade run written)
