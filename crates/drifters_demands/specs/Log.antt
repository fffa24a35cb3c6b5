-- Logs of calls: each call with its answer and the filter that it left. Definitions only.
use Rattle.std.specs.Prelude.{ℕ, List, [], ◌∷◌, Float}
use Rattle.drifters_eqf.specs.Answer.{Answer}
use Rattle.drifters_kind.specs.declared.kind.Kind.{Kind}
use Rattle.drifters_entry.specs.Layout.{Layout, three_alphas}
use Rattle.drifters_entry.specs.Entry.{outcome_in}
use Rattle.drifters_compasses.specs.Compasses.{CompassesAnswer, update_compasses_in}

-- one call: of a kind, with its numbers; or by several compasses, with its readings, north and noise, and its budget
pub data Call : Type 0 where
  kind_call : Kind → List Float → Call
  compasses_call : List Float → List Float → ℕ → Call

-- what a call answers; that of a kind with the numbers that it wrote beside the filter
pub data CallAnswer : Type 0 where
  kind_answer : Answer → List Float → CallAnswer
  compasses_answer : CompassesAnswer → CallAnswer

-- a call, its answer, and the filter that it left
pub record LogEntry : Type 0 where
  pub called : Call
  pub answer : CallAnswer
  pub left : List Float

-- a log (docs/MANUAL.md): the first filter, and what was called
pub record Log : Type 0 where
  pub first : List Float
  pub entries : List LogEntry

-- what a call answers on a filter's run in a layout; a state is written over zeros
abbrev pub answer_in : Layout → List Float → Call → CallAnswer
answer_in l run (kind_call kind v) = let o = outcome_in l run kind v in kind_answer o.answer o.written
answer_in l run (compasses_call readings north_noise budget) = compasses_answer (update_compasses_in l run readings north_noise budget).answer

-- the filter that it leaves
abbrev pub left_in : Layout → List Float → Call → List Float
left_in l run (kind_call kind v) = (outcome_in l run kind v).run
left_in l run (compasses_call readings north_noise budget) = (update_compasses_in l run readings north_noise budget).run

-- the entries of calls, each on the filter that the one before it left
unfoldable pub entries_in : Layout → List Float → List Call → List LogEntry
entries_in l run [] = []
entries_in l run (c ∷ cs) = record { called = c; answer = answer_in l run c; left = left_in l run c } ∷ entries_in l (left_in l run c) cs

-- the log of calls on a first filter in a layout
abbrev pub log_in : Layout → List Float → List Call → Log
log_in l first calls = record { first = first; entries = entries_in l first calls }

-- the same of a filter with an alpha for each sensor
abbrev pub log_of : List Float → List Call → Log
log_of = log_in three_alphas
