-- Demand 2, as far as it speaks of definitions: accepted calls come to what they ask for, and an update by several compasses chooses the best; the
-- root is the nearest, sine and cosine keep their bounds. Assumes nothing.
use Prim.Native.Nat.{ℕ, ◌+◌}
use mathlib.Core.Path.{◌≡◌, sym, ap, subst}
use mathlib.Core.List.{List, [], ◌∷◌, map}
use lib.Ieee.{Float}
use Rattle.std.specs.Prelude.{Some}
use Rattle.drifters_entry.specs.Layout.{three_alphas}
use Rattle.drifters_entry.specs.Entry.{outcome_on}
use Rattle.call_sheet.specs.Sheet.{SheetCall, Sheet, read_sheet}
use Rattle.call_sheet.specs.Text.{numbers_of, lines_text, text_of, sheet_text}
use Rattle.drifters_real.proofs.Real.{sqrt_nearest, sine_bound, cosine_bound}
use Rattle.drifters_demands.specs.Log.{entries_in, log_of}
use Rattle.drifters_demands.specs.Demands.{call_of, LinesOf, no_line, one_line, Demand2}
use Rattle.drifters_compasses.proofs.Tried.{tried_bounds}
use Rattle.drifters_demands.proofs.Demands.Compasses.{compasses_choose}
use Rattle.drifters_demands.proofs.Demands.Upgrade.{upgrade_decision, downgrade_decision}
use Rattle.drifters_demands.proofs.Demands.Decision.{decision_accepted, call_decision, start_decision}

-- a sheet prints the lines of its log
lines_of_log : (i : ℕ) (run : List Float) (cs : List SheetCall) → LinesOf i (entries_in three_alphas run (map call_of cs)) (lines_text i run cs)
unfolding lines_text entries_in
lines_of_log i run [] = no_line
lines_of_log i run (c ∷ cs) = one_line (lines_of_log (i + 1) (outcome_on run c.kind (numbers_of c.bits)).run cs)

sheet_printed : (s : List ℕ) (sheet : Sheet) → read_sheet s ≡ Some sheet
    → LinesOf 1 (log_of (numbers_of sheet.filter) (map call_of sheet.calls)).entries (sheet_text s)
unfolding sheet_text
sheet_printed s sheet h =
    let first = numbers_of sheet.filter in
    subst (LinesOf 1 (entries_in three_alphas first (map call_of sheet.calls))) (sym (ap text_of h)) (lines_of_log 1 first sheet.calls)

pub demand2 : Demand2
demand2 = record {
  calls = λ kind run v written z. decision_accepted (call_decision kind run v written) z;
  compasses = compasses_choose;
  tries = tried_bounds;
  starts = λ run v z. decision_accepted (start_decision run v) z;
  upgrades = λ run written z. decision_accepted (upgrade_decision run written) z;
  downgrades = λ run written z. decision_accepted (downgrade_decision run written) z;
  sheets = sheet_printed;
  root = sqrt_nearest;
  sine = sine_bound;
  cosine = cosine_bound;
}
