-- `run::run_calls` meets its contract.
use mathlib.Core.Path.{◌≡◌}
use mathlib.Core.List.{List, ◌++◌}
use Prim.Native.Nat.{ℕ, ◌+◌, ◌*◌, ◌≤◌}
use lib.ListN.{length, drop}
use lib.Ieee.{Float}
use Rattle.std.specs.Prelude.{Some}
use Rattle.drifters_kind.specs.declared.kind.Kind.{Kind}
use Rattle.call_sheet.specs.Sheet.{SheetCall, calls_in}
use Rattle.call_sheet.specs.Text.{lines_text, lines_of}
use Rattle.little_endian.proofs.Placed.{Put}
use Rattle.call_sheet.proofs.run.run_calls.Given as goal

-- the lines of the first i calls stand at the front of `text`, and `run` is the filter that these calls left
pub record Made (run₀ : List Float) (kinds : List Kind) (numbers text₀ : List ℕ) (run : List Float) (text : List ℕ) (at len i : ℕ) : Type 0 where
  pub within : i ≤ length kinds
  pub there : at ≤ length numbers
  pub room : len ≤ 23 * i
  pub run_length : length run ≡ length run₀
  pub text-length : length text ≡ length text₀
  pub lines : List ℕ
  pub written : Put text₀ 0 lines text len
  pub left : List SheetCall
  pub is-left : calls_in (drop i kinds) (drop at numbers) ≡ Some left
  pub all : lines_of run₀ (calls_in kinds numbers) ≡ lines ++ lines_text (i + 1) run left

abbrev pub invariant-loop-i : goal.invariant-loop-i
invariant-loop-i l = Made l.initial.run l.kinds l.numbers l.initial.text l.run l.text l.at l.length l.i
