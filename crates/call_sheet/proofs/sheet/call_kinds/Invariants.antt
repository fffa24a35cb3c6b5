-- `sheet::call_kinds` meets its contract.
use Prim.Native.Nat.{◌+◌, ◌-◌, ◌*◌, ◌≤◌}
use mathlib.Core.Path.{◌≡◌}
use lib.ListN.{take}
use Rattle.std.specs.Prelude.{option_map}
use Rattle.call_sheet.specs.Sheet.{filter_end, calls_at, kinds_of}
use Rattle.call_sheet.proofs.SheetLayout.{kinds_with}
use Rattle.call_sheet.proofs.sheet.call_kinds.Given as goal

-- the kinds of the calls before call i are read; the calls from it on are still to be found
abbrev pub invariant-loop-i : goal.invariant-loop-i
invariant-loop-i l =
    (l.i-end ≡ l.n - 1) × (l.place ≤ 6000 + 600 * l.i)
    × (option_map kinds_of (calls_at (l.n - 1) 1 l.s (filter_end l.n)) ≡ kinds_with (take l.i l.kind-items) (calls_at (l.n - 1 - l.i) (l.i + 1) l.s l.place))
