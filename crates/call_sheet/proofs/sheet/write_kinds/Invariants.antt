-- `sheet::write_kinds` meets its contract.
use Rattle.std.proofs.Common.{◌≡◌, map, take}
use Rattle.call_sheet.proofs.sheet.write_kinds.Given as goal

abbrev pub invariant-loop-i : goal.invariant-loop-i
invariant-loop-i g l = take l.i l.kinds ≡ map g.K.FromKind.from_kind (take l.i l.found)
