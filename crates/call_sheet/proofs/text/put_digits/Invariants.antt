-- `text::put_digits` meets its contract.
use Rattle.std.proofs.Common.{◌≡◌, ◌++◌, length, drop}
use Rattle.call_sheet.specs.Digits.{digits}
use Rattle.call_sheet.proofs.text.put_digits.Given as goal

-- the text is the j digits of m that are still to be put, then what stands in `out` from place j on
abbrev pub invariant-loop-j : goal.invariant-loop-j
invariant-loop-j l = digits l.base (length l.initial.out) l.n ≡ digits l.base l.j l.m ++ drop l.j l.out
