-- `bits::numbers_of` meets its contract.
use Rattle.std.proofs.Common.{◌≡◌, map, take}
use Rattle.std.specs.Float.{binary64}
use Rattle.std.specs.Float.Ieee.{of_bits}
use Rattle.little_endian.proofs.bits.numbers_of.Given as goal

abbrev pub invariant-loop-i : goal.invariant-loop-i
invariant-loop-i l = take l.i l.out ≡ map (of_bits binary64) (take l.i l.bits)
