-- `bytes::u64s_at` meets its contract.
use Rattle.std.proofs.Common.{◌≡◌, take}
use Rattle.little_endian.specs.Bytes.{u64s_at}
use Rattle.little_endian.proofs.bytes.u64s_at.Given as goal

abbrev pub invariant-loop-i : goal.invariant-loop-i
invariant-loop-i l = take l.i l.out ≡ u64s_at l.i l.s l.at
