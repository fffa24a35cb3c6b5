-- Numbers by the bits of their format, binary64. Definitions only.
use Rattle.std.specs.Prelude.{ℕ, cond, List, map, eqb, length, Float}
use Rattle.std.specs.Float.{binary64}
use Rattle.std.specs.Float.Ieee.{of_bits}

-- the numbers of bit patterns
unfoldable pub numbers_of : List ℕ → List Float
numbers_of bits = map (of_bits binary64) bits

-- the same in place of as many others; others of another length stay
unfoldable pub with_numbers : List ℕ → List Float → List Float
with_numbers bits others = cond (eqb (length others) (length bits)) (numbers_of bits) others
