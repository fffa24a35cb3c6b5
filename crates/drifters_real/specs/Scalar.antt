-- The scalar `F = f64` of lib.rs: each operation is IEEE 754's on binary64, rounded once to nearest, ties to even. Definitions only.
use Rattle.std.specs.Prelude.{from_bits, Float}
use Rattle.std.specs.Float.{binary64}
use Rattle.std.specs.Float.Ieee.{add, sub, mul, div}

infixl 60 ◌⊕◌ ◌⊖◌
infixl 70 ◌⊗◌ ◌⊘◌
-- the sum
abbrev pub ◌⊕◌ : Float → Float → Float
x ⊕ y = add binary64 x y

-- the difference
abbrev pub ◌⊖◌ : Float → Float → Float
x ⊖ y = sub binary64 x y

-- the product
abbrev pub ◌⊗◌ : Float → Float → Float
x ⊗ y = mul binary64 x y

-- the quotient
abbrev pub ◌⊘◌ : Float → Float → Float
x ⊘ y = div binary64 x y

-- 0.0
abbrev pub plus_zero : Float
plus_zero = from_bits binary64 0

-- 1.0
abbrev pub one : Float
one = from_bits binary64 0x3ff0_0000_0000_0000

-- 2.0
abbrev pub two : Float
two = from_bits binary64 0x4000_0000_0000_0000

-- 0.5
abbrev pub half : Float
half = from_bits binary64 0x3fe0_0000_0000_0000
