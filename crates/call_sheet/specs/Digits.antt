-- Numbers in text, highest digit first. Definitions only.
use Rattle.std.specs.Prelude.{ℕ, zero, suc, ◌+◌, ◌/◌, ◌%◌, cond, List, [], ◌∷◌, ◌++◌, ltb}

-- a digit in text: 0 to 9, then A to F
abbrev pub digit : ℕ → ℕ
digit d = cond (ltb d 10) (48 + d) (55 + d)

-- the last k digits of n in base b
unfoldable pub digits : ℕ → ℕ → ℕ → List ℕ
digits b zero n = []
digits b (suc k) n = digits b k (n / b) ++ (digit (n % b) ∷ [])

-- a number in decimal: one below 1000 without leading zeros, of a larger one the last three digits
unfoldable pub decimal : ℕ → List ℕ
decimal n = digits 10 (cond (ltb n 10) 1 (cond (ltb n 100) 2 3)) n
