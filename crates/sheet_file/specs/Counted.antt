-- How many of the bytes that were read of a file count. Definitions only.
use Rattle.std.specs.Prelude.{ℕ, zero, suc, Option, Some, None, Result, Ok, Err}

-- n bytes where one further read gave none, at the end of the file; nothing where it gave a byte more
abbrev pub counted_by : ℕ → ℕ → Option ℕ
counted_by n zero = Some n
counted_by n (suc k) = None

-- the same, and nothing where the further read failed
abbrev pub counted : {E : Type 0} → ℕ → Result ℕ E → Option ℕ
counted n (Ok more) = counted_by n more
counted n (Err e) = None
