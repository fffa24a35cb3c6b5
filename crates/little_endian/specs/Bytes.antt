-- Whole numbers in bytes, lowest byte first. Definitions only.
use Rattle.std.specs.Prelude.{ℕ, zero, suc, ◌+◌, ◌*◌, ◌/◌, ◌%◌, ◌^◌, cond, List, [], ◌∷◌, ◌++◌, leb, length, take, drop, get_or}
use Rattle.drifters_matrix.specs.Matrix.{tab}

-- the byte at a place, 0 past the end
abbrev pub byte_at : List ℕ → ℕ → ℕ
byte_at s i = get_or s i 0

-- the u32 in the four bytes from a place on
abbrev pub u32_at : List ℕ → ℕ → ℕ
u32_at s i = byte_at s i + 256 * (byte_at s (i + 1) + 256 * (byte_at s (i + 2) + 256 * byte_at s (i + 3)))

-- the u64 in the eight bytes from a place on
abbrev pub u64_at : List ℕ → ℕ → ℕ
u64_at s i = u32_at s i + 2 ^ 32 * u32_at s (i + 4)

-- n of them, one after another
unfoldable pub u64s_at : ℕ → List ℕ → ℕ → List ℕ
u64s_at n s i = tab n (λ k. u64_at s (i + 8 * k))

-- the k lowest bytes of a number
abbrev pub bytes_of : ℕ → ℕ → List ℕ
bytes_of zero n = []
bytes_of (suc k) n = n % 256 ∷ bytes_of k (n / 256)

-- a run with others in the places from p on; its other places stay
unfoldable pub placed : {A : Type 0} → List A → ℕ → List A → List A
placed run p others = take p run ++ others ++ drop (p + length others) run

-- a run with a u32 in the four bytes from a place on; where it does not fit, the run as it was
unfoldable pub with_u32 : List ℕ → ℕ → ℕ → List ℕ
with_u32 run p n = cond (leb (p + 4) (length run)) (placed run p (bytes_of 4 n)) run
