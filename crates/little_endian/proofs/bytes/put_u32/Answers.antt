-- `bytes::put_u32` meets its contract.
use Rattle.std.proofs.Common.{◌≡◌, ℕ, ◌+◌, ◌/◌, ◌≤◌, ◌<◌, List, length, ◌∙◌, arith}
use Rattle.std.specs.Int.{w32, to_le_bytes}
use borrow.Author.Tests.{le-leb, lt-leb}
use Rattle.little_endian.specs.Bytes.{bytes_of, with_u32}
use Rattle.little_endian.proofs.Placed.{placed_part}
use Rattle.little_endian.proofs.bytes.put_u32.Goals as goal
use Rattle.little_endian.proofs.bytes.put_u32.Goals.{else-s-ge4-via-then-s-ge4+else-at-s, else-s-ge4-via-else-s-ge4}

-- the library's bytes of a u32 are those of the definition
same_bytes : (n : ℕ) → to_le_bytes w32 n ≡ bytes_of 4 n
same_bytes n =
    let third : n / 65536 ≡ n / 256 / 256 = omega arith in
    let fourth : n / 16777216 ≡ n / 256 / 256 / 256 = omega arith in
    rw (third, fourth)

pub returns-then-at-s : goal.returns-then-at-s
unfolding with_u32
returns-then-at-s c =
    let a = c.args in
    let fits : a.at + 4 ≤ length a.s.now = omega arith in
    let bytes = c.copy_from_slice.ensures.after ∙ c.to_le_bytes.ensures ∙ same_bytes a.n in
    rw (le-leb _ _ fits, bytes) (placed_part a.s.now a.at (bytes_of 4 a.n) _ (omega arith))

-- it does not fit
past_end : (s : List ℕ) (at n : ℕ) → length s < at + 4 → s ≡ with_u32 s at n
unfolding with_u32
past_end s at n h = rw (lt-leb _ _ h)

pub returns-else-s-ge4 : goal.returns-else-s-ge4
returns-else-s-ge4 c =
    past_end _ _ _
    (elim c.else-s-ge4.branch [
      | else-s-ge4-via-then-s-ge4+else-at-s w ↦ omega (arith, w.if-at-s.false)
      | else-s-ge4-via-else-s-ge4 w ↦ omega (arith, w.if-s-ge4.false)
    ])
