-- `bytes::u64s_at` meets its contract.
use Rattle.std.proofs.Common.{◌≡◌, ℕ, ◌+◌, ◌*◌, List, drop, refl, add-one, arith, get_or-drop}
use Rattle.std.proofs.lemmas.Grind.{common_steps}
use Rattle.std.proofs.lemmas.List.{take_more_set}
use Rattle.drifters_matrix.specs.Matrix.{tab}
use Rattle.little_endian.specs.Bytes.{u64_at, u64s_at}
use Rattle.little_endian.proofs.bytes.u64s_at.Goals as goal

-- a number of the bytes from a place on
u64_from : (s : List ℕ) (at k : ℕ) → u64_at (drop at s) k ≡ u64_at s (at + k)
u64_from s at k = grind (arith, get_or-drop)

pub loop-i-init : goal.loop-i-init
unfolding u64s_at tab
loop-i-init c = refl

pub loop-i-preserved : goal.loop-i-preserved
unfolding u64s_at tab
loop-i-preserved c =
    let a = c.args in
    let rest : c.unwrap_or-rest.result.now ≡ drop a.at a.s.now = grind (arith, common_steps) in
    rw (take_more_set c.loop-i.out c.loop-i.i _ (omega arith), add-one, c.loop-i.invariant, c.u64_at.ensures, rest, u64_from a.s.now a.at (8 * c.loop-i.i))
