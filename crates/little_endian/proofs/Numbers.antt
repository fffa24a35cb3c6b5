-- The laws of the numbers of bit patterns, in place of others and by a map of an array. Assumes nothing.
use Prim.Native.Nat.{ℕ}
use mathlib.Core.Path.{◌≡◌, sym, ◌∙◌}
use mathlib.Core.List.{List, map}
use native.Mathlib.Omega.{arith}
use borrow.Author.Tests.{eq-eqb}
use denote.Param.Members.{Mut}
use lib.ListN.{length, length-map}
use lib.Ieee.{Float, nan}
use Rattle.std.specs.Float.{binary64}
use Rattle.std.specs.Float.Ieee.{of_bits}
use Rattle.std.specs.Fn.{Called}
use Rattle.std.specs.Array.{IsMapOf}
use Rattle.std.proofs.lemmas.List.{ext_get_or, get_or-map}
use Rattle.little_endian.specs.Bits.{numbers_of, with_numbers}

-- in place of as many others
pub numbers_in_place : (bits : List ℕ) (others : List Float) → length others ≡ length bits → with_numbers bits others ≡ numbers_of bits
unfolding with_numbers
numbers_in_place bits others h = rw (eq-eqb _ _ h)

-- by a map, each call of which gives the number of its bits
pub numbers_mapped : {F : Type 0} (g : Mut F (ℕ × Unit {0}) Float) (f : F) (bits : List ℕ) (run : List Float) {n : ℕ} → length bits ≡ n
    → ((p q : F) (b : ℕ) (x : Float) → Called g p (b, tt) x q → x ≡ of_bits binary64 b) → IsMapOf g f bits run n → run ≡ numbers_of bits
unfolding numbers_of
numbers_mapped g f bits run long each m =
    let size = length-map bits (of_bits binary64) in
    ext_get_or nan run (map (of_bits binary64) bits) (m.long ∙ sym long ∙ sym size)
    (λ i h.
    let call = m.at i 0 nan (omega (arith, m.long)) in
    each call.0 call.1 _ _ call.2 ∙ sym (get_or-map (of_bits binary64) bits i 0 nan (omega (arith, m.long, long))))
