-- The lengths of digits and of answers, and the laws of texts of few bytes. Assumes nothing.
use Prim.Native.Nat.{ℕ, zero, suc, ◌+◌, ◌-◌, ◌/◌, ◌%◌, ◌≤◌}
use mathlib.Core.Path.{◌≡◌, refl, ◌∙◌}
use mathlib.Core.Bool.{Bool, true, false, cond}
use mathlib.Core.List.{List, [], ◌∷◌}
use native.Mathlib.Omega.{arith}
use borrow.Author.Tests.{lt-ltb}
use lib.Dec.{ltb}
use lib.ListN.{length, take, drop, length-append, length-take, length-drop}
use lib.Ieee.{binary64, to_bits}
use Rattle.drifters_kind.specs.Kind.{kind_number}
use Rattle.drifters_eqf.specs.Answer.{Answer, Nis, Fine, Refused}
use Rattle.drifters_kind.specs.declared.kind.Kind.{Kind}
use Rattle.drifters_kind.proofs.ByNumber.{number_digit}
use Rattle.call_sheet.specs.Digits.{digit, digits, decimal}
use Rattle.call_sheet.specs.Text.{answer_text}

pub length_digits : (b k n : ℕ) → length (digits b k n) ≡ k
unfolding digits
length_digits b zero n = refl
length_digits b (suc k) n =
    let high = length_digits b k (n / b) in
    length-append (digits b k (n / b)) (digit (n % b) ∷ []) ∙ omega arith

-- the places from a place on that are lent for k digits are k
pub places_lent : (out : List ℕ) (at k : ℕ) → at + k ≤ length out → length (take (at + k - at) (drop at out)) ≡ k
places_lent out at k h = simp (length-take, length-drop) (omega arith)

-- at most three digits are printed
pub decimal_short : (n : ℕ) → length (decimal n) ≤ 3
unfolding decimal
decimal_short n = rw length_digits (few (ltb n 10) (ltb n 100))
  where
    few : (a b : Bool) → cond a 1 (cond b 2 3) ≤ 3
    few true b = omega arith
    few false true = omega arith
    few false false = omega arith

-- the number of a kind has one digit
pub kind_digit : (kind : Kind) → length (decimal (kind_number kind)) ≡ 1
unfolding decimal
kind_digit kind = rw (length_digits, lt-ltb (kind_number kind) 10 (number_digit kind))

-- an answer has at most 16 bytes
pub answer_short : (a : Answer) → length (answer_text a) ≤ 16
answer_short (Nis x) = omega (arith, length_digits 16 16 (to_bits binary64 x))
answer_short Fine = omega arith
answer_short (Refused n) = omega (arith, decimal_short n)
