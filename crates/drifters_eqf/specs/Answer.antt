-- The answers: the numbers of refusals (docs/MANUAL.md), and what each case of the answer stands for. Definitions and a statement only.
use Rattle.std.specs.Prelude.{◌≡◌, List, [], ◌∷◌, ℕ, Float, Option, Some, None, Result, Ok, Err}
use Rattle.drifters_eqf.specs.declared.answer.Refusal.{Refusal}
use Rattle.drifters_eqf.specs.declared.answer.Refusal.TheVariants.{Length, Blank, Turn, Pivot, Range, Sheet, Null, Unequal}

-- length: a lent run is not of its stated length
abbrev pub length_refusal : ℕ
length_refusal = 1

-- blank: a number of the filter or the call is not finite
abbrev pub blank_refusal : ℕ
blank_refusal = 2

-- turn: at an exponential reached, a norm is not a number at most `turn_limit`
abbrev pub turn_refusal : ℕ
turn_refusal = 3

-- pivot: the raw or the inflated matrix has no Cholesky factor
abbrev pub pivot_refusal : ℕ
pivot_refusal = 4

-- range: a result is not finite
abbrev pub range_refusal : ℕ
range_refusal = 5

-- sheet: a call sheet breaks its layout or cannot be read
abbrev pub sheet_refusal : ℕ
sheet_refusal = 6

-- null: a vector that is to be normalised has norm 0
abbrev pub null_refusal : ℕ
null_refusal = 7

-- unequal: the alphas of a filter that is to have one have not all the same bits
abbrev pub unequal_refusal : ℕ
unequal_refusal = 8

-- the number of a refusal
abbrev pub refusal_number : Refusal → ℕ
refusal_number Length = length_refusal
refusal_number Blank = blank_refusal
refusal_number Turn = turn_refusal
refusal_number Pivot = pivot_refusal
refusal_number Range = range_refusal
refusal_number Sheet = sheet_refusal
refusal_number Null = null_refusal
refusal_number Unequal = unequal_refusal

-- no two refusals have one number
abbrev pub RefusalsDiffer : Type 0
RefusalsDiffer = (a b : Refusal) → refusal_number a ≡ refusal_number b → a ≡ b

-- the answer of a call: the normalised innovation squared of an accepted update, that another call is done, or the number of a refusal
pub data Answer : Type 0 where
  Nis : Float → Answer
  Fine : Answer
  Refused : ℕ → Answer

-- the answer of a call that is accepted, by its normalised innovation squared, if it has one
abbrev pub accepted : Option Float → Answer
accepted (Some x) = Nis x
accepted None = Fine

-- the answer that the code gives; nothing is lost by it: each answer of the code has its own case, and each refusal its own number (`RefusalsDiffer`)
abbrev pub answer_of : Result (Option Float) Refusal → Answer
answer_of (Ok nis) = accepted nis
answer_of (Err r) = Refused (refusal_number r)

-- the number of an answer: that of a refusal, and 0 where the call is accepted
abbrev pub number_of : Answer → ℕ
number_of (Nis x) = 0
number_of Fine = 0
number_of (Refused n) = n

-- the values of an answer: the normalised innovation squared; else what the call wrote beside the filter; none where it is refused
abbrev pub values_of : Answer → List Float → List Float
values_of (Nis x) written = x ∷ []
values_of Fine written = written
values_of (Refused n) written = []
