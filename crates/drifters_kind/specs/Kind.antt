-- The kinds of call: the number of each, and how many numbers a call of it has and writes. Definitions and statements only.
use Rattle.std.specs.Prelude.{ℕ, ◌≡◌, cond, List, [], ◌∷◌, eqb, Option, Some, None, Result}
use Rattle.std.specs.Option.{ok_or}
use Rattle.drifters_kind.specs.declared.kind.Kind.{Kind}
use Rattle.drifters_kind.specs.declared.kind.Kind.TheVariants.{Propagate, Position, Velocity, Direction, General, State, Scalar}
use Rattle.drifters_kind.specs.declared.kind.Form.{Form}
use Rattle.drifters_kind.specs.declared.kind.UnknownKind.{UnknownKind}

-- how many numbers a state has
abbrev pub state_length : ℕ
state_length = 33

-- the number of a kind, how many numbers a call of it has, and how many it writes beside the filter
abbrev pub form_of : Kind → Form
form_of Propagate = record { number = 1; numbers = 25; written = 0 }
form_of Position = record { number = 2; numbers = 12; written = 0 }
form_of Velocity = record { number = 3; numbers = 15; written = 0 }
form_of Direction = record { number = 4; numbers = 15; written = 0 }
form_of General = record { number = 5; numbers = 75; written = 0 }
form_of State = record { number = 6; numbers = 0; written = state_length }
form_of Scalar = record { number = 7; numbers = 23; written = 0 }

-- every kind of call
abbrev pub all_kinds : List Kind
all_kinds = Propagate ∷ Position ∷ Velocity ∷ Direction ∷ General ∷ State ∷ Scalar ∷ []

-- the number of a kind
abbrev pub kind_number : Kind → ℕ
kind_number kind = (form_of kind).number

-- how many numbers a call of a kind has
abbrev pub call_length : Kind → ℕ
call_length kind = (form_of kind).numbers

-- how many numbers a call of a kind writes beside the filter
abbrev pub written_length : Kind → ℕ
written_length kind = (form_of kind).written

-- the most numbers of a call
abbrev pub most_call_numbers : ℕ
most_call_numbers = 75

-- the first of some kinds that has a number
unfoldable pub find_kind : ℕ → List Kind → Option Kind
find_kind n [] = None
find_kind n (kind ∷ kinds) = cond (eqb n (kind_number kind)) (Some kind) (find_kind n kinds)

-- the kind of a number; None where no kind has it
abbrev pub kind_of : ℕ → Option Kind
kind_of n = find_kind n all_kinds

-- the same, with the number itself where no kind has it
abbrev pub kind_by_number : ℕ → Result Kind UnknownKind
kind_by_number n = ok_or (kind_of n) (record { 0 = n })

-- every kind is found by its number
abbrev pub KindsFound : Type 0
KindsFound = (kind : Kind) → kind_of (kind_number kind) ≡ Some kind

-- the kind of a number has that number
abbrev pub KindsNumbered : Type 0
KindsNumbered = (n : ℕ) (kind : Kind) → kind_of n ≡ Some kind → kind_number kind ≡ n
