-- What is known of every kind by its number and its lengths. A new kind is a line of `kinds_found`; what follows names no kind. Assumes nothing.
use Prim.Native.Nat.{ℕ, suc, ◌≤◌, ◌<◌}
use mathlib.Core.Path.{◌≡◌, refl, sym, ap, ◌∙◌}
use mathlib.Core.Bool.{Bool, true, false, cond}
use mathlib.Core.List.{List, [], ◌∷◌}
use borrow.Author.Tests.{eqb-true, leb-true}
use lib.Dec.{eqb, leb}
use Rattle.std.specs.Prelude.{Some}
use Rattle.std.specs.List.{list_all}
use Rattle.std.proofs.lemmas.Option.{none-some, same_Some}
use Rattle.std.proofs.lemmas.Bool.{and_parts}
use Rattle.drifters_kind.specs.Kind.{state_length, kind_number, call_length, written_length, most_call_numbers, all_kinds, find_kind, KindsFound, KindsNumbered}
use Rattle.drifters_kind.specs.declared.kind.Kind.{Kind}
use Rattle.drifters_kind.specs.declared.kind.Kind.TheVariants.{Propagate, Position, Velocity, Direction, General, State, Scalar}

-- ---- a kind by its number

pub kinds_found : KindsFound
unfolding find_kind
kinds_found Propagate = refl
kinds_found Position = refl
kinds_found Velocity = refl
kinds_found Direction = refl
kinds_found General = refl
kinds_found State = refl
kinds_found Scalar = refl

-- a kind that is found has the number that it is found by
found_numbered : (n : ℕ) (kinds : List Kind) {kind : Kind} → find_kind n kinds ≡ Some kind → kind_number kind ≡ n
unfolding find_kind
found_numbered n [] {kind} e = absurd (none-some kind e)
found_numbered n (first ∷ kinds) {kind} e = go (eqb n (kind_number first)) refl e (λ later. found_numbered n kinds later)
  where
    go : (b : Bool) → eqb n (kind_number first) ≡ b → cond b (Some first) (find_kind n kinds) ≡ Some kind → (find_kind n kinds ≡ Some kind → kind_number kind ≡ n) → kind_number kind ≡ n
    go true t e after = ap kind_number (sym (same_Some first kind e)) ∙ sym (eqb-true n (kind_number first) t)
    go false t e after = after e

pub number_of_kind : KindsNumbered
number_of_kind n kind e = found_numbered n all_kinds e

-- a kind that is found passes every test that the kinds pass
found_passes : (p : Kind → Bool) (n : ℕ) (kinds : List Kind) {kind : Kind} → find_kind n kinds ≡ Some kind → list_all p kinds ≡ true → p kind ≡ true
unfolding find_kind
found_passes p n [] {kind} e h = absurd (none-some kind e)
found_passes p n (first ∷ kinds) {kind} e h =
    let both = and_parts (p first) (list_all p kinds) h in
    go (eqb n (kind_number first)) both.0 e (λ later. found_passes p n kinds later both.1)
  where
    go : (b : Bool) → p first ≡ true → cond b (Some first) (find_kind n kinds) ≡ Some kind → (find_kind n kinds ≡ Some kind → p kind ≡ true) → p kind ≡ true
    go true t e after = ap p (sym (same_Some first kind e)) ∙ t
    go false t e after = after e

-- ---- what holds of every kind, by a test that is computed

every_kind : (p : Kind → Bool) → list_all p all_kinds ≡ true → (kind : Kind) → p kind ≡ true
every_kind p h kind = found_passes p (kind_number kind) all_kinds (kinds_found kind) h

every_at_most : (f : Kind → ℕ) (n : ℕ) → list_all (λ k. leb (f k) n) all_kinds ≡ true → (kind : Kind) → f kind ≤ n
every_at_most f n h kind = leb-true _ _ (every_kind (λ k. leb (f k) n) h kind)

-- no call has more numbers
pub call_most : (kind : Kind) → call_length kind ≤ most_call_numbers
call_most = every_at_most call_length most_call_numbers refl

-- none writes more than a state
pub written_most : (kind : Kind) → written_length kind ≤ state_length
written_most = every_at_most written_length state_length refl

-- the number of a kind has one digit
pub number_digit : (kind : Kind) → kind_number kind < 10
number_digit = every_at_most (λ k. suc (kind_number k)) 10 refl
