-- `run::run_call` meets its contract.
use mathlib.Core.Path.{◌≡◌, refl, ap, ◌∙◌}
use mathlib.Core.List.{List, ◌∷◌}
use Prim.Native.Nat.{ℕ, zero, suc, ◌≤◌}
use native.Mathlib.Omega.{arith}
use lib.ListN.{length, take}
use lib.Seq.{length-take-le, take_at}
use lib.Ieee.{Float}
use Rattle.drifters_matrix.specs.Matrix.{zeros}
use Rattle.drifters_real.specs.Scalar.{plus_zero}
use Rattle.drifters_kind.specs.Kind.{state_length, call_length, most_call_numbers}
use Rattle.drifters_kind.specs.declared.kind.Kind.{Kind}
use Rattle.drifters_entry.specs.Entry.{Outcome, call}
use Rattle.little_endian.proofs.Numbers.{numbers_in_place}
use Rattle.drifters_kind.proofs.ByNumber.{call_most, written_most}
use Rattle.call_sheet.proofs.run.run_call.Goals as goal

-- the first of some zeros
take-zeros : (m n : ℕ) → m ≤ n → take m (zeros n) ≡ zeros m
take-zeros zero n h = refl
take-zeros (suc m) zero h = absurd (omega arith)
take-zeros (suc m) (suc n) h = ap (λ (l : List Float). plus_zero ∷ l) (take-zeros m n (omega arith))

-- as many places are lent as its kind has numbers, and come back
lent : (kind : Kind) {n : ℕ} → n ≡ call_length kind → length (take n (zeros most_call_numbers)) ≡ n
lent kind e = length-take-le _ (zeros most_call_numbers) (omega (arith, call_most kind, e))

pub returns : goal.returns
returns c =
    let a = c.args in
    let places = lent a.kind c.requires in
    let numbers = take_at c.numbers_of.new.out _ _ (c.numbers_of.auto.out ∙ places) ∙ c.numbers_of.ensures ∙ numbers_in_place _ _ places in
    let zeroed = ap (λ (m : ℕ). take m (zeros state_length)) c.written_length-m.ensures ∙ take-zeros _ _ (written_most a.kind) in
    let outcome = c.call.ensures ∙ (λ i. call a.kind a.run.now (numbers i) (zeroed i)) in
    (ap (λ (o : Outcome). o.answer) outcome, ap (λ (o : Outcome). o.run) outcome)
