-- `sheet::call_kinds` meets its contract.
use Rattle.std.proofs.Common.{◌≡◌, ℕ, suc, ◌+◌, ◌-◌, ◌*◌, ◌≤◌, ◌<◌, List, [], ◌∷◌, ◌++◌, take, length, refl, sym, ap, ◌∙◌, arith}
use Rattle.std.proofs.lemmas.List.{take_more_set}
use mathlib.Core.Bool.{Bool, true, false}
use lib.Dec.{eqb}
use lib.Seq.{take_all, take_at}
use Rattle.std.specs.Bool.{then_some}
use Rattle.std.specs.Prelude.{Option, Some, None, option_map}
use Rattle.std.specs.Option.{ok_or}
use Rattle.std.specs.Result.{result_ok}
use Rattle.drifters_kind.specs.Kind.{call_length, kind_of}
use Rattle.drifters_kind.specs.declared.kind.Kind.{Kind}
use Rattle.drifters_kind.specs.declared.kind.UnknownKind.{UnknownKind}
use Rattle.drifters_kind.proofs.ByNumber.{call_most}
use Rattle.little_endian.specs.Bytes.{u32_at}
use Rattle.call_sheet.specs.Sheet.{SheetCall, kind_at, offset_at, calls_at}
use Rattle.call_sheet.proofs.SheetLayout.{Next, no_some, no_calls, kinds_with, calls_step, calls_end}
use Rattle.call_sheet.proofs.sheet.call_kinds.Goals as goal

-- the numbers of an entry's kind and offset
kind_place : (s : List ℕ) (i : ℕ) → u32_at s (12 + 8 * i) ≡ kind_at s (i + 1)
kind_place s i = let place : 12 + 8 * i ≡ 4 + 8 * (i + 1) = omega arith in ap (u32_at s) place

offset_place : (s : List ℕ) (i : ℕ) → u32_at s (16 + 8 * i) ≡ offset_at s (i + 1)
offset_place s i = let place : 16 + 8 * i ≡ 8 + 8 * (i + 1) = omega arith in ap (u32_at s) place

-- a kind is found, or none
found : (o : Option Kind) (x : UnknownKind) → result_ok (ok_or o x) ≡ o
found None x = refl
found (Some kind) x = refl

-- n calls, of which the first i are found
module _ (n i : ℕ) (s : List ℕ) (place : ℕ) (ks : List Kind) {o : Option (List Kind)} (more : i < n) (e : o ≡ kinds_with ks (calls_at (n - i) (i + 1) s place)) where
  left : n - i ≡ suc (n - (i + 1))
  left = omega arith

  -- the next is none
  none : ((cs : List SheetCall) → Next (n - (i + 1)) (i + 1) s place cs → ⊥) → None ≡ o
  none never =
      sym (e ∙ ap (λ (k : ℕ). kinds_with ks (calls_at k (i + 1) s place)) left ∙ ap (kinds_with ks) (no_calls (n - (i + 1)) (i + 1) s place never))

  -- the next has a kind, and m numbers
  one : {kind : Kind} {m : ℕ} → kind_of (kind_at s (i + 1)) ≡ Some kind → offset_at s (i + 1) ≡ place → m ≡ call_length kind
      → o ≡ kinds_with (ks ++ (kind ∷ [])) (calls_at (n - (i + 1)) (i + 1 + 1) s (place + 8 * m))
  one is at l = e ∙ ap (λ (k : ℕ). kinds_with ks (calls_at k (i + 1) s place)) left ∙ calls_step (n - (i + 1)) (i + 1) s place ks is at l

-- of n calls all are found, and their kinds stand before others
whole : (n i : ℕ) (s : List ℕ) (place : ℕ) (ks others : List Kind) {o : Option (List Kind)} → n ≤ i → length ks ≡ n → o ≡ kinds_with (take i ks) (calls_at (n - i) (i + 1) s place)
    → option_map (λ kinds. take n kinds) (then_some (eqb place (length s)) (ks ++ others)) ≡ o
whole n i s place ks others {o} last long e =
    let none_left : n - i ≡ 0 = omega arith in
    let all : take i ks ≡ ks = take_all i ks (omega arith) in
    let there : o ≡ then_some (eqb place (length s)) ks =
    e ∙ (λ t. kinds_with (all t) (calls_at (none_left t) (i + 1) s place)) ∙ calls_end (i + 1) s place ks in
    go (eqb place (length s)) ∙ sym there
  where
    go : (b : Bool) → option_map (λ kinds. take n kinds) (then_some b (ks ++ others)) ≡ then_some b ks
    go true = ap Some (take_at ks others n long)
    go false = refl

-- a number of no kind
pub returns-in_err-kind : goal.returns-in_err-kind
returns-in_err-kind c =
    let number = c.u32_at.ensures ∙ kind_place c.args.s.now c.loop-i.i in
    let kind = c.ok.ensures.value ∙ ap result_ok c.try_from.ensures ∙ found _ _ ∙ ap kind_of number in
    rw c.from_residual.ensures (none _ _ _ _ _ (omega (arith, c.loop-i-test.true, c.loop-i.invariant.0)) c.loop-i.invariant.2 (λ cs next. no_some (sym c.in_err-kind.was ∙ kind ∙ next.is_kind)))

-- a body that is not where the one before it ends
pub returns-then-offset-place : goal.returns-then-offset-place
returns-then-offset-place c =
    none _ _ _ _ _ (omega (arith, c.loop-i-test.true, c.loop-i.invariant.0)) c.loop-i.invariant.2
    (λ cs next. c.if-offset-place.true (c.u32_at-offset.ensures ∙ offset_place c.args.s.now c.loop-i.i ∙ next.offset))

pub loop-i-preserved : goal.loop-i-preserved
loop-i-preserved c =
    let s = c.args.s.now in
    let number = c.u32_at.ensures ∙ kind_place s c.loop-i.i in
    let kind = sym (c.ok.ensures.value ∙ ap result_ok c.try_from.ensures ∙ found _ _ ∙ ap kind_of number) ∙ c.in_ok-kind.was in
    let few = call_most c.in_ok-kind.field-0 in (
      c.loop-i.invariant.0,
      omega (arith, c.call_length.ensures, few, c.loop-i.invariant.1),
      rw (take_more_set c.loop-i.kind-items c.loop-i.i _ (omega arith))
          (one _ _ _ _ _ (omega (arith, c.loop-i-test.true, c.loop-i.invariant.0)) c.loop-i.invariant.2 kind (sym (c.u32_at-offset.ensures ∙ offset_place s c.loop-i.i) ∙ c.if-offset-place.false) c.call_length.ensures),
    )

-- all calls are found
pub returns : goal.returns
returns c = rw c.then_some.ensures (whole _ _ _ _ _ _ (omega (arith, c.loop-i-test.false, c.loop-i.invariant.0)) (omega (arith, c.loop-i.invariant.0)) c.loop-i.invariant.2)
