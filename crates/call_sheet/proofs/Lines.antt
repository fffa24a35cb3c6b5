-- The laws of lines and of calls in lent runs. Assumes nothing.
use Prim.Native.Nat.{ℕ, ◌+◌, ◌*◌, ◌≤◌, ◌<◌}
use mathlib.Core.Path.{◌≡◌, refl, sym, ap, ◌∙◌}
use mathlib.Core.Bool.{Bool, true, false, cond}
use mathlib.Core.List.{List, [], ◌∷◌}
use native.Mathlib.Numerals.{add-one}
use native.Mathlib.Omega.{arith}
use borrow.Author.Tests.{leb-true}
use lib.Dec.{leb}
use lib.ListN.{length, get_or, take, drop, length-append}
use lib.Seq.{drop-cons}
use lib.Ieee.{Float}
use Rattle.std.specs.Prelude.{Option, Some, None}
use Rattle.std.proofs.lemmas.Option.{same_Some}
use Rattle.drifters_kind.specs.Kind.{call_length}
use Rattle.drifters_entry.specs.Entry.{outcome_on}
use Rattle.drifters_eqf.specs.Answer.{Answer}
use Rattle.drifters_kind.specs.declared.kind.Kind.{Kind}
use Rattle.call_sheet.specs.Sheet.{SheetCall, sheet_call, with_call, calls_in}
use Rattle.call_sheet.specs.Text.{numbers_of, line_text, lines_text}
use Rattle.call_sheet.proofs.SheetLayout.{no_some}
use Rattle.call_sheet.proofs.Digits.{decimal_short, kind_digit, answer_short}

-- ---- lengths of text

pub line_short : (i : ℕ) (kind : Kind) (a : Answer) → length (line_text i kind a) ≤ 23
unfolding line_text
line_short i kind a = simp length-append (omega (arith, decimal_short i, kind_digit kind, answer_short a))

pub lines_short : (i : ℕ) (run : List Float) (cs : List SheetCall) → length (lines_text i run cs) ≤ 23 * length cs
unfolding lines_text
lines_short i run [] = omega arith
lines_short i run (c ∷ cs) =
    let o = outcome_on run c.kind (numbers_of c.bits) in
    let one = line_short i c.kind o.answer in
    let rest = lines_short (i + 1) o.run cs in
    omega (arith, length-append (line_text i c.kind o.answer) (lines_text (i + 1) o.run cs))

-- ---- the calls from the i-th on, with their numbers from a place on

-- what calls are that are given by a kind before others, and by bits: the call of the kind with the first bits, and the calls of the others
pub record Taken (kind : Kind) (kinds : List Kind) (bits : List ℕ) (cs : List SheetCall) : Type 0 where
  pub rest : List SheetCall
  pub enough : call_length kind ≤ length bits
  pub is : sheet_call kind (take (call_length kind) bits) ∷ rest ≡ cs
  pub after : calls_in kinds (drop (call_length kind) bits) ≡ Some rest

taken : (kind : Kind) (kinds : List Kind) (bits : List ℕ) (cs : List SheetCall) → calls_in (kind ∷ kinds) bits ≡ Some cs → Taken kind kinds bits cs
unfolding calls_in
taken kind kinds bits cs e = by_length (leb n (length bits)) refl e
  where
    n : ℕ
    n = call_length kind

    by_rest : (o : Option (List SheetCall)) → n ≤ length bits → calls_in kinds (drop n bits) ≡ o → with_call (sheet_call kind (take n bits)) o ≡ Some cs
        → Taken kind kinds bits cs
    by_rest None l r e = no_some e
    by_rest (Some rest) l r e = record { rest = rest; enough = l; is = same_Some _ cs e; after = r }

    by_length : (b : Bool) → leb n (length bits) ≡ b → cond b (with_call (sheet_call kind (take n bits)) (calls_in kinds (drop n bits))) None ≡ Some cs
        → Taken kind kinds bits cs
    by_length true l e = by_rest (calls_in kinds (drop n bits)) (leb-true _ _ l) refl e
    by_length false l e = no_some e

pub calls_next : (kinds : List Kind) (i : ℕ) (kind : Kind) → i < length kinds → (bits : List ℕ) {cs : List SheetCall} → calls_in (drop i kinds) bits ≡ Some cs
    → Taken (get_or kinds i kind) (drop (i + 1) kinds) bits cs
calls_next kinds i kind h bits {cs} e =
    let first : get_or kinds i kind ∷ drop (i + 1) kinds ≡ drop i kinds = sym (rw add-one (drop-cons kinds i kind h)) in
    taken (get_or kinds i kind) (drop (i + 1) kinds) bits cs (ap (λ (ks : List Kind). calls_in ks bits) first ∙ e)
