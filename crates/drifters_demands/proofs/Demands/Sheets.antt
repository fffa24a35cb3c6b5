-- What reading a sheet is refused by, and what it takes. Assumes nothing.
use Prim.Native.Nat.{ℕ}
use mathlib.Core.Path.{◌≡◌, refl, sym, ap, ◌∙◌, subst₂}
use mathlib.Core.Bool.{Bool, true, false, not, cond, true≢false}
use mathlib.Core.List.{List}
use lib.ListN.{length}
use Rattle.std.specs.Prelude.{Option, None, Some, Ok}
use native.Mathlib.Nat.{suc-ne-zero}
use Rattle.drifters_eqf.specs.Answer.{length_refusal, sheet_refusal}
use Rattle.call_sheet.specs.Sheet.{Sheet, read_sheet, is_some, runs_fit, read_into}
use Rattle.call_sheet.specs.Text.{text_of, sheet_text}
use Rattle.drifters_kind.specs.declared.kind.Kind.{Kind}
use Rattle.drifters_demands.specs.Demands.{first_of, sheet_checks, CheckedSheet}

pub checked_sheet : {K : Type 0} (from_kind : Kind → K) (s filter : List ℕ) (kinds : List K) (numbers : List ℕ)
    → CheckedSheet from_kind s filter kinds numbers (read_into from_kind s filter kinds numbers)
unfolding read_into sheet_text first_of
checked_sheet from_kind s filter kinds numbers = by_tests (runs_fit filter kinds numbers) refl (read_sheet s) refl
  where
    -- the first check that refuses, by what the tests give
    first_is : (fit : Bool) (read : Option Sheet) → runs_fit filter kinds numbers ≡ fit → read_sheet s ≡ read → first_of (sheet_checks s filter kinds numbers) ≡ 0
        → cond (not fit) length_refusal (cond (not (is_some read)) sheet_refusal 0) ≡ 0
    first_is fit read f r z = subst₂ (λ (b : Bool) (o : Option Sheet). cond (not b) length_refusal (cond (not (is_some o)) sheet_refusal 0) ≡ 0) f r z

    answer_is : {sheet : Sheet} → runs_fit filter kinds numbers ≡ true → read_sheet s ≡ Some sheet → (read_into from_kind s filter kinds numbers).answer ≡ Ok (length sheet.calls)
    answer_is f r = rw (f, r)

    by_tests : (fit : Bool) → runs_fit filter kinds numbers ≡ fit → (read : Option Sheet) → read_sheet s ≡ read
        → CheckedSheet from_kind s filter kinds numbers (read_into from_kind s filter kinds numbers)
    by_tests true f None r = record {
      number = rw (f, r);
      refusal = λ x e. rw (f, r) (refl, refl, refl);
      taken = λ z. absurd (suc-ne-zero 5 (first_is true None f r z));
      broken = λ b. rw r;
    }
    by_tests true f (Some sheet) r = record {
      number = rw (f, r);
      refusal = λ x e. let h = answer_is f r in cc;
      taken = λ z. (sheet, r, rw (f, r));
      broken = λ b. absurd (true≢false (sym (ap is_some r) ∙ b));
    }
    by_tests false f read r = record {
      number = rw f;
      refusal = λ x e. rw f (refl, refl, refl);
      taken = λ z. absurd (suc-ne-zero 0 (first_is false read f r z));
      broken = λ b. broken read r b;
    }
      where
        broken : (read : Option Sheet) → read_sheet s ≡ read → is_some (read_sheet s) ≡ false → text_of (read_sheet s) ≡ text_of None
        broken None r b = ap text_of r
        broken (Some sheet) r b = absurd (true≢false (sym (ap is_some r) ∙ b))
