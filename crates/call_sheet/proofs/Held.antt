-- Every sheet that is read has its place in the runs, and the runs give its calls back, by the kinds and by their numbers. Assumes nothing.
use Prim.Native.Nat.{ℕ}
use mathlib.Core.Path.{refl, sym, ap, ◌∙◌}
use mathlib.Core.List.{List, ◌++◌}
use native.Mathlib.Omega.{arith}
use lib.ListN.{length}
use Rattle.drifters_kind.specs.Kind.{kind_number}
use Rattle.call_sheet.specs.Sheet.{kinds_of, bits_of, calls_by_number, SheetsHeld}
use Rattle.call_sheet.proofs.SheetLayout.{length_u64s, by_number, kinds_mapped, sheet_read}

pub sheets_held : SheetsHeld
sheets_held s sheet e =
    let r = sheet_read s refl sheet e in
    record {
      filter = ap length r.filter ∙ length_u64s _ _ _;
      calls = omega (arith, r.calls.count, r.header.most);
      numbers = omega (arith, r.calls.ends, r.header.short);
      back = r.calls.back;
      back_by_number = λ others.
          let bits = bits_of sheet.calls ++ others in
          ap (λ (ns : List ℕ). calls_by_number ns bits) (sym (kinds_mapped kind_number sheet.calls))
          ∙ by_number (kinds_of sheet.calls) bits
          ∙ r.calls.back others;
    }
