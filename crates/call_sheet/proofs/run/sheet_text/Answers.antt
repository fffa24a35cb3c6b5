-- `run::sheet_text` meets its contract.
use Rattle.std.proofs.Common.{ap, arith}
use Rattle.std.specs.Result.{is_ok}
use Rattle.call_sheet.proofs.TextLength.{text_printed, never_refused}
use Rattle.call_sheet.proofs.run.sheet_text.Goals as goal

pub unwrap-requires : goal.unwrap-requires
unwrap-requires c = ap is_ok (never_refused _ c.args.text.now (omega arith) c.run_sheet.ensures)

pub returns : goal.returns
returns c =
    let t = text_printed _ c.args.text.now (omega arith) c.run_sheet.ensures c.unwrap.ensures in record { value = t.0; upper_bound = t.1 }
