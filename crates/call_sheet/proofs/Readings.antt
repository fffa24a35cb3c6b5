-- The readings of the sheet's layout and text, by computation. Assumes nothing.
use mathlib.Core.Path.{refl}
use lib.Ieee.{of_bits, to_bits}
use Rattle.call_sheet.specs.Digits.{digits, decimal}
use Rattle.drifters_kind.specs.Kind.{find_kind}
use Rattle.call_sheet.specs.Sheet.{calls_at, header_fits, read_sheet}
use Rattle.call_sheet.specs.Text.{numbers_of, line_text, lines_text, sheet_text}
use Rattle.call_sheet.specs.Readings.{readings, Readings}
use Rattle.drifters_real.proofs.Reading.{as_stated}

pub text_readings : Readings
unfolding readings digits decimal find_kind calls_at header_fits read_sheet numbers_of line_text lines_text sheet_text of_bits to_bits
text_readings = as_stated readings refl
