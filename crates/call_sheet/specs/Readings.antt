-- Readings of the sheet's layout and text: one table, and one theorem. A file that is refused differs in one field from one that is taken.
-- Definitions and statements only.
use Rattle.std.specs.Prelude.{ℕ, suc, ◌+◌, ◌-◌, ◌*◌, Bool, true, false, cond, List, [], ◌∷◌, ◌++◌, length, replicate}
use Rattle.std.specs.Float.{binary64}
use Rattle.std.specs.Float.Ieee.{of_bits}
use Rattle.drifters_eqf.specs.Answer.{Nis, Fine, Refused}
use Rattle.drifters_entry.specs.Layout.{filter_length}
use Rattle.drifters_kind.specs.Kind.{kind_number, call_length, all_kinds}
use Rattle.drifters_kind.specs.declared.kind.Kind.TheVariants.{Position, State}
use Rattle.little_endian.specs.Bytes.{bytes_of}
use Rattle.drifters_real.specs.Reading.{Reading, reads, AsStated}
use Rattle.call_sheet.specs.Sheet.{table_bytes, filter_end, header_fits, read_sheet, is_some}
use Rattle.call_sheet.specs.Text.{line_text, sheet_text}

-- 1 for true, 0 for false
abbrev pub truth : Bool → List ℕ
truth b = cond b 1 0 ∷ []

-- a number in the four bytes of a u32
abbrev pub u32 : ℕ → List ℕ
u32 n = bytes_of 4 n

-- an entry of the table: its kind, and the offset of its body
abbrev pub entry : ℕ → ℕ → List ℕ
entry kind offset = u32 kind ++ u32 offset

-- a count, and entry 0 of a kind with its body some bytes after the table
abbrev pub header : ℕ → ℕ → ℕ → List ℕ
header count kind after = u32 count ++ entry kind (table_bytes count + after)

-- whether a header fits
abbrev pub fits : List ℕ → Bool → Reading
fits s stated = reads (truth (header_fits s)) (truth stated)

-- the bytes of a filter
abbrev pub filter_bytes : ℕ
filter_bytes = 8 * filter_length

-- the bytes of the numbers of a position call
abbrev pub position_bytes : ℕ
position_bytes = 8 * call_length Position

-- the file of a filter alone, of n bytes of zeros
abbrev pub filter_alone : ℕ → List ℕ
filter_alone n = header 1 0 0 ++ replicate n 0

-- the file of a filter of zeros and one call: its kind, its offset, and its n bytes of zeros
abbrev pub one_call : ℕ → ℕ → ℕ → List ℕ
one_call kind offset n = header 2 0 0 ++ entry kind offset ++ replicate (filter_bytes + n) 0

-- whether a file is a sheet
abbrev pub is_sheet : List ℕ → Bool → Reading
is_sheet s stated = reads (truth (is_some (read_sheet s))) (truth stated)

-- `refused 6`
abbrev pub refused_six : List ℕ
refused_six = 114 ∷ 101 ∷ 102 ∷ 117 ∷ 115 ∷ 101 ∷ 100 ∷ 32 ∷ 54 ∷ 10 ∷ []

-- the table
unfoldable pub readings : List Reading
readings =
    -- the three lines of the manual's whole case, by their answers: NIS 0, NIS 1, refused 4
    reads (line_text 1 Position (Nis (of_bits binary64 0)))
    (49 ∷ 32 ∷ 50 ∷ 32 ∷ (replicate 16 48 ++ (10 ∷ [])))
    ∷ reads (line_text 2 Position (Nis (of_bits binary64 0x3ff0_0000_0000_0000)))
    (50 ∷ 32 ∷ 50 ∷ 32 ∷ 51 ∷ 70 ∷ 70 ∷ 48 ∷ (replicate 12 48 ++ (10 ∷ [])))
    ∷ reads (line_text 3 Position (Refused 4))
    (51 ∷ 32 ∷ 50 ∷ 32 ∷ 114 ∷ 101 ∷ 102 ∷ 117 ∷ 115 ∷ 101 ∷ 100 ∷ 32 ∷ 52 ∷ 10 ∷ [])
    -- a state call at the last index
    ∷ reads (line_text 255 State Fine) (50 ∷ 53 ∷ 53 ∷ 32 ∷ 54 ∷ 32 ∷ 111 ∷ 107 ∷ 10 ∷ [])
    -- no bytes, which is what counts of a file that cannot be read
    ∷ reads (sheet_text []) refused_six
    -- a count from 1 to 256
    ∷ fits (header 1 0 0) true
    ∷ fits (header 0 0 0) false
    ∷ fits (header 256 0 0) true
    ∷ fits (header 257 0 0) false
    -- entry 0 is a filter, right after the table
    ∷ fits (header 1 1 0) false
    ∷ fits (header 1 0 1) false
    -- a filter alone prints nothing; a byte more or less is refused
    ∷ reads (sheet_text (filter_alone filter_bytes)) []
    ∷ reads (sheet_text (filter_alone (filter_bytes + 1))) refused_six
    ∷ reads (sheet_text (filter_alone (filter_bytes - 1))) refused_six
    -- the body of a position call is right after the filter, and ends the file
    ∷ is_sheet (one_call (kind_number Position) (filter_end 2) position_bytes) true
    ∷ is_sheet (one_call (kind_number Position) (filter_end 2 - 1) position_bytes) false
    ∷ is_sheet (one_call (kind_number Position) (filter_end 2 + 1) position_bytes) false
    ∷ is_sheet (one_call (kind_number Position) (filter_end 2) (position_bytes - 1)) false
    ∷ is_sheet (one_call (kind_number Position) (filter_end 2) (position_bytes + 1)) false
    -- of a call with no numbers: a state; no kind has the number after the last, and there is no second filter
    ∷ is_sheet (one_call (kind_number State) (filter_end 2) 0) true
    ∷ is_sheet (one_call (suc (length all_kinds)) (filter_end 2) 0) false
    ∷ is_sheet (one_call 0 (filter_end 2) 0) false
    ∷ []

-- every row of the table is as stated
abbrev pub Readings : Type 0
Readings = AsStated readings
