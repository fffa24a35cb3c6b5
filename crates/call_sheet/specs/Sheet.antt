-- The call sheet: its layout (docs/MANUAL.md has it in words), and the runs that it is read into. Definitions and statements only.
use Rattle.std.specs.Prelude.{ℕ, zero, suc, ◌+◌, ◌-◌, ◌*◌, ◌≤◌, ◌≡◌, Bool, true, false, ◌&&◌, cond, List, [], ◌∷◌, ◌++◌, map, eqb, leb, length, take, drop, Option, Some, None, Result, Ok, Err}
use Rattle.drifters_eqf.specs.Answer.{refusal_number}
use Rattle.drifters_eqf.specs.declared.answer.Refusal.{Refusal}
use Rattle.drifters_eqf.specs.declared.answer.Refusal.TheVariants as refusal
use Rattle.drifters_entry.specs.Layout.{filter_length}
use Rattle.drifters_kind.specs.Kind.{kind_number, call_length, kind_of}
use Rattle.drifters_kind.specs.declared.kind.Kind.{Kind}
use Rattle.little_endian.specs.Bytes.{u32_at, u64s_at, placed}

-- ---- layout

-- the most entries of a sheet, the filter counted
abbrev pub most_entries : ℕ
most_entries = 256

-- the most bytes of a sheet
abbrev pub most_bytes : ℕ
most_bytes = 65536

-- the number of entries
abbrev pub count_of : List ℕ → ℕ
count_of s = u32_at s 0

-- the kind that the table gives for entry i
abbrev pub kind_at : List ℕ → ℕ → ℕ
kind_at s i = u32_at s (4 + 8 * i)

-- the offset of its body from the start of the file
abbrev pub offset_at : List ℕ → ℕ → ℕ
offset_at s i = u32_at s (8 + 8 * i)

-- the bytes of a count and a table of n entries
abbrev pub table_bytes : ℕ → ℕ
table_bytes n = 4 + 8 * n

-- where the filter of a sheet of n entries ends
abbrev pub filter_end : ℕ → ℕ
filter_end n = table_bytes n + 8 * filter_length

-- a call of a sheet: its kind, and its numbers by their bits
pub record SheetCall : Type 0 where
  pub kind : Kind
  pub bits : List ℕ

-- a call of its parts
abbrev pub sheet_call : Kind → List ℕ → SheetCall
sheet_call kind bits = record { kind = kind; bits = bits }

-- a filter, its numbers by their bits, and the calls on it
pub record Sheet : Type 0 where
  pub filter : List ℕ
  pub calls : List SheetCall

-- a call, and those that follow it
abbrev pub with_call : SheetCall → Option (List SheetCall) → Option (List SheetCall)
with_call c None = None
with_call c (Some cs) = Some (c ∷ cs)

-- the call of a kind whose body is at a place, before those that follow it; None where there is no kind
abbrev pub call_before : Option Kind → List ℕ → ℕ → (ℕ → Option (List SheetCall)) → Option (List SheetCall)
call_before None s place rest = None
call_before (Some kind) s place rest = with_call (sheet_call kind (u64s_at (call_length kind) s place)) (rest (place + 8 * call_length kind))

-- k entries from entry i on, the first body at a place: each begins where the one before it ends, and the file ends with the last
unfoldable pub calls_at : ℕ → ℕ → List ℕ → ℕ → Option (List SheetCall)
calls_at zero i s place = cond (eqb place (length s)) (Some []) None
calls_at (suc k) i s place = cond (eqb (offset_at s i) place) (call_before (kind_of (kind_at s i)) s place (calls_at k (i + 1) s)) None

-- count and size are in range, and entry 0 is a filter right after the table
unfoldable pub header_fits : List ℕ → Bool
header_fits s =
    leb 1 (count_of s) && leb (count_of s) most_entries && leb (length s) most_bytes
    && eqb (kind_at s 0) 0 && eqb (offset_at s 0) (table_bytes (count_of s))

-- the filter of a sheet with its calls
abbrev pub sheet_with : List ℕ → Option (List SheetCall) → Option Sheet
sheet_with filter None = None
sheet_with filter (Some calls) = Some (record { filter = filter; calls = calls })

-- the sheet that a file's bytes are; None where they break the layout
unfoldable pub read_sheet : List ℕ → Option Sheet
read_sheet s =
    let n = count_of s in
    cond (header_fits s) (sheet_with (u64s_at filter_length s (table_bytes n)) (calls_at (n - 1) 1 s (filter_end n))) None

-- whether there is one
abbrev pub is_some : {A : Type 0} → Option A → Bool
is_some None = false
is_some (Some a) = true

-- ---- a sheet in lent runs

-- the most calls of a sheet
abbrev pub most_calls : ℕ
most_calls = 255

-- room for the numbers of all its calls: each is eight bytes
abbrev pub most_numbers : ℕ
most_numbers = 8192

-- the number of the refusal, and 0 where a run was filled
abbrev pub refusal_of : Result ℕ Refusal → ℕ
refusal_of (Ok n) = 0
refusal_of (Err r) = refusal_number r

-- the kinds of calls
unfoldable pub kinds_of : List SheetCall → List Kind
kinds_of calls = map (λ c. c.kind) calls

-- the same, each by a function of it: the kind itself, or its number
unfoldable pub kinds_as : {K : Type 0} → (Kind → K) → List SheetCall → List K
kinds_as from_kind calls = map (λ c. from_kind c.kind) calls

-- the bits of the numbers of calls, one after another
unfoldable pub bits_of : List SheetCall → List ℕ
bits_of [] = []
bits_of (c ∷ cs) = c.bits ++ bits_of cs

-- how many calls, or the refusal; the filter's bits, what the kinds are read into, and the bits of all calls, as they are after reading
pub record Runs (K : Type 0) : Type 0 where
  pub answer : Result ℕ Refusal
  pub filter : List ℕ
  pub kinds : List K
  pub numbers : List ℕ

-- runs of their parts
abbrev pub runs : {K : Type 0} → Result ℕ Refusal → List ℕ → List K → List ℕ → Runs K
runs answer filter kinds numbers = record { answer = answer; filter = filter; kinds = kinds; numbers = numbers }

-- the runs are of their stated lengths, the last two at least, which hold every sheet
abbrev pub runs_fit : {K : Type 0} → List ℕ → List K → List ℕ → Bool
runs_fit filter kinds numbers = eqb (length filter) filter_length && leb most_calls (length kinds) && leb most_numbers (length numbers)

-- a sheet at the front of the runs; where there is none they stay
abbrev pub in_runs : {K : Type 0} → (Kind → K) → Option Sheet → List ℕ → List K → List ℕ → Runs K
in_runs from_kind None filter kinds numbers = runs (Err refusal.Sheet) filter kinds numbers
in_runs from_kind (Some sheet) filter kinds numbers =
    runs (Ok (length sheet.calls)) sheet.filter (placed kinds 0 (kinds_as from_kind sheet.calls)) (placed numbers 0 (bits_of sheet.calls))

-- a file's bytes read into lent runs
unfoldable pub read_into : {K : Type 0} → (Kind → K) → List ℕ → List ℕ → List K → List ℕ → Runs K
read_into from_kind s filter kinds numbers =
    cond (runs_fit filter kinds numbers) (in_runs from_kind (read_sheet s) filter kinds numbers) (runs (Err refusal.Length) filter kinds numbers)

-- ---- the way back

-- the call of a kind that has the first of some bits, before those that the others give; None where there are too few bits
abbrev pub call_from : Kind → List ℕ → (List ℕ → Option (List SheetCall)) → Option (List SheetCall)
call_from kind bits rest =
    let n = call_length kind in
    cond (leb n (length bits)) (with_call (sheet_call kind (take n bits)) (rest (drop n bits))) None

-- the calls of some kinds, with the bits of their numbers one after another
unfoldable pub calls_in : List Kind → List ℕ → Option (List SheetCall)
calls_in [] bits = Some []
calls_in (kind ∷ kinds) bits = call_from kind bits (calls_in kinds)

-- the same of a kind that may not be there; None where it is not
abbrev pub call_found : Option Kind → List ℕ → (List ℕ → Option (List SheetCall)) → Option (List SheetCall)
call_found None bits rest = None
call_found (Some kind) bits rest = call_from kind bits rest

-- the calls of the kinds of some numbers, with the bits of their numbers one after another; None where a number is of no kind
unfoldable pub calls_by_number : List ℕ → List ℕ → Option (List SheetCall)
calls_by_number [] bits = Some []
calls_by_number (n ∷ ns) bits = call_found (kind_of n) bits (calls_by_number ns)

-- a sheet has its place in the runs, and the runs give its calls back, by the kinds and by their numbers, whatever follows in them
pub record Held (sheet : Sheet) : Type 0 where
  pub filter : length sheet.filter ≡ filter_length
  pub calls : length sheet.calls ≤ most_calls
  pub numbers : length (bits_of sheet.calls) ≤ most_numbers
  pub back : (others : List ℕ) → calls_in (kinds_of sheet.calls) (bits_of sheet.calls ++ others) ≡ Some sheet.calls
  pub back_by_number : (others : List ℕ) → calls_by_number (kinds_as kind_number sheet.calls) (bits_of sheet.calls ++ others) ≡ Some sheet.calls

-- so it is for every sheet that is read
abbrev pub SheetsHeld : Type 0
SheetsHeld = (s : List ℕ) (sheet : Sheet) → read_sheet s ≡ Some sheet → Held sheet
