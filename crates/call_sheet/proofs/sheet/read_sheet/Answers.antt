-- `sheet::read_sheet` meets its contract.
use Prim.Native.Nat.{ℕ, ◌-◌, ◌/◌, ◌≤◌}
use mathlib.Core.Path.{◌≡◌, sym, ap, ◌∙◌}
use mathlib.Core.Bool.{true}
use mathlib.Core.List.{List, ◌++◌, map}
use native.Mathlib.Nat.{zero-add}
use native.Mathlib.Omega.{arith}
use lib.ListN.{length, take, drop, length-map, length-take}
use lib.Seq.{length-take-le}
use Rattle.std.specs.Prelude.{Option, Some, None, option_map, Ok, Err}
use Rattle.std.proofs.Common.{rules}
use Rattle.drifters_eqf.specs.declared.answer.Refusal.TheVariants as refusal
use Rattle.drifters_kind.specs.declared.kind.Kind.{Kind}
use Rattle.drifters_entry.specs.Layout.{filter_length}
use Rattle.little_endian.specs.Bytes.{u64s_at, placed}
use Rattle.call_sheet.specs.Sheet.{count_of, table_bytes, filter_end, SheetCall, Sheet, calls_at, header_fits, read_sheet, kinds_of, kinds_as, bits_of, runs, in_runs, read_into}
use Rattle.call_sheet.proofs.SheetLayout.{header_tested, Read, sheet_read, sheet_found, sheet_none, kinds_mapped, length_kinds_as, RunsFit, read_fitting, read_short}
use Rattle.call_sheet.proofs.sheet.read_sheet.Given.{Over}
use Rattle.call_sheet.proofs.sheet.read_sheet.Goals as goal
use Rattle.call_sheet.proofs.sheet.read_sheet.Goals.{In_ok-n, In_ok-found, then-filter-ne-FILTER_LENGTH-via-then-filter-ne-FILTER_LENGTH, then-filter-ne-FILTER_LENGTH-via-else-filter-ne-FILTER_LENGTH+then-kinds-lt-MOST_CALLS, then-filter-ne-FILTER_LENGTH-via-else-filter-ne-FILTER_LENGTH+else-kinds-lt-MOST_CALLS+then-numbers-lt-MOST_NUMBERS}

-- ---- a sheet of n entries, read into runs that fit

-- how many numbers its calls have
abbrev numbers_in : List ℕ → ℕ → ℕ
numbers_in s n = (length s - filter_end n) / 8

-- what is known of it
record Known {K : Type 0} (s filter : List ℕ) (kinds : List K) (found : List Kind) (numbers : List ℕ) (n : ℕ) : Type 0 where
  sheet : Sheet
  is : read_sheet s ≡ Some sheet
  read : Read s n sheet
  fit : RunsFit filter kinds numbers
  count : numbers_in s n ≡ length (bits_of sheet.calls)
  kinds-room : n - 1 ≤ length kinds
  numbers-room : numbers_in s n ≤ length numbers
  kinds-lent : length (take (n - 1) kinds) ≡ n - 1
  kinds-found : length (take (n - 1) found) ≡ n - 1
  kinds-are : take (n - 1) found ≡ kinds_of sheet.calls
  numbers-lent : length (take (numbers_in s n) numbers) ≡ numbers_in s n

-- each call has one kind
length-kinds : (cs : List SheetCall) → length (kinds_of cs) ≡ length cs
unfolding kinds_of
length-kinds cs = length-map cs _

-- all of it follows from the header, the kinds that are found, and the runs' lengths
known : {K : Type 0} {s filter : List ℕ} {kinds : List K} {found : List Kind} {numbers : List ℕ} {n : ℕ} → (n ≡ count_of s) × (header_fits s ≡ true) × (filter_end n ≤ length s)
    → Some (take (n - 1) found) ≡ option_map kinds_of (calls_at (n - 1) 1 s (filter_end n)) → RunsFit filter kinds numbers
    → Known s filter kinds found numbers n
known {s = s} {filter} {kinds} {found} {numbers} {n} head e fit =
    let sheet = sheet_found s head.0 head.1 e in
    let read = sheet_read s head.0 sheet.0 sheet.1 in
    let kinds-room : n - 1 ≤ length kinds = omega (arith, read.header.most, fit.kinds_length) in
    let numbers-room : numbers_in s n ≤ length numbers = omega (arith, read.calls.ends, read.header.short, fit.numbers_length) in
    record {
      sheet = sheet.0;
      is = sheet.1;
      read = read;
      fit = fit;
      count = omega (arith, read.calls.ends);
      kinds-room = kinds-room;
      numbers-room = numbers-room;
      kinds-lent = length-take-le (n - 1) kinds kinds-room;
      kinds-found = ap length sheet.2 ∙ length-kinds sheet.0.calls ∙ read.calls.count;
      kinds-are = sheet.2;
      numbers-lent = length-take-le (numbers_in s n) numbers numbers-room;
    }

-- the runs' lengths
runs-fit : {K : Type 0} {filter : List ℕ} {kinds : List K} {numbers : List ℕ} → length filter ≡ filter_length → 255 ≤ length kinds → 8192 ≤ length numbers → RunsFit filter kinds numbers
runs-fit a b c = record { filter_length_lem = a; kinds_length = b; numbers_length = c }

-- a part lent from the front of a run and come back as others
front : {A : Type 0} (run others : List A) {n : ℕ} → n ≡ length others → others ++ drop n run ≡ placed run 0 others
unfolding placed
front run others e = ap (λ (k : ℕ). others ++ drop k run) (e ∙ sym (zero-add (length others)))

-- what is written is what `read_into` states
stored : {K : Type 0} (from_kind : Kind → K) {s filter : List ℕ} {kinds : List K} {found : List Kind} {numbers : List ℕ} {n : ℕ} {f : List ℕ} {ks : List K} {bs : List ℕ}
    → Known s filter kinds found numbers n
    → f ≡ u64s_at (length filter) s (table_bytes n) → ks ≡ map from_kind (take (n - 1) found)
    → bs ≡ u64s_at (length (take (numbers_in s n) numbers)) s (filter_end n)
    → runs (Ok (n - 1)) f (ks ++ drop (n - 1) kinds) (bs ++ drop (numbers_in s n) numbers) ≡ read_into from_kind s filter kinds numbers
stored {K} from_kind {s} {filter} {kinds} {found} {numbers} {n} {f} {ks} {bs} k f-is ks-are bs-are =
    let cs = k.sheet.calls in
    let calls = k.read.calls in
    let filter-is : f ≡ k.sheet.filter = f-is ∙ ap (λ (m : ℕ). u64s_at m s (table_bytes n)) k.fit.filter_length_lem ∙ sym k.read.filter in
    let bits_are : bs ≡ bits_of cs = bs-are ∙ ap (λ (m : ℕ). u64s_at m s (filter_end n)) (k.numbers-lent ∙ k.count) ∙ sym calls.bits in
    let kinds_are : ks ≡ kinds_as from_kind cs = ks-are ∙ ap (map from_kind) k.kinds-are ∙ kinds_mapped from_kind cs in
    let kinds-front = ap (λ (l : List K). l ++ drop (n - 1) kinds) kinds_are ∙ front kinds (kinds_as from_kind cs) (sym (length_kinds_as from_kind cs ∙ calls.count)) in
    let numbers-front = ap (λ (l : List ℕ). l ++ drop (numbers_in s n) numbers) bits_are ∙ front numbers (bits_of cs) k.count in
    (λ i. runs (Ok (sym calls.count i)) (filter-is i) (kinds-front i) (numbers-front i))
    ∙ sym (read_fitting from_kind s filter kinds numbers k.fit ∙ ap (λ (o : Option Sheet). in_runs from_kind o filter kinds numbers) k.is)

-- ---- the function

-- a run that does not hold every sheet
pub returns-then-filter-ne-FILTER_LENGTH : goal.returns-then-filter-ne-FILTER_LENGTH
returns-then-filter-ne-FILTER_LENGTH g c =
    let a = c.args in
    sym
    (read_short g.K.FromKind.from_kind a.s.now a.filter.now a.kinds.now a.numbers.now
    (λ fit.
    elim c.then-filter-ne-FILTER_LENGTH.branch [
      | then-filter-ne-FILTER_LENGTH-via-then-filter-ne-FILTER_LENGTH w ↦ w.if-filter-ne-FILTER_LENGTH.true fit.filter_length_lem
      | then-filter-ne-FILTER_LENGTH-via-else-filter-ne-FILTER_LENGTH+then-kinds-lt-MOST_CALLS w ↦ omega (arith, fit.kinds_length, w.if-kinds-lt-MOST_CALLS.true)
      | then-filter-ne-FILTER_LENGTH-via-else-filter-ne-FILTER_LENGTH+else-kinds-lt-MOST_CALLS+then-numbers-lt-MOST_NUMBERS w ↦ omega (arith, fit.numbers_length, w.if-numbers-lt-MOST_NUMBERS.true)
    ]))

-- the header, where it is read
head : (g : Over) (c : In_ok-n g) → (c.in_ok-n.n ≡ count_of c.args.s.now) × (header_fits c.args.s.now ≡ true) × (filter_end c.in_ok-n.n ≤ length c.args.s.now)
head g c = rw (c.ok_or.ensures.ok_part, c.in_ok-n.was) at c.entries.ensures

-- the sheet, where there is one
the_sheet : (g : Over) (c : In_ok-found g) → Known c.args.s.now c.args.filter.now c.args.kinds.now c.in_ok-found.found c.args.numbers.now c.in_ok-n.n
the_sheet g c =
    known (rw (c.ok_or.ensures.ok_part, c.in_ok-n.was) at c.entries.ensures) (rw (c.ok_or-2.ensures.ok_part, c.in_ok-found.was) at c.call_kinds.ensures)
    (runs-fit c.if-filter-ne-FILTER_LENGTH.false c.if-kinds-lt-MOST_CALLS.false c.if-numbers-lt-MOST_NUMBERS.false)

-- no sheet
unread : {K : Type 0} (from_kind : Kind → K) (s filter : List ℕ) (kinds : List K) (numbers : List ℕ) → RunsFit filter kinds numbers → read_sheet s ≡ None
    → runs (Err refusal.Sheet) filter kinds numbers ≡ read_into from_kind s filter kinds numbers
unread from_kind s filter kinds numbers fit none =
    sym (read_fitting from_kind s filter kinds numbers fit ∙ ap (λ (o : Option Sheet). in_runs from_kind o filter kinds numbers) none)

pub returns-in_err-n : goal.returns-in_err-n
returns-in_err-n g c =
    let refused : c.from_residual.result ≡ Err refusal.Sheet = search rules in
    rw refused (unread g.K.FromKind.from_kind _ _ _ _ (runs-fit c.if-filter-ne-FILTER_LENGTH.false c.if-kinds-lt-MOST_CALLS.false c.if-numbers-lt-MOST_NUMBERS.false)
    (rw (c.ok_or.ensures.ok_part, c.in_err-n.was) at c.entries.ensures))

pub returns-in_err-found : goal.returns-in_err-found
returns-in_err-found g c =
    let refused : c.from_residual-in_err-found.result ≡ Err refusal.Sheet = search rules in
    let h = head g (goal.at.returns-in_err-found g c).In_ok-n in
    rw refused (unread g.K.FromKind.from_kind _ _ _ _ (runs-fit c.if-filter-ne-FILTER_LENGTH.false c.if-kinds-lt-MOST_CALLS.false c.if-numbers-lt-MOST_NUMBERS.false)
    (sheet_none c.args.s.now h.0 h.1 (rw (c.ok_or-2.ensures.ok_part, c.in_err-found.was) at c.call_kinds.ensures)))

pub call_kinds-requires : goal.call_kinds-requires
call_kinds-requires g c =
    let h = head g c in
    let tested = header_tested c.args.s.now h.0 h.1 in
    (tested.least, tested.most, h.2)

pub returns : goal.returns
returns g c = stored g.K.FromKind.from_kind (the_sheet g (goal.at.returns g c).In_ok-found) c.u64s_at.ensures c.write_kinds.ensures c.u64s_at-2.ensures

pub slice_bounds-write_kinds-count : goal.slice_bounds-write_kinds-count
slice_bounds-write_kinds-count g c = omega (arith, (the_sheet g (goal.at.slice_bounds-write_kinds-count g c).In_ok-found).read.header.least)

pub slice_bounds-write_kinds-end : goal.slice_bounds-write_kinds-end
slice_bounds-write_kinds-end g c = (the_sheet g (goal.at.slice_bounds-write_kinds-end g c).In_ok-found).kinds-room

pub slice_bounds-write_kinds-length : goal.slice_bounds-write_kinds-length
slice_bounds-write_kinds-length g c = sym (the_sheet g (goal.at.slice_bounds-write_kinds-length g c).In_ok-found).kinds-lent

pub slice_bounds-found-count : goal.slice_bounds-found-count
slice_bounds-found-count g c = omega (arith, (the_sheet g (goal.at.slice_bounds-found-count g c).In_ok-found).read.header.least)

pub slice_bounds-found-end : goal.slice_bounds-found-end
slice_bounds-found-end g c =
    let k = the_sheet g (goal.at.slice_bounds-found-end g c).In_ok-found in
    omega (arith, k.kinds-found, length-take (c.in_ok-n.n - 1) c.in_ok-found.found)

pub slice_bounds-write_kinds-length-2 : goal.slice_bounds-write_kinds-length-2
slice_bounds-write_kinds-length-2 g c = sym (the_sheet g (goal.at.slice_bounds-write_kinds-length-2 g c).In_ok-found).kinds-found

pub write_kinds-requires : goal.write_kinds-requires
write_kinds-requires g c =
    let k = the_sheet g (goal.at.write_kinds-requires g c).In_ok-found in
    k.kinds-lent ∙ sym k.kinds-found

pub slice_bounds-u64s_at-end : goal.slice_bounds-u64s_at-end
slice_bounds-u64s_at-end g c = (the_sheet g (goal.at.slice_bounds-u64s_at-end g c).In_ok-found).numbers-room

pub slice_bounds-u64s_at-end-2 : goal.slice_bounds-u64s_at-end-2
slice_bounds-u64s_at-end-2 g c = sym (the_sheet g (goal.at.slice_bounds-u64s_at-end-2 g c).In_ok-found).numbers-lent

pub overflow_sub-result : goal.overflow_sub-result
overflow_sub-result g c = omega (arith, (the_sheet g (goal.at.overflow_sub-result g c).In_ok-found).read.header.least)
