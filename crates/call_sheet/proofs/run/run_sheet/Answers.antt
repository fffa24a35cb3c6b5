-- `run::run_sheet` meets its contract.
use mathlib.Core.Path.{◌≡◌, refl, sym, ap, ◌∙◌}
use mathlib.Core.List.{List, ◌++◌}
use Prim.Native.Nat.{ℕ, ◌+◌, ◌≤◌}
use native.Mathlib.Omega.{arith}
use lib.ListN.{length, take, drop, replicate, length-map}
use lib.Seq.{take_at}
use lib.Ieee.{Float}
use Rattle.std.proofs.Common.{rules}
use Rattle.std.specs.Prelude.{Option, Some, None, Result, Ok, Err}
use Rattle.drifters_eqf.specs.Answer.{refusal_number}
use Rattle.drifters_eqf.specs.declared.answer.Refusal.{Refusal}
use Rattle.drifters_eqf.specs.declared.answer.Refusal.TheVariants as refusal
use Rattle.drifters_entry.specs.Layout.{filter_length}
use Rattle.drifters_kind.specs.declared.kind.Kind.{Kind}
use Rattle.drifters_kind.specs.declared.kind.Kind.TheVariants.{State}
use Rattle.little_endian.specs.Bytes.{placed}
use Rattle.little_endian.proofs.Numbers.{numbers_mapped}
use Rattle.call_sheet.specs.Sheet.{Sheet, read_sheet, most_calls, most_numbers, kinds_of, kinds_as, bits_of, Runs, runs, in_runs, read_into, is_some, calls_in, Held}
use Rattle.call_sheet.specs.Text.{refused_line, numbers_of, lines_of, text_of, sheet_text, printed}
use Rattle.call_sheet.proofs.Held.{sheets_held}
use Rattle.call_sheet.proofs.TextLength.{room, no_room}
use Rattle.call_sheet.proofs.SheetLayout.{read_fitting}
use Rattle.call_sheet.proofs.run.run_sheet.Goals as goal
use Rattle.call_sheet.proofs.run.run_sheet.Goals.{In-Ok}

-- the sheet that was read, as it stands in the runs
record Read (s : List ℕ) (n : ℕ) (filter : List ℕ) (kinds : List Kind) (numbers : List ℕ) : Type 0 where
  sheet : Sheet
  is : read_sheet s ≡ Some sheet
  count : n ≡ length sheet.calls
  is-filter : filter ≡ sheet.filter
  is-kinds : take n kinds ≡ kinds_of sheet.calls
  others : List ℕ
  is-numbers : numbers ≡ bits_of sheet.calls ++ others

-- what was read, by the answer
module _ (s filter₀ : List ℕ) (kinds₀ : List Kind) (numbers₀ : List ℕ) {filter : List ℕ} {kinds : List Kind} {numbers : List ℕ} where
  was_read : (read : Option Sheet) {n : ℕ} → read_sheet s ≡ read → runs (Ok n) filter kinds numbers ≡ in_runs (λ kind. kind) read filter₀ kinds₀ numbers₀
      → Read s n filter kinds numbers
  unfolding kinds_of kinds_as placed
  was_read None is e = let told = ap (λ (x : Runs Kind). x.answer) e in absurd (cc)
  was_read (Some sheet) {n} is e =
      let told : ◌≡◌ {A = Result ℕ Refusal} (Ok n) (Ok (length sheet.calls)) = ap (λ (x : Runs Kind). x.answer) e in
      let count : n ≡ length sheet.calls = cc in
      let size : length (kinds_of sheet.calls) ≡ n = length-map sheet.calls (λ c. c.kind) ∙ sym count in
      record {
        sheet = sheet;
        is = is;
        count = count;
        is-filter = ap (λ (x : Runs Kind). x.filter) e;
        is-kinds = ap (λ (x : Runs Kind). take n x.kinds) e ∙ take_at (kinds_of sheet.calls) _ n size;
        others = drop (0 + length (bits_of sheet.calls)) numbers₀;
        is-numbers = ap (λ (x : Runs Kind). x.numbers) e;
      }

  was_refused : (read : Option Sheet) {r : Refusal} → read_sheet s ≡ read → runs (Err r) filter kinds numbers ≡ in_runs (λ kind. kind) read filter₀ kinds₀ numbers₀
      → refused_line (refusal_number r) ≡ sheet_text s
  unfolding sheet_text
  was_refused None {r} is e =
      let told = ap (λ (x : Runs Kind). x.answer) e in
      let same : r ≡ refusal.Sheet = cc in
      ap (λ (q : Refusal). refused_line (refusal_number q)) same ∙ sym (ap text_of is)
  was_refused (Some sheet) is e = let told = ap (λ (x : Runs Kind). x.answer) e in absurd (cc)

-- a sheet that was read: it has its place in the runs, and its text is that of the calls in them
module _ {s : List ℕ} {n : ℕ} {filter : List ℕ} {kinds : List Kind} {numbers : List ℕ} (r : Read s n filter kinds numbers) where
  held : Held r.sheet
  held = sheets_held s r.sheet r.is

  few : n ≤ most_calls
  few = omega (arith, held.calls, r.count)

  size : length (take n kinds) ≡ n
  unfolding kinds_of
  size = ap length r.is-kinds ∙ length-map r.sheet.calls (λ c. c.kind) ∙ sym r.count

  -- the calls come back
  back : calls_in (take n kinds) numbers ≡ Some r.sheet.calls
  back = (λ i. calls_in (r.is-kinds i) (r.is-numbers i)) ∙ held.back r.others

  text : {run : List Float} → run ≡ numbers_of filter → lines_of run (calls_in (take n kinds) numbers) ≡ sheet_text s
  unfolding sheet_text
  text e = (λ i. lines_of ((e ∙ ap numbers_of r.is-filter) i) (back i)) ∙ sym (ap text_of r.is)

-- the runs that a sheet is read into hold every sheet
abbrev read_runs : List ℕ → Runs Kind
read_runs s = read_into (λ kind. kind) s (replicate filter_length 0) (replicate most_calls State) (replicate most_numbers 0)

fitting : (s : List ℕ) → read_runs s ≡ in_runs (λ kind. kind) (read_sheet s) (replicate filter_length 0) (replicate most_calls State) (replicate most_numbers 0)
fitting s = read_fitting (λ kind. kind) s _ _ _ (record { filter_length_lem = refl; kinds_length = omega arith; numbers_length = omega arith })

the_sheet : (c : In-Ok) → Read c.args.s.now c.in-Ok.n c.read_sheet.new.filter c.read_sheet.new.kinds c.read_sheet.new.numbers
the_sheet c =
    was_read _ (replicate filter_length 0) (replicate most_calls State) (replicate most_numbers 0) _ refl
    ((λ i. runs (sym c.in-Ok.is i) c.read_sheet.new.filter c.read_sheet.new.kinds c.read_sheet.new.numbers) ∙ c.read_sheet.ensures ∙ fitting _)

pub slice_bounds-kinds-end : goal.slice_bounds-kinds-end
slice_bounds-kinds-end c = omega (arith, few (the_sheet (goal.at.slice_bounds-kinds-end c).In-Ok), c.read_sheet.auto.kinds)

pub slice_bounds-run_calls-end-in-Ok : goal.slice_bounds-run_calls-end-in-Ok
slice_bounds-run_calls-end-in-Ok c = sym (size (the_sheet (goal.at.slice_bounds-run_calls-end-in-Ok c).In-Ok))

pub run_calls-requires : goal.run_calls-requires
run_calls-requires c =
    let sheet = the_sheet (goal.at.run_calls-requires c).In-Ok in
    (ap is_some (back sheet), omega (arith, size sheet, few sheet, c.if-text-lt-MOST_TEXT.false))

-- the lines of the calls
pub returns-in-Ok : goal.returns-in-Ok
returns-in-Ok c =
    let a = c.args in
    let lines = text (the_sheet (goal.at.returns-in-Ok c).In-Ok) (numbers_mapped _ _ _ _ c.read_sheet.auto.filter (λ p q b x call. search rules) c.map-run.ensures.items) in
    let put = c.run_calls in
    (λ i. printed (Ok ((put.ensures.0 ∙ ap length lines) i)) ((put.ensures.1 ∙ ap (placed a.text.now 0) lines) i))
    ∙ sym (room a.s.now a.text.now c.if-text-lt-MOST_TEXT.false)

-- the line of a sheet that is refused
pub returns-in-Err : goal.returns-in-Err
returns-in-Err c =
    let put = c.put_refused in
    let a = c.args in
    let line =
    was_refused a.s.now (replicate filter_length 0) (replicate most_calls State) (replicate most_numbers 0) (read_sheet a.s.now) refl
    ((λ i. runs (sym c.in-Err.is i) c.read_sheet.new.filter c.read_sheet.new.kinds c.read_sheet.new.numbers) ∙ c.read_sheet.ensures ∙ fitting _) in
    (λ i. printed (Ok ((put.ensures.0 ∙ ap length line) i)) ((put.ensures.1 ∙ ap (placed a.text.now 0) line) i))
    ∙ sym (room a.s.now a.text.now c.if-text-lt-MOST_TEXT.false)

pub returns-then-text-lt-MOST_TEXT : goal.returns-then-text-lt-MOST_TEXT
returns-then-text-lt-MOST_TEXT c = sym (no_room _ _ c.if-text-lt-MOST_TEXT.true)
