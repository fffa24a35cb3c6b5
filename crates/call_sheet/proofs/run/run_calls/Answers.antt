-- `run::run_calls` meets its contract.
use mathlib.Core.Path.{◌≡◌, refl, sym, ap, ◌∙◌}
use mathlib.Core.Bool.{true}
use mathlib.Core.List.{List, [], ◌++◌, append_assoc, append-nil}
use Prim.Native.Nat.{ℕ, ◌+◌, ◌-◌, ◌≤◌, ◌<◌}
use native.Mathlib.Nat.{zero-add}
use native.Mathlib.Omega.{arith}
use lib.ListN.{length, get_or, take, drop, length-drop, drop_of_length-le}
use lib.Seq.{drop-drop}
use lib.Ieee.{Float}
use Rattle.std.proofs.lemmas.Option.{same_Some}
use Rattle.drifters_kind.specs.Kind.{call_length}
use Rattle.drifters_entry.specs.Entry.{Outcome, outcome_on}
use Rattle.drifters_eqf.specs.Answer.{Answer}
use Rattle.drifters_kind.specs.declared.kind.Kind.{Kind}
use Rattle.drifters_kind.specs.declared.kind.Kind.TheVariants.{Propagate}
use Rattle.little_endian.specs.Bytes.{placed}
use Rattle.call_sheet.specs.Sheet.{SheetCall, is_some, calls_in}
use Rattle.call_sheet.specs.Text.{numbers_of, line_text, lines_text, lines_of}
use Rattle.call_sheet.proofs.Lines.{Taken, calls_next}
use Rattle.call_sheet.proofs.SheetLayout.{some_found}
use Rattle.little_endian.proofs.Placed.{put_none, put_then}
use Rattle.call_sheet.proofs.run.run_calls.Invariants.{Made}
use Rattle.call_sheet.proofs.run.run_calls.Goals as goal

-- no call is made
none_made : (run : List Float) (kinds : List Kind) (numbers text : List ℕ) → is_some (calls_in kinds numbers) ≡ true → Made run kinds numbers text run text 0 0 0
none_made run kinds numbers text h =
    let calls = some_found (calls_in kinds numbers) h in
    record {
      within = omega arith;
      there = omega arith;
      room = omega arith;
      run_length = refl;
      text-length = refl;
      lines = [];
      written = put_none text 0 (omega arith);
      left = calls.0;
      is-left = calls.1;
      all = ap (lines_of run) calls.1;
    }

-- all are made
all_made : {run₀ run : List Float} {kinds : List Kind} {numbers text₀ text : List ℕ} {at len i : ℕ} (m : Made run₀ kinds numbers text₀ run text at len i)
    → length kinds ≤ i → m.lines ≡ lines_of run₀ (calls_in kinds numbers)
unfolding calls_in lines_text
all_made {run₀} {run} {kinds} {numbers} {at = at} {i = i} m h =
    let none_left : drop i kinds ≡ [] = drop_of_length-le kinds h in
    let empty : m.left ≡ [] = sym (same_Some [] m.left (ap (λ (ks : List Kind). calls_in ks (drop at numbers)) (sym none_left) ∙ m.is-left)) in
    sym (m.all ∙ ap (λ (cs : List SheetCall). m.lines ++ lines_text (i + 1) run cs) empty ∙ append-nil m.lines)

-- the kind of the next call
abbrev kind_next : List Kind → ℕ → Kind
kind_next kinds i = get_or kinds i Propagate

-- the next call that is left
next-left : {run₀ run : List Float} {kinds : List Kind} {numbers text₀ text : List ℕ} {at len i : ℕ} (m : Made run₀ kinds numbers text₀ run text at len i)
    → i < length kinds → Taken (kind_next kinds i) (drop (i + 1) kinds) (drop at numbers) m.left
next-left {kinds = kinds} {numbers} {at = at} {i = i} m h = calls_next kinds i Propagate h (drop at numbers) m.is-left

-- its numbers lie within those of all
next-within : {run₀ run : List Float} {kinds : List Kind} {numbers text₀ text : List ℕ} {at len i n : ℕ} → Made run₀ kinds numbers text₀ run text at len i
    → i < length kinds → n ≡ call_length (kind_next kinds i) → at + n ≤ length numbers
next-within {numbers = numbers} {at = at} m h e = omega (arith, (next-left m h).enough, length-drop at numbers, m.there)

-- what a turn of the loop does: the call at place i, and its line
record Turn (numbers : List ℕ) (run : List Float) (text : List ℕ) (at len i : ℕ) (kind : Kind) (n : ℕ) (answer : Answer)
    (run' : List Float) (text' : List ℕ) (len' : ℕ) : Type 0 where
  is-length : n ≡ call_length kind
  is-answer : answer ≡ (outcome_on run kind (numbers_of (take (at + n - at) (drop at numbers)))).answer
  is-run : run' ≡ (outcome_on run kind (numbers_of (take (at + n - at) (drop at numbers)))).run
  is-text : text' ≡ placed text len (line_text (i + 1) kind answer)
  is-end : len' ≡ len + length (line_text (i + 1) kind answer)
  short : len' ≤ len + 23
  run-kept : length run' ≡ length run
  text-kept : length text' ≡ length text

-- one more is made
one-made : {run₀ run run' : List Float} {kinds : List Kind} {numbers text₀ text text' : List ℕ} {at len len' i n : ℕ} {answer : Answer}
    → Made run₀ kinds numbers text₀ run text at len i → i < length kinds → Turn numbers run text at len i (kind_next kinds i) n answer run' text' len'
    → Made run₀ kinds numbers text₀ run' text' (at + n) len' (i + 1)
unfolding lines_text
one-made {run₀} {run} {run'} {kinds} {numbers} {text₀} {text} {text'} {at} {len} {len'} {i} {n} {answer} m h t =
    let kind = kind_next kinds i in
    let next = next-left m h in
    let part : at + n - at ≡ call_length kind = omega arith in
    let outcome : outcome_on run kind (numbers_of (take (at + n - at) (drop at numbers))) ≡ outcome_on run kind (numbers_of (take (call_length kind) (drop at numbers))) =
    λ j. outcome_on run kind (numbers_of (take (part j) (drop at numbers))) in
    let is-answer = t.is-answer ∙ ap (λ (o : Outcome). o.answer) outcome in
    let is-run = t.is-run ∙ ap (λ (o : Outcome). o.run) outcome in
    let line = line_text (i + 1) kind answer in
    let bits : drop (at + n) numbers ≡ drop (call_length kind) (drop at numbers) = ap (λ (k : ℕ). drop (at + k) numbers) t.is-length ∙ sym (drop-drop _ at numbers) in
    record {
      within = omega arith;
      there = next-within m h t.is-length;
      room = omega arith;
      run_length = t.run-kept ∙ m.run_length;
      text-length = t.text-kept ∙ m.text-length;
      lines = m.lines ++ line;
      written = put_then line m.written t.is-end t.is-text;
      left = next.rest;
      is-left = ap (calls_in (drop (i + 1) kinds)) bits ∙ next.after;
      all =
          m.all ∙ ap (λ (cs : List SheetCall). m.lines ++ lines_text (i + 1) run cs) (sym next.is)
          ∙ sym (append_assoc m.lines _ _)
          ∙ sym (λ j. m.lines ++ line_text (i + 1) kind (is-answer j) ++ lines_text (i + 1 + 1) (is-run j) next.rest);
    }

pub slice_bounds-run_call-end : goal.slice_bounds-run_call-end
slice_bounds-run_call-end c = next-within c.loop-i.invariant c.loop-i-test.true c.call_length.ensures

pub loop-i-init : goal.loop-i-init
loop-i-init c = none_made _ _ _ _ c.requires.0

pub loop-i-preserved : goal.loop-i-preserved
loop-i-preserved c =
    let line = c.put_line-length in
    one-made c.loop-i.invariant c.loop-i-test.true
    (record {
      is-length = c.call_length.ensures;
      is-answer = c.run_call-answer.ensures.0;
      is-run = c.run_call-answer.ensures.1;
      is-text = line.ensures.1.0;
      is-end = line.ensures.0;
      short = line.ensures.1.1;
      run-kept = c.run_call-answer.auto.run;
      text-kept = line.auto.out;
    })

pub returns : goal.returns
returns c =
    let m = c.loop-i.invariant in
    let lines = all_made m c.loop-i-test.false in
    (m.written.until ∙ zero-add _ ∙ ap length lines, m.written.is ∙ ap (placed _ 0) lines)
