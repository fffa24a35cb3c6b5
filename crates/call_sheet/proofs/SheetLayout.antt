-- The laws of the layout: the calls that are found in a file's bytes, the sheet that is read, and the runs that it is read into.
-- Assumes nothing.
use Prim.Native.Nat.{ℕ, zero, suc, ◌+◌, ◌-◌, ◌*◌, ◌≤◌}
use mathlib.Core.Path.{◌≡◌, refl, sym, ap, ◌∙◌, subst}
use mathlib.Core.Bool.{Bool, true, false, ◌&&◌, cond, false≢true}
use mathlib.Core.List.{List, [], ◌∷◌, ◌++◌, map, append_assoc, append-nil}
use native.Mathlib.Nat.{add-zero}
use native.Mathlib.Numerals.{one-add}
use native.Mathlib.Omega.{arith}
use borrow.Author.Tests.{eq-eqb, le-leb, eqb-true, leb-true}
use lib.Dec.{eqb, leb}
use lib.ListN.{length, take, drop, length-append, length-map}
use lib.Seq.{take_at, drop_at}
use Rattle.std.specs.Prelude.{Option, Some, None, Err, option_map}
use Rattle.std.specs.Bool.{then_some}
use Rattle.std.proofs.lemmas.Option.{none-some, same_Some}
use Rattle.std.proofs.lemmas.Simd.{map-map}
use Rattle.drifters_matrix.specs.Matrix.{tab}
use Rattle.drifters_matrix.proofs.Matrix.Tab.{length_tab, tab_add}
use Rattle.drifters_eqf.specs.declared.answer.Refusal.TheVariants as refusal
use Rattle.drifters_kind.specs.Kind.{kind_number, call_length, kind_of}
use Rattle.drifters_entry.specs.Layout.{filter_length}
use Rattle.drifters_kind.specs.declared.kind.Kind.{Kind}
use Rattle.drifters_kind.proofs.ByNumber.{kinds_found, number_of_kind}
use Rattle.little_endian.specs.Bytes.{u64_at, u64s_at}
use Rattle.call_sheet.specs.Sheet.{most_entries, most_bytes, count_of, kind_at, offset_at, table_bytes, filter_end, SheetCall, sheet_call, Sheet, with_call, call_before, calls_at, header_fits, sheet_with, read_sheet, is_some, kinds_of, kinds_as, bits_of, calls_in, call_found, calls_by_number, most_calls, most_numbers, runs, in_runs, read_into}

-- None is not Some
pub no_some : {A B : Type 0} {a : A} → None ≡ Some a → B
no_some {a = a} e = absurd (none-some a e)

-- what there is
pub some_found : {A : Type 0} (o : Option A) → is_some o ≡ true → (a : A) × (o ≡ Some a)
some_found None e = absurd (false≢true e)
some_found (Some a) e = (a, refl)

-- ---- one call after another

-- what is known where a call and k more are found from entry i on
pub record Next (k i : ℕ) (s : List ℕ) (place : ℕ) (cs : List SheetCall) : Type 0 where
  pub kind : Kind
  pub rest : List SheetCall
  pub offset : offset_at s i ≡ place
  pub is_kind : kind_of (kind_at s i) ≡ Some kind
  pub is : sheet_call kind (u64s_at (call_length kind) s place) ∷ rest ≡ cs
  pub found : calls_at k (i + 1) s (place + 8 * call_length kind) ≡ Some rest

next : (k i : ℕ) (s : List ℕ) (place : ℕ) (cs : List SheetCall) → calls_at (suc k) i s place ≡ Some cs → Next k i s place cs
unfolding calls_at
next k i s place cs e = by_offset (eqb (offset_at s i) place) refl e
  where
    by_rest : (kind : Kind) (o : Option (List SheetCall)) → offset_at s i ≡ place → kind_of (kind_at s i) ≡ Some kind
        → calls_at k (i + 1) s (place + 8 * call_length kind) ≡ o → with_call (sheet_call kind (u64s_at (call_length kind) s place)) o ≡ Some cs
        → Next k i s place cs
    by_rest kind None p f r e = no_some e
    by_rest kind (Some rest) p f r e = record {
      kind = kind;
      rest = rest;
      offset = p;
      is_kind = f;
      is = same_Some _ cs e;
      found = r;
    }

    by_kind : (o : Option Kind) → offset_at s i ≡ place → kind_of (kind_at s i) ≡ o
        → call_before o s place (calls_at k (i + 1) s) ≡ Some cs → Next k i s place cs
    by_kind None p f e = no_some e
    by_kind (Some kind) p f e = by_rest kind (calls_at k (i + 1) s (place + 8 * call_length kind)) p f refl e

    by_offset : (b : Bool) → eqb (offset_at s i) place ≡ b
        → cond b (call_before (kind_of (kind_at s i)) s place (calls_at k (i + 1) s)) None ≡ Some cs → Next k i s place cs
    by_offset true t e = by_kind (kind_of (kind_at s i)) (eqb-true (offset_at s i) place t) refl e
    by_offset false t e = no_some e

-- no calls are found
pub no_calls : (k i : ℕ) (s : List ℕ) (place : ℕ) → ((cs : List SheetCall) → Next k i s place cs → ⊥) → calls_at (suc k) i s place ≡ None
no_calls k i s place never = go (calls_at (suc k) i s place) refl
  where
    go : (o : Option (List SheetCall)) → calls_at (suc k) i s place ≡ o → o ≡ None
    go None e = refl
    go (Some cs) e = absurd (never cs (next k i s place cs e))

-- some kinds, and those of the calls that are found after them
abbrev pub kinds_with : List Kind → Option (List SheetCall) → Option (List Kind)
kinds_with ks o = option_map (λ cs. ks ++ kinds_of cs) o

-- one more is found, of a kind, and it has m numbers
pub calls_step : (k i : ℕ) (s : List ℕ) (place : ℕ) (ks : List Kind) {kind : Kind} {m : ℕ} → kind_of (kind_at s i) ≡ Some kind → offset_at s i ≡ place → m ≡ call_length kind
    → kinds_with ks (calls_at (suc k) i s place) ≡ kinds_with (ks ++ (kind ∷ [])) (calls_at k (i + 1) s (place + 8 * m))
unfolding calls_at kinds_of
calls_step k i s place ks {kind} {m} found p l =
    rw (eq-eqb (offset_at s i) place p, found, l) (go (calls_at k (i + 1) s (place + 8 * call_length kind)))
  where
    go : (o : Option (List SheetCall)) → kinds_with ks (with_call (sheet_call kind (u64s_at (call_length kind) s place)) o) ≡ kinds_with (ks ++ (kind ∷ [])) o
    go None = refl
    go (Some cs) = ap Some (sym (append_assoc ks (kind ∷ []) (kinds_of cs)))

-- after the last entry the file ends
pub calls_end : (i : ℕ) (s : List ℕ) (place : ℕ) (ks : List Kind) → kinds_with ks (calls_at 0 i s place) ≡ then_some (eqb place (length s)) ks
unfolding calls_at kinds_of
calls_end i s place ks = go (eqb place (length s))
  where
    go : (b : Bool) → kinds_with ks (cond b (Some []) None) ≡ then_some b ks
    go true = ap Some (append-nil ks)
    go false = refl

-- ---- all calls

-- numbers after numbers
u64s_add : (m n : ℕ) (s : List ℕ) (p : ℕ) → u64s_at (m + n) s p ≡ u64s_at m s p ++ u64s_at n s (p + 8 * m)
unfolding u64s_at
u64s_add m n s p =
    let place : (j : ℕ) → p + 8 * (m + j) ≡ p + 8 * m + 8 * j = λ j. omega arith in
    tab_add m n (λ k. u64_at s (p + 8 * k)) ∙ (λ t. tab m (λ k. u64_at s (p + 8 * k)) ++ tab n (λ j. u64_at s (place j t)))

pub length_u64s : (n : ℕ) (s : List ℕ) (p : ℕ) → length (u64s_at n s p) ≡ n
unfolding u64s_at
length_u64s n s p = length_tab n _

-- the first of a table's entries, and the others
tab_first : (n : ℕ) (f : ℕ → ℕ) → tab (suc n) f ≡ f 0 ∷ tab n (λ j. f (1 + j))
unfolding tab
tab_first n f = ap (λ (m : ℕ). tab m f) (sym (one-add n)) ∙ tab_add 1 n f

-- what k calls are that are found from entry i on, the first body at a place: the numbers of their kinds are those of the table, their bits one after another
-- are the numbers from that place to the end of the file, and from these they come back
pub record Calls (k i : ℕ) (s : List ℕ) (place : ℕ) (cs : List SheetCall) : Type 0 where
  pub count : length cs ≡ k
  pub kinds : kinds_as kind_number cs ≡ tab k (λ j. kind_at s (i + j))
  pub bits : bits_of cs ≡ u64s_at (length (bits_of cs)) s place
  pub ends : place + 8 * length (bits_of cs) ≡ length s
  pub back : (others : List ℕ) → calls_in (kinds_of cs) (bits_of cs ++ others) ≡ Some cs

-- no entry is left
none_found : (i : ℕ) (s : List ℕ) (place : ℕ) → place ≡ length s → Calls 0 i s place []
unfolding kinds_of kinds_as bits_of calls_in u64s_at tab
none_found i s place e = record { count = refl; kinds = refl; bits = refl; ends = omega (arith, e); back = λ others. refl }

-- a call before others
module _ (k i : ℕ) (s : List ℕ) (place : ℕ) (kind : Kind) (rest : List SheetCall) (number : kind_number kind ≡ kind_at s i)
    (after : Calls k (i + 1) s (place + 8 * call_length kind) rest) where
  one_found : Calls (suc k) i s place (sheet_call kind (u64s_at (call_length kind) s place) ∷ rest)
  unfolding kinds_of kinds_as bits_of calls_in
  one_found =
      let n = call_length kind in
      let here = u64s_at n s place in
      let later = bits_of rest in
      let size : length here ≡ n = length_u64s n s place in
      let total : length (here ++ later) ≡ n + length later = length-append here later ∙ ap (λ (m : ℕ). m + length later) size in
      let entry : (j : ℕ) → i + 1 + j ≡ i + (1 + j) = λ j. omega arith in
      let first : kind_number kind ≡ kind_at s (i + 0) = number ∙ ap (kind_at s) (sym (add-zero i)) in
      record {
        count = ap suc after.count;
        kinds = (λ t. first t ∷ (after.kinds ∙ (λ u. tab k (λ j. kind_at s (entry j u)))) t) ∙ sym (tab_first k (λ j. kind_at s (i + j)));
        bits = ap (λ (l : List ℕ). here ++ l) after.bits ∙ sym (u64s_add n (length later) s place) ∙ ap (λ (m : ℕ). u64s_at m s place) (sym total);
        ends = omega (arith, total, after.ends);
        back = λ others.
            let all = here ++ later ++ others in
            let split : all ≡ here ++ (later ++ others) = append_assoc here later others in
            let taken : take n all ≡ here = ap (take n) split ∙ take_at here (later ++ others) n size in
            let left : drop n all ≡ later ++ others = ap (drop n) split ∙ drop_at here (later ++ others) n size in
            let enough : n ≤ length all = omega (arith, size, ap length split, length-append here (later ++ others)) in
            rw (le-leb n (length all) enough, taken, left, after.back others);
      }

calls_found : (k i : ℕ) (s : List ℕ) (place : ℕ) (cs : List SheetCall) → calls_at k i s place ≡ Some cs → Calls k i s place cs
unfolding calls_at
calls_found zero i s place cs e = go (eqb place (length s)) refl e
  where
    go : (b : Bool) → eqb place (length s) ≡ b → cond b (Some []) None ≡ Some cs → Calls 0 i s place cs
    go true t e = subst (λ (l : List SheetCall). Calls 0 i s place l) (same_Some [] cs e) (none_found i s place (eqb-true place (length s) t))
    go false t e = no_some e
calls_found (suc k) i s place cs e =
    let n = next k i s place cs e in
    subst (λ (l : List SheetCall). Calls (suc k) i s place l) n.is
    (one_found k i s place n.kind n.rest (number_of_kind (kind_at s i) n.kind n.is_kind) (calls_found k (i + 1) s (place + 8 * call_length n.kind) n.rest n.found))

-- by their numbers the kinds give the same calls
pub by_number : (kinds : List Kind) (bits : List ℕ) → calls_by_number (map kind_number kinds) bits ≡ calls_in kinds bits
unfolding calls_by_number calls_in
by_number [] bits = refl
by_number (kind ∷ kinds) bits = λ i. call_found (kinds_found kind i) bits (λ (rest : List ℕ). by_number kinds rest i)

-- ---- the sheet

-- what `header_fits` tests of a file with a count of n entries
pub record Header (s : List ℕ) (n : ℕ) : Type 0 where
  pub least : 1 ≤ n
  pub most : n ≤ most_entries
  pub short : length s ≤ most_bytes
  pub kind : kind_at s 0 ≡ 0
  pub offset : offset_at s 0 ≡ table_bytes n

-- what a sheet of n entries is that is read from a file's bytes
pub record Read (s : List ℕ) (n : ℕ) (sheet : Sheet) : Type 0 where
  pub header : Header s n
  pub filter : sheet.filter ≡ u64s_at filter_length s (table_bytes n)
  pub calls : Calls (n - 1) 1 s (filter_end n) sheet.calls

all_true : (a b c d e : Bool) → a && b && c && d && e ≡ true → (a ≡ true) × (b ≡ true) × (c ≡ true) × (d ≡ true) × (e ≡ true)
all_true true true true true e p = (refl, refl, refl, refl, p)
all_true true true true false e p = absurd (false≢true p)
all_true true true false d e p = absurd (false≢true p)
all_true true false c d e p = absurd (false≢true p)
all_true false b c d e p = absurd (false≢true p)

module _ (s : List ℕ) where
  -- the tests hold, by the facts and back
  tested : header_fits s ≡ true → Header s (count_of s)
  unfolding header_fits
  tested e =
      let n = count_of s in
      let t = all_true (leb 1 n) (leb n most_entries) (leb (length s) most_bytes) (eqb (kind_at s 0) 0) (eqb (offset_at s 0) (table_bytes n)) e in
      record { least = leb-true _ _ t.0; most = leb-true _ _ t.1; short = leb-true _ _ t.2; kind = eqb-true _ _ t.3; offset = eqb-true _ _ t.4 }

  header_fits_lem : Header s (count_of s) → header_fits s ≡ true
  unfolding header_fits
  header_fits_lem h = rw (le-leb _ _ h.least, le-leb _ _ h.most, le-leb _ _ h.short, eq-eqb _ _ h.kind, eq-eqb _ _ h.offset)

  read : (sheet : Sheet) → read_sheet s ≡ Some sheet → Read s (count_of s) sheet
  unfolding read_sheet
  read sheet e = fitting (header_fits s) refl e
    where
      whole : (o : Option (List SheetCall)) → Header s (count_of s) → calls_at (count_of s - 1) 1 s (filter_end (count_of s)) ≡ o
          → sheet_with (u64s_at filter_length s (table_bytes (count_of s))) o ≡ Some sheet → Read s (count_of s) sheet
      whole None h c e = no_some e
      whole (Some cs) h c e =
          subst (λ (r : Sheet). Read s (count_of s) r) (same_Some _ sheet e)
          (record { header = h; filter = refl; calls = calls_found (count_of s - 1) 1 s (filter_end (count_of s)) cs c })

      fitting : (b : Bool) → header_fits s ≡ b
          → cond b (sheet_with (u64s_at filter_length s (table_bytes (count_of s))) (calls_at (count_of s - 1) 1 s (filter_end (count_of s)))) None ≡ Some sheet
          → Read s (count_of s) sheet
      fitting true t e = whole (calls_at (count_of s - 1) 1 s (filter_end (count_of s))) (tested t) refl e
      fitting false t e = no_some e

  -- the same laws, where n is the count
  module _ {n : ℕ} (counted : n ≡ count_of s) where
    pub sheet_read : (sheet : Sheet) → read_sheet s ≡ Some sheet → Read s n sheet
    sheet_read sheet e = subst (λ (m : ℕ). Read s m sheet) (sym counted) (read sheet e)

    pub header_tested : header_fits s ≡ true → Header s n
    header_tested h = subst (λ (m : ℕ). Header s m) (sym counted) (tested h)

    pub header_holds : Header s n → header_fits s ≡ true
    header_holds h = header_fits_lem (subst (λ (m : ℕ). Header s m) counted h)

    -- no sheet is read
    pub no_sheet : ((sheet : Sheet) → Read s n sheet → ⊥) → read_sheet s ≡ None
    no_sheet never = go (read_sheet s) refl
      where
        go : (o : Option Sheet) → read_sheet s ≡ o → o ≡ None
        go None e = refl
        go (Some sheet) e = absurd (never sheet (sheet_read sheet e))

    -- past its header a sheet is read where its calls are found
    read_calls : header_fits s ≡ true → read_sheet s ≡ sheet_with (u64s_at filter_length s (table_bytes n)) (calls_at (n - 1) 1 s (filter_end n))
    unfolding read_sheet
    read_calls h = rw (h, counted)

    -- the sheet, by the kinds of its calls
    pub sheet_found : {ks : List Kind} → header_fits s ≡ true → Some ks ≡ option_map kinds_of (calls_at (n - 1) 1 s (filter_end n))
        → (sheet : Sheet) × (read_sheet s ≡ Some sheet) × (ks ≡ kinds_of sheet.calls)
    sheet_found {ks} h e = go (calls_at (n - 1) 1 s (filter_end n)) (read_calls h) e
      where
        go : (o : Option (List SheetCall)) → read_sheet s ≡ sheet_with (u64s_at filter_length s (table_bytes n)) o → Some ks ≡ option_map kinds_of o
            → (sheet : Sheet) × (read_sheet s ≡ Some sheet) × (ks ≡ kinds_of sheet.calls)
        go None r e = no_some (sym e)
        go (Some cs) r e = (record { filter = u64s_at filter_length s (table_bytes n); calls = cs }, r, same_Some ks (kinds_of cs) e)

    -- and where there are none
    pub sheet_none : header_fits s ≡ true → None ≡ option_map kinds_of (calls_at (n - 1) 1 s (filter_end n)) → read_sheet s ≡ None
    sheet_none h e = go (calls_at (n - 1) 1 s (filter_end n)) (read_calls h) e
      where
        go : (o : Option (List SheetCall)) → read_sheet s ≡ sheet_with (u64s_at filter_length s (table_bytes n)) o → None ≡ option_map kinds_of o → read_sheet s ≡ None
        go None r e = r
        go (Some cs) r e = no_some e

-- ---- the sheet in lent runs

-- the kinds of calls, each by a function of it
module _ {K : Type 0} (from_kind : Kind → K) (calls : List SheetCall) where
  pub kinds_mapped : map from_kind (kinds_of calls) ≡ kinds_as from_kind calls
  unfolding kinds_of kinds_as
  kinds_mapped = map-map from_kind (λ (c : SheetCall). c.kind) calls

  pub length_kinds_as : length (kinds_as from_kind calls) ≡ length calls
  unfolding kinds_as
  length_kinds_as = length-map calls (λ (c : SheetCall). from_kind c.kind)

-- what `runs_fit` tests
pub record RunsFit {K : Type 0} (filter : List ℕ) (kinds : List K) (numbers : List ℕ) : Type 0 where
  pub filter_length_lem : length filter ≡ filter_length
  pub kinds_length : most_calls ≤ length kinds
  pub numbers_length : most_numbers ≤ length numbers

module _ {K : Type 0} (from_kind : Kind → K) (s filter : List ℕ) (kinds : List K) (numbers : List ℕ) where
  pub read_fitting : RunsFit filter kinds numbers → read_into from_kind s filter kinds numbers ≡ in_runs from_kind (read_sheet s) filter kinds numbers
  unfolding read_into
  read_fitting h = rw (eq-eqb _ _ h.filter_length_lem, le-leb _ _ h.kinds_length, le-leb _ _ h.numbers_length)

  pub read_short : (RunsFit filter kinds numbers → ⊥) → read_into from_kind s filter kinds numbers ≡ runs (Err refusal.Length) filter kinds numbers
  unfolding read_into
  read_short never = go (eqb (length filter) filter_length) (leb most_calls (length kinds)) (leb most_numbers (length numbers)) refl refl refl
    where
      go : (a b c : Bool) → eqb (length filter) filter_length ≡ a → leb most_calls (length kinds) ≡ b → leb most_numbers (length numbers) ≡ c
          → cond (a && b && c) (in_runs from_kind (read_sheet s) filter kinds numbers) (runs (Err refusal.Length) filter kinds numbers)
          ≡ runs (Err refusal.Length) filter kinds numbers
      go true true true p q r = absurd (never (record { filter_length_lem = eqb-true _ _ p; kinds_length = leb-true _ _ q; numbers_length = leb-true _ _ r }))
      go true true false p q r = refl
      go true false c p q r = refl
      go false b c p q r = refl
