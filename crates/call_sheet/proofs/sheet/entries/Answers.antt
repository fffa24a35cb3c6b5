-- `sheet::entries` meets its contract.
use mathlib.Core.Path.{refl, sym, ◌∙◌}
use native.Mathlib.Omega.{arith}
use Rattle.call_sheet.proofs.SheetLayout.{Header, header_holds, no_sheet}
use Rattle.call_sheet.proofs.sheet.entries.Goals as goal
use Rattle.call_sheet.proofs.sheet.entries.Goals.{then-s-lt4-via-then-s-lt4, then-s-lt4-via-else-s-lt4+then-s-gt-MOST_BYTES, then-n-lt1-via-then-n-lt1, then-n-lt1-via-else-n-lt1+then-n-gt-MOST_ENTRIES, then-u32_at-ne0-via-then-u32_at-ne0, then-u32_at-ne0-via-else-u32_at-ne0+then-u32_at-n}

-- fewer bytes than the smallest sheet has, or more than the largest
pub returns-then-s-lt4 : goal.returns-then-s-lt4
returns-then-s-lt4 c =
    let s = c.args.s.now in
    no_sheet s refl
    (λ sheet read.
    elim c.then-s-lt4.branch [
      | then-s-lt4-via-then-s-lt4 few ↦ omega (arith, read.calls.ends, few.if-s-lt4.true)
      | then-s-lt4-via-else-s-lt4+then-s-gt-MOST_BYTES many ↦ omega (arith, read.header.short, many.if-s-gt-MOST_BYTES.true)
    ])

-- a count out of range
pub returns-then-n-lt1 : goal.returns-then-n-lt1
returns-then-n-lt1 c =
    let n = c.u32_at-n.result in
    no_sheet _ c.u32_at-n.ensures
    (λ sheet read.
    elim c.then-n-lt1.branch [
      | then-n-lt1-via-then-n-lt1 few ↦ omega (arith, read.header.least, few.if-n-lt1.true)
      | then-n-lt1-via-else-n-lt1+then-n-gt-MOST_ENTRIES many ↦ omega (arith, read.header.most, many.if-n-gt-MOST_ENTRIES.true)
    ])

-- no room for the filter
pub returns-then-s-n : goal.returns-then-s-n
returns-then-s-n c = no_sheet _ c.u32_at-n.ensures (λ sheet read. omega (arith, read.calls.ends, c.if-s-n.true))

-- entry 0 is no filter, or not right after the table
pub returns-then-u32_at-ne0 : goal.returns-then-u32_at-ne0
returns-then-u32_at-ne0 c =
    let count = c.u32_at-n in
    no_sheet _ count.ensures
    (λ sheet read.
    elim c.then-u32_at-ne0.branch [
      | then-u32_at-ne0-via-then-u32_at-ne0 other ↦ other.if-u32_at-ne0.true (c.u32_at.ensures ∙ read.header.kind)
      | then-u32_at-ne0-via-else-u32_at-ne0+then-u32_at-n far ↦ far.if-u32_at-n.true (far.u32_at-else-u32_at-ne0.ensures ∙ read.header.offset)
    ])

-- past the tests
pub returns : goal.returns
returns c =
    let s = c.args.s.now in
    let n = c.u32_at-n.result in
    let header : Header s n =
    record {
      least = c.if-n-lt1.false;
      most = c.if-n-gt-MOST_ENTRIES.false;
      short = c.if-s-gt-MOST_BYTES.false;
      kind = sym c.u32_at.ensures ∙ c.if-u32_at-ne0.false;
      offset = sym c.u32_at-else-u32_at-ne0.ensures ∙ c.if-u32_at-n.false;
    } in
    (c.u32_at-n.ensures, header_holds s c.u32_at-n.ensures header, c.if-s-n.false)
