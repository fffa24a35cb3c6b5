-- Demand 1: every call, update by several compasses, start and sheet is answered with the number of its first check that refuses, a refusal leaves
-- every lent run as it was, and an accepted propagation or update leaves a finite filter whose covariance mirrors. Assumes nothing.
use mathlib.Core.Path.{◌≡◌, refl, sym, ap, ◌∙◌}
use mathlib.Core.Bool.{Bool, true, false, not, cond}
use mathlib.Core.List.{List, [], ◌∷◌}
use Prim.Native.Nat.{ℕ, suc, ◌<◌}
use native.Mathlib.Omega.{arith}
use lib.Dec.{lit<}
use lib.Ieee.{Float}
use Rattle.drifters_eqf.specs.Answer.{Answer, Nis, Fine, Refused, length_refusal, blank_refusal, null_refusal, number_of}
use Rattle.drifters_entry.specs.Layout.{from_run}
use Rattle.drifters_entry.specs.Entry.{Request, refusal, propagation, measurement, estimate, request_of, call}
use Rattle.drifters_demands.specs.Demands.{Check, first_of, has_null, later_checks, checks, NullCall, Demand1}
use Rattle.drifters_eqf.specs.declared.filter.EqFilter.{EqFilter}
use Rattle.drifters_kind.specs.declared.kind.Kind.{Kind}
use Rattle.drifters_demands.proofs.Demands.Sheets.{checked_sheet}
use Rattle.drifters_demands.proofs.Demands.Decision.{checked, call_decision, start_decision}
use Rattle.drifters_demands.proofs.Demands.Mirrored.{call_mirrored}
use Rattle.drifters_demands.proofs.Demands.Compasses.{compasses_checked}
use Rattle.drifters_demands.proofs.Demands.Upgrade.{upgrade_decision, downgrade_decision}

-- ---- refused as null

-- each check of a list has a smaller number
abbrev SmallerNumbers : List Check → Type 0
SmallerNumbers [] = Unit
SmallerNumbers (c ∷ cs) = (c.number < null_refusal) × SmallerNumbers cs

first_not_null : (cs : List Check) → SmallerNumbers cs → first_of cs ≡ null_refusal → ⊥
unfolding first_of
first_not_null [] h e = omega (arith, e)
first_not_null (c ∷ cs) h e = go c.refuses (first_not_null cs h.1) e
  where
    go : (b : Bool) → (first_of cs ≡ null_refusal → ⊥) → cond b c.number (first_of cs) ≡ null_refusal → ⊥
    go true rest e = omega (arith, h.0, e)
    go false rest e = rest e

-- each of the later checks has
later_smaller : (r : Request) (f : EqFilter) (run : List Float) → SmallerNumbers (later_checks r f run)
later_smaller (refusal n) f run = tt
later_smaller (propagation u dt q) f run = (lit< tt, (lit< tt, (lit< tt, tt)))
later_smaller (measurement w m noise alpha) f run = (lit< tt, (lit< tt, (lit< tt, (lit< tt, tt))))
later_smaller estimate f run = (lit< tt, tt)

-- the first check that refuses is that one
null_first : (lengths finite null : Bool) (later : ℕ) → (later ≡ null_refusal → ⊥)
    → cond (not lengths) length_refusal (cond (not finite) blank_refusal (cond (not (not null)) null_refusal later)) ≡ null_refusal
    → (lengths ≡ true) × (finite ≡ true) × (null ≡ true)
null_first true true true later h e = (refl, refl, refl)
null_first true true false later h e = absurd (h e)
null_first true false null later h e = absurd (omega (arith, e))
null_first false finite null later h e = absurd (omega (arith, e))

refused_by : (a : Answer) (n : ℕ) → number_of a ≡ suc n → a ≡ Refused (suc n)
refused_by (Nis x) n e = absurd (omega (arith, e))
refused_by Fine n e = absurd (omega (arith, e))
refused_by (Refused k) n e = ap Refused e

module _ (kind : Kind) (run v written : List Float) where
  number : number_of (call kind run v written).answer ≡ first_of (checks kind run v written)
  number = (checked {checks = checks kind run v written} (call_decision kind run v written)).number

  null_call : (call kind run v written).answer ≡ Refused null_refusal → NullCall kind run v written
  unfolding first_of
  null_call e =
      let later = later_checks (request_of kind run v) (from_run run) run in
      let tests = null_first _ _ (has_null kind v) (first_of later)
      (first_not_null later (later_smaller (request_of kind run v) (from_run run) run)) (sym number ∙ ap number_of e) in
      record { lengths = tests.0; finite = tests.1; null = tests.2 }

  null_refused : NullCall kind run v written → (call kind run v written).answer ≡ Refused null_refusal
  unfolding first_of
  null_refused h =
      let first : first_of (checks kind run v written) ≡ null_refusal = rw (h.lengths, h.finite, h.null) refl in
      refused_by _ 6 (number ∙ first)

pub demand1 : Demand1
demand1 = record {
  calls = λ kind run v written. checked (call_decision kind run v written);
  null = λ kind run v written. (null_call kind run v written, null_refused kind run v written);
  compasses = compasses_checked;
  starts = λ run v. checked (start_decision run v);
  upgrades = λ run written. checked (upgrade_decision run written);
  downgrades = λ run written. checked (downgrade_decision run written);
  sheets = checked_sheet;
  mirrored = call_mirrored;
}
