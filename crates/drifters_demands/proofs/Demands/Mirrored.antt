-- An accepted propagation or update leaves a finite filter whose covariance mirrors. Assumes nothing.
use mathlib.Core.Path.{◌≡◌, refl, sym, ap, ◌∙◌}
use mathlib.Core.Bool.{Bool, true, false, not, cond, true≢false}
use mathlib.Core.List.{List}
use Prim.Native.Nat.{ℕ, suc, ◌+◌, ◌*◌}
use native.Mathlib.Nat.{suc-ne-zero}
use native.Mathlib.Omega.{arith}
use borrow.Author.Tests.{eqb-true}
use lib.Dec.{eqb}
use lib.ListN.{length, length-drop}
use lib.Ieee.{Float}
use Rattle.std.proofs.lemmas.Bool.{and_parts}
use Rattle.drifters_matrix.specs.Matrix.{all_finite}
use Rattle.drifters_matrix.proofs.Matrix.Grid.{at_in}
use Rattle.drifters_matrix.proofs.Matrix.Theorems.{mirrored}
use Rattle.drifters_entry.specs.Layout.{alpha_place, filter_length, three_alphas, alphas_of, from_run, to_run, SizedFilter}
use Rattle.drifters_kind.specs.Kind.{form_of, written_length}
use Rattle.drifters_entry.specs.Entry.{Request, refusal, propagation, measurement, estimate, request_of, lengths_fit, call}
use Rattle.drifters_demands.specs.Demands.{first_of, checks, FiniteMirrored, accepted_outcome}
use Rattle.drifters_eqf.specs.declared.filter.EqFilter.{EqFilter}
use Rattle.drifters_kind.specs.declared.kind.Kind.{Kind}
use Rattle.drifters_kind.specs.declared.kind.Kind.TheVariants.{State}
use Rattle.drifters_entry.proofs.KindLaws.{kind_laws}
use Rattle.drifters_entry.proofs.RoundTrips.{length_to_run, sigma_at}
use Rattle.drifters_demands.proofs.Sizes.{Symmetrized, symmetrized_propagated, symmetrized_corrected, sized_propagated, sized_corrected}
use Rattle.drifters_demands.proofs.Demands.Decision.{is_refusal, decision_accepted, decision_answer, checked, call_decision}

-- a run of finite numbers with a symmetrized covariance
finite_mirrored : (f : EqFilter) (alphas : List Float) → length alphas ≡ 3 → SizedFilter f → Symmetrized f.sigma.«data» → all_finite (to_run f alphas) ≡ true
    → FiniteMirrored (to_run f alphas)
finite_mirrored f alphas l sized s h = record {
  size = length_to_run f alphas sized ∙ ap (λ n. alpha_place + n) l;
  finite = h;
  mirrored = λ i j p q.
      sigma_at f alphas sized (i * 21 + j) (at_in i j 21 21 p q)
      ∙ rw s.1 (mirrored 21 s.0 i j p q)
      ∙ sym (sigma_at f alphas sized (j * 21 + i) (at_in j i 21 21 q p));
}

-- the alphas of a filter's run
three : (run : List Float) → length run ≡ filter_length → length (alphas_of run) ≡ 3
three run l = length-drop alpha_place run ∙ omega (arith, l)

-- a check that passes
passed : (b : Bool) (n later : ℕ) → cond (not b) (suc n) later ≡ 0 → b ≡ true
passed true n later z = refl
passed false n later z = absurd (suc-ne-zero n z)

fitting : (kind : Kind) (run v written : List Float) → first_of (checks kind run v written) ≡ 0 → length run ≡ filter_length
unfolding first_of
fitting kind run v written z =
    let fit = passed (lengths_fit (form_of kind) run v (length written)) 0 _ z in
    eqb-true (length run) filter_length (and_parts (eqb (length run) filter_length) _ (and_parts _ (eqb (length written) (written_length kind)) fit).0).0

-- what is asked and neither refused nor an estimate
finite :
    (r : Request) (f : EqFilter) (run written : List Float) → length run ≡ filter_length → (r ≡ estimate → ⊥) → is_refusal (accepted_outcome r f run written).answer ≡ false
    → all_finite (accepted_outcome r f run written).run ≡ true → FiniteMirrored (accepted_outcome r f run written).run
finite (refusal n) f run written l h q e = absurd (true≢false q)
finite (propagation u dt d) f run written l h q e = finite_mirrored _ _ (three run l) (sized_propagated f u dt d) (symmetrized_propagated f u dt d) e
finite (measurement w m noise alpha) f run written l h q e = finite_mirrored _ _ (three run l) (sized_corrected f _) (symmetrized_corrected f _) e
finite estimate f run written l h q e = absurd (h refl)

pub call_mirrored : (kind : Kind) (run v written : List Float) → (kind ≡ State → ⊥) → first_of (checks kind run v written) ≡ 0
    → FiniteMirrored (call kind run v written).run
call_mirrored kind run v written h z =
    let d = call_decision kind run v written in
    let o = decision_accepted d z in
    rw o
    (finite (request_of kind run v) (from_run run) run written (fitting kind run v written z) (λ e. h ((kind_laws kind).asks three_alphas run v e)) (decision_answer d z)
    (rw (← o) ((checked d).finite z).1))
