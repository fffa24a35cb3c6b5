-- The laws of a filter with one alpha that is changed over, and of the way back: parts, lengths, what is finite. Assumes nothing.
use Prim.Native.Nat.{ℕ, ◌+◌}
use native.Mathlib.Omega.{arith}
use mathlib.Core.Path.{◌≡◌, refl, sym, ap, ◌∙◌}
use mathlib.Core.Bool.{Bool, true, false, ◌&&◌}
use mathlib.Core.List.{List, [], ◌∷◌, append_assoc}
use lib.ListN.{length, get_or, take, drop, length-append, length-take, length-drop}
use lib.Seq.{get_or-drop}
use lib.Ieee.{Float, nan}
use Rattle.std.proofs.lemmas.Bool.{and_parts}
use Rattle.std.proofs.lemmas.List.{take-append-drop}
use Rattle.drifters_real.specs.Real.{is_finite}
use Rattle.drifters_matrix.specs.Matrix.{all_finite}
use Rattle.drifters_matrix.proofs.Matrix.Skips.{finite_at}
use Rattle.drifters_eqf.specs.declared.filter.EqFilter.{EqFilter}
use Rattle.drifters_entry.specs.Layout.{alpha_place, filter_length, one_alpha_length, alphas_of, from_run, to_run, SizedFilter}
use Rattle.drifters_entry.proofs.Parts.{all_finite_append}
use Rattle.drifters_entry.proofs.RoundTrips.{round_trips, sized_from_run}
use Rattle.drifters_upgrade.specs.Upgrade.{upgraded, downgraded}

-- ---- a filter with one alpha, and its run changed over

-- the run of a filter with one alpha, changed over, is its run with the alpha three times
pub to_run_upgraded : (f : EqFilter) (alpha : Float) → SizedFilter f → upgraded (to_run f (alpha ∷ [])) ≡ to_run f (alpha ∷ alpha ∷ alpha ∷ [])
unfolding upgraded to_run
to_run_upgraded f alpha sized =
    let is : get_or (to_run f (alpha ∷ [])) alpha_place nan ≡ alpha =
    sym (get_or-drop alpha_place (to_run f (alpha ∷ [])) 0 nan) ∙ ap (λ (l : List Float). get_or l 0 nan) (round_trips.alphas_kept f (alpha ∷ []) sized) in
    rw is (append_assoc _ (alpha ∷ []) (alpha ∷ alpha ∷ []))

module _ (run : List Float) (long : length run ≡ one_alpha_length) where
  abbrev pub alpha : Float
  alpha = get_or run alpha_place nan

  pub sized : SizedFilter (from_run run)
  sized = sized_from_run run (omega (arith, long))

  -- its alphas, before and after
  pub alphas_one : alphas_of run ≡ alpha ∷ []
  alphas_one = one (alphas_of run) (length-drop alpha_place run ∙ omega (arith, long)) ∙ ap (λ (x : Float). x ∷ []) (get_or-drop alpha_place run 0 nan)
    where
      one : (l : List Float) → length l ≡ 1 → l ≡ get_or l 0 nan ∷ []
      one [] h = absurd (omega (arith, h))
      one (x ∷ []) h = refl
      one (x ∷ y ∷ l) h = absurd (omega (arith, h))

  run_is : run ≡ to_run (from_run run) (alpha ∷ [])
  run_is = sym (round_trips.filter_run run (omega (arith, long))) ∙ ap (to_run (from_run run)) alphas_one

  upgraded_is : upgraded run ≡ to_run (from_run run) (alpha ∷ alpha ∷ alpha ∷ [])
  upgraded_is = ap upgraded run_is ∙ to_run_upgraded (from_run run) alpha sized

  pub from_upgraded : from_run (upgraded run) ≡ from_run run
  from_upgraded = ap from_run upgraded_is ∙ round_trips.filter_record (from_run run) _ sized

  pub alphas_three : alphas_of (upgraded run) ≡ alpha ∷ alpha ∷ alpha ∷ []
  alphas_three = ap alphas_of upgraded_is ∙ round_trips.alphas_kept (from_run run) _ sized

  -- alpha i of the three
  pub alpha_at : (i : ℕ) {x : Float} → get_or (alpha ∷ alpha ∷ alpha ∷ []) i nan ≡ x → get_or (upgraded run) (alpha_place + i) nan ≡ x
  alpha_at i e = sym (get_or-drop alpha_place (upgraded run) i nan) ∙ ap (λ (l : List Float). get_or l i nan) alphas_three ∙ e

  pub finite_upgraded : all_finite (upgraded run) ≡ all_finite run
  unfolding upgraded all_finite
  finite_upgraded = all_finite_append run (alpha ∷ alpha ∷ []) ∙ by_test (all_finite run) refl
    where
      by_test : (t : Bool) → all_finite run ≡ t → t && (is_finite alpha && (is_finite alpha && true)) ≡ t
      by_test true e = rw (finite_at run alpha_place e (omega (arith, long))) refl
      by_test false e = refl

-- ---- lengths, and what is finite

pub length_upgraded : (run : List Float) → length (upgraded run) ≡ length run + 2
unfolding upgraded
length_upgraded run = length-append run _

pub length_downgraded : (run : List Float) → length run ≡ filter_length → length (downgraded run) ≡ one_alpha_length
unfolding downgraded
length_downgraded run long = length-take one_alpha_length run ∙ omega (arith, long)

pub finite_downgraded : (run : List Float) → all_finite run ≡ true → all_finite (downgraded run) ≡ true
unfolding downgraded
finite_downgraded run e =
    (and_parts _ _ (sym (all_finite_append (take one_alpha_length run) (drop one_alpha_length run)) ∙ ap all_finite (take-append-drop one_alpha_length run) ∙ e)).0
