-- The laws of a call by several compasses by its tests: the lengths, the finiteness of what comes in, and what the best try is. Assumes nothing.
use Prim.Native.Nat.{ℕ}
use mathlib.Core.Path.{◌≡◌, refl, ap, ◌∙◌}
use mathlib.Core.Bool.{Bool, true, false, ◌&&◌, and-false}
use mathlib.Core.List.{List}
use borrow.Author.Tests.{ne_eqb}
use lib.ListN.{length}
use lib.Ieee.{Float}
use Rattle.std.specs.Prelude.{Option, Some, None, is_some}
use Rattle.drifters_matrix.specs.Matrix.{all_finite}
use Rattle.drifters_eqf.specs.Answer.{length_refusal, blank_refusal}
use Rattle.drifters_entry.specs.Layout.{filter_length, three_alphas}
use Rattle.drifters_compasses.specs.Compasses.{Refused, north_noise_length, count_of, compasses_fit, tried, attempt_in, best_of, tried_answer, compasses_outcome, selected, update_compasses_in, update_compasses}
use Rattle.drifters_compasses.specs.Kept.{best_try}
use Rattle.drifters_compasses.specs.declared.compasses.Best.{Best}

-- what comes of the best of k tries, which stands beside the filter that it left
some_selected : (k : ℕ) (run left : List Float) (best : Option Best) → is_some best ≡ true → compasses_outcome (tried_answer k best) left ≡ selected k run (best_try best left)
some_selected k run left (Some b) e = refl
some_selected k run left None e = cc

none_selected : (k : ℕ) (run left : List Float) (best : Option Best) → is_some best ≡ false → compasses_outcome (tried_answer k best) run ≡ selected k run (best_try best left)
none_selected k run left (Some b) e = cc
none_selected k run left None e = refl

module _ (run readings north_noise : List Float) (budget : ℕ) where
  length_refused : compasses_fit (length run) (length readings) (length north_noise) budget ≡ false
      → compasses_outcome (Refused length_refusal) run ≡ update_compasses run readings north_noise budget
  unfolding update_compasses_in
  length_refused h = rw h

  pub run_refused : (length run ≡ filter_length → ⊥) → compasses_outcome (Refused length_refusal) run ≡ update_compasses run readings north_noise budget
  run_refused h = length_refused (rw (ne_eqb _ _ h))

  pub north_noise_refused : (length north_noise ≡ north_noise_length → ⊥) → compasses_outcome (Refused length_refusal) run ≡ update_compasses run readings north_noise budget
  north_noise_refused h = length_refused (rw (ne_eqb _ _ h, and-false))

  -- where two of the lengths fit; d is whether the others do
  module _ (r : length run ≡ filter_length) (n : length north_noise ≡ north_noise_length) where
    fit_as : {d : Bool} → compasses_fit filter_length (length readings) north_noise_length budget ≡ d → compasses_fit (length run) (length readings) (length north_noise) budget ≡ d
    fit_as e = rw (r, n) e

    pub readings_refused : compasses_fit filter_length (length readings) north_noise_length budget ≡ false
        → compasses_outcome (Refused length_refusal) run ≡ update_compasses run readings north_noise budget
    readings_refused h = length_refused (fit_as h)

    module _ (fit : compasses_fit filter_length (length readings) north_noise_length budget ≡ true) where
      pub blank_refused : (all_finite run && all_finite north_noise) ≡ false → compasses_outcome (Refused blank_refusal) run ≡ update_compasses run readings north_noise budget
      unfolding update_compasses_in
      blank_refused h = rw (fit_as fit, h)

      -- k is how many are tried, best the best of them, and left the filter that it left
      module _
          {k : ℕ} (left : List Float) (best : Option Best) (h : (all_finite run && all_finite north_noise) ≡ true) (e : k ≡ tried budget (count_of (length readings)))
          (is : best_try best left ≡ best_of (attempt_in three_alphas run readings north_noise) k)
        where
          selected_is : selected k run (best_try best left) ≡ update_compasses run readings north_noise budget
          unfolding update_compasses_in
          selected_is = rw (fit_as fit, h, ← e) (ap (selected k run) is)

          pub best_applied : is_some best ≡ true → compasses_outcome (tried_answer k best) left ≡ update_compasses run readings north_noise budget
          best_applied s = some_selected k run left best s ∙ selected_is

          pub none_applied : is_some best ≡ false → compasses_outcome (tried_answer k best) run ≡ update_compasses run readings north_noise budget
          none_applied s = none_selected k run left best s ∙ selected_is
