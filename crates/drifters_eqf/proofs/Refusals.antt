-- A refusal by its number. Assumes nothing.
use Prim.Native.Nat.{ℕ, ◌-◌}
use mathlib.Core.Path.{◌≡◌, refl, sym, ap, ◌∙◌}
use mathlib.Core.List.{[], ◌∷◌}
use lib.ListN.{get_or}
use Rattle.drifters_eqf.specs.Answer.{refusal_number, RefusalsDiffer}
use Rattle.drifters_eqf.specs.declared.answer.Refusal.{Refusal}
use Rattle.drifters_eqf.specs.declared.answer.Refusal.TheVariants.{Length, Blank, Turn, Pivot, Range, Sheet, Null, Unequal}

-- the refusal of a number; of a number that no refusal has, some refusal
abbrev refusal_of : ℕ → Refusal
refusal_of n = get_or (Length ∷ Blank ∷ Turn ∷ Pivot ∷ Range ∷ Sheet ∷ Null ∷ Unequal ∷ []) (n - 1) Length

found : (r : Refusal) → refusal_of (refusal_number r) ≡ r
found Length = refl
found Blank = refl
found Turn = refl
found Pivot = refl
found Range = refl
found Sheet = refl
found Null = refl
found Unequal = refl

pub refusals_differ : RefusalsDiffer
refusals_differ a b e = sym (found a) ∙ ap refusal_of e ∙ found b
