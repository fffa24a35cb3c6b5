-- A filter with one alpha, changed over to one with an alpha for each sensor, and back, on lent runs. Definitions only.
use Rattle.std.specs.Prelude.{Bool, ◌&&◌, cond, List, [], ◌∷◌, ◌++◌, eqb, length, get_or, take, Float}
use Rattle.std.specs.Float.{nan, binary64}
use Rattle.std.specs.Float.Ieee.{to_bits}
use Rattle.drifters_matrix.specs.Matrix.{all_finite}
use Rattle.drifters_eqf.specs.Answer.{Fine, length_refusal, blank_refusal, unequal_refusal}
use Rattle.drifters_entry.specs.Layout.{alpha_place, filter_length, one_alpha_length, three_alphas}
use Rattle.drifters_entry.specs.Entry.{Outcome, outcome, refused}

-- a filter with one alpha, changed over: its alpha, which stands last, two times more
unfoldable pub upgraded : List Float → List Float
upgraded run = let alpha = get_or run alpha_place nan in run ++ (alpha ∷ alpha ∷ [])

-- a filter changed back: the first of its alphas, which are equal
unfoldable pub downgraded : List Float → List Float
downgraded run = take one_alpha_length run

-- two numbers have the same bits: +0 and -0 have not
abbrev pub equal_bits : Float → Float → Bool
equal_bits x y = eqb (to_bits binary64 x) (to_bits binary64 y)

-- the alphas of a filter have the same bits
unfoldable pub alphas_equal : List Float → Bool
alphas_equal run =
    let alpha = get_or run three_alphas.position nan in
    equal_bits alpha (get_or run three_alphas.velocity nan) && equal_bits alpha (get_or run three_alphas.direction nan)

-- what changing over gives, into the run `written`
unfoldable pub upgrade : List Float → List Float → Outcome
upgrade run written =
    cond (eqb (length run) one_alpha_length && eqb (length written) filter_length)
    (cond (all_finite run) (outcome Fine run (upgraded run)) (refused blank_refusal run written))
    (refused length_refusal run written)

-- what changing back gives, into the run `written`
unfoldable pub downgrade : List Float → List Float → Outcome
downgrade run written =
    cond (eqb (length run) filter_length && eqb (length written) one_alpha_length)
    (cond (all_finite run) (cond (alphas_equal run) (outcome Fine run (downgraded run)) (refused unequal_refusal run written)) (refused blank_refusal run written))
    (refused length_refusal run written)
