-- `math::runs::all_finite` meets its contract.
use mathlib.Core.Path.{◌∙◌}
use mathlib.Core.Bool.{Bool, true, ◌&&◌}
use borrow.Author.Rules.{rules}
use lib.Ieee.{Float}
use Rattle.std.proofs.lemmas.Iterator.{YieldsList-from_slice}
use Rattle.std.proofs.lemmas.Iterator.Consumers.{fold_from_yields_List}
use Rattle.drifters_real.specs.Real.{is_finite}
use Rattle.drifters_matrix.proofs.Matrix.Folds.{finite_fold}
use Rattle.drifters_matrix.proofs.math.runs.all_finite.Goals as goal

pub returns : goal.returns
returns c =
    let m = c.args.m.now in
    fold_from_yields_List _ (λ (a : Bool) (x : Float). a && is_finite x) true _ c.fold.ensures.ran (YieldsList-from_slice m c.iter.ensures.rest) (λ a x b q k. search rules)
    ∙ finite_fold m
