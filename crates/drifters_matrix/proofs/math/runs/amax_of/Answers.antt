-- `math::runs::amax_of` meets its contract.
use mathlib.Core.Path.{◌∙◌}
use borrow.Author.Rules.{rules}
use Rattle.std.proofs.lemmas.Iterator.{YieldsList-from_slice}
use Rattle.std.proofs.lemmas.Iterator.Consumers.{fold_from_yields_List}
use Rattle.drifters_real.specs.Scalar.{plus_zero}
use Rattle.drifters_matrix.specs.Matrix.{larger}
use Rattle.drifters_matrix.proofs.Matrix.Folds.{amax_fold}
use Rattle.drifters_matrix.proofs.math.runs.amax_of.Goals as goal

pub returns : goal.returns
returns c =
    let m = c.args.m.now in
    fold_from_yields_List _ larger plus_zero _ c.fold.ensures.ran (YieldsList-from_slice m c.iter.ensures.rest) (λ a x b q k. search rules) ∙ amax_fold m
