-- `input_columns` meets its contract.
use mathlib.Core.Path.{◌∙◌}
use mathlib.Core.List.{[]}
use borrow.Author.Rules.{rules}
use Rattle.drifters_matrix.proofs.Matrix.Made.{made_is}
use Rattle.drifters_matrix.proofs.Matrix.ByColumns.{columns_are}
use Rattle.drifters_covariance.specs.Covariance.{input_column}
use Rattle.drifters_covariance.proofs.covariance.input_columns.Goals as goal

pub returns : goal.returns
returns c =
    let column = input_column c.args.x c.args.estimate in
    c.from_columns.ensures ∙ columns_are 21 6 column (made_is [] column c.from_fn.ensures.items (λ k y q l e. search rules))
