-- `entry::propagate_by` meets its contract.
use mathlib.Core.Path.{◌∙◌}
use Rattle.std.proofs.lemmas.Result.{err_from_is_err_and}
use Rattle.drifters_entry.specs.Entry.{performed}
use Rattle.drifters_entry.proofs.Calls.{given, given_refused}
use Rattle.drifters_entry.proofs.entry.propagate_by.Goals as goal

pub returns-in_err-filter : goal.returns-in_err-filter
unfolding performed
returns-in_err-filter c =
    let p = err_from_is_err_and c.from_residual.result c.from_residual.ensures.1 in
    rw (p.1, p.2) (given_refused c.args.run.now (rw c.from_run.ensures at c.in_err-filter.ensures))

pub returns : goal.returns
unfolding performed
returns c =
    rw c.alphas_of.ensures at c.write_filter.ensures ∙ given c.args.run.now (rw c.from_run.ensures at c.in_ok-filter.ensures)
