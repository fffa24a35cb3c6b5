-- `layout::filter_is_finite` meets its contract.
use mathlib.Core.Path.{◌≡◌}
use mathlib.Core.Bool.{Bool, ◌&&◌}
use mathlib.Core.List.{List, ◌++◌}
use lib.Ieee.{Float}
use Rattle.drifters_matrix.specs.Matrix.{all_finite}
use Rattle.drifters_core.specs.Vec3.{to_array, finite_vec3}
use Rattle.drifters_lie.specs.Lie.{to_array_se3}
use Rattle.drifters_entry.specs.Layout.{pose_numbers, to_run, state_to_run}
use Rattle.drifters_eqf.specs.declared.filter.EqFilter.{EqFilter}
use Rattle.drifters_entry.proofs.Parts.{all_finite_append, all_finite_vec3}
use Rattle.drifters_entry.proofs.layout.filter_is_finite.Goals as goal

-- the parts one by one, those of the group element taken together
finite-filter : (f : EqFilter) (alphas : List Float) {a b d e : Bool} →
    a ≡ all_finite (pose_numbers f.x.c ++ to_array_se3 f.x.gamma ++ to_array f.x.delta ++ f.x.e.«data») → b ≡ all_finite f.sigma.«data» →
    d ≡ finite_vec3 f.gravity → e ≡ all_finite alphas → a && b && d && e ≡ all_finite (to_run f alphas)
unfolding to_run
finite-filter f alphas p q r s = rw (p, q, r, s) (simp (all_finite_append, all_finite_vec3))

pub returns : goal.returns
unfolding state_to_run
returns c =
    finite-filter c.args.filter.now c.args.alphas
    (rw (c.state_numbers-numbers.ensures, c.state_of.ensures) at c.all_finite.ensures) c.all_finite-2.ensures c.is_finite.ensures c.all_finite-3.ensures
