-- `layout::state_numbers` meets its contract.
use mathlib.Core.Path.{◌≡◌, refl, sym}
use mathlib.Core.List.{List, [], ◌∷◌, ◌++◌}
use borrow.Author.Rules.{rules}
use lib.ListN.{length, get_or}
use lib.Ieee.{Float, nan}
use Rattle.drifters_matrix.specs.Matrix.{tab}
use Rattle.drifters_core.specs.Vec3.{to_array}
use Rattle.drifters_lie.specs.Lie.{to_array_se3}
use Rattle.drifters_entry.specs.Layout.{state_to_run}
use Rattle.drifters_matrix.proofs.Matrix.Tab.{tab_is}
use Rattle.drifters_entry.proofs.layout.state_numbers.Goals as goal

-- nine numbers one by one
nine : (m : List Float) → length m ≡ 9 →
    get_or m 0 nan ∷ get_or m 1 nan ∷ get_or m 2 nan ∷ get_or m 3 nan ∷ get_or m 4 nan ∷ get_or m 5 nan ∷ get_or m 6 nan ∷ get_or m 7 nan ∷ get_or m 8 nan ∷ [] ≡ m
unfolding tab
nine m h = sym (tab_is m 9 (λ k. get_or m k nan) h (λ k p. refl))

pub returns : goal.returns
unfolding state_to_run
returns c =
    let a = c.args.state in
    let h : length a.pose.rotation.«data» ≡ 9 = search rules depth 9 in
    let k : length a.mag.«data» ≡ 9 = search rules depth 9 in
    λ i. nine a.pose.rotation.«data» h i ++ to_array a.pose.velocity ++ to_array a.pose.position ++ to_array_se3 a.bias ++ to_array a.lever ++ nine a.mag.«data» k i
