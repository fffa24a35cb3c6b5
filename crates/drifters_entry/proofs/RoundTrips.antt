-- The round trips between records and runs, and the lengths of the runs. A filter's run begins as a state's: its group element has the
-- state's layout. Assumes nothing.
use mathlib.Core.Path.{◌≡◌, refl, sym, ap, ◌∙◌, subst}
use mathlib.Core.List.{List, [], ◌++◌, append_assoc, append-nil}
use Prim.Native.Nat.{ℕ, suc, ◌+◌, ◌≤◌, ◌<◌}
use native.Mathlib.Numerals.{add-one, add-two}
use native.Mathlib.Omega.{arith}
use lib.ListN.{length, get_or, take, drop, length-append, length-take, length-drop, get_or-append}
use lib.Seq.{take-add, take_all, take_at, drop_at, drop-drop, drop-cons, get_or-drop}
use lib.Ieee.{Float, nan}
use Rattle.std.proofs.lemmas.List.{take-append-drop}
use Rattle.drifters_matrix.specs.Matrix.{tab}
use Rattle.drifters_core.specs.Vec3.{to_array}
use Rattle.drifters_matrix.specs.Shapes.{Mat3}
use Rattle.drifters_matrix.proofs.Matrix.Tab.{tab_is}
use Rattle.drifters_lie.specs.Lie.{mat3_of, to_array_se3, vec3_at, se3_tangent_at}
use Rattle.drifters_entry.specs.Layout.{velocity_place, position_place, gamma_place, delta_place, e_place, sigma_place, gravity_place, alpha_place, part, alphas_of, from_run, to_run, state_from_run, state_to_run, SizedFilter, SizedState, RoundTrips}
use Rattle.drifters_kind.specs.Kind.{state_length}
use Rattle.drifters_symmetry.specs.declared.group.Symmetry.{Symmetry}
use Rattle.drifters_symmetry.specs.declared.group.State.{State}
use Rattle.drifters_eqf.specs.declared.filter.EqFilter.{EqFilter}

-- a group element in the state's layout
abbrev as_state : Symmetry → State
as_state x = record { pose = x.c; bias = x.gamma; lever = x.delta; mag = x.e }

-- what stands in a filter's run after its group element
abbrev rest : EqFilter → List Float → List Float
rest f alphas = f.sigma.«data» ++ (to_array f.gravity ++ alphas)

-- a filter's run by its parts
to_run_parts : (f : EqFilter) (alphas : List Float) → to_run f alphas ≡ state_to_run (as_state f.x) ++ rest f alphas
unfolding to_run state_to_run
to_run_parts f alphas =
    let state = state_to_run (as_state f.x) in
    append_assoc (state ++ f.sigma.«data») (to_array f.gravity) alphas ∙ append_assoc state f.sigma.«data» _

-- ---- lengths

pub length_state_to_run : (xi : State) → SizedState xi → length (state_to_run xi) ≡ state_length
unfolding state_to_run
length_state_to_run xi sized = simp length-append (omega arith)

-- the group element of a filter has its sizes
sized_state : (f : EqFilter) → SizedFilter f → SizedState (as_state f.x)
sized_state f sized = record { rotation = sized.rotation; mag = sized.e }

pub length_to_run : (f : EqFilter) (alphas : List Float) → SizedFilter f → length (to_run f alphas) ≡ alpha_place + length alphas
length_to_run f alphas sized =
    let state = length_state_to_run (as_state f.x) (sized_state f sized) in
    rw to_run_parts (simp length-append (omega arith))

length_part : (v : List Float) (i n : ℕ) → i + n ≤ length v → length (part v i n) ≡ n
length_part v i n h = simp (length-take, length-drop) (omega arith)

pub sized_from_run : (run : List Float) → alpha_place ≤ length run → SizedFilter (from_run run)
unfolding from_run
sized_from_run run h = record { rotation = length_part run 0 9 (omega arith); e = length_part run e_place 9 (omega arith); sigma = length_part run sigma_place 441 (omega arith) }

-- ---- a part of a run

-- two parts that meet are one
part_add : (v : List Float) (i n m : ℕ) → part v i n ++ part v (i + n) m ≡ part v i (n + m)
part_add v i n m = rw (take-add n m (drop i v), drop-drop n i v)

-- a vector's three numbers
pub part_vec3 : (v : List Float) (i : ℕ) → i + 3 ≤ length v → to_array (vec3_at v i) ≡ part v i 3
part_vec3 v i h =
    rw (add-one, add-two, drop-cons v i nan (omega arith), drop-cons v (suc i) nan (omega arith), drop-cons v (suc (suc i)) nan (omega arith))

-- an element of se(3)'s six numbers
part_se3 : (v : List Float) (i : ℕ) → i + 6 ≤ length v → to_array_se3 (se3_tangent_at v i) ≡ part v i 6
part_se3 v i h = (λ k. part_vec3 v i (omega arith) k ++ part_vec3 v (i + 3) (omega arith) k) ∙ part_add v i 3 3

-- ---- from a run and back

-- the state read at the front of a run has the run's first numbers
state_run_front : (run : List Float) → state_length ≤ length run → state_to_run (state_from_run run) ≡ take state_length run
unfolding state_to_run state_from_run
state_run_front run h =
    rw (part_vec3 run velocity_place (omega arith), part_vec3 run position_place (omega arith), part_se3 run gamma_place (omega arith), part_vec3 run delta_place (omega arith))
    (rw (part_add run 0 velocity_place 3, part_add run 0 position_place 3, part_add run 0 gamma_place 6, part_add run 0 delta_place 3, part_add run 0 e_place 9))

state_run : (run : List Float) → length run ≡ state_length → state_to_run (state_from_run run) ≡ run
state_run run h = state_run_front run (omega arith) ∙ take_all state_length run (omega arith)

filter_run : (run : List Float) → alpha_place ≤ length run → to_run (from_run run) (alphas_of run) ≡ run
unfolding to_run from_run state_to_run state_from_run
filter_run run h =
    rw (state_run_front run (omega arith), part_vec3 run gravity_place (omega arith))
    (rw (part_add run 0 sigma_place 441, part_add run 0 gravity_place 3) (take-append-drop alpha_place run))

-- ---- from a record and back

-- a matrix entry by entry
abbrev by_entry : Mat3 → Mat3
by_entry m = mat3_of (tab 9 (λ k. get_or m.«data» k nan))

by_entry_is : (m : Mat3) → length m.«data» ≡ 9 → by_entry m ≡ m
by_entry_is m h = ap mat3_of (sym (tab_is m.«data» 9 _ h (λ k p. refl)))

-- a state with other matrices
abbrev with_matrices : State → Mat3 → Mat3 → State
with_matrices xi rotation mag = record {
  pose = record { rotation = rotation; velocity = xi.pose.velocity; position = xi.pose.position };
  bias = xi.bias;
  lever = xi.lever;
  mag = mag;
}

-- the state read at the front of a run that begins with its numbers: where the rotation's entries are known one by one, it computes
state_record_front : (xi : State) (after : List Float) → SizedState xi → state_from_run (state_to_run xi ++ after) ≡ xi
unfolding state_to_run state_from_run tab
state_record_front xi after sized =
    subst (λ (m : Mat3). state_from_run (state_to_run (with_matrices xi m xi.mag) ++ after) ≡ with_matrices xi m xi.mag)
    (by_entry_is xi.pose.rotation sized.rotation)
    (ap (λ (l : List Float). with_matrices xi (by_entry xi.pose.rotation) (mat3_of l)) (take_at xi.mag.«data» after 9 sized.mag))

state_record : (xi : State) → SizedState xi → state_from_run (state_to_run xi) ≡ xi
state_record xi sized = ap state_from_run (sym (append-nil (state_to_run xi))) ∙ state_record_front xi [] sized

-- the numbers from place n on
at_after : (run tail : List Float) (n k : ℕ) → drop n run ≡ tail → get_or run (n + k) nan ≡ get_or tail k nan
at_after run tail n k e = sym (get_or-drop n run k nan) ∙ ap (λ (l : List Float). get_or l k nan) e

module _ (f : EqFilter) (alphas : List Float) (sized : SizedFilter f) where
  after_state : drop sigma_place (to_run f alphas) ≡ rest f alphas
  after_state =
      ap (drop sigma_place) (to_run_parts f alphas)
      ∙ drop_at (state_to_run (as_state f.x)) (rest f alphas) sigma_place (length_state_to_run (as_state f.x) (sized_state f sized))

  after_sigma : drop gravity_place (to_run f alphas) ≡ to_array f.gravity ++ alphas
  after_sigma =
      sym (drop-drop 441 sigma_place (to_run f alphas)) ∙ ap (drop 441) after_state ∙ drop_at f.sigma.«data» _ 441 sized.sigma

  -- the covariance in the run
  pub sigma_at : (k : ℕ) → k < 441 → get_or (to_run f alphas) (sigma_place + k) nan ≡ get_or f.sigma.«data» k nan
  sigma_at k h = at_after (to_run f alphas) (rest f alphas) sigma_place k after_state ∙ get_or-append f.sigma.«data» _ nan k (rw sized.sigma h)

  -- the alphas after gravity
  alphas_after : alphas_of (to_run f alphas) ≡ alphas
  alphas_after = sym (drop-drop 3 gravity_place (to_run f alphas)) ∙ ap (drop 3) after_sigma

  -- gravity in the run
  gravity_at : (k : ℕ) → get_or (to_run f alphas) (gravity_place + k) nan ≡ get_or (to_array f.gravity ++ alphas) k nan
  gravity_at k = at_after (to_run f alphas) _ gravity_place k after_sigma

  filter_record : from_run (to_run f alphas) ≡ f
  unfolding from_run state_from_run
  filter_record =
      let state = ap state_from_run (to_run_parts f alphas) ∙ state_record_front (as_state f.x) (rest f alphas) (sized_state f sized) in
      λ i. record {
        x = record { c = (state i).pose; gamma = (state i).bias; delta = (state i).lever; e = (state i).mag };
        sigma = record { «data» = (ap (take 441) after_state ∙ take_at f.sigma.«data» _ 441 sized.sigma) i };
        gravity = record { x = gravity_at 0 i; y = gravity_at 1 i; z = gravity_at 2 i };
      }

pub round_trips : RoundTrips
round_trips = record { filter_run = filter_run; filter_record = filter_record; alphas_kept = alphas_after; state_run = state_run; state_record = state_record }
