-- How many entries the matrices of a new filter and of its estimate have, and that a new covariance is symmetrized. Assumes nothing.
use Prim.Native.Nat.{ℕ, ◌*◌}
use mathlib.Core.Path.{◌≡◌, refl}
use mathlib.Core.Bool.{Bool, true, false, cond}
use mathlib.Core.List.{List}
use lib.ListN.{length}
use lib.Ieee.{Float}
use Rattle.drifters_matrix.specs.Matrix.{matmul, symmetrize}
use Rattle.drifters_matrix.proofs.Matrix.Grid.{length_matrix}
use Rattle.drifters_lie.specs.Lie.{compose_se23}
use Rattle.drifters_symmetry.specs.Group.{compose, act_state}
use Rattle.drifters_cholesky.specs.Cholesky.{definite}
use Rattle.drifters_eqf.specs.Filter.{Answered, turn_fits, nav_state, half_step, full_step, propagated_sigma, propagated, propagate, raw_factor, inflated_factor, Correction, step, corrected, applied, update}
use Rattle.drifters_entry.specs.Layout.{SizedFilter, SizedState}
use Rattle.drifters_symmetry.specs.declared.group.Symmetry.{Symmetry}
use Rattle.drifters_symmetry.specs.declared.lift.Input.{Input}
use Rattle.drifters_covariance.specs.declared.covariance.ProcessNoise.{ProcessNoise}
use Rattle.drifters_eqf.specs.declared.filter.EqFilter.{EqFilter}

length_matmul : (r c d : ℕ) (a b : List Float) → length (matmul r c d a b) ≡ r * d
unfolding matmul
length_matmul r c d a b = length_matrix r d _

length_symmetrize : (n : ℕ) (m : List Float) → length (symmetrize n m) ≡ n * n
unfolding symmetrize
length_symmetrize n m = length_matrix n n _

compose_rotation : (x y : Symmetry) → length (compose x y).c.rotation.«data» ≡ 9
unfolding compose compose_se23
compose_rotation x y = length_matmul 3 3 3 x.c.rotation.«data» y.c.rotation.«data»

compose_e : (x y : Symmetry) → length (compose x y).e.«data» ≡ 9
unfolding compose
compose_e x y = length_matmul 3 3 3 x.e.«data» y.e.«data»

-- a covariance that is symmetrized
abbrev pub Symmetrized : List Float → Type 0
Symmetrized sigma = (m : List Float) × (sigma ≡ symmetrize 21 m)

length_symmetrized : (sigma : List Float) → Symmetrized sigma → length sigma ≡ 441
length_symmetrized sigma s = rw s.1 (length_symmetrize 21 s.0)

pub symmetrized_propagated : (f : EqFilter) (u : Input) (dt : Float) (q : ProcessNoise) → Symmetrized (propagated f u dt q).sigma.«data»
unfolding propagated propagated_sigma
symmetrized_propagated f u dt q = (_, refl)

pub symmetrized_corrected : (f : EqFilter) (u : Correction) → Symmetrized (corrected f u).sigma.«data»
unfolding corrected
symmetrized_corrected f u = (_, refl)

pub sized_propagated : (f : EqFilter) (u : Input) (dt : Float) (q : ProcessNoise) → SizedFilter (propagated f u dt q)
unfolding propagated
sized_propagated f u dt q =
    record { rotation = compose_rotation _ _; e = compose_e _ _; sigma = length_symmetrized _ (symmetrized_propagated f u dt q) }

pub sized_corrected : (f : EqFilter) (u : Correction) → SizedFilter (corrected f u)
unfolding corrected
sized_corrected f u = record { rotation = compose_rotation _ _; e = compose_e _ _; sigma = length_symmetrized _ (symmetrized_corrected f u) }

-- what one of two tests chooses
sized_cond : (b : Bool) (a z : Answered) → SizedFilter a.filter → SizedFilter z.filter → SizedFilter (cond b a z).filter
sized_cond true a z h k = h
sized_cond false a z h k = k

pub sized_propagate : (f : EqFilter) (u : Input) (dt : Float) (q : ProcessNoise) → SizedFilter f → SizedFilter (propagate f u dt q).filter
unfolding propagate
sized_propagate f u dt q h = sized_cond (turn_fits (half_step f u dt)) _ _ (sized_cond (turn_fits (full_step f u dt)) _ _ (sized_propagated f u dt q) h) h

pub sized_update : (w : ℕ) (f : EqFilter) (c y noise : List Float) (alpha : Float) → SizedFilter f → SizedFilter (update w f c y noise alpha).filter
unfolding update applied
sized_update w f c y noise alpha h =
    sized_cond (definite (raw_factor w f c noise)) _ _
    (sized_cond (definite (inflated_factor w f c y noise alpha)) _ _ (sized_cond (turn_fits (step _)) _ _ (sized_corrected f _) h) h) h

pub sized_nav_state : (f : EqFilter) → SizedState (nav_state f)
unfolding nav_state act_state compose_se23
sized_nav_state f = record { rotation = length_matmul 3 3 3 _ _; mag = length_matmul 3 3 3 _ _ }
