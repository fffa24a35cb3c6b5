-- What is known of what the calls of every kind ask. A new kind is a line of `kind_laws`; what follows from these laws names no kind. Assumes nothing.
use Prim.Native.Nat.{ℕ}
use mathlib.Core.Path.{◌≡◌, refl, sym, ap, ◌∙◌}
use mathlib.Core.Bool.{Bool, true, false, false≢true}
use mathlib.Core.List.{List}
use Rattle.std.specs.Prelude.{Option, Some, None}
use lib.ListN.{get_or}
use lib.Ieee.{Float, nan}
use Rattle.drifters_lie.specs.Lie.{vec3_at}
use Rattle.drifters_eqf.specs.Filter.{Measurement, measured_direction}
use Rattle.drifters_entry.specs.Layout.{Layout, part, from_run}
use Rattle.drifters_kind.specs.Kind.{state_length, written_length}
use Rattle.drifters_entry.specs.Entry.{Request, refusal, propagation, measurement, estimate, direction_request, request_in}
use Rattle.drifters_kind.specs.declared.kind.Kind.{Kind}
use Rattle.drifters_kind.specs.declared.kind.Kind.TheVariants.{Propagate, Position, Velocity, Direction, General, State, Scalar}

-- how many numbers what is asked writes beside the filter
abbrev pub written_by : Request → ℕ
written_by (refusal n) = 0
written_by (propagation u dt q) = 0
written_by (measurement w m noise alpha) = 0
written_by estimate = state_length

-- what the calls of a kind ask writes as many numbers as they do, and only the calls of `State` ask for the estimate
pub record KindLaws (kind : Kind) : Type 0 where
  pub writes : (l : Layout) (run v : List Float) → written_length kind ≡ written_by (request_in l kind run v)
  pub asks : (l : Layout) (run v : List Float) → request_in l kind run v ≡ estimate → kind ≡ State

-- whether what is asked is the estimate
abbrev is_estimate : Request → Bool
is_estimate (refusal n) = false
is_estimate (propagation u dt q) = false
is_estimate (measurement w m noise alpha) = false
is_estimate estimate = true

never : {A : Type 0} → false ≡ true → A
never e = absurd (false≢true e)

-- what a direction asks, be it measured or not
direction_writes : (m : Option Measurement) (noise : List Float) (alpha : Float) → 0 ≡ written_by (direction_request m noise alpha)
direction_writes None noise alpha = refl
direction_writes (Some m) noise alpha = refl

direction_asks : (m : Option Measurement) (noise : List Float) (alpha : Float) → is_estimate (direction_request m noise alpha) ≡ false
direction_asks None noise alpha = refl
direction_asks (Some m) noise alpha = refl

pub kind_laws : (kind : Kind) → KindLaws kind
kind_laws Propagate = record { writes = λ l run v. refl; asks = λ l run v e. never (ap is_estimate e) }
kind_laws Position = record { writes = λ l run v. refl; asks = λ l run v e. never (ap is_estimate e) }
kind_laws Velocity = record { writes = λ l run v. refl; asks = λ l run v e. never (ap is_estimate e) }
kind_laws Direction = record {
  writes = λ l run v. direction_writes (measured_direction (from_run run).x (vec3_at v 0) (vec3_at v 3)) (part v 6 9) (get_or run l.direction nan);
  asks = λ l run v e. never (sym (direction_asks (measured_direction (from_run run).x (vec3_at v 0) (vec3_at v 3)) (part v 6 9) (get_or run l.direction nan)) ∙ ap is_estimate e);
}
kind_laws General = record { writes = λ l run v. refl; asks = λ l run v e. never (ap is_estimate e) }
kind_laws State = record { writes = λ l run v. refl; asks = λ l run v e. refl }
kind_laws Scalar = record { writes = λ l run v. refl; asks = λ l run v e. never (ap is_estimate e) }
