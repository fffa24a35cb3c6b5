-- What the code makes of a call before the filter is touched; only private contracts cite it. Definitions only.
use Rattle.std.specs.Prelude.{ℕ, ◌&&◌, cond, List, Float, Result, Ok, Err}
use Rattle.drifters_matrix.specs.Matrix.{all_finite}
use Rattle.drifters_eqf.specs.Answer.{refusal_number}
use Rattle.drifters_eqf.specs.Filter.{measurement3}
use Rattle.drifters_eqf.specs.declared.answer.Refusal.{Refusal}
use Rattle.drifters_eqf.specs.declared.answer.Refusal.TheVariants.{Length, Blank}
use Rattle.drifters_entry.specs.Entry.{Request, refusal, propagation, measurement, estimate, lengths_fit}
use Rattle.drifters_kind.specs.declared.kind.Form.{Form}
use Rattle.drifters_entry.specs.declared.entry.Asked.{Asked}
use Rattle.drifters_entry.specs.declared.entry.Asked.TheVariants.{Propagate, Update1, Update3, Estimate}

-- the refusal of a call of a form by length or blank, where its run to be written has n numbers
abbrev pub first_refusal : Form → List Float → List Float → ℕ → Result (Unit {0}) Refusal
first_refusal form run v n = cond (lengths_fit form run v n) (cond (all_finite run && all_finite v) (Ok tt) (Err Blank)) (Err Length)

-- what is asked of a filter
abbrev pub as_request : Asked → Request
as_request (Propagate u dt q) = propagation u dt q
as_request (Update1 c innovation variance alpha) = measurement 1 (record { output = c.«data»; innovation = innovation.«data» }) variance.«data» alpha
as_request (Update3 m noise alpha) = measurement 3 (measurement3 m) noise.«data» alpha
as_request Estimate = estimate

-- the same, or a refusal by a check of a kind's own
abbrev pub request_by : Result Asked Refusal → Request
request_by (Ok a) = as_request a
request_by (Err r) = refusal (refusal_number r)
