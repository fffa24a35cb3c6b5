-- `compasses::update_compasses` meets its contract.
use Prim.Native.Nat.{ℕ}
use mathlib.Core.Path.{◌≡◌, sym, ap, ap₂, ◌∙◌}
use mathlib.Core.Bool.{not, ◌&&◌}
use mathlib.Core.List.{List}
use lib.ListN.{length, take}
use lib.Ieee.{Float}
use Rattle.std.specs.Prelude.{◌/◌}
use Rattle.std.specs.Simd.{first_chunks}
use Rattle.std.proofs.lemmas.Result.{err_from_is_err_and}
use Rattle.drifters_entry.proofs.Calls.{refused_none}
use Rattle.drifters_compasses.specs.Compasses.{BestTry, reading_length, tried, attempt_in, best_of}
use Rattle.drifters_entry.specs.Layout.{three_alphas}
use Rattle.drifters_compasses.specs.Kept.{attempt_of}
use Rattle.drifters_compasses.proofs.Tried.{tried_bounds}
use Rattle.drifters_compasses.proofs.Tries.{best_of_first}
use Rattle.drifters_compasses.proofs.Calls.{run_refused, north_noise_refused, readings_refused, blank_refused, best_applied, none_applied}
use Rattle.drifters_compasses.proofs.compasses.update_compasses.Goals as goal

pub returns-in_err-run : goal.returns-in_err-run
returns-in_err-run c =
    let p = err_from_is_err_and c.from_residual.result c.from_residual.ensures.1 in
    rw (p.1, p.2, refused_none c.as_mut_array.result c.ok_or.ensures.value c.in_err-run.was) (run_refused _ _ _ _ (rw (c.ok_or.ensures.ok_part, c.in_err-run.was) at c.as_mut_array.ensures.cases))

pub returns-in_err-north_noise : goal.returns-in_err-north_noise
returns-in_err-north_noise c =
    let p = err_from_is_err_and c.from_residual-in_err-north_noise.result c.from_residual-in_err-north_noise.ensures.1 in
    let whole = rw (c.ok_or.ensures.ok_part, c.in_ok-run.was) at c.as_mut_array.ensures.cases in
    rw (p.1, p.2, refused_none c.as_array.result c.ok_or-2.ensures.value c.in_err-north_noise.was, whole.same) (north_noise_refused _ _ _ _ (rw (c.ok_or-2.ensures.ok_part, c.in_err-north_noise.was) at c.as_array.ensures.cases))

pub returns-then-not-readings_fit : goal.returns-then-not-readings_fit
returns-then-not-readings_fit c =
    let whole = rw (c.ok_or.ensures.ok_part, c.in_ok-run.was) at c.as_mut_array.ensures.cases in
    let north = rw (c.ok_or-2.ensures.ok_part, c.in_ok-north_noise.was) at c.as_array.ensures.cases in
    rw whole.same (readings_refused _ _ _ _ whole.long north.long (sym c.readings_fit.ensures ∙ c.if-not-readings_fit.true))

pub returns-then-not-all_finite : goal.returns-then-not-all_finite
returns-then-not-all_finite c =
    let whole = rw (c.ok_or.ensures.ok_part, c.in_ok-run.was) at c.as_mut_array.ensures.cases in
    let north = rw (c.ok_or-2.ensures.ok_part, c.in_ok-north_noise.was) at c.as_array.ensures.cases in
    rw whole.same
    (blank_refused _ _ _ _ whole.long north.long (sym c.readings_fit.ensures ∙ c.if-not-readings_fit.false)
    (sym (ap₂ ◌&&◌ (rw whole.same at c.all_finite.ensures) (rw north.same at c.all_finite-2.ensures)) ∙ c.if-not-all_finite.true))

-- the first readings are those that the run is cut into
first : (run readings north_noise : List Float) (budget : ℕ) {b : BestTry} {cut : List (List Float)} {k : ℕ} → cut ≡ first_chunks reading_length (length readings / reading_length) readings
    → length cut ≡ length readings / reading_length → k ≡ tried budget (length readings / reading_length)
    → b ≡ best_of (attempt_of run (take k cut) north_noise) (length (take k cut)) → b ≡ best_of (attempt_in three_alphas run readings north_noise) k
first run readings north_noise budget {k = k} is long few e =
    e ∙ best_of_first run readings north_noise (length readings / reading_length) k is long (rw few (tried_bounds.count budget (length readings / reading_length)))

pub returns-then-is_none : goal.returns-then-is_none
unfolding tried
returns-then-is_none c =
    let whole = rw (c.ok_or.ensures.ok_part, c.in_ok-run.was) at c.as_mut_array.ensures.cases in
    let north = rw (c.ok_or-2.ensures.ok_part, c.in_ok-north_noise.was) at c.as_array.ensures.cases in
    let few = rw c.as_chunks.ensures.front_len at c.min-tried.ensures in
    rw whole.same
    (none_applied _ _ _ _ whole.long north.long (sym c.readings_fit.ensures ∙ c.if-not-readings_fit.false) _ c.best_of-best.result
    (sym (ap₂ ◌&&◌ (rw whole.same at c.all_finite.ensures) (rw north.same at c.all_finite-2.ensures)) ∙ c.if-not-all_finite.false)
    few (first _ c.args.readings.now _ c.args.budget c.as_chunks.ensures.front c.as_chunks.ensures.front_len few (rw (whole.same, north.same) at c.best_of-best.ensures))
    (c.is_none.ensures ∙ ap not c.if-is_none.true))

pub returns : goal.returns
unfolding tried
returns c =
    let whole = rw (c.ok_or.ensures.ok_part, c.in_ok-run.was) at c.as_mut_array.ensures.cases in
    let north = rw (c.ok_or-2.ensures.ok_part, c.in_ok-north_noise.was) at c.as_array.ensures.cases in
    let few = rw c.as_chunks.ensures.front_len at c.min-tried.ensures in
    best_applied _ _ _ _ whole.long north.long (sym c.readings_fit.ensures ∙ c.if-not-readings_fit.false) _ c.best_of-best.result
    (sym (ap₂ ◌&&◌ (rw whole.same at c.all_finite.ensures) (rw north.same at c.all_finite-2.ensures)) ∙ c.if-not-all_finite.false)
    few (first _ c.args.readings.now _ c.args.budget c.as_chunks.ensures.front c.as_chunks.ensures.front_len few (rw (whole.same, north.same) at c.best_of-best.ensures))
    (c.is_none.ensures ∙ ap not c.if-is_none.false)
