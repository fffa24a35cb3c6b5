-- The laws of a try by its answer, and of the best of the tries. Assumes nothing.
use Prim.Native.Nat.{ℕ, zero, suc, ◌+◌, ◌*◌, ◌<◌, ◌≤◌}
use mathlib.Core.Path.{◌≡◌, refl, sym, ap, ap₂, ◌∙◌}
use mathlib.Core.Bool.{true, false}
use mathlib.Core.List.{List, [], ◌++◌}
use native.Mathlib.Numerals.{add-one}
use native.Mathlib.Omega.{arith}
use lib.ListN.{length, get_or, take, drop, length-take}
use lib.Seq.{get_or-take, drop-drop}
use Rattle.std.specs.Prelude.{Option, Some, None}
use Rattle.std.specs.Simd.{first_chunks}
use lib.Ieee.{Float}
use Rattle.drifters_eqf.specs.Answer.{Answer, Nis, Fine, Refused}
use Rattle.drifters_entry.specs.Entry.{Outcome, outcome, call}
use Rattle.drifters_entry.specs.Layout.{three_alphas, part}
use Rattle.drifters_kind.specs.declared.kind.Kind.TheVariants.{Direction}
use Rattle.drifters_compasses.specs.Compasses.{BestTry, reading, reading_length, direction_numbers, attempt_in, takes_place, better_by, better, best_of}
use Rattle.drifters_compasses.specs.Kept.{best_try, attempt_by, attempt_of}
use Rattle.drifters_compasses.specs.declared.compasses.Best.{Best}

-- the filter that the best so far left does not matter to the next
pub takes_place_of : (x : Float) (b : Option Best) (left : List Float) → takes_place x (best_try b []) ≡ takes_place x (best_try b left)
takes_place_of x None left = refl
takes_place_of x (Some b) left = refl

-- try i, with the answer a and the filter left
module _ (b : BestTry) (i : ℕ) {a : Answer} {left : List Float} {o : Outcome} (made : outcome a left [] ≡ o) where
  answered : (shape : Answer) → a ≡ shape → better_by b i shape left ≡ better b i o
  answered shape told = sym (ap (λ (x : Answer). better_by b i x left) told) ∙ ap (better b i) made

  pub try_refused : {n : ℕ} → a ≡ Refused n → b ≡ better b i o
  try_refused told = answered _ told

  pub try_fine : a ≡ Fine → b ≡ better b i o
  try_fine told = answered _ told

  pub try_worse : {x : Float} → a ≡ Nis x → takes_place x b ≡ false → b ≡ better b i o
  try_worse told worse = rw worse at (answered _ told)

  pub try_better : {x : Float} → a ≡ Nis x → takes_place x b ≡ true → reading i x left ≡ better b i o
  try_better told is = rw is at (answered _ told)

-- one more try
pub best_next : (attempts : ℕ → Outcome) (k : ℕ) {b : BestTry} → b ≡ best_of attempts k → better b k (attempts k) ≡ best_of attempts (k + 1)
unfolding best_of
best_next attempts k e = rw add-one (ap (λ (x : BestTry). better x k (attempts k)) e)

-- ---- the readings of a run, one by one

-- reading i of those that a run is cut into
chunk_at : (k i : ℕ) (xs : List Float) → i < k → get_or (first_chunks reading_length k xs) i [] ≡ part xs (i * reading_length) reading_length
chunk_at zero i xs h = absurd (omega arith)
chunk_at (suc k) zero xs h = refl
chunk_at (suc k) (suc i) xs h =
    let n : reading_length + i * reading_length ≡ suc i * reading_length = omega arith in
    chunk_at k i (drop reading_length xs) (omega arith) ∙ ap (take reading_length) (drop-drop (i * reading_length) reading_length xs ∙ ap (λ (j : ℕ). drop j xs) n)

-- the best of tries that are alike
best_same : (f g : ℕ → Outcome) (k : ℕ) → ((i : ℕ) → i < k → f i ≡ g i) → best_of f k ≡ best_of g k
unfolding best_of
best_same f g zero h = refl
best_same f g (suc k) h = ap₂ (λ (b : BestTry) (o : Outcome). better b k o) (best_same f g k (λ i p. h i (omega arith))) (h k (omega arith))

-- the best of the first k readings of a run, which is cut into n
pub best_of_first : (run readings north_noise : List Float) (n k : ℕ) {cut : List (List Float)} → cut ≡ first_chunks reading_length n readings → length cut ≡ n → k ≤ n →
    best_of (attempt_of run (take k cut) north_noise) (length (take k cut)) ≡ best_of (attempt_in three_alphas run readings north_noise) k
unfolding attempt_by attempt_in direction_numbers
best_of_first run readings north_noise n k {cut} is long le =
    let m : length (take k cut) ≡ k = simp (length-take) (omega arith) in
    ap (best_of (attempt_of run (take k cut) north_noise)) m
    ∙ best_same _ _ k (λ i p. ap (λ (one : List Float). call Direction run (one ++ north_noise) [])
    (get_or-take k cut i [] p ∙ ap (λ (c : List (List Float)). get_or c i []) is ∙ chunk_at n i readings (omega arith)))
