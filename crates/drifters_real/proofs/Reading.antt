-- A table of readings is proved by one computed test of all its rows. Assumes nothing.
use Rattle.std.proofs.Common.{◌≡◌, ℕ, Bool, true, false, ◌&&◌, eqb, List, [], ◌∷◌, refl, eqb-true}
use mathlib.Core.Bool.{false≢true, and-eq-true_iff}
use Rattle.drifters_real.specs.Reading.{Reading, AsStated}

-- whether two lists are the same
abbrev pub same : List ℕ → List ℕ → Bool
same [] [] = true
same [] (y ∷ ys) = false
same (x ∷ xs) [] = false
same (x ∷ xs) (y ∷ ys) = eqb x y && same xs ys

-- whether what is given is what is stated, in every row
abbrev pub rows_same : List Reading → Bool
rows_same [] = true
rows_same (r ∷ rs) = same r.given r.stated && rows_same rs

same_equal : (xs ys : List ℕ) → same xs ys ≡ true → xs ≡ ys
same_equal [] [] e = refl
same_equal [] (y ∷ ys) e = absurd (false≢true e)
same_equal (x ∷ xs) [] e = absurd (false≢true e)
same_equal (x ∷ xs) (y ∷ ys) e =
    let both = (and-eq-true_iff (eqb x y) (same xs ys)).0 e in
    λ i. eqb-true x y both.0 i ∷ same_equal xs ys both.1 i

pub as_stated : (rs : List Reading) → rows_same rs ≡ true → AsStated rs
unfolding AsStated
as_stated [] e = tt
as_stated (r ∷ rs) e =
    let both = (and-eq-true_iff (same r.given r.stated) (rows_same rs)).0 e in
    (same_equal r.given r.stated both.0, as_stated rs both.1)
