-- Tables of readings: what a definition gives, and what is stated of it. Definitions only.
use Rattle.std.specs.Prelude.{◌≡◌, ℕ, List, [], ◌∷◌}

-- a row: what is given and what is stated, as numbers
pub record Reading : Type 0 where
  pub given : List ℕ
  pub stated : List ℕ

-- a row of its parts
abbrev pub reads : List ℕ → List ℕ → Reading
reads given stated = record { given = given; stated = stated }

-- in every row what is given is what is stated
unfoldable pub AsStated : List Reading → Type 0
AsStated [] = Unit
AsStated (r ∷ rs) = (r.given ≡ r.stated) × AsStated rs
