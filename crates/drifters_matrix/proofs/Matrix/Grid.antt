-- Rows and columns in a flat list. Assumes nothing.
use mathlib.Core.Path.{◌≡◌, refl, sym, ap, ◌∙◌, subst}
use mathlib.Core.Bool.{Bool, true, false}
use mathlib.Core.List.{List}
use mathlib.Core.Logic.{◌⊎◌, inl, inr, ⊎_elim}
use Prim.Native.Nat.{ℕ, ◌+◌, ◌*◌, ◌/◌, ◌%◌, ◌≤◌, ◌<◌}
use native.Mathlib.Nat.{eq-zero-or-pos, mul-zero, not-suc-le-zero, add_assoc, zero-mul, mul-le-mul_right, add-zero, suc-mul, div-lt_iff_lt-mul, mod-lt, div-add-mod'}
use native.Mathlib.Numerals.{add-one}
use native.Mathlib.Omega.{arith}
use borrow.Author.Tests.{ltb-true, ltb-false}
use lib.Dec.{ltb}
use lib.Ieee.{Float, nan}
use lib.ListN.{length, get_or, set}
use Rattle.std.proofs.lemmas.Nat.{div-mul-add, mod-mul-add}
use Rattle.drifters_matrix.specs.Matrix.{tab, matrix, at}
use Rattle.drifters_matrix.proofs.Matrix.Tab.{Filled, filled_set, get_d_tab, length_tab, tab_is, front, front_zero, step_done}

-- row i of r rows of c lies within r * c
pub row_in : (i r c : ℕ) → i < r → i * c + c ≤ r * c
row_in i r c h = omega (arith, mul-le-mul_right c h, suc-mul i c)

pub at_in : (i j r c : ℕ) → i < r → j < c → i * c + j < r * c
at_in i j r c h k = omega (arith, row_in i r c h)

pub length_matrix : (r c : ℕ) (f : ℕ → ℕ → Float) → length (matrix r c f) ≡ r * c
unfolding matrix
length_matrix r c f = length_tab (r * c) (λ n. f (n / c) (n % c))

-- entry (i, j) of `matrix r c f` is f i j
pub entry : (r c : ℕ) (f : ℕ → ℕ → Float) (i j : ℕ) → i < r → j < c → get_or (matrix r c f) (i * c + j) nan ≡ f i j
unfolding matrix
entry r c f i j h k =
    get_d_tab (r * c) (λ n. f (n / c) (n % c)) (i * c + j) nan (at_in i j r c h k) ∙ rw (div-mul-add i c j k, mod-mul-add i c j k)

-- a function of row and column as one of the place in the flat list
abbrev pub by_row : ℕ → (ℕ → ℕ → Float) → ℕ → Float
by_row c f n = f (n / c) (n % c)

pub row_next : (i c : ℕ) → (i + 1) * c ≡ i * c + c
row_next i c = rw add-one (suc-mul i c)

-- where a loop over the rows begins, and where it ends
pub rows_none : (f : ℕ → Float) (c : ℕ) (o : List Float) → o ≡ front (0 * c) f o
rows_none f c o = rw zero-mul (sym (front_zero f o))

pub rows_done : (f : ℕ → ℕ → Float) (i r c : ℕ) (o : List Float) {l : List Float} → l ≡ front (i * c) (by_row c f) o → i ≡ r → length o ≡ r * c → l ≡ matrix r c f
unfolding matrix
rows_done f i r c o e h k = step_done (i * c) (by_row c f) o e (ap (λ (m : ℕ). m * c) h ∙ sym k) ∙ ap (λ (m : ℕ). tab m (by_row c f)) k

-- What a loop that writes a matrix of c columns entry by entry, row by row, keeps: the entries before (i, j) are those of f. What l held before does not matter.
pub record Entries (c : ℕ) (f : ℕ → ℕ → Float) (i j : ℕ) (l : List Float) : Type 0 where
  pub filled : Filled (i * c + j) (by_row c f) l

pub entries_set : {c : ℕ} {f : ℕ → ℕ → Float} {i j : ℕ} {l : List Float} {v : Float} → Entries c f i j l → j < c → i * c + j < length l → v ≡ f i j →
    Entries c f i (j + 1) (set l (i * c + j) v)
entries_set {c} {f} {i} {j} {l} {v} w h k e =
    record { filled = rw (← add_assoc) (filled_set (i * c + j) (by_row c f) l v k (e ∙ sym (rw (div-mul-add i c j h, mod-mul-add i c j h))) w.filled) }

pub entries_done : {r c : ℕ} {f : ℕ → ℕ → Float} {i : ℕ} {l : List Float} → Entries c f i 0 l → i ≡ r → length l ≡ r * c → l ≡ matrix r c f
unfolding matrix
entries_done {r} {c} {f} {i} {l} w e h =
    tab_is l (r * c) (by_row c f) h (subst (λ (m : ℕ). Filled (m * c) (by_row c f) l) e (rw add-zero at w.filled))

pub lt_or_le : (a b : ℕ) → (a < b) ⊎ (b ≤ a)
lt_or_le a b = go (ltb a b) refl
  where
    go : (t : Bool) → ltb a b ≡ t → (a < b) ⊎ (b ≤ a)
    go true e = inl (ltb-true a b e)
    go false e = inr (ltb-false a b e)

-- a list is `matrix r c f` where it has its length and its entries
pub matrix_is : (r c : ℕ) (f : ℕ → ℕ → Float) (l : List Float) → length l ≡ r * c → ((i j : ℕ) → i < r → j < c → at c l i j ≡ f i j) → l ≡ matrix r c f
unfolding matrix
matrix_is r c f l e h =
    tab_is l (r * c) (by_row c f) e
    (λ k p.
    let z : 0 < c = ⊎_elim (λ (y : c ≡ 0). absurd (not-suc-le-zero (rw (mul-zero) at (rw y at p)))) (λ (y : 0 < c). y) (eq-zero-or-pos c) in
    ap (λ (m : ℕ). get_or l m nan) (sym (div-add-mod' k c)) ∙ h (k / c) (k % c) ((div-lt_iff_lt-mul z).1 p) (mod-lt k z))

-- two matrices of equal entries
pub matrix_ext : (r c : ℕ) (f g : ℕ → ℕ → Float) → ((i j : ℕ) → i < r → j < c → f i j ≡ g i j) → matrix r c f ≡ matrix r c g
matrix_ext r c f g h = matrix_is r c g (matrix r c f) (length_matrix r c f) (λ i j p q. entry r c f i j p q ∙ h i j p q)
