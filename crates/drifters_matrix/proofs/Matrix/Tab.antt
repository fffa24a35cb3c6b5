-- The laws of `tab`, and of a list whose first places hold such values. Assumes nothing.
use mathlib.Core.Path.{◌≡◌, refl, sym, ap, ◌∙◌, subst}
use mathlib.Core.List.{List, [], ◌∷◌, ◌++◌, append_assoc, append-nil}
use mathlib.Core.Logic.{⊎_elim}
use Prim.Native.Nat.{ℕ, zero, suc, ◌+◌, ◌<◌}
use native.Mathlib.Nat.{le_of_suc-le-suc, not-suc-le-zero, eq-or-lt_of_le, add-zero, add-suc}
use native.Mathlib.Numerals.{add-one}
use native.Mathlib.Omega.{arith}
use borrow.Author.Count.{below_none, below_more}
use lib.ListN.{length, get_or, take, drop, set, length-append, get_or-append, replicate, length-replicate, get_or-replicate}
use lib.Seq.{get_or-set_same, get_or-set_other, get_or_at, set_at, drop-cons, append_snoc, ext_get_or, get_or-append-add, get_or-drop, drop-length, drop-drop, take_at, drop_at}
use lib.Ieee.{Float, nan}
use Rattle.drifters_matrix.specs.Matrix.{tab}

pub length_tab : {A : Type 0} (n : ℕ) (f : ℕ → A) → length (tab n f) ≡ n
unfolding tab
length_tab zero f = refl
length_tab (suc n) f = length-append (tab n f) (f n ∷ []) ∙ add-one (length (tab n f)) ∙ ap suc (length_tab n f)

pub get_d_tab : {A : Type 0} (n : ℕ) (f : ℕ → A) (k : ℕ) (d : A) → k < n → get_or (tab n f) k d ≡ f k
unfolding tab
get_d_tab zero f k d h = absurd (not-suc-le-zero h)
get_d_tab (suc n) f k d h =
    ⊎_elim
    (λ (e : k ≡ n). rw e (get_or_at (tab n f) (f n) [] d n (length_tab n f)))
    (λ (l : k < n). get_or-append (tab n f) (f n ∷ []) d k (rw length_tab l) ∙ get_d_tab n f k d l)
    (eq-or-lt_of_le (le_of_suc-le-suc h))

-- a list is the table of f where it has its length and its values
pub tab_is : (l : List Float) (n : ℕ) (f : ℕ → Float) → length l ≡ n → ((k : ℕ) → k < n → get_or l k nan ≡ f k) → l ≡ tab n f
tab_is l n f e h =
    ext_get_or nan l (tab n f) (e ∙ sym (length_tab n f))
    (λ k p. let q : k < n = subst (λ (m : ℕ). k < m) e p in h k q ∙ sym (get_d_tab n f k nan q))

pub tab_ext : (n : ℕ) (f g : ℕ → Float) → ((k : ℕ) → k < n → f k ≡ g k) → tab n f ≡ tab n g
tab_ext n f g h = tab_is (tab n f) n g (length_tab n f) (λ k p. get_d_tab n f k nan p ∙ h k p)

-- every list is the table of its elements
pub tab_get_d : (l : List Float) → l ≡ tab (length l) (λ k. get_or l k nan)
tab_get_d l = tab_is l (length l) (λ k. get_or l k nan) refl (λ k p. refl)

pub tab_replicate : (n : ℕ) (v : Float) → replicate n v ≡ tab n (λ k. v)
tab_replicate n v = tab_is (replicate n v) n (λ k. v) (length-replicate n v) (λ k p. get_or-replicate n k v nan p)

-- the list o with its first p elements replaced by those of f
abbrev pub front : {A : Type 0} → ℕ → (ℕ → A) → List A → List A
front p f o = tab p f ++ drop p o

pub front_zero : {A : Type 0} (f : ℕ → A) (o : List A) → front 0 f o ≡ o
unfolding tab
front_zero f o = refl

pub front_all : {A : Type 0} (f : ℕ → A) (o : List A) → front (length o) f o ≡ tab (length o) f
front_all f o = rw drop-length (append-nil (tab (length o) f))

-- the element after the first p is still the old one
pub front_get : (p : ℕ) (f : ℕ → Float) (o : List Float) → get_or (front p f o) p nan ≡ get_or o p nan
front_get p f o =
    subst (λ (m : ℕ). get_or (front p f o) m nan ≡ get_or o p nan) (simp length_tab (add-zero p))
    (get_or-append-add (tab p f) (drop p o) 0 nan ∙ get_or-drop p o 0 nan ∙ ap (λ (m : ℕ). get_or o m nan) (add-zero p))

-- one more element is stored
pub front_set : {A : Type 0} (p : ℕ) (f : ℕ → A) (o : List A) (v : A) → p < length o → v ≡ f p → set (front p f o) p v ≡ front (p + 1) f o
unfolding tab
front_set p f o v h e =
    rw (add-one, drop-cons o p v h, e)
    (set_at (tab p f) (get_or o p (f p)) (drop (suc p) o) (f p) p (length_tab p f) ∙ sym (append_snoc (tab p f) (f p) (drop (suc p) o)))

pub tab_add : {A : Type 0} (p n : ℕ) (f : ℕ → A) → tab (p + n) f ≡ tab p f ++ tab n (λ j. f (p + j))
unfolding tab
tab_add p zero f = rw (add-zero, append-nil)
tab_add p (suc n) f = rw (add-suc, tab_add p n f) (append_assoc (tab p f) (tab n (λ j. f (p + j))) (f (p + n) ∷ []))

-- a part of n elements after the first p, lent and come back with the next values of f
pub front_part : {A : Type 0} (p n : ℕ) (f : ℕ → A) (o : List A) →
    take p (front p f o) ++ (tab n (λ j. f (p + j)) ++ drop n (drop p (front p f o))) ≡ front (p + n) f o
front_part p n f o =
    rw (take_at (tab p f) (drop p o) p (length_tab p f), drop_at (tab p f) (drop p o) p (length_tab p f), drop-drop n p o, tab_add p n f)
    (sym (append_assoc (tab p f) (tab n (λ j. f (p + j))) (drop (p + n) o)))

-- a step of a loop that goes up a list: l is o with its first p elements replaced
pub step_get : (p : ℕ) (f : ℕ → Float) (o : List Float) {l : List Float} → l ≡ front p f o → get_or l p nan ≡ get_or o p nan
step_get p f o e = ap (λ (m : List Float). get_or m p nan) e ∙ front_get p f o

pub step_set : {A : Type 0} (p : ℕ) (f : ℕ → A) (o : List A) {l : List A} {v : A} → l ≡ front p f o → p < length o → v ≡ f p → set l p v ≡ front (p + 1) f o
step_set {A} p f o {l} {v} e h q = ap (λ (m : List A). set m p v) e ∙ front_set p f o v h q

pub step_done : {A : Type 0} (p : ℕ) (f : ℕ → A) (o : List A) {l : List A} → l ≡ front p f o → p ≡ length o → l ≡ tab (length o) f
step_done p f o e h = e ∙ ap (λ (m : ℕ). front m f o) h ∙ front_all f o

-- the first p elements of l are those of f: what a loop that writes l from the front keeps, where what l held before does not matter
abbrev pub Filled : ℕ → (ℕ → Float) → List Float → Type 0
Filled p f l = (k : ℕ) → k < p → get_or l k nan ≡ f k

pub filled_none : (f : ℕ → Float) (l : List Float) → Filled 0 f l
filled_none f l = below_none (λ k. get_or l k nan ≡ f k)

pub filled_set : (p : ℕ) (f : ℕ → Float) (l : List Float) (v : Float) → p < length l → v ≡ f p → Filled p f l → Filled (p + 1) f (set l p v)
filled_set p f l v h e w =
    below_more (λ k. get_or (set l p v) k nan ≡ f k) p
    (λ k q. get_or-set_other l p k v nan (λ z. omega (arith, z, q)) ∙ w k q)
    (get_or-set_same l p v nan h ∙ e)
