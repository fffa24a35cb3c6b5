-- A loop that goes up a list and replaces each element: the law of every elementwise function. Assumes nothing.
use mathlib.Core.Path.{◌≡◌, sym, ap, ◌∙◌}
use mathlib.Core.List.{List}
use Prim.Native.Nat.{ℕ, ◌+◌, ◌≤◌, ◌<◌}
use native.Mathlib.Omega.{arith}
use lib.ListN.{length, get_or, set, length-set}
use lib.Ieee.{Float, nan}
use Rattle.drifters_matrix.specs.Matrix.{tab}
use Rattle.drifters_matrix.proofs.Matrix.Tab.{front, front_zero, step_get, step_set, step_done}

-- the element at j by its old value
abbrev pub mapped : (ℕ → Float → Float) → List Float → ℕ → Float
mapped g o j = g j (get_or o j nan)

-- What the loop keeps: of the n elements of o the first k are replaced, that at j with value x by g j x.
pub record Mapped (n : ℕ) (g : ℕ → Float → Float) (o : List Float) (k : ℕ) (l : List Float) : Type 0 where
  pub bound : k ≤ n
  pub size : length o ≡ n
  pub same : length l ≡ n
  pub list : l ≡ front k (mapped g o) o

pub mapped_none : {n : ℕ} {g : ℕ → Float → Float} {o : List Float} → length o ≡ n → Mapped n g o 0 o
mapped_none {n} {g} {o} e = record { bound = omega arith; size = e; same = e; list = sym (front_zero (mapped g o) o) }

pub mapped_set : {n : ℕ} {g : ℕ → Float → Float} {o : List Float} {k : ℕ} {l : List Float} → Mapped n g o k l → k < n → Mapped n g o (k + 1) (set l k (g k (get_or l k nan)))
mapped_set {n} {g} {o} {k} {l} w h =
    record {
      bound = omega arith;
      size = w.size;
      same = simp length-set w.same;
      list = step_set k (mapped g o) o w.list (omega arith) (ap (g k) (step_get k (mapped g o) o w.list));
    }

pub mapped_done : {n : ℕ} {g : ℕ → Float → Float} {o : List Float} {k : ℕ} {l : List Float} → Mapped n g o k l → n ≤ k → l ≡ tab n (mapped g o)
mapped_done {n} {g} {o} {k} {l} w h =
    step_done k (mapped g o) o w.list (omega arith) ∙ ap (λ (m : ℕ). tab m (mapped g o)) w.size
