-- The laws of a run by its parts: a run that is stored part by part, and the finiteness of joined parts. Assumes nothing.
use mathlib.Core.Path.{◌≡◌, refl, sym, ap, ◌∙◌}
use mathlib.Core.Bool.{◌&&◌, and_assoc, and-true}
use mathlib.Core.List.{List, [], ◌∷◌, ◌++◌, append_assoc}
use Prim.Native.Nat.{ℕ, ◌+◌, ◌≤◌}
use native.Mathlib.Omega.{arith}
use lib.ListN.{length, take, drop, length-append, length-take, length-drop}
use lib.Seq.{take_all, take_at}
use lib.Ieee.{Float}
use borrow.Rule.Slice.PartMut.{put_mid}
use Rattle.drifters_real.specs.Real.{is_finite}
use Rattle.drifters_matrix.specs.Matrix.{all_finite}
use Rattle.drifters_core.specs.Vec3.{to_array, finite_vec3}
use Rattle.drifters_core.specs.declared.math.vec3.Vec3.{Vec3}

-- ---- a run that is stored part by part, each after the last

-- of a run of m numbers the first n are p
pub record Begins (m n : ℕ) (p run : List Float) : Type 0 where
  pub size : length run ≡ m
  pub first : take n run ≡ p

pub begins_none : {m : ℕ} (run : List Float) → length run ≡ m → Begins m 0 [] run
begins_none run h = record { size = h; first = refl }

-- the next n numbers are stored: q came back as v
pub begins_next : {m i : ℕ} {p run q v : List Float} (n : ℕ) → Begins m i p run → length q ≡ length (take n (drop i run)) → q ≡ v → i + n ≤ m →
    Begins m (i + n) (p ++ v) (put_mid i n run q)
begins_next {m} {i} {p} {run} {q} {v} n b e s h =
    let e : length q ≡ n = e ∙ simp (length-take, length-drop) (omega arith) in
    record {
      size = simp (length-append, length-take, length-drop) (omega arith);
      first = ap (take (i + n)) (sym (append_assoc (take i run) q (drop n (drop i run))))
          ∙ take_at (take i run ++ q) _ (i + n) (simp (length-append, length-take) (omega arith))
          ∙ (λ k. b.first k ++ s k);
    }

-- all numbers are stored
pub begins_all : {m : ℕ} {p run : List Float} → Begins m m p run → run ≡ p
begins_all {m} {p} {run} b = sym (take_all m run (omega arith)) ∙ b.first

-- ---- finiteness

pub all_finite_append : (xs ys : List Float) → all_finite (xs ++ ys) ≡ all_finite xs && all_finite ys
unfolding all_finite
all_finite_append [] ys = refl
all_finite_append (x ∷ xs) ys = rw (all_finite_append xs ys) (sym (and_assoc (is_finite x) (all_finite xs) (all_finite ys)))

pub all_finite_vec3 : (v : Vec3) → all_finite (to_array v) ≡ finite_vec3 v
unfolding all_finite finite_vec3
all_finite_vec3 v = simp (and-true, and_assoc)

pub all_finite_one : (x : Float) → all_finite (x ∷ []) ≡ is_finite x
unfolding all_finite
all_finite_one x = and-true (is_finite x)
