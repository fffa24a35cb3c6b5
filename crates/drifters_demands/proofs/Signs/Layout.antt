-- Runs of numbers that are the same but for the signs of specs/Turn.antt, and the records that they stand for. Assumes nothing.
use Prim.Native.Nat.{ℕ, ◌+◌, ◌-◌, ◌*◌, ◌/◌, ◌≤◌, ◌<◌}
use native.Mathlib.Omega.{arith}
use mathlib.Core.Path.{◌≡◌, refl, sym, ap, ap₂, ◌∙◌, subst, subst₂}
use mathlib.Core.Bool.{Bool, true, false, cond}
use mathlib.Core.List.{List, ◌++◌}
use borrow.Author.Tests.{ltb-true, ltb-false, lt-ltb, le-ltb}
use lib.Dec.{ltb, lit<}
use lib.ListN.{length, get_or, take, drop, length-append, get_or-append}
use lib.Seq.{get_or-take, get_or-drop, drop-drop}
use lib.Ieee.{Float, nan, unlike}
use Rattle.std.proofs.lemmas.List.{get_or-append_right}
use Rattle.std.proofs.lemmas.Nat.{div-mul-add, mod-mul-add}
use Rattle.drifters_demands.specs.Like.{signed, Like, Signs, axis, LikeList, LikeVec3, LikeMatrix, no_turn}
use Rattle.drifters_matrix.proofs.Matrix.Tab.{length_tab, get_d_tab, tab_is}
use Rattle.drifters_matrix.proofs.Matrix.Grid.{at_in}
use Rattle.drifters_demands.proofs.Signs.Sign.{axis_add}
use Rattle.drifters_demands.proofs.Signs.Like.{like_as}
use Rattle.drifters_demands.proofs.Signs.Matrix.{like_flat, like_matrix_as}
use Rattle.drifters_demands.proofs.Signs.Vec3.{below_three}
use Rattle.drifters_lie.specs.Lie.{vec3_at}
use Rattle.drifters_demands.specs.Turn.{plain, then_signs, matrix_signs, row_signs, filter_signs, state_signs, turned}
use Rattle.drifters_entry.specs.Layout.{velocity_place, position_place, gamma_place, delta_place, e_place, sigma_place, gravity_place, alpha_place, filter_length, alphas_of, bias_place, lever_place, mag_place, from_run, state_from_run}
use Rattle.drifters_kind.specs.Kind.{state_length}
use Rattle.drifters_demands.proofs.Signs.GroupRecords.{axis_no_turn, LikeState}
use Rattle.drifters_demands.proofs.Signs.FilterRecords.{LikeFilter}

-- ---- two runs of as many numbers, the same but for signs
pub record Turned (σ : ℕ → Bool) (a b : List Float) : Type 0 where
  pub size : length a ≡ length b
  pub alike : LikeList σ (length a) a b

pub length_turned : (σ : ℕ → Bool) (a : List Float) → length (turned σ a) ≡ length a
unfolding turned
length_turned σ a = length_tab (length a) (λ i. signed (σ i) (get_or a i nan))

pub get_d_turned : (σ : ℕ → Bool) (a : List Float) (i : ℕ) → i < length a → get_or (turned σ a) i nan ≡ signed (σ i) (get_or a i nan)
unfolding turned
get_d_turned σ a i I = get_d_tab (length a) (λ i. signed (σ i) (get_or a i nan)) i nan I

-- the turn of one run after another
pub turned_of_append : (σ : ℕ → Bool) (xs ys : List Float) → turned σ (xs ++ ys) ≡ turned σ xs ++ turned (λ i. σ (length xs + i)) ys
unfolding turned
turned_of_append σ xs ys =
    let size = length-append (turned σ xs) (turned τ ys) ∙ ap₂ ◌+◌ (length_turned σ xs) (length_turned τ ys) ∙ sym (length-append xs ys) in
    sym (tab_is _ (length (xs ++ ys)) _ size (λ k p. at k p (ltb k (length xs)) refl))
  where
    τ : ℕ → Bool
    τ i = σ (length xs + i)

    at : (k : ℕ) → k < length (xs ++ ys) → (b : Bool) → ltb k (length xs) ≡ b → get_or (turned σ xs ++ turned τ ys) k nan ≡ signed (σ k) (get_or (xs ++ ys) k nan)
    at k p true e =
        let K = ltb-true k (length xs) e in
        get_or-append (turned σ xs) (turned τ ys) nan k (rw (length_turned σ xs) K) ∙ get_d_turned σ xs k K ∙ ap (signed (σ k)) (sym (get_or-append xs ys nan k K))
    at k p false e =
        let K = ltb-false k (length xs) e in
        let j = k - length xs in
        let is : length xs + j ≡ k = omega (arith, K) in
        get_or-append_right (turned σ xs) (turned τ ys) (length xs) k nan (length_turned σ xs) K
        ∙ get_d_turned τ ys j (omega (arith, K, p, length-append xs ys))
        ∙ ap₂ (λ (i : ℕ) (x : Float). signed (σ i) x) is (sym (get_or-append_right xs ys (length xs) k nan refl K))

-- ---- the first n numbers, and those after them
module _ (n : ℕ) (σ τ : ℕ → Bool) (i : ℕ) where
  pub then_before : i < n → then_signs n σ τ i ≡ σ i
  then_before I = ap (λ t. cond t (σ i) (τ (i - n))) (lt-ltb i n I)

  pub then_after : then_signs n σ τ (n + i) ≡ τ i
  then_after = ap (λ t. cond t (σ (n + i)) (τ (n + i - n))) (le-ltb (n + i) n (omega arith)) ∙ ap τ (omega arith)

module _ (n m : ℕ) {a b : List Float} where
  pub like_join : (σ τ : ℕ → Bool) → ((i : ℕ) → i < m → σ (n + i) ≡ τ i) → LikeList σ n a b → LikeList τ m (drop n a) (drop n b) → LikeList σ (n + m) a b
  like_join σ τ e h k = record { entry = λ i I. by_test i I (ltb i n) refl }
    where
      after : (i : ℕ) → i < m → Like (σ (n + i)) (get_or a (n + i) nan) (get_or b (n + i) nan)
      after i I = like_as (sym (e i I)) (subst₂ (Like (τ i)) (get_or-drop n a i nan) (get_or-drop n b i nan) (k.entry i I))

      by_test : (i : ℕ) → i < n + m → (t : Bool) → ltb i n ≡ t → Like (σ i) (get_or a i nan) (get_or b i nan)
      by_test i I true t = h.entry i (ltb-true i n t)
      by_test i I false t =
          let N : n ≤ i = ltb-false i n t in
          let p : n + (i - n) ≡ i = omega arith in
          subst (λ (j : ℕ). Like (σ j) (get_or a j nan) (get_or b j nan)) p (after (i - n) (omega arith))

  module _ (σ τ : ℕ → Bool) where
    pub like_first : LikeList (then_signs n σ τ) (n + m) a b → LikeList σ n a b
    like_first h = record { entry = λ i I. like_as (then_before n σ τ i I) (h.entry i (omega arith)) }

    pub like_rest : LikeList (then_signs n σ τ) (n + m) a b → LikeList τ m (drop n a) (drop n b)
    like_rest h = record { entry = λ i I. rw (get_or-drop n a i nan, get_or-drop n b i nan) (like_as (then_after n σ τ i) (h.entry (n + i) (omega arith))) }

    pub like_then : LikeList σ n a b → LikeList τ m (drop n a) (drop n b) → LikeList (then_signs n σ τ) (n + m) a b
    like_then h k = like_join (then_signs n σ τ) τ (λ i I. then_after n σ τ i) record { entry = λ i I. like_as (sym (then_before n σ τ i I)) (h.entry i I) } k

-- ---- vectors and matrices at a place of a run
module _ (σ : ℕ → Bool) (a b : List Float) (o : ℕ) where
  pub like_at_vec3 : LikeVec3 σ (vec3_at a o) (vec3_at b o) → LikeList σ 3 (drop o a) (drop o b)
  like_at_vec3 h = record { entry = below_three (λ i. Like (σ i) (get_or (drop o a) i nan) (get_or (drop o b) i nan)) (place 0 o (omega arith) h.x) (place 1 (o + 1) refl h.y) (place 2 (o + 2) refl h.z) }
    where
      place : (i j : ℕ) → o + i ≡ j → Like (σ i) (get_or a j nan) (get_or b j nan) → Like (σ i) (get_or (drop o a) i nan) (get_or (drop o b) i nan)
      place i j e k = rw (get_or-drop o a i nan, get_or-drop o b i nan, e) k

module _ (σ τ : ℕ → Bool) (r c : ℕ) {a b : List Float} where
  pub like_part : LikeList (matrix_signs c σ τ) (r * c) a b → LikeMatrix σ τ r c (take (r * c) a) (take (r * c) b)
  like_part h = record {
    entry = λ i j I J.
        let K : i * c + j < r * c = at_in i j r c I J in
        rw (get_or-take (r * c) a (i * c + j) nan K, get_or-take (r * c) b (i * c + j) nan K)
        (like_as (ap₂ (λ p q. unlike (σ p) (τ q)) (div-mul-add i c j J) (mod-mul-add i c j J)) (h.entry (i * c + j) K));
  }

  pub like_of_part : LikeMatrix σ τ r c (take (r * c) a) (take (r * c) b) → LikeList (matrix_signs c σ τ) (r * c) a b
  like_of_part h = record {
    entry = λ k K. subst₂ (Like (matrix_signs c σ τ k)) (get_or-take (r * c) a k nan K) (get_or-take (r * c) b k nan K) ((like_flat h).entry k K);
  }

-- ---- from parts at their places to a run
module _ (a b : List Float) (o : ℕ) where
  pub then_at : (n m : ℕ) (σ τ : ℕ → Bool) → LikeList σ n (drop o a) (drop o b) → LikeList τ m (drop (o + n) a) (drop (o + n) b)
      → LikeList (then_signs n σ τ) (n + m) (drop o a) (drop o b)
  then_at n m σ τ h k = like_then n m σ τ h (rw (drop-drop n o a, drop-drop n o b) k)

  -- three numbers that are a vector, before others
  pub vector_at : (s : Signs) (m : ℕ) → LikeVec3 (axis s) (vec3_at a o) (vec3_at b o) → LikeList (axis s) m (drop (o + 3) a) (drop (o + 3) b)
      → LikeList (axis s) (3 + m) (drop o a) (drop o b)
  vector_at s m h k = like_join 3 m (axis s) (axis s) (λ i I. axis_add s 1 i) (like_at_vec3 (axis s) a b o h) (rw (drop-drop 3 o a, drop-drop 3 o b) k)

  -- a matrix of three columns, a sign for each row
  pub rotation_at : (s : Signs) → LikeMatrix (axis s) (axis no_turn) 3 3 (take 9 (drop o a)) (take 9 (drop o b)) → LikeList (row_signs s) 9 (drop o a) (drop o b)
  rotation_at s h = like_of_part (axis s) plain 3 3 (like_matrix_as (λ i I. refl) (λ j J. axis_no_turn j) h)

like_plain : {n : ℕ} {a b : List Float} → LikeList (axis no_turn) n a b → LikeList plain n a b
like_plain h = record { entry = λ i I. like_as (axis_no_turn i) (h.entry i I) }

-- ---- a filter and its run, for the signs of the reference frame s
-- how many numbers of a filter's run stand from a place on
abbrev after : ℕ → ℕ
after place = filter_length - place

module _ (s : Signs) where
  -- the signs from gravity on, from the covariance on, and so on back to the velocity
  abbrev from_gravity : ℕ → Bool
  from_gravity = then_signs 3 (axis s) plain

  abbrev from_sigma : ℕ → Bool
  from_sigma = then_signs 441 (matrix_signs 21 (axis s) (axis s)) from_gravity

  abbrev from_e : ℕ → Bool
  from_e = then_signs 9 (row_signs s) from_sigma

  abbrev from_velocity : ℕ → Bool
  from_velocity = then_signs 15 (axis s) from_e

  like_rotation : {a b : List Float} → LikeList (row_signs s) 9 a b → LikeMatrix (axis s) (axis no_turn) 3 3 (take 9 a) (take 9 b)
  like_rotation h = like_matrix_as (λ i I. refl) (λ j J. sym (axis_no_turn j)) (like_part (axis s) plain 3 3 h)

  pub like_from_run : {a b : List Float} → LikeList (filter_signs s) filter_length a b → LikeFilter s no_turn no_turn (from_run a) (from_run b)
  unfolding from_run
  like_from_run {a} {b} h =
      let velocity_on : LikeList from_velocity (after velocity_place) (drop velocity_place a) (drop velocity_place b) = like_rest 9 (after velocity_place) (row_signs s) from_velocity h in
      let e_on : LikeList from_e (after e_place) (drop e_place a) (drop e_place b) = rw (← drop-drop 15 velocity_place a, ← drop-drop 15 velocity_place b) (like_rest 15 (after e_place) (axis s) from_e velocity_on) in
      let sigma_on : LikeList from_sigma (after sigma_place) (drop sigma_place a) (drop sigma_place b) = rw (← drop-drop 9 e_place a, ← drop-drop 9 e_place b) (like_rest 9 (after sigma_place) (row_signs s) from_sigma e_on) in
      record {
        x = record {
          c = record {
            rotation = like_rotation (like_first 9 (after velocity_place) (row_signs s) from_velocity h);
            velocity = record { x = h.entry velocity_place (lit< tt); y = h.entry (velocity_place + 1) (lit< tt); z = h.entry (velocity_place + 2) (lit< tt) };
            position = record { x = h.entry position_place (lit< tt); y = h.entry (position_place + 1) (lit< tt); z = h.entry (position_place + 2) (lit< tt) };
          };
          gamma = record {
            omega = record { x = h.entry gamma_place (lit< tt); y = h.entry (gamma_place + 1) (lit< tt); z = h.entry (gamma_place + 2) (lit< tt) };
            nu = record { x = h.entry (gamma_place + 3) (lit< tt); y = h.entry (gamma_place + 4) (lit< tt); z = h.entry (gamma_place + 5) (lit< tt) };
          };
          delta = record { x = h.entry delta_place (lit< tt); y = h.entry (delta_place + 1) (lit< tt); z = h.entry (delta_place + 2) (lit< tt) };
          e = like_rotation (like_first 9 (after sigma_place) (row_signs s) from_sigma e_on);
        };
        sigma = like_part (axis s) (axis s) 21 21 (like_first 441 (after gravity_place) (matrix_signs 21 (axis s) (axis s)) from_gravity sigma_on);
        gravity = record { x = h.entry gravity_place (lit< tt); y = h.entry (gravity_place + 1) (lit< tt); z = h.entry (gravity_place + 2) (lit< tt) };
      }

  pub like_of_from_run : (a b : List Float) → LikeFilter s no_turn no_turn (from_run a) (from_run b) → LikeList plain (after alpha_place) (alphas_of a) (alphas_of b)
      → LikeList (filter_signs s) filter_length a b
  unfolding from_run
  like_of_from_run a b h alphas =
      let gravity : LikeList from_gravity (after gravity_place) (drop gravity_place a) (drop gravity_place b) =
      then_at a b gravity_place 3 (after alpha_place) (axis s) plain (like_at_vec3 (axis s) a b gravity_place h.gravity) alphas in
      let sigma : LikeList from_sigma (after sigma_place) (drop sigma_place a) (drop sigma_place b) =
      then_at a b sigma_place 441 (after gravity_place) (matrix_signs 21 (axis s) (axis s)) from_gravity (like_of_part (axis s) (axis s) 21 21 h.sigma) gravity in
      let e : LikeList from_e (after e_place) (drop e_place a) (drop e_place b) = then_at a b e_place 9 (after sigma_place) (row_signs s) from_sigma (rotation_at a b e_place s h.x.e) sigma in
      let vectors : LikeList (axis s) 15 (drop velocity_place a) (drop velocity_place b) =
      vector_at a b velocity_place s 12 h.x.c.velocity
      (vector_at a b position_place s 9 h.x.c.position
      (vector_at a b gamma_place s 6 h.x.gamma.omega (vector_at a b (gamma_place + 3) s 3 h.x.gamma.nu (like_at_vec3 (axis s) a b delta_place h.x.delta)))) in
      then_at a b 0 9 (after velocity_place) (row_signs s) from_velocity (rotation_at a b 0 s h.x.c.rotation) (then_at a b velocity_place 15 (after e_place) (axis s) from_e vectors e)

  -- the alphas do not turn
  pub like_alphas_of : {a b : List Float} → LikeList (filter_signs s) filter_length a b → LikeList plain (after alpha_place) (alphas_of a) (alphas_of b)
  like_alphas_of {a} {b} h =
      let first = alpha 0 (h.entry alpha_place (lit< tt)) in
      let second = alpha 1 (h.entry (alpha_place + 1) (lit< tt)) in
      let third = alpha 2 (h.entry (alpha_place + 2) (lit< tt)) in
      record { entry = below_three (λ i. Like false (get_or (alphas_of a) i nan) (get_or (alphas_of b) i nan)) first second third }
    where
      alpha : (i : ℕ) → Like false (get_or a (alpha_place + i) nan) (get_or b (alpha_place + i) nan) → Like false (get_or (alphas_of a) i nan) (get_or (alphas_of b) i nan)
      alpha i h = rw (get_or-drop alpha_place a i nan, get_or-drop alpha_place b i nan) h

  -- a state's run: the pose turns, bias, lever arm and calibration do not
  pub like_of_state_from_run : (a b : List Float) → LikeState s no_turn no_turn (state_from_run a) (state_from_run b) → LikeList (state_signs s) state_length a b
  unfolding state_from_run
  like_of_state_from_run a b h =
      let mag : LikeList (axis no_turn) 9 (drop mag_place a) (drop mag_place b) = record {
        entry = λ i I. like_as (row_plain (i / 3) ∙ sym (axis_no_turn i)) ((rotation_at a b mag_place no_turn h.mag).entry i I);
      } in
      let rest : LikeList (axis no_turn) (state_length - bias_place) (drop bias_place a) (drop bias_place b) =
      vector_at a b bias_place no_turn 15 h.bias.omega
      (vector_at a b (bias_place + 3) no_turn 12 h.bias.nu
      (vector_at a b lever_place no_turn 9 h.lever mag)) in
      let vectors : LikeList (axis s) 6 (drop velocity_place a) (drop velocity_place b) = vector_at a b velocity_place s 3 h.pose.velocity (like_at_vec3 (axis s) a b position_place h.pose.position) in
      then_at a b 0 9 (state_length - velocity_place) (row_signs s) (then_signs 6 (axis s) plain) (rotation_at a b 0 s h.pose.rotation) (then_at a b velocity_place 6 (state_length - bias_place) (axis s) plain vectors (like_plain rest))
    where
      row_plain : (i : ℕ) → unlike (axis no_turn i) false ≡ false
      row_plain i = ap (λ t. unlike t false) (axis_no_turn i)
