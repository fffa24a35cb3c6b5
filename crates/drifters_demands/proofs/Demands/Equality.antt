-- Equality of numbers, runs and answers, and the relation of the half turn: what is equal to a run read through a turn is like that run, and back.
-- Assumes nothing.
use mathlib.Core.Path.{◌≡◌, refl, sym, ap, ◌∙◌, subst}
use mathlib.Core.Bool.{Bool, true, false, false≢true}
use mathlib.Core.List.{List}
use Prim.Native.Nat.{ℕ, zero, suc}
use lib.ListN.{length, get_or}
use lib.Ieee.{Float, nan, inf, fin, is_nan}
use Rattle.drifters_kind.specs.Kind.{written_length}
use Rattle.drifters_kind.specs.declared.kind.Kind.{Kind}
use Rattle.drifters_eqf.specs.Answer.{Answer}
use Rattle.drifters_demands.specs.Like.{unsigned_zero, signed}
use Rattle.drifters_demands.specs.Turn.{plain, turned}
use Rattle.drifters_demands.specs.Demands.{EqualNumber, same_bits, both_zeros, both_nan, Equal, EqualAnswer, both_ok, both_nis, both_refused}
use Rattle.drifters_demands.proofs.Signs.Like.{fin_zero, respects, is_zero, exact}
use Rattle.drifters_demands.proofs.Signs.Compare.{eq_is_zero}
use Rattle.drifters_demands.proofs.Signs.FilterRecords.{LikeAnswer, both_nis_lem, both_fine, both_refused_lem}
use Rattle.drifters_demands.proofs.Signs.Layout.{Turned, length_turned, get_d_turned}

-- ---- numbers
zero_is : (x : Float) → is_zero x ≡ true → unsigned_zero x ≡ fin_zero
zero_is nan h = absurd (false≢true h)
zero_is (inf s) h = absurd (false≢true h)
zero_is (fin s zero e) h = refl
zero_is (fin s (suc m) e) h = absurd (false≢true h)

nan_is : (x : Float) → is_nan x ≡ true → x ≡ nan
unfolding is_nan
nan_is nan h = refl
nan_is (inf s) h = absurd (false≢true h)
nan_is (fin s m e) h = absurd (false≢true h)

pub same_of_equal : {x y : Float} → EqualNumber x y → unsigned_zero x ≡ unsigned_zero y
same_of_equal (same_bits p) = ap unsigned_zero p
same_of_equal (both_zeros {x} {y} p q) = zero_is x (sym (eq_is_zero x) ∙ p) ∙ sym (zero_is y (sym (eq_is_zero y) ∙ q))
same_of_equal (both_nan {x} {y} p q) = ap unsigned_zero (nan_is x p ∙ sym (nan_is y q))

pub equal_of_same : (x y : Float) → unsigned_zero x ≡ unsigned_zero y → EqualNumber x y
equal_of_same x y p = by_zero (is_zero y) refl
  where
    by_zero : (b : Bool) → is_zero y ≡ b → EqualNumber x y
    by_zero true h = both_zeros (eq_is_zero x ∙ respects is_zero (λ s e. refl) x y p ∙ h) (eq_is_zero y ∙ h)
    by_zero false h = same_bits (exact x y p h)

-- ---- runs
pub turned_equal : {σ : ℕ → Bool} {a b : List Float} → Turned σ a b → Equal a (turned σ b)
turned_equal {σ} {a} {b} h = record {
  size = h.size ∙ sym (length_turned σ b);
  number = λ i I.
      subst (λ (y : Float). EqualNumber (get_or a i nan) y) (sym (get_d_turned σ b i (rw (← h.size) I)))
      (equal_of_same (get_or a i nan) (signed (σ i) (get_or b i nan)) (h.alike.entry i I).same);
}

pub equal_turned : {σ : ℕ → Bool} {a b : List Float} → Equal a (turned σ b) → Turned σ a b
equal_turned {σ} {a} {b} h = record {
  size = h.size ∙ length_turned σ b;
  alike = record {
    entry = λ i I. record {
      same =
          same_of_equal
          (subst (λ (y : Float). EqualNumber (get_or a i nan) y) (get_d_turned σ b i (rw (← (h.size ∙ length_turned σ b)) I)) (h.number i I));
    };
  };
}

-- runs that do not turn
pub equal_plain : {a b : List Float} → Equal a b → Turned plain a b
equal_plain {a} {b} h = record { size = h.size; alike = record { entry = λ i I. record { same = same_of_equal (h.number i I) } } }

-- ---- answers, the second read through a turn
pub equal_answer : {kind : Kind} {σ : ℕ → Bool} {a b : Answer} {w w' : List Float} → length w ≡ written_length kind → LikeAnswer a b → Turned σ w w'
    → EqualAnswer kind a w b (turned σ w')
equal_answer n (both_nis_lem {x} {y} h) t = both_nis (equal_of_same x y h.same)
equal_answer n both_fine t = both_ok n (turned_equal t)
equal_answer n both_refused_lem t = both_refused
