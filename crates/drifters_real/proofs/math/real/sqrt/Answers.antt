-- `math::real::sqrt` meets its contract.
use Rattle.std.proofs.Common.{◌≡◌, ℕ, ◌^◌, ◌<◌, Bool, true, false, not, T, refl, sym, ap, ◌∙◌, subst, le_antisymm, true≢false}
use lib.Arith.{lt_of_le-ne}
use lib.Ieee.{Float, nan, inf, fin, binary64, nan_bits, fits, of_bits, to_bits, is_nan}
use lib.Ieee.Bits.{of_bits-to_bits, to_bits-lt, nan_bits_is}
use Rattle.drifters_real.specs.Real.{sqrt}
use Rattle.drifters_real.proofs.Real.SquareRoot.{root_of_nan, root_of_minus, root_of_minus_zero, root_of_zero, root_of_inf, nan_made, at_most_inf}
use Rattle.drifters_real.proofs.math.real.sqrt.Goals as goal

only_nan : (x : Float) → is_nan x ≡ true → x ≡ nan
unfolding is_nan
only_nan nan e = refl
only_nan (inf s) e = absurd (true≢false (sym e))
only_nan (fin s m n) e = absurd (true≢false (sym e))

-- the number is what its pattern stands for
back : (x : Float) → T (fits binary64 x) → of_bits binary64 (to_bits binary64 x) ≡ x
back x h = of_bits-to_bits binary64 x h

small : (x : Float) → T (fits binary64 x) → to_bits binary64 x < 2 ^ 64
small x h = to_bits-lt binary64 x h

-- where the pattern is b, and b's number is its own root, so is x
own : (x : Float) → T (fits binary64 x) → (b : ℕ) → to_bits binary64 x ≡ b → sqrt (of_bits binary64 b) ≡ of_bits binary64 b → x ≡ sqrt x
own x h b e r =
    let x-is : x ≡ of_bits binary64 b = sym (back x h) ∙ ap (of_bits binary64) e in
    x-is ∙ sym r ∙ ap sqrt (sym x-is)

pub returns-then-is_nan : goal.returns-then-is_nan
returns-then-is_nan c =
    let e = only_nan c.args.x (sym c.is_nan.ensures.value ∙ c.if-is_nan.true) in
    e ∙ sym (ap sqrt e ∙ root_of_nan)

pub float_to_bits-b : goal.float_to_bits-b
float_to_bits-b c = subst (λ (b : Bool). T (not b)) (sym (sym c.is_nan.ensures.value ∙ c.if-is_nan.false)) tt

pub returns-then-b-gt9223372036854775808 : goal.returns-then-b-gt9223372036854775808
returns-then-b-gt9223372036854775808 c =
    let h : T (fits binary64 c.args.x) = subst T (sym c.well_formed.0.1) tt in
    nan_made ∙ sym (ap sqrt (sym (back _ h)) ∙ root_of_minus (to_bits binary64 c.args.x) c.if-b-gt9223372036854775808.true (small _ h))

pub returns-then-b : goal.returns-then-b
returns-then-b c = own _ (subst T (sym c.well_formed.0.1) tt) (2 ^ 63) c.if-b.true root_of_minus_zero

pub returns-then-b-eq0 : goal.returns-then-b-eq0
returns-then-b-eq0 c = own _ (subst T (sym c.well_formed.0.1) tt) 0 c.if-b-eq0.true root_of_zero

pub returns-then-b-ge9218868437227405312 : goal.returns-then-b-ge9218868437227405312
returns-then-b-ge9218868437227405312 c =
    let h : T (fits binary64 c.args.x) = subst T (sym c.well_formed.0.1) tt in
    let b = to_bits binary64 c.args.x in
    let below : b < 2 ^ 63 = lt_of_le-ne c.if-b-gt9223372036854775808.false c.if-b.false in
    let number : nan_bits binary64 b ≡ false =
    nan_bits_is binary64 b ∙ ap is_nan (back _ h) ∙ sym c.is_nan.ensures.value ∙ c.if-is_nan.false in
    own _ h 0x7ff0_0000_0000_0000 (le_antisymm (at_most_inf b number below) c.if-b-ge9218868437227405312.true) root_of_inf

pub returns : goal.returns
returns c = c.root_bits.ensures.value ∙ ap sqrt (back _ (subst T (sym c.well_formed.0.1) tt))
