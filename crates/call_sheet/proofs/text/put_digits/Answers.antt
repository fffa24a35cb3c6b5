-- `text::put_digits` meets its contract.
use Rattle.std.proofs.Common.{◌≡◌, ℕ, suc, ◌-◌, ◌/◌, ◌%◌, ◌≤◌, ◌<◌, List, [], ◌∷◌, ◌++◌, length, drop, sym, ap, ◌∙◌, append_assoc, length-set, arith}
use Rattle.std.proofs.Math.ListN.{set}
use Rattle.std.proofs.Math.Seq.{drop-cons, drop-set-lt, get_or-set_same}
use Rattle.call_sheet.specs.Digits.{digit, digits}
use Rattle.call_sheet.proofs.text.put_digits.Goals as goal

-- the digit of place k, where k + 1 are still to be put
put_at : (base m k d : ℕ) (out : List ℕ) → k < length out → d ≡ digit (m % base)
    → digits base (suc k) m ++ drop (suc k) out ≡ digits base k (m / base) ++ drop k (set out k d)
unfolding digits
put_at base m k d out inside e =
    let before : k < suc k = omega arith in
    let inside' : k < length (set out k d) = simp length-set inside in
    let rest : drop k (set out k d) ≡ d ∷ drop (suc k) out = drop-cons (set out k d) k 0 inside' ∙ (λ i. get_or-set_same out k d 0 inside i ∷ drop-set-lt (suc k) out k d before i) in
    let high = digits base k (m / base) in
    append_assoc high (digit (m % base) ∷ []) (drop (suc k) out) ∙ (λ i. high ++ (sym e i ∷ drop (suc k) out)) ∙ sym (ap (λ (l : List ℕ). high ++ l) rest)

-- the same, counted as the code counts
put : (base m j d : ℕ) (out : List ℕ) → 0 < j → j ≤ length out → d ≡ digit (m % base)
    → digits base j m ++ drop j out ≡ digits base (j - 1) (m / base) ++ drop (j - 1) (set out (j - 1) d)
put base m j d out some inside e =
    let next : j ≡ suc (j - 1) = omega arith in
    (λ i. digits base (next i) m ++ drop (next i) out) ∙ put_at base m (j - 1) d out (omega arith) e

pub loop-j-preserved : goal.loop-j-preserved
loop-j-preserved c = let l = c.loop-j in l.invariant ∙ put c.args.base l.m l.j _ l.out (omega arith) (omega arith) c.digit.ensures

pub returns : goal.returns
unfolding digits
returns c =
    let l = c.loop-j in
    let none : l.j ≡ 0 = omega arith in
    sym (l.invariant ∙ (λ i. digits c.args.base (none i) l.m ++ drop (none i) l.out))
