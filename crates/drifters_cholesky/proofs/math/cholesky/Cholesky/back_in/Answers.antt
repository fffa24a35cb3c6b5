-- `back_in` meets its contract: the loop keeps the rows from row i on. Assumes nothing.
use mathlib.Core.Path.{◌≡◌, ap, sym, ◌∙◌}
use Prim.Native.Nat.{◌+◌, ◌-◌}
use native.Mathlib.Omega.{arith}
use Rattle.drifters_cholesky.specs.Cholesky.{back}
use Rattle.drifters_cholesky.proofs.Substitution.{back_next}
use Rattle.drifters_cholesky.proofs.math.cholesky.Cholesky.back_in.Goals as goal

pub loop-i-init : goal.loop-i-init
unfolding back
loop-i-init g c =
    let a = c.args in
    let none : g.row.N - g.row.N ≡ 0 = omega arith in
    (omega arith, sym (ap (back g.row.N g.row.C a.self.now.lower.«data» a.x.now.«data») none))

pub loop-i-preserved : goal.loop-i-preserved
loop-i-preserved g c =
    let a = c.args in
    let l = c.loop-i in
    let more : g.row.N - l.i + 1 ≡ g.row.N - (l.i - 1) = omega arith in (
      omega arith,
      back_next g.row.N g.row.C a.self.now.lower.«data» a.x.now.«data» (g.row.N - l.i) (omega arith) l.invariant.1 c.substitute_row.ensures
          ∙ ap (back g.row.N g.row.C a.self.now.lower.«data» a.x.now.«data») more,
    )
