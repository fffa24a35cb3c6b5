-- `series::matrix_series` meets its contract.
use mathlib.Core.Path.{refl, ◌∙◌}
use Prim.Native.Nat.{◌+◌}
use native.Mathlib.Omega.{arith}
use lib.IntN.{pos}
use lib.Ieee.{binary64, of_int}
use Rattle.drifters_real.specs.Scalar.{◌⊘◌, one}
use Rattle.drifters_matrix.specs.Matrix.{matmul, scaled, add_matrix}
use Rattle.drifters_adjoint.specs.Adjoint.{series_term, series}
use Rattle.drifters_adjoint.proofs.SeriesLaws.Loop.{added_next}
use Rattle.drifters_adjoint.proofs.series.matrix_series.Goals as goal

pub loop-k-init : goal.loop-k-init
unfolding series_term series
loop-k-init c = record { first = omega arith; last = omega arith; term_is = c.identity-term.ensures; psi_is = c.identity-term.ensures }

pub loop-k-preserved : goal.loop-k-preserved
unfolding series_term series
loop-k-preserved c =
    added_next (λ t s. scaled 36 (matmul 6 6 6 t c.args.m.«data») s) (add_matrix 36) (λ k. refl) (λ k. refl) c.loop-k.invariant (omega arith)
    (c.scaled-term.ensures ∙ (λ i. scaled 36 (c.matmul-next.ensures i) (one ⊘ of_int binary64 (pos (c.loop-k.k + 1)))))
    c.add-psi.ensures
