-- `series::Blocks::series` meets its contract.
use mathlib.Core.Path.{◌≡◌, refl, ap, ◌∙◌}
use mathlib.Core.List.{List}
use native.Mathlib.Omega.{arith}
use lib.Ieee.{Float, nan}
use lib.ListN.{get_or}
use Rattle.drifters_real.specs.Scalar.{◌⊗◌}
use Rattle.drifters_matrix.specs.Matrix.{matrix, scaled, add_matrix}
use Rattle.drifters_matrix.proofs.Matrix.Tab.{tab_ext, get_d_tab}
use Rattle.drifters_adjoint.specs.Series.{product_at, times_blocks, blocks_term, blocks_series}
use Rattle.drifters_adjoint.proofs.SeriesLaws.Loop.{added_next}
use Rattle.drifters_adjoint.proofs.series.Blocks.series.Goals as goal

-- the product p of t and m, times s
times : (t m : List Float) (s : Float) {p l : List Float} → p ≡ matrix 6 3 (product_at t m) → l ≡ scaled 18 p s → l ≡ times_blocks t m s
unfolding matrix scaled times_blocks
times t m s e h = h ∙ tab_ext 18 _ _ (λ k q. ap (λ (x : Float). x ⊗ s) (ap (λ (l : List Float). get_or l k nan) e ∙ get_d_tab 18 _ k nan q))

pub loop-k-init : goal.loop-k-init
unfolding blocks_term blocks_series
loop-k-init c = record { first = omega arith; last = omega arith; term_is = c.identity-term.ensures; psi_is = c.identity-term.ensures }

pub loop-k-preserved : goal.loop-k-preserved
unfolding blocks_term blocks_series
loop-k-preserved c =
    added_next (λ t s. times_blocks t c.args.m.columns.«data» s) (add_matrix 18) (λ k. refl) (λ k. refl) c.loop-k.invariant (omega arith)
    (times _ _ _ c.matmul.ensures c.scaled-term.ensures) c.add-psi.ensures
