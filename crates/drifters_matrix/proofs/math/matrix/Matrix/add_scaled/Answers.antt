-- `math::matrix::Matrix::add_scaled` meets its contract: the factors of a product may change places.
use mathlib.Core.Path.{ap, ◌∙◌}
use Prim.Native.Nat.{ℕ, ◌+◌}
use native.Mathlib.Omega.{arith}
use lib.ListN.{get_or}
use lib.Ieee.{nan}
use Rattle.drifters_real.specs.Scalar.{◌⊕◌, ◌⊗◌}
use Rattle.drifters_matrix.specs.Matrix.{tab}
use Rattle.drifters_matrix.proofs.Matrix.Skips.{scaled_added}
use Rattle.drifters_matrix.proofs.math.matrix.Matrix.add_scaled.Goals as goal

pub returns : goal.returns
returns g c =
    let m = c.args.self.now.«data» in
    let b = c.args.rhs.now.«data» in
    let s = c.args.s in
    scaled_added g.row.N m b s (c.add_scaled.ensures ∙ ap (λ (n : ℕ). tab n (λ k. get_or m k nan ⊕ s ⊗ get_or b (0 + k) nan)) (omega arith))
