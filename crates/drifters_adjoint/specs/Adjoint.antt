-- Port of lie.rs: the adjoint of an exponential, integrated. Definitions only.
use Rattle.std.specs.Prelude.{ℕ, zero, suc, ◌+◌, cond, List, pos, Float}
use Rattle.std.specs.Float.{binary64}
use Rattle.std.specs.Float.Ieee.{lt, of_bits, of_int}
use Rattle.drifters_real.specs.Scalar.{◌⊘◌, one, two, half}
use Rattle.drifters_real.specs.Real.{max}
use Rattle.drifters_matrix.specs.Matrix.{matmul, scaled, identity, add_matrix}
use Rattle.drifters_core.specs.Vec3.{amax_vec3}
use Rattle.drifters_lie.specs.Lie.{scaled_se3, ad_se3, adjoint_se3, exp_se3}
use Rattle.drifters_lie.specs.declared.lie.Se3Tangent.{Se3Tangent}

-- 0.0625: what the larger `amax` is brought down to
abbrev pub sixteenth : Float
sixteenth = of_bits binary64 0x3fb0_0000_0000_0000

-- how often w is halved, at most n times: while the larger `amax` is above 0.0625
unfoldable pub halvings : ℕ → Se3Tangent → ℕ
halvings zero w = 0
halvings (suc n) w = cond (lt sixteenth (max (amax_vec3 w.omega) (amax_vec3 w.nu))) (suc (halvings n (scaled_se3 w half))) 0

-- w halved n times
unfoldable pub halved : ℕ → Se3Tangent → Se3Tangent
halved zero w = w
halved (suc n) w = halved n (scaled_se3 w half)

-- term k of the series, m to the power k over (k + 1)!: the term before it times m, and times the rounded 1 / (k + 1)
unfoldable pub series_term : List Float → ℕ → List Float
series_term m zero = identity 6
series_term m (suc k) = scaled 36 (matmul 6 6 6 (series_term m k) m) (one ⊘ of_int binary64 (pos (suc k + 1)))

-- the identity, and the terms 1 to k added to it
unfoldable pub series : List Float → ℕ → List Float
series m zero = identity 6
series m (suc k) = add_matrix 36 (series m k) (series_term m (suc k))

-- psi of w, doubled back over n halvings: ½ (I + Ad exp w) psi is that of 2 w
unfoldable pub doubled : ℕ → Se3Tangent → List Float → List Float
doubled zero w psi = psi
doubled (suc n) w psi = doubled n (scaled_se3 w two) (scaled 36 (matmul 6 6 6 (add_matrix 36 (identity 6) (adjoint_se3 (exp_se3 w))) psi) half)

-- the most halvings made
abbrev pub most_halvings : ℕ
most_halvings = 64

-- the integrated adjoint: halved, 15 terms of the series, doubled back
unfoldable pub integrated_adjoint : Se3Tangent → List Float
integrated_adjoint v =
    let n = halvings most_halvings v in
    let w = halved n v in
    doubled n w (series (ad_se3 w) 15)
