-- The starred readings, of the definitions at known numbers: one table, and one theorem. The proof is in proofs/Readings.antt. Definitions and statements only.
use Rattle.std.specs.Prelude.{ℕ, Bool, false, cond, List, [], ◌∷◌, ◌++◌, map, replicate, drop, Float}
use Rattle.std.specs.Float.{nan, inf, binary64}
use Rattle.std.specs.Float.Ieee.{of_bits, to_bits}
use Rattle.drifters_real.specs.Reading.{Reading, reads, AsStated}
use Rattle.drifters_real.specs.Scalar.{plus_zero, one, two}
use Rattle.drifters_real.specs.Real.{sqrt, sin, cos}
use Rattle.drifters_matrix.specs.Matrix.{matmul, mul_transpose, symmetrize}
use Rattle.drifters_core.specs.Vec3.{vec3, zero_vec3, splat, norm}
use Rattle.drifters_cholesky.specs.Cholesky.{Factor, none, lower, cholesky}
use Rattle.drifters_lie.specs.Lie.{se3_tangent}
use Rattle.drifters_adjoint.specs.Adjoint.{most_halvings, halvings}
use Rattle.drifters_gcu.specs.Gcu.{beta, nis}
use Rattle.drifters_entry.specs.Layout.{gravity_place, alpha_place, three_alphas, one_alpha}
use Rattle.drifters_entry.specs.Entry.{Request, refusal, propagation, measurement, estimate, request_of}
use Rattle.drifters_upgrade.specs.Upgrade.{alphas_equal}
use Rattle.drifters_kind.specs.declared.kind.Kind.{Kind}
use Rattle.drifters_kind.specs.declared.kind.Kind.TheVariants.{Position, Velocity, Direction, General, State, Scalar}
use Rattle.drifters_compasses.specs.Compasses.{count_of, compasses_fit}
use Rattle.drifters_demands.specs.Like.{signed, Signs, about_x, about_y, about_z, axis}
use Rattle.drifters_demands.specs.Turn.{filter_signs, turned, turn_numbers, turn_north_noise}

-- the number of a pattern
abbrev pub float : ℕ → Float
float n = of_bits binary64 n

-- the patterns of numbers
abbrev pub bits : List Float → List ℕ
bits v = map (to_bits binary64) v

-- beta at a number
abbrev pub beta_is : Float → Float → Reading
beta_is r stated = reads (bits (beta r ∷ [])) (bits (stated ∷ []))

-- halvings at an `amax`, taken on either part
abbrev pub halvings_are : Float → ℕ → Reading
halvings_are x n =
    reads (halvings most_halvings (se3_tangent (vec3 x plus_zero plus_zero) zero_vec3) ∷ halvings most_halvings (se3_tangent zero_vec3 (vec3 plus_zero plus_zero x)) ∷ [])
    (n ∷ n ∷ [])

-- a factor: 1 and its entries, or 0 where the factorisation stopped
abbrev pub factor_bits : Factor → List ℕ
factor_bits none = 0 ∷ []
factor_bits (lower l) = 1 ∷ bits l

-- numbers that a definition gives, and those stated
abbrev pub numbers_are : List Float → List Float → Reading
numbers_are v stated = reads (bits v) (bits stated)

-- the signs of a half turn, as the numbers 1 and -1
abbrev pub signs_are : Signs → Float → Float → Float → Reading
signs_are s x y z = numbers_are (signed (axis s 0) one ∷ signed (axis s 1) one ∷ signed (axis s 2) one ∷ []) (x ∷ y ∷ z ∷ [])

-- the numbers of a call that is turned about the first axis
abbrev pub turned_about_x : Kind → List Float → List Float
turned_about_x kind v = turn_numbers about_x kind v

-- whether tests pass, as the numbers 1 and 0
abbrev pub tests_are : List Bool → List ℕ → Reading
tests_are tests stated = reads (map (λ b. cond b 1 0) tests) stated

-- the norm of a vector with one number, of a pattern, for each component
abbrev pub norm_of : ℕ → Float
norm_of n = norm (splat (float n))

-- the alpha that an update is given
abbrev pub alpha_asked : Request → List Float
alpha_asked (refusal n) = []
alpha_asked (propagation u dt q) = []
alpha_asked (measurement w m noise alpha) = alpha ∷ []
alpha_asked estimate = []

-- whether the alphas of a filter have equal bits
abbrev pub alphas_equal_at : Float → Float → Float → Bool
alphas_equal_at a b c = alphas_equal (replicate alpha_place plus_zero ++ a ∷ b ∷ c ∷ [])

-- the table; u, v and w, above a diagonal, may hold anything
unfoldable pub readings : Float → Float → Float → List Reading
readings u v w =
    let zero = plus_zero in
    let minus_one = float 0xbff0_0000_0000_0000 in
    let three = float 0x4008_0000_0000_0000 in
    let four = float 0x4010_0000_0000_0000 in
    let nine = float 0x4022_0000_0000_0000 in
    let sixteen = float 0x4030_0000_0000_0000 in
    let axes = one ∷ minus_one ∷ minus_one ∷ [] in
    let asked_of : Kind → List Float = λ kind. alpha_asked (request_of kind (replicate alpha_place one ++ one ∷ two ∷ three ∷ []) (replicate 75 one)) in
    -- beta
    beta_is zero one
    ∷ beta_is one two
    ∷ beta_is minus_one (inf false)
    ∷ beta_is nan two
    -- halvings at 0.0625, 0.125 and 8
    ∷ halvings_are (float 0x3fb0_0000_0000_0000) 0
    ∷ halvings_are (float 0x3fc0_0000_0000_0000) 1
    ∷ halvings_are (float 0x4020_0000_0000_0000) 7
    -- the factor of a diagonal, and a pivot of zero
    ∷ reads (factor_bits (cholesky 3 (four ∷ u ∷ v ∷ zero ∷ nine ∷ w ∷ zero ∷ zero ∷ sixteen ∷ [])))
    (1 ∷ bits (two ∷ zero ∷ zero ∷ zero ∷ three ∷ zero ∷ zero ∷ zero ∷ four ∷ []))
    ∷ reads (factor_bits (cholesky 3 (four ∷ u ∷ v ∷ zero ∷ zero ∷ w ∷ zero ∷ zero ∷ sixteen ∷ []))) (0 ∷ [])
    -- zero times infinity
    ∷ numbers_are (matmul 1 1 1 (zero ∷ []) (inf false ∷ [])) (zero ∷ [])
    ∷ numbers_are (mul_transpose 1 1 1 (zero ∷ []) (inf false ∷ [])) (nan ∷ [])
    -- a mirrored pair
    ∷ numbers_are (symmetrize 2 (zero ∷ one ∷ three ∷ zero ∷ [])) (zero ∷ two ∷ two ∷ zero ∷ [])
    -- square root of 4, sine and cosine of 0
    ∷ numbers_are (sqrt four ∷ sin zero ∷ cos zero ∷ []) (two ∷ zero ∷ one ∷ [])
    -- beside the starred ones: the signs of the three half turns, and a number past the end of a call, which does not turn
    ∷ signs_are about_x one minus_one minus_one
    ∷ signs_are about_y minus_one one minus_one
    ∷ signs_are about_z minus_one minus_one one
    ∷ numbers_are (turned_about_x Position (replicate 13 one)) (one ∷ minus_one ∷ minus_one ∷ one ∷ minus_one ∷ minus_one ∷ minus_one ∷ one ∷ one ∷ minus_one ∷ one ∷ one ∷ one ∷ [])
    ∷ numbers_are (turned_about_x State (one ∷ one ∷ [])) (one ∷ one ∷ [])
    -- of a scalar update: its NIS at y = 1 and S = 2, which is not 0.5; its row, which turns by its axes, and its innovation and variance, which do not
    ∷ numbers_are (nis 1 (sqrt two ∷ []) (one ∷ []) ∷ []) (float 0x3fdf_ffff_ffff_ffff ∷ [])
    ∷ numbers_are (turned_about_x Scalar (replicate 23 one)) (axes ++ axes ++ axes ++ axes ++ axes ++ axes ++ axes ++ one ∷ one ∷ [])
    -- of several compasses: how many readings a run has; lengths and budgets that fit, and those that do not; north and noise, and a number past them
    ∷ reads (count_of 3 ∷ count_of 24 ∷ []) (1 ∷ 8 ∷ [])
    ∷ tests_are (compasses_fit 480 3 12 0 ∷ compasses_fit 480 24 12 8 ∷ []) (1 ∷ 1 ∷ [])
    ∷ tests_are (compasses_fit 480 0 12 0 ∷ compasses_fit 480 4 12 0 ∷ compasses_fit 480 27 12 0 ∷ compasses_fit 480 3 12 9 ∷ []) (0 ∷ 0 ∷ 0 ∷ 0 ∷ [])
    ∷ tests_are (compasses_fit 478 3 12 0 ∷ compasses_fit 479 3 12 0 ∷ compasses_fit 481 3 12 0 ∷ compasses_fit 480 3 11 0 ∷ compasses_fit 480 3 13 0 ∷ []) (0 ∷ 0 ∷ 0 ∷ 0 ∷ 0 ∷ [])
    ∷ numbers_are (turn_north_noise about_x (replicate 13 one)) (axes ++ one ∷ minus_one ∷ minus_one ∷ minus_one ∷ one ∷ one ∷ minus_one ∷ one ∷ one ∷ one ∷ [])
    -- the end of a filter: gravity turns, the three alphas do not; where they stand; which each kind takes, of 1, 2 and 3; alphas that are equal, and those that
    -- are not, +0 and -0 among them
    ∷ numbers_are (drop gravity_place (turned (filter_signs about_x) (replicate 480 one))) (axes ++ one ∷ one ∷ one ∷ [])
    ∷ reads (three_alphas.position ∷ three_alphas.velocity ∷ three_alphas.direction ∷ three_alphas.length ∷ one_alpha.length ∷ []) (477 ∷ 478 ∷ 479 ∷ 480 ∷ 478 ∷ [])
    ∷ numbers_are (asked_of Position ++ asked_of Velocity ++ asked_of Direction ++ asked_of General ++ asked_of Scalar) (one ∷ two ∷ three ∷ one ∷ one ∷ [])
    ∷ tests_are (alphas_equal_at zero zero zero ∷ alphas_equal_at one two one ∷ alphas_equal_at one one two ∷ alphas_equal_at zero (float 0x8000_0000_0000_0000) zero ∷ []) (1 ∷ 0 ∷ 0 ∷ 0 ∷ [])
    -- a norm: 0 by underflow, at the largest number whose square is 0; above 0 at the next number; infinite at 1e200
    ∷ numbers_are (norm_of 0x1e56_a09e_667f_3bcc ∷ norm_of 0x1e56_a09e_667f_3bcd ∷ norm_of 0x6974_e718_d7d7_625a ∷ []) (zero ∷ float 0x1e6b_b67a_e858_4caa ∷ inf false ∷ [])
    ∷ []

-- every row of the table is as stated
abbrev pub Readings : Type 0
Readings = (u v w : Float) → AsStated (readings u v w)
