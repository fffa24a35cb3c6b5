-- `state_matrix` meets its contract. The laws before `returns` each take what some calls ensure, and answer with the definition's term:
-- over all of `c` at once `cc` meets its bound.
use mathlib.Core.Path.{◌≡◌}
use mathlib.Core.List.{List}
use Prim.Native.Nat.{ℕ}
use lib.Ieee.{Float}
use Rattle.drifters_matrix.specs.Matrix.{set_block, neg_matrix}
use Rattle.drifters_core.specs.Vec3.{zero_vec3, skew, add_vec3, mul_mat3_vec3}
use Rattle.drifters_core.specs.declared.math.vec3.Vec3.{Vec3}
use Rattle.drifters_matrix.specs.Shapes.{Mat3}
use Rattle.drifters_lie.specs.Lie.{se23_tangent, pi, ad_se3, add_se3, add_se23, adjoint_apply_se23}
use Rattle.drifters_symmetry.specs.Group.{attitude_offset, velocity_offset, position_offset, gyro_bias_offset, accel_bias_offset, lever_offset, mag_offset}
use Rattle.drifters_symmetry.specs.Linear.{state_matrix}
use Rattle.drifters_lie.specs.declared.lie.Se23Tangent.{Se23Tangent}
use Rattle.drifters_lie.specs.declared.lie.Se3Tangent.{Se3Tangent}
use Rattle.drifters_symmetry.specs.declared.group.Symmetry.{Symmetry}
use Rattle.drifters_symmetry.specs.declared.lift.Input.{Input}
use Rattle.drifters_symmetry.proofs.linear.state_matrix.Goals as goal

-- a b by b block is set
placed : (b r0 c0 : ℕ) {o m n s t : List Float} → o ≡ set_block 21 21 b b r0 c0 m s → m ≡ n → s ≡ t → o ≡ set_block 21 21 b b r0 c0 n t
placed b r0 c0 e p q = cc

entries : {m n : Mat3} → m ≡ n → m.«data» ≡ n.«data»
entries e = cc

negated : {m n : Mat3} {o : List Float} → o ≡ neg_matrix 9 m.«data» → m ≡ n → o ≡ neg_matrix 9 n.«data»
negated e p = cc

-- the block of the biases
biases : (x : Symmetry) (u : Input) (gravity : Vec3) {w g t s : Se23Tangent} {p q : Se3Tangent} {b : List Float} →
    w ≡ se23_tangent u.omega u.accel zero_vec3 → g ≡ se23_tangent zero_vec3 gravity zero_vec3 →
    t ≡ adjoint_apply_se23 x.c w → s ≡ add_se23 t g → p ≡ pi s → q ≡ add_se3 x.gamma p → b ≡ ad_se3 q →
    b ≡ ad_se3 (add_se3 x.gamma (pi (add_se23 (adjoint_apply_se23 x.c (se23_tangent u.omega u.accel zero_vec3)) (se23_tangent zero_vec3 gravity zero_vec3))))
biases x u gravity e f h k l m n = cc

-- the blocks of the rate
rates : (x : Symmetry) (u : Input) {a s : Mat3} {p q : Vec3} →
    a ≡ x.c.rotation → p ≡ mul_mat3_vec3 a u.omega → q ≡ add_vec3 p x.gamma.omega → s ≡ skew q →
    s ≡ skew (add_vec3 (mul_mat3_vec3 x.c.rotation u.omega) x.gamma.omega)
rates x u e f h k = cc

-- b is the block of the biases, a3 that of the rate, and m1 to m9 what the matrix is after each block is set
pub returns : goal.returns
unfolding state_matrix
returns c =
    let start = c.args in
    let b =
    biases start.x start.u start.gravity
    c.new-w.ensures c.new-g.ensures c.adjoint_apply.ensures
    c.add.ensures c.pi.ensures c.add-2.ensures c.ad-ad.ensures in
    let a3 =
    rates start.x start.u
    c.a.ensures c.mul_vec3.ensures
    c.add-3.ensures c.skew-a3.ensures in
    let one = c.identity-one.ensures in
    let m1 = placed 3 velocity_offset attitude_offset c.set_block.ensures c.zeros-m.ensures (entries c.skew.ensures) in
    let m2 = placed 3 position_offset velocity_offset c.set_block-2.ensures m1 one in
    let m3 = placed 3 attitude_offset gyro_bias_offset c.set_block-3.ensures m2 one in
    let m4 = placed 3 velocity_offset accel_bias_offset c.set_block-4.ensures m3 one in
    let m5 = placed 3 position_offset gyro_bias_offset c.set_block-5.ensures m4 (entries c.skew-2.ensures) in
    let m6 = placed 6 gyro_bias_offset gyro_bias_offset c.set_block-6.ensures m5 b in
    let m7 = placed 3 lever_offset lever_offset c.set_block-7.ensures m6 (entries a3) in
    let m8 = placed 3 mag_offset mag_offset c.set_block-8.ensures m7 (entries a3) in
    let m9 = placed 3 mag_offset attitude_offset c.set_block-9.ensures m8 (negated c.neg.ensures a3) in
    placed 3 mag_offset gyro_bias_offset c.set_block-10.ensures m9 one
