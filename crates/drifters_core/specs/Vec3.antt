-- Port of math/vec3.rs: three-element column vectors. Definitions only.
use Rattle.std.specs.Prelude.{ℕ, Bool, ◌&&◌, cond, List, [], ◌∷◌, get_or, Float, Option, Some, None}
use Rattle.std.specs.Float.{nan}
use Rattle.std.specs.Float.Ieee.{neg, lt}
use Rattle.drifters_real.specs.Scalar.{◌⊕◌, ◌⊖◌, ◌⊗◌, ◌⊘◌, plus_zero}
use Rattle.drifters_real.specs.Real.{sqrt, abs, is_finite}
use Rattle.drifters_matrix.specs.Matrix.{at, larger}
use Rattle.drifters_core.specs.declared.math.vec3.Vec3.{Vec3}
use Rattle.drifters_matrix.specs.Shapes.{Mat3}

-- the vector of three components
abbrev pub vec3 : Float → Float → Float → Vec3
vec3 x y z = record { x = x; y = y; z = z }

-- the zero vector
abbrev pub zero_vec3 : Vec3
zero_vec3 = vec3 plus_zero plus_zero plus_zero

-- every component v
abbrev pub splat : Float → Vec3
splat v = vec3 v v v

-- from three numbers
abbrev pub from_array : List Float → Vec3
from_array a = vec3 (get_or a 0 nan) (get_or a 1 nan) (get_or a 2 nan)

-- the three components in order
abbrev pub to_array : Vec3 → List Float
to_array v = v.x ∷ v.y ∷ v.z ∷ []

-- the dot product
unfoldable pub dot : Vec3 → Vec3 → Float
dot a b = a.x ⊗ b.x ⊕ a.y ⊗ b.y ⊕ a.z ⊗ b.z

-- the cross product, a × b
unfoldable pub cross : Vec3 → Vec3 → Vec3
cross a b = vec3 (a.y ⊗ b.z ⊖ a.z ⊗ b.y) (a.z ⊗ b.x ⊖ a.x ⊗ b.z) (a.x ⊗ b.y ⊖ a.y ⊗ b.x)

-- the squared Euclidean norm
unfoldable pub norm_squared : Vec3 → Float
norm_squared v = dot v v

-- the Euclidean norm
unfoldable pub norm : Vec3 → Float
norm v = sqrt (norm_squared v)

-- each component over s
unfoldable pub div_vec3 : Vec3 → Float → Vec3
div_vec3 v s = vec3 (v.x ⊘ s) (v.y ⊘ s) (v.z ⊘ s)

-- the vector over its norm; none where the norm is not above 0, be it 0 or not a number
unfoldable pub normalized : Vec3 → Option Vec3
normalized v = cond (lt plus_zero (norm v)) (Some (div_vec3 v (norm v))) None

-- the products of the components
unfoldable pub component_mul : Vec3 → Vec3 → Vec3
component_mul a b = vec3 (a.x ⊗ b.x) (a.y ⊗ b.y) (a.z ⊗ b.z)

-- the quotients of the components
unfoldable pub component_div : Vec3 → Vec3 → Vec3
component_div a b = vec3 (a.x ⊘ b.x) (a.y ⊘ b.y) (a.z ⊘ b.z)

-- the squares of the components
unfoldable pub squared : Vec3 → Vec3
squared v = component_mul v v

-- the 3 by 3 matrix of nine entries, row by row
abbrev pub mat3 : Float → Float → Float → Float → Float → Float → Float → Float → Float → Mat3
mat3 a b c d e f g h i = record { «data» = a ∷ b ∷ c ∷ d ∷ e ∷ f ∷ g ∷ h ∷ i ∷ [] }

-- the skew-symmetric matrix [v×]
unfoldable pub skew : Vec3 → Mat3
skew v = mat3
    plus_zero (neg v.z) v.y
    v.z plus_zero (neg v.x)
    (neg v.y) v.x plus_zero

-- the diagonal matrix of the components
unfoldable pub to_diag : Vec3 → Mat3
to_diag v = mat3
    v.x plus_zero plus_zero
    plus_zero v.y plus_zero
    plus_zero plus_zero v.z

-- every component is finite
unfoldable pub finite_vec3 : Vec3 → Bool
finite_vec3 v = is_finite v.x && is_finite v.y && is_finite v.z

-- the largest size of a component, from that of x: not a number is kept only where x is
unfoldable pub amax_vec3 : Vec3 → Float
amax_vec3 v = larger (larger (abs v.x) v.y) v.z

-- the sum
unfoldable pub add_vec3 : Vec3 → Vec3 → Vec3
add_vec3 a b = vec3 (a.x ⊕ b.x) (a.y ⊕ b.y) (a.z ⊕ b.z)

-- the difference
unfoldable pub sub_vec3 : Vec3 → Vec3 → Vec3
sub_vec3 a b = vec3 (a.x ⊖ b.x) (a.y ⊖ b.y) (a.z ⊖ b.z)

-- each component negated
unfoldable pub neg_vec3 : Vec3 → Vec3
neg_vec3 v = vec3 (neg v.x) (neg v.y) (neg v.z)

-- each component times s
unfoldable pub mul_vec3 : Vec3 → Float → Vec3
mul_vec3 v s = vec3 (v.x ⊗ s) (v.y ⊗ s) (v.z ⊗ s)

-- row i of a 3 by 3 matrix times v
abbrev pub row_times : List Float → ℕ → Vec3 → Float
row_times m i v = at 3 m i 0 ⊗ v.x ⊕ at 3 m i 1 ⊗ v.y ⊕ at 3 m i 2 ⊗ v.z

-- the 3 by 3 matrix m times v
unfoldable pub mul_mat3_vec3 : Mat3 → Vec3 → Vec3
mul_mat3_vec3 m v = record { x = row_times m.«data» 0 v; y = row_times m.«data» 1 v; z = row_times m.«data» 2 v }
