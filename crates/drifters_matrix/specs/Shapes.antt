-- Types of matrices, by the names that the code gives them.
use Rattle.drifters_matrix.specs.declared.math.matrix.Matrix.{Matrix}

-- 3 rows and 3 columns
abbrev pub Mat3 : Type 0
Mat3 = Matrix 3 3 9
