-- The starred readings, by computation. Assumes nothing.
use mathlib.Core.Path.{refl}
use Rattle.drifters_real.proofs.Reading.{as_stated}
use Rattle.drifters_upgrade.specs.Upgrade.{alphas_equal}
use Rattle.drifters_demands.specs.Turn.{turned}
use Rattle.drifters_real.specs.Real.{smallest_values, whole_root, sqrt_units, sqrt, sum_of, angle, square, term, sinc_plus, sinc_minus, cos_plus, cos_minus, difference, sinc_of_square, cos_of_square, in_range, sin, cos, abs, max, is_finite}
use Rattle.drifters_matrix.specs.Matrix.{tab, matrix, sum_terms, matmul, mul_transpose, symmetrize}
use Rattle.drifters_cholesky.specs.Cholesky.{sub_terms, factor_entry, factor_columns, factor_rows, cholesky, set_row, forward, back, solve}
use Rattle.drifters_core.specs.Vec3.{dot, norm_squared, norm, normalized, amax_vec3, mul_vec3}
use Rattle.drifters_eqf.specs.Filter.{measured_direction}
use Rattle.drifters_adjoint.specs.Adjoint.{halvings}
use Rattle.drifters_gcu.specs.Gcu.{dot_vector, beta, nis}
use Rattle.drifters_demands.specs.Readings.{readings, Readings}
use lib.Ieee.{add, sub, mul, div, neg, lt, le, eq, of_bits, to_bits, is_nan}

pub starred_readings : Readings
unfolding readings turned alphas_equal measured_direction normalized beta nis dot_vector halvings dot norm_squared norm amax_vec3 mul_vec3 tab matrix sum_terms matmul mul_transpose symmetrize sub_terms factor_entry factor_columns factor_rows cholesky set_row forward back solve smallest_values whole_root sqrt_units sqrt sum_of angle square term sinc_plus sinc_minus cos_plus cos_minus difference sinc_of_square cos_of_square in_range sin cos abs max is_finite add sub mul div neg lt le eq of_bits to_bits is_nan
starred_readings u v w = as_stated (readings u v w) refl
