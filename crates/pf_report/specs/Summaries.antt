-- What is counted of bodies. This project's own.
use Rattle.std.specs.Prelude.{List, []}
use Rattle.pf_model.specs.Direct.{MatrixRow}
use Rattle.pf_report.specs.declared.bodies.Body.{Body}
use Rattle.pf_report.specs.declared.bodies.Body.TheVariants.{Matrix, Vector, Scalar}

-- the rows of the matrix in a body, if it has one
abbrev pub rows_in : Body → List MatrixRow
rows_in (Matrix rows) = rows
rows_in (Vector rows) = rows
rows_in (Scalar rows) = rows
rows_in _ = []
