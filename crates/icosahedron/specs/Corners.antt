-- The program's corners by their places in a face. Definitions only.
use Rattle.std.specs.Prelude.{ℕ}
use Rattle.icosahedron.specs.declared.Corner.{Corner}
use Rattle.icosahedron.specs.declared.Corner.TheVariants.{A, B, C}

abbrev pub corner_number : Corner → ℕ
corner_number A = 0
corner_number B = 1
corner_number C = 2
