-- Vectors of three doubles. Each `add`, `sub`, `mul` and `div` is one operation of IEEE 754-2019, 5.4.1, rounded to nearest, ties to even (4.3.1). Definitions only.
use Rattle.std.specs.Prelude.{List, [], ◌∷◌, Float}
use Rattle.std.specs.Float.{binary64}
use Rattle.std.specs.Float.Ieee.{add, sub, mul, div}
use Rattle.root.specs.Root.{square_root}
use Rattle.vector.specs.declared.Vector3.{Vector3}

abbrev pub vector : Float → Float → Float → Vector3
vector x y z = record { x = x; y = y; z = z }

-- The components in their order, as positions hold them.
abbrev pub coordinates : Vector3 → List Float
coordinates v = v.x ∷ v.y ∷ v.z ∷ []

-- "A dot product is x·x' + y·y' + z·z', summed from the left."
abbrev pub dot_product : Vector3 → Vector3 → Float
dot_product a b = add binary64 (add binary64 (mul binary64 a.x b.x) (mul binary64 a.y b.y)) (mul binary64 a.z b.z)

-- "Squared length is a vector's dot with itself."
abbrev pub squared_length : Vector3 → Float
squared_length a = dot_product a a

-- "Cross is (y·z' − z·y', z·x' − x·z', x·y' − y·x')."
abbrev pub cross_product : Vector3 → Vector3 → Vector3
cross_product a b =
    vector (sub binary64 (mul binary64 a.y b.z) (mul binary64 a.z b.y))
    (sub binary64 (mul binary64 a.z b.x) (mul binary64 a.x b.z))
    (sub binary64 (mul binary64 a.x b.y) (mul binary64 a.y b.x))

-- The rest goes component by component, one rounding each.
abbrev pub vector_difference : Vector3 → Vector3 → Vector3
vector_difference a b = vector (sub binary64 a.x b.x) (sub binary64 a.y b.y) (sub binary64 a.z b.z)

abbrev pub vector_sum : Vector3 → Vector3 → Vector3
vector_sum a b = vector (add binary64 a.x b.x) (add binary64 a.y b.y) (add binary64 a.z b.z)

abbrev pub vector_multiple : Vector3 → Float → Vector3
vector_multiple a factor = vector (mul binary64 a.x factor) (mul binary64 a.y factor) (mul binary64 a.z factor)

abbrev pub vector_quotient : Vector3 → Float → Vector3
vector_quotient a divisor = vector (div binary64 a.x divisor) (div binary64 a.y divisor) (div binary64 a.z divisor)

-- "Length is its root", that of the squared length.
abbrev pub length_of : Vector3 → Float
length_of a = square_root binary64 (squared_length a)

-- "normalising divides each component by it."
abbrev pub normalized : Vector3 → Vector3
normalized a = vector_quotient a (length_of a)
