-- What the program `lattice-list` reads and prints (document 01, "Lattice of frequency n"). Definitions only.
use Rattle.std.specs.Prelude.{ℕ, cond, List, [], ◌∷◌, ◌++◌, Option, Some, None, length}
use Rattle.std.specs.Str.{bytes_eq}
use Rattle.sequences.specs.Starts.{concatenate}
use Rattle.mesh.specs.Mesh.{Mesh, count, neighbours}
use Rattle.walk.specs.Walk.{breadth_first}
use Rattle.lattice.specs.Lattice.{lattice_mesh}
use Rattle.bracket_list.specs.Text.{space, spaced, bracketed, field, line, decimal}

-- "lattice ", "frequency ", "vertices ", "entries ", "v ", "walk "
abbrev pub lattice_word : List ℕ
lattice_word = 108 ∷ 97 ∷ 116 ∷ 116 ∷ 105 ∷ 99 ∷ 101 ∷ 32 ∷ []

abbrev pub frequency_word : List ℕ
frequency_word = 102 ∷ 114 ∷ 101 ∷ 113 ∷ 117 ∷ 101 ∷ 110 ∷ 99 ∷ 121 ∷ 32 ∷ []

abbrev pub vertices_word : List ℕ
vertices_word = 118 ∷ 101 ∷ 114 ∷ 116 ∷ 105 ∷ 99 ∷ 101 ∷ 115 ∷ 32 ∷ []

abbrev pub entries_word : List ℕ
entries_word = 101 ∷ 110 ∷ 116 ∷ 114 ∷ 105 ∷ 101 ∷ 115 ∷ 32 ∷ []

abbrev pub vertex_word : List ℕ
vertex_word = 118 ∷ 32 ∷ []

abbrev pub walk_word : List ℕ
walk_word = 119 ∷ 97 ∷ 108 ∷ 107 ∷ 32 ∷ []

-- "frequency, vertices and entries"
unfoldable pub head_line : ℕ → ℕ → ℕ → List ℕ
head_line frequency vertices entries =
    line
    (bracketed (lattice_word ++ (field frequency_word frequency ++ (space ∷ (field vertices_word vertices ++ (space ∷ field entries_word entries))))))

-- "each id with its neighbours"
unfoldable pub vertex_line : ℕ → List ℕ → List ℕ
vertex_line v list = line (bracketed (vertex_word ++ (decimal v ++ (space ∷ bracketed (spaced list)))))

-- The lines of n vertices, one behind another.
unfoldable pub vertex_lines : ℕ → (ℕ → List ℕ) → List ℕ
vertex_lines n lists = concatenate n (λ v. vertex_line v (lists v))

-- "old ids in walk order"
unfoldable pub walk_line : List ℕ → List ℕ
walk_line queue = line (bracketed (walk_word ++ bracketed (spaced queue)))

-- "the lines below", of n vertices and their lists. "Every line ends with a line feed."
unfoldable pub listing : ℕ → ℕ → ℕ → (ℕ → List ℕ) → List ℕ → List ℕ
listing frequency n entries lists queue = head_line frequency n entries ++ (vertex_lines n lists ++ walk_line queue)

-- The lines of a mesh and its walk.
unfoldable pub mesh_listing : ℕ → Mesh → List ℕ
mesh_listing frequency m = listing frequency (count m) (length m.entries) (neighbours m) (breadth_first (count m) (neighbours m)).queue

-- "A refusal prints `(refused 1)` alone."
abbrev pub refused_line : List ℕ
refused_line = 40 ∷ 114 ∷ 101 ∷ 102 ∷ 117 ∷ 115 ∷ 101 ∷ 100 ∷ 32 ∷ 49 ∷ 41 ∷ 10 ∷ []

-- "reads exactly `(lattice N)` and a line feed, N one digit from 1 to 4": the text with a digit there.
abbrev pub request : ℕ → List ℕ
request digit = 40 ∷ 108 ∷ 97 ∷ 116 ∷ 116 ∷ 105 ∷ 99 ∷ 101 ∷ 32 ∷ digit ∷ 41 ∷ 10 ∷ []

-- The N that an input asks for; none for anything else, as extra bytes, a missing line feed or an early end.
unfoldable pub requested_frequency : List ℕ → Option ℕ
requested_frequency input =
    cond (bytes_eq input (request 49)) (Some 1)
    (cond (bytes_eq input (request 50)) (Some 2) (cond (bytes_eq input (request 51)) (Some 3) (cond (bytes_eq input (request 52)) (Some 4) None)))

-- The lines that answer a request.
abbrev pub answered_listing : Option ℕ → List ℕ
answered_listing (Some n) = mesh_listing n (lattice_mesh n)
answered_listing None = refused_line

-- What the program prints for what it read.
unfoldable pub lattice_listing : List ℕ → List ℕ
lattice_listing input = answered_listing (requested_frequency input)
