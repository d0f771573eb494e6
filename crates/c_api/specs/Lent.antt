-- The whole outcome of a call that is lent slices or a mesh's mark for writing: the answer that C and Rust callers receive, and what was lent, at exit. Definitions only.
use Rattle.std.specs.Prelude.{ℕ, Bool, List, Float}
use Rattle.mesh.specs.Mesh.{Mesh}
use Rattle.mesh.specs.Mark.{MarkOutcome}
use Rattle.walk.specs.Walk.{WalkOutcome}
use Rattle.islands.specs.Outcomes.{IslandsOutcome}
use Rattle.steps.specs.Outcomes.{WithinOutcome}
use Rattle.renumber.specs.Renumber.{RenumberOutcome}
use Rattle.c_api.specs.declared.VerdictAnswer.{VerdictAnswer}
use Rattle.c_api.specs.declared.WalkAnswer.{WalkAnswer}
use Rattle.c_api.specs.declared.IslandsAnswer.{IslandsAnswer}
use Rattle.c_api.specs.declared.WithinAnswer.{WithinAnswer}
use Rattle.c_api.specs.declared.PackAnswer.{PackAnswer}
use Rattle.c_api.specs.Code.{build_answer, islands_answer, pack_answer, refusal_code, verdict_answer, walk_answer, within_answer}
use Rattle.lattice.specs.Lattice.{LatticeSlices, LatticeOutcome}
use Rattle.grid.specs.Grid.{GridSlices, BuildOutcome}
use Rattle.packing.specs.Packing.{PackOutcome}
use Rattle.c_api.specs.declared.BuildAnswer.{BuildAnswer}

-- A walk's answer, order and queue.
pub record WalkLeft : Type 0 where
  pub answer : WalkAnswer
  pub order : List ℕ
  pub queue : List ℕ

abbrev pub walk_left : WalkAnswer → List ℕ → List ℕ → WalkLeft
walk_left answer order queue = record { answer = answer; order = order; queue = queue }

abbrev pub walk_left_of : WalkOutcome → WalkLeft
walk_left_of outcome = walk_left (walk_answer outcome.answered) outcome.order outcome.queue

-- The answer of a walk over all islands, order, queue and the islands' starts.
pub record IslandsLeft : Type 0 where
  pub answer : IslandsAnswer
  pub order : List ℕ
  pub queue : List ℕ
  pub island_starts : List ℕ

abbrev pub islands_left : IslandsAnswer → List ℕ → List ℕ → List ℕ → IslandsLeft
islands_left answer order queue island_starts = record { answer = answer; order = order; queue = queue; island_starts = island_starts }

abbrev pub islands_left_of : IslandsOutcome → IslandsLeft
islands_left_of outcome = islands_left (islands_answer outcome.answered) outcome.order outcome.queue outcome.island_starts

-- The answer of a call that lists the vertices within so many steps, and the list.
pub record WithinLeft : Type 0 where
  pub answer : WithinAnswer
  pub list : List ℕ

abbrev pub within_left : WithinAnswer → List ℕ → WithinLeft
within_left answer list = record { answer = answer; list = list }

abbrev pub within_left_of : WithinOutcome → WithinLeft
within_left_of outcome = within_left (within_answer outcome.answered) outcome.list

-- A reading call's answer, and the mark.
pub record MarkLeft : Type 0 where
  pub answer : VerdictAnswer
  pub mark : Bool

abbrev pub mark_left : VerdictAnswer → Bool → MarkLeft
mark_left answer mark = record { answer = answer; mark = mark }

abbrev pub mark_left_of : MarkOutcome → MarkLeft
mark_left_of outcome = mark_left (verdict_answer outcome.answered) outcome.mark

-- A renumbering's answer, mesh, mark and data.
pub record RenumberLeft : Type 0 where
  pub answer : VerdictAnswer
  pub mesh : Mesh
  pub mark : Bool
  pub values : List Float

abbrev pub renumber_left : VerdictAnswer → Mesh → Bool → List Float → RenumberLeft
renumber_left answer mesh mark values = record { answer = answer; mesh = mesh; mark = mark; values = values }

abbrev pub renumber_left_of : RenumberOutcome → RenumberLeft
renumber_left_of outcome = renumber_left (verdict_answer outcome.answered) outcome.mesh outcome.mark outcome.values

-- What a call of `koshirga_lattice` leaves: its answer, the four slices and the mark.
pub record LatticeLeft : Type 0 where
  pub refusal : ℕ
  pub slices : LatticeSlices
  pub mark : Bool

abbrev pub lattice_left : ℕ → LatticeSlices → Bool → LatticeLeft
lattice_left refusal slices mark = record { refusal = refusal; slices = slices; mark = mark }

abbrev pub lattice_left_of : LatticeOutcome → LatticeLeft
lattice_left_of outcome = lattice_left (refusal_code outcome.answered) outcome.slices outcome.mark

-- What a call of `koshirga_build_grid` leaves.
pub record BuildLeft : Type 0 where
  pub answer : BuildAnswer
  pub slices : GridSlices

abbrev pub build_left : BuildAnswer → GridSlices → BuildLeft
build_left answer slices = record { answer = answer; slices = slices }

abbrev pub build_left_of : BuildOutcome → BuildLeft
build_left_of outcome = build_left (build_answer outcome.answered) outcome.slices

-- What a call of `koshirga_pack` leaves: its answer, and the slices of words and of floats.
pub record PackLeft : Type 0 where
  pub answer : PackAnswer
  pub words : List ℕ
  pub floats : List Float

abbrev pub pack_left : PackAnswer → List ℕ → List Float → PackLeft
pack_left answer words floats = record { answer = answer; words = words; floats = floats }

abbrev pub pack_left_of : PackOutcome → PackLeft
pack_left_of outcome = pack_left (pack_answer outcome.answered) outcome.words outcome.floats
