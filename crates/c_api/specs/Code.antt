-- The numbers that C and Rust callers receive for an answer by cases: the refusal's number first, 0 where the call was accepted; the other fields of a refused answer are 0, but for the index that row 18 carries. Definitions only.
use Rattle.std.specs.Prelude.{ℕ, Bool, ℤ, pos, negsuc, Result, Ok, Err}
use Rattle.std.specs.declared.cmp.Ordering.{Ordering}
use Rattle.std.specs.declared.cmp.Ordering.TheVariants.{Less, Equal, Greater}
use Rattle.binary64.specs.Constants.{positive_zero}
use Rattle.binary64.specs.declared.Conversion.{Conversion}
use Rattle.binary64.specs.declared.Conversion.TheVariants.{Kept, Cut, Held, NotANumber}
use Rattle.binary64.specs.declared.Converted.{Converted}
use Rattle.refusal.specs.declared.Refusal.{Refusal}
use Rattle.refusal.specs.Refusal.{Verdict, number_of, index_of}
use Rattle.master_face.specs.declared.Three.{Three}
use Rattle.analytic.specs.declared.Signs.{Signs}
use Rattle.analytic.specs.declared.Located as analytic
use Rattle.islands.specs.declared.IslandCount.{IslandCount}
use Rattle.steps.specs.declared.Steps.{Steps}
use Rattle.grid.specs.declared.Built.{Built}
use Rattle.packing.specs.declared.LevelRecord.{LevelRecord}
use Rattle.grid_query.specs.declared.Nearest.{Nearest}
use Rattle.grid_query.specs.declared.LocatedTriangle.{LocatedTriangle}
use Rattle.c_api.specs.declared.VerdictAnswer.{VerdictAnswer}
use Rattle.c_api.specs.declared.BuildAnswer.{BuildAnswer}
use Rattle.c_api.specs.declared.ConversionAnswer.{ConversionAnswer}
use Rattle.c_api.specs.declared.FaceAnswer.{FaceAnswer}
use Rattle.c_api.specs.declared.AnalyticAnswer.{AnalyticAnswer}
use Rattle.c_api.specs.declared.VertexAnswer.{VertexAnswer}
use Rattle.c_api.specs.declared.WalkAnswer.{WalkAnswer}
use Rattle.c_api.specs.declared.IslandsAnswer.{IslandsAnswer}
use Rattle.c_api.specs.declared.StepsAnswer.{StepsAnswer}
use Rattle.c_api.specs.declared.WithinAnswer.{WithinAnswer}
use Rattle.c_api.specs.declared.PackAnswer.{PackAnswer}
use Rattle.c_api.specs.declared.NearestAnswer.{NearestAnswer}
use Rattle.c_api.specs.declared.LocatedAnswer.{LocatedAnswer}

-- −1, 0 or 1, as comparison functions of C answer.
abbrev pub ordering_code : Ordering → ℤ
ordering_code Less = negsuc 0
ordering_code Equal = pos 0
ordering_code Greater = pos 1

-- "kept, cut toward zero, held at an end, or not a number", in this order from 0.
abbrev pub conversion_code : Conversion → ℕ
conversion_code Kept = 0
conversion_code Cut = 1
conversion_code Held = 2
conversion_code NotANumber = 3

abbrev pub conversion_answer : Converted → ConversionAnswer
conversion_answer converted = record { whole = converted.whole; how = conversion_code converted.how }

-- 0 for a call that was accepted, as a direction that row 9 lets pass, and otherwise the number of the first row that refuses.
abbrev pub refusal_code : {A : Type 0} → Result A Refusal → ℕ
refusal_code (Ok accepted) = 0
refusal_code (Err reason) = number_of reason

-- The same with the index that the refusal carries.
abbrev pub verdict_answer : Verdict → VerdictAnswer
verdict_answer (Err reason) = record { refusal = number_of reason; index = index_of reason }
verdict_answer (Ok passed) = record { refusal = 0; index = 0 }

-- Three symmetry signs and three outside flags, as the classifier takes them.
abbrev pub signs_with : Bool → Bool → Bool → Signs
signs_with i j k = record { i = i; j = j; k = k }

abbrev pub outside_with : Bool → Bool → Bool → Three Bool
outside_with first second third = record { first = first; second = second; third = third }

abbrev pub face_answer : Result ℕ Refusal → FaceAnswer
face_answer (Err reason) = record { refusal = number_of reason; face = 0 }
face_answer (Ok face) = record { refusal = 0; face = face }

abbrev pub analytic_answer : Result analytic.Located Refusal → AnalyticAnswer
analytic_answer (Err reason) =
    record { refusal = number_of reason; first = 0; second = 0; third = 0; u = positive_zero; v = positive_zero; w = positive_zero }
analytic_answer (Ok located) = record {
  refusal = 0;
  first = located.triple.first;
  second = located.triple.second;
  third = located.triple.third;
  u = located.weights.u;
  v = located.weights.v;
  w = located.weights.w;
}

abbrev pub vertex_answer : Result ℕ Refusal → VertexAnswer
vertex_answer (Err reason) = record { refusal = number_of reason; id = 0 }
vertex_answer (Ok id) = record { refusal = 0; id = id }

abbrev pub walk_answer : Result ℕ Refusal → WalkAnswer
walk_answer (Err reason) = record { refusal = number_of reason; entries_read = 0; index = index_of reason }
walk_answer (Ok read) = record { refusal = 0; entries_read = read; index = 0 }

abbrev pub islands_answer : Result IslandCount Refusal → IslandsAnswer
islands_answer (Err reason) = record { refusal = number_of reason; islands = 0; entries_read = 0; index = index_of reason }
islands_answer (Ok counted) = record { refusal = 0; islands = counted.islands; entries_read = counted.entries_read; index = 0 }

abbrev pub steps_answer : Result Steps Refusal → StepsAnswer
steps_answer (Err reason) = record { refusal = number_of reason; steps = 0; entries_read = 0; index = index_of reason }
steps_answer (Ok found) = record { refusal = 0; steps = found.steps; entries_read = found.entries_read; index = 0 }

abbrev pub within_answer : Result ℕ Refusal → WithinAnswer
within_answer (Err reason) = record { refusal = number_of reason; vertices = 0; index = index_of reason }
within_answer (Ok vertices) = record { refusal = 0; vertices = vertices; index = 0 }

abbrev pub build_answer : Result Built Refusal → BuildAnswer
build_answer (Err reason) = record { refusal = number_of reason; side = 0; index = index_of reason; held = 0 }
build_answer (Ok built) = record { refusal = 0; side = built.side; index = 0; held = built.held }

-- The record of a refused packing: seven zeros.
abbrev pub no_record : LevelRecord
no_record = record { vertices = 0; side = 0; cell_starts = 0; cell_ids = 0; triangle_starts = 0; triples = 0; positions = 0 }

abbrev pub pack_answer : Result LevelRecord Refusal → PackAnswer
pack_answer (Err reason) = record { refusal = number_of reason; level = no_record; index = index_of reason }
pack_answer (Ok packed) = record { refusal = 0; level = packed; index = 0 }

abbrev pub nearest_answer : Result Nearest Refusal → NearestAnswer
nearest_answer (Err reason) = record { refusal = number_of reason; id = 0; candidates = 0; distance = positive_zero; index = index_of reason }
nearest_answer (Ok nearest) =
    record { refusal = 0; id = nearest.id; candidates = nearest.candidates; distance = nearest.distance; index = 0 }

abbrev pub located_answer : Result LocatedTriangle Refusal → LocatedAnswer
located_answer (Err reason) =
    record { refusal = number_of reason; first = 0; second = 0; third = 0; u = positive_zero; v = positive_zero; w = positive_zero; least = positive_zero; index = index_of reason }
located_answer (Ok located) = record {
  refusal = 0;
  first = located.triple.first;
  second = located.triple.second;
  third = located.triple.third;
  u = located.weights.u;
  v = located.weights.v;
  w = located.weights.w;
  least = located.least;
  index = 0;
}
