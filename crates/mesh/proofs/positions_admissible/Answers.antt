-- `mesh::positions_admissible` meets its contract: vertex after vertex. Assumes nothing.
use Rattle.std.proofs.Common.{rules, tests, ◌∙◌, arith}
use Rattle.std.proofs.lemmas.Iterator.{YieldsList-from_range}
use Rattle.std.proofs.lemmas.Iterator.Search.{all_from_yields_List}
use Rattle.sequences.proofs.Ranges.{all_range}
use Rattle.vector.specs.Direction.{admissible}
use Rattle.mesh.specs.Mesh.{vertex_count, position_of}
use Rattle.mesh.specs.Rows.{positions_admissible}
use Rattle.mesh.proofs.positions_admissible.Goals as goal

pub returns : goal.returns
unfolding positions_admissible
returns c =
    let positions = c.args.positions.now in
    all_from_yields_List (λ v. admissible (position_of positions v)) _ _ _ c.all.ensures.ran (YieldsList-from_range 0 (vertex_count positions) (vertex_count positions) (cc) (omega arith)) (λ x b q k. search (rules, tests)) ∙ all_range _ (vertex_count positions)
