-- `grid_query::laws::answers_tell`: of a nearest query, of a location, and of both. Assumes nothing.
use Rattle.grid_query.proofs.VertexFound.{vertex_found}
use Rattle.grid_query.proofs.TriangleLocated.{triangle_located}
use Rattle.grid_query.proofs.PairRead.{query_reads_pair}
use Rattle.grid_query.proofs.laws.answers_tell.Goals as goal

pub returns-clause-vertex : goal.returns-clause-vertex
returns-clause-vertex c = vertex_found

pub returns-clause-triangle : goal.returns-clause-triangle
returns-clause-triangle c = triangle_located

pub returns-clause-pair : goal.returns-clause-pair
returns-clause-pair c = query_reads_pair
