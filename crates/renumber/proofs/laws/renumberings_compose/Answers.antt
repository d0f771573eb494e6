use Rattle.sequences.proofs.Permutation.{inverse_compose}
use Rattle.mesh.proofs.Facts.{adjacency_facts}
use Rattle.renumber.proofs.RenumberedMesh.{renumbered_twice, identity_positions, identity_lists}
use Rattle.renumber.proofs.laws.renumberings_compose.Goals as goal

pub returns-clause-twice : goal.returns-clause-twice
returns-clause-twice c = λ m p q rows first second. renumbered_twice m (adjacency_facts m rows) first second

pub returns-clause-inverse : goal.returns-clause-inverse
returns-clause-inverse c = λ n p q first second. inverse_compose first second

pub returns-clause-identity_positions : goal.returns-clause-identity_positions
returns-clause-identity_positions c = λ m rows. identity_positions m (adjacency_facts m rows)

pub returns-clause-identity_lists : goal.returns-clause-identity_lists
returns-clause-identity_lists c = λ m rows. identity_lists m (adjacency_facts m rows)
