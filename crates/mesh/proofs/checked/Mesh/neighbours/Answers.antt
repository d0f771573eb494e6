-- `mesh::checked::Mesh::neighbours` meets its contract: the rows that hold of every such mesh give each vertex a list. Assumes nothing.
use Rattle.std.proofs.Common.{ap, subst, sym, ◌<◌, ◌∙◌}
use Rattle.mesh.specs.Mesh.{Mesh, mesh_of, count, neighbours}
use Rattle.mesh.specs.declared.checked.Mesh.TheInside.{Inside}
use Rattle.mesh.proofs.Facts.{adjacency_facts}
use Rattle.mesh.proofs.Neighbours.{has_list}
use Rattle.mesh.proofs.checked.Mesh.neighbours.Goals as goal

abbrev lent : Inside → Mesh
lent fields = mesh_of fields.positions.now fields.starts.now fields.entries.now

pub list_of-requires : goal.list_of-requires
list_of-requires c = has_list (adjacency_facts (lent c.self.inside) c.self.invariant).rows c.args.vertex (subst (λ (m : Mesh). c.args.vertex < count m) (sym c.self.view_is) c.requires)

pub returns : goal.returns
unfolding neighbours
returns c = c.list_of.ensures ∙ ap (λ (m : Mesh). neighbours m c.args.vertex) c.self.view_is
