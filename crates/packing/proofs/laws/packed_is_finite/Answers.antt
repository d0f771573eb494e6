-- `packing::laws::packed_is_finite`: by row 5: a component, and then every float. Assumes nothing.
use Rattle.packing.proofs.Contents.{component_finite, finite_packed}
use Rattle.packing.proofs.laws.packed_is_finite.Goals as goal

pub returns-clause-component : goal.returns-clause-component
returns-clause-component c = component_finite

pub returns-clause-packed : goal.returns-clause-packed
returns-clause-packed c = finite_packed
