-- `mesh::checked::Mesh::lists_ascend` meets its contract: each list is tested. Assumes nothing.
use Rattle.std.proofs.Common.{rules, tests, ◌∙◌, arith}
use Rattle.std.proofs.lemmas.Iterator.{YieldsList-from_range}
use Rattle.std.proofs.lemmas.Iterator.Search.{all_from_yields_List}
use Rattle.sequences.proofs.Ranges.{all_range}
use Rattle.mesh.specs.Mesh.{count, neighbours}
use Rattle.mesh.specs.Mark.{list_ascends, lists_ascend}
use Rattle.mesh.proofs.checked.Mesh.lists_ascend.Goals as goal

pub returns : goal.returns
unfolding lists_ascend
returns c =
    let m = c.args.self.now in
    all_from_yields_List (λ v. list_ascends (neighbours m v)) _ _ _ c.all.ensures.ran (YieldsList-from_range 0 (count m) (count m) (cc) (omega arith)) (λ x b q k. search (rules, tests)) ∙ all_range _ (count m)
