-- `packing::written::put_lists` meets its contract: each list is written behind the one before it. Assumes nothing.
use Rattle.std.proofs.Common.{List, ℕ, ◌++◌, refl, ap, ◌∙◌, append_assoc, length-append}
use Rattle.sequences.specs.Tabulate.{overwrite}
use Rattle.grid.specs.Grid.{Grid}
use Rattle.packing.specs.Packing.{packed_words}
use Rattle.packing.proofs.Behind.{put_behind}
use Rattle.packing.proofs.written.put_lists.Goals as goal

pub returns : goal.returns
unfolding packed_words
returns c =
    let lists = c.grid.inside in
    let starts = lists.cell_starts.now in
    let ids = lists.cell_ids.now in
    let triangles = lists.triangle_starts.now in
    let old = c.args.words.now in
    let with_ids = put_behind starts ids old _ _ _ _ refl refl c.copy_starts.ensures c.widen_ids.ensures in
    let with_triangles = put_behind (starts ++ ids) triangles old _ _ _ _ (length-append starts ids) refl with_ids c.copy_starts-2.ensures in
    let with_triples = put_behind ((starts ++ ids) ++ triangles) lists.triples.now old _ _ _ _ (simp length-append) refl with_triangles c.widen_ids-2.ensures in
    with_triples ∙ ap (λ (l : List ℕ). overwrite l old) (simp append_assoc) ∙ ap (λ (g : Grid). overwrite (packed_words g) old) c.grid.view_is
