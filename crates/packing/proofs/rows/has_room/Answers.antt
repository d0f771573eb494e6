-- `packing::rows::has_room` meets its contract: the four tests are those of row 8. Assumes nothing.
use Rattle.std.proofs.Common.{length, ap, ◌∙◌}
use Rattle.grid.specs.Grid.{Grid}
use Rattle.packing.proofs.Passed.{room_asked, room_tested}
use Rattle.packing.proofs.rows.has_room.Goals as goal

pub returns : goal.returns
returns c =
    let buffers = c.args.buffers.now in
    rw (c.has_places.ensures, c.has_places-2.ensures, c.has_places-3.ensures) (
    ap (λ (g : Grid). room_asked g c.args.positions.now buffers.taken (length buffers.words.now) (length buffers.floats.now)) c.grid.view_is
    ∙ room_tested c.args.grid.now c.args.positions.now buffers.taken (length buffers.words.now) (length buffers.floats.now))
