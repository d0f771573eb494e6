-- `packing::pack`: what the rows let pass can be written. Assumes nothing.
use Rattle.std.proofs.Common.{sym}
use Rattle.packing.proofs.Passed.{packable}
use Rattle.packing.proofs.pack.Goals as goal

pub write_grid-requires : goal.write_grid-requires
write_grid-requires c = packable _ _ _ _ _ (sym c.in_ok-check.ensures)
