-- `packing::written::write_grid` meets its contract: the lists stand behind the taken words. Assumes nothing.
use Rattle.std.proofs.Common.{refl}
use Rattle.packing.proofs.Behind.{put_from}
use Rattle.packing.proofs.written.write_grid.Goals as goal

pub returns-clause-words : goal.returns-clause-words
returns-clause-words c = put_from _ c.args.buffers.now.words.now _ c.args.buffers.now.taken.words _ refl c.put_lists.ensures
