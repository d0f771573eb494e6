-- Each read takes the input's next bytes to where the text is not yet filled.
use Rattle.std.proofs.Common.{sym, subst, rules}
use Rattle.std.specs.Io.KnownBytes.{Consumes}
use Rattle.std.proofs.KnownBytes.{Consumes-trans}
use Rattle.reading.proofs.Places.{take-filled}
use Rattle.reading.proofs.read_full.Goals as goal

pub loop-done-preserved : goal.loop-done-preserved
loop-done-preserved g c =
    let read = c.in-Ok.ensures in
    let before = c.loop-done.invariant in
    let filled = take-filled c.loop-done.text c.read.new.buf c.loop-done.done _ c.in-Ok.n before.1 read.bound.0 in (
      search rules,
      search rules,
      subst (Consumes _ _) (sym filled) (Consumes-trans _ _ _ _ _ before.2 read.bytes.0),
    )
