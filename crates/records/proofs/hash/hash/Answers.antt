-- `hash` takes the elements one by one.
use Rattle.std.proofs.Common.{refl, sym, ◌∙◌}
use Rattle.records.specs.Hash.{hash_of}
use Rattle.records.proofs.Hashing.{hash_next, hash_all}
use Rattle.records.proofs.hash.hash.Goals as goal

pub loop-x-init : goal.loop-x-init
unfolding hash_of
loop-x-init g c = refl

pub loop-x-preserved : goal.loop-x-preserved
loop-x-preserved g c =
    rw (c.hash_bytes-hash.ensures, c.BYTES.ensures, c.word.ensures) (hash_next g.T.Element.word_of g.T.Element.BYTES c.args.list.now c.loop-x.x-index c.loop-x.hash c.loop-x-test.true c.x-item.is ∙ c.loop-x.invariant)

pub returns : goal.returns
returns g c = sym (hash_all g.T.Element.word_of g.T.Element.BYTES c.args.list.now c.loop-x.x-index c.loop-x.hash c.loop-x-test.false) ∙ c.loop-x.invariant
