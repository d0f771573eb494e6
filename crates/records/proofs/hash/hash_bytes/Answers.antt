-- `hash_bytes` takes the bytes one by one.
use Rattle.std.proofs.Common.{◌≡◌, ◌+◌, ◌-◌, sym, ◌∙◌, arith}
use Rattle.records.specs.Hash.{hashed_byte}
use Rattle.records.proofs.Hashing.{bytes_next, bytes_all}
use Rattle.records.proofs.hash.hash_bytes.Goals as goal

pub loop-preserved : goal.loop-preserved
unfolding hashed_byte
loop-preserved c =
    let e : c.args.count - (c.loop.counter + 1) ≡ c.args.count - c.loop.counter - 1 = omega arith in
    rw e (bytes_next c.loop.now (c.args.count - c.loop.counter) c.loop.rest (omega arith) ∙ c.loop.invariant)

pub returns : goal.returns
returns c = sym (bytes_all c.loop.now (c.args.count - c.loop.counter) c.loop.rest (omega arith)) ∙ c.loop.invariant
