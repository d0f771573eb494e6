-- What is left of the list goes into the hash as the whole list does.
use Rattle.std.proofs.Common.{◌≡◌, map}
use Rattle.records.specs.Hash.{hash_of}
use Rattle.records.proofs.Hashing.{rest_hashed}
use Rattle.records.proofs.hash.hash.Given as goal

abbrev pub invariant-loop-x : goal.invariant-loop-x
invariant-loop-x g l = let e = g.T.Element in rest_hashed e.word_of e.BYTES l.list l.x-index l.hash ≡ hash_of e.BYTES (map e.word_of l.list)
