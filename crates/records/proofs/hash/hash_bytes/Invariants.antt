-- What is left of the word's bytes goes into the hash as the whole word does.
use Rattle.std.proofs.Common.{◌≡◌, ◌-◌}
use Rattle.records.specs.Hash.{hashed_bytes, bytes_of}
use Rattle.records.proofs.hash.hash_bytes.Given as goal

abbrev pub invariant-loop : goal.invariant-loop
invariant-loop l = hashed_bytes l.now (bytes_of (l.count - l.counter) l.rest) ≡ hashed_bytes l.hash (bytes_of l.count l.word)
