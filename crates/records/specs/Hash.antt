-- FNV-1a, 64 bits (crates/replay/README.md, "Form"). Definitions only.
use Rattle.std.specs.Prelude.{ℕ, zero, suc, ◌*◌, ◌/◌, ◌%◌, ◌^◌, List, [], ◌∷◌, ◌++◌}
use Rattle.std.specs.Int.Bits.{bit_xor}

abbrev pub offset_basis : ℕ
offset_basis = 0xcbf29ce484222325

abbrev pub prime : ℕ
prime = 0x100000001b3

-- A byte goes into the hash by an exclusive or; then the hash is multiplied, in 64 bits.
unfoldable pub hashed_byte : ℕ → ℕ → ℕ
hashed_byte hash byte = bit_xor hash byte * prime % 2 ^ 64

unfoldable pub hashed_bytes : ℕ → List ℕ → ℕ
hashed_bytes hash [] = hash
hashed_bytes hash (byte ∷ rest) = hashed_bytes (hashed_byte hash byte) rest

-- "the least significant first": `size` bytes of a number.
unfoldable pub bytes_of : ℕ → ℕ → List ℕ
bytes_of zero number = []
bytes_of (suc size) number = number % 256 ∷ bytes_of size (number / 256)

unfoldable pub bytes_of_each : ℕ → List ℕ → List ℕ
bytes_of_each size [] = []
bytes_of_each size (number ∷ rest) = bytes_of size number ++ bytes_of_each size rest

-- "over the elements' bytes": the hash of numbers that have `size` bytes each.
unfoldable pub hash_of : ℕ → List ℕ → ℕ
hash_of size numbers = hashed_bytes offset_basis (bytes_of_each size numbers)
