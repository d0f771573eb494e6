-- What the filling of a text from an input gives. The bytes that the input has left before and after it are known only of readers that say them.
use Rattle.std.specs.Prelude.{◌≡◌, ℕ, ◌<◌, List, Option, Result, Ok, Err, IsErrAnd, length, take}
use Rattle.std.specs.declared.io.Error.{Error}
use Rattle.std.specs.declared.io.ErrorKind.TheVariants.{FileTooLarge}
use Rattle.std.specs.IoError.{error_kind}
use Rattle.std.specs.Io.KnownBytes.{Consumes, IsAtEnd}
use Rattle.reading.specs.declared.Filling.{Filling}
use Rattle.reading.specs.declared.Filling.TheVariants.{Full, Ended, Failed}

-- The input's next bytes stand at the text's front: as many as it has places, or fewer where no byte is left or a read failed.
abbrev pub Fills : Option (List ℕ) → Option (List ℕ) → List ℕ → Filling → Type 0
Fills before after text Full = Consumes before after text
Fills before after text (Ended count) = (count < length text) × Consumes before after (take count text) × IsAtEnd after
Fills before after text (Failed count _) = (count < length text) × Consumes before after (take count text)

-- The size of an input that ended, and an error of anything else.
abbrev pub IsWholeSize : Filling → Result ℕ Error → Type 0
IsWholeSize Full result = IsErrAnd result (λ error. error_kind error ≡ FileTooLarge)
IsWholeSize (Ended count) result = result ≡ Ok count
IsWholeSize (Failed _ error) result = result ≡ Err error
