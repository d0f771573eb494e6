-- A value in another format (IEEE 754-2019, 5.4.2, convertFormat). Definitions only.
use Rattle.std.specs.Prelude.{◌*◌, Float}
use Rattle.std.specs.Float.{nan, inf, fin, Format}
use Rattle.std.specs.Float.Ieee.{up, down, round}

-- A finite number, m * 2 ^ e with its sign, is rounded once, to nearest, ties to even (IEEE 754-2019, 4.3.1). An infinity stays, and a NaN gives a NaN.
unfoldable pub convert_format : Format → Float → Float
convert_format f nan = nan
convert_format f (inf s) = inf s
convert_format f (fin s m e) = round f s (m * up e) (down e)
