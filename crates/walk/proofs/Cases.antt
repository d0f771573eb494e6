-- The walk of the lattice of frequency 1, by evaluation. Assumes nothing.
use mathlib.Core.Path.{refl}
use Rattle.sequences.specs.Ascending.{is_member}
use Rattle.walk.specs.Walk.{enter, entered, leave, continued, walk_from}
use Rattle.walk.specs.Laws.{TwelveWalked}

pub twelve_walked : TwelveWalked
unfolding is_member enter entered leave continued walk_from
twelve_walked = refl
