-- The numbers of the refusals to make a set.
use Rattle.std.specs.Prelude.{ℕ}
use Rattle.sets.specs.declared.SetRefusal.{SetRefusal}
use Rattle.sets.specs.declared.SetRefusal.TheVariants.{NotARun, NotHeld}

abbrev pub number_of : SetRefusal → ℕ
number_of NotARun = 6
number_of NotHeld = 13
