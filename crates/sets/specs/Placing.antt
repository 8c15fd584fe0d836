-- What a call that makes a set answers, and what it leaves in the place it was lent.
use Rattle.std.specs.Prelude.{◌≡◌, ℕ, ◌<◌, ◌≤◌, Bool, true, false, Ok, Err, Result}
use Rattle.sets.specs.declared.SetRefusal.{SetRefusal}
use Rattle.sets.specs.declared.SetRefusal.TheVariants.{NotARun, NotHeld}
use Rattle.sets.specs.Sets.{Values, between}

module _ {S : Type 0} (has : S → Values) where
  -- the place holds the run, or there is no such run below the top and the place is as it was
  abbrev pub RunPlaced : ℕ → ℕ → ℕ → S → S → Result (Unit {0}) SetRefusal → Type 0
  RunPlaced top low high before after (Ok _) = (low ≤ high) × (high < top) × (has after ≡ between low high)
  RunPlaced top low high before after (Err e) = (e ≡ NotARun) × (low ≤ high → high < top → ⊥) × (after ≡ before)

  -- the place holds the set wanted, or the kind cannot hold it and the place is as it was
  abbrev pub Placed : (Values → Bool) → Values → S → S → Result (Unit {0}) SetRefusal → Type 0
  Placed holds wanted before after (Ok _) = (holds wanted ≡ true) × (has after ≡ wanted)
  Placed holds wanted before after (Err e) = (e ≡ NotHeld) × (holds wanted ≡ false) × (after ≡ before)

  -- the run is made, or there is no such run below the top
  abbrev pub RunMade : ℕ → ℕ → ℕ → Result S SetRefusal → Type 0
  RunMade top low high (Ok s) = (low ≤ high) × (high < top) × (has s ≡ between low high)
  RunMade top low high (Err e) = (e ≡ NotARun) × (low ≤ high → high < top → ⊥)
