-- The numbers of the refusals.
use Rattle.std.specs.Prelude.{◌≡◌, ℕ, ◌≤◌}
use Rattle.sets.specs.declared.SetRefusal.{SetRefusal}
use Rattle.sets.specs.declared.SetRefusal.TheVariants as sets
use Rattle.sets.specs.Refusals as sets_refusals
use Rattle.book.specs.declared.refusal.Refusal.{Refusal}
use Rattle.book.specs.declared.refusal.Refusal.TheVariants.{BadText, BadLine, MisplacedLine, BadWeight, WrongName, NotARun, PartsNotHeld, OutsideDomain, BookTooLarge, BadMeasure, Contradiction, ListFull, NotHeld, BudgetSpent, BadFieldCount, SheetWaiting, DeckFull, UnsoundDonor, BenchTaken, WrongValueCount, TooManyEntries, OtherSheet, NoFieldToChange, NoValueLeft, TooFewPlaces, BadSheetLine, NoRoomForLine}

abbrev pub number_of : Refusal → ℕ
number_of BadText = 1
number_of BadLine = 2
number_of MisplacedLine = 3
number_of BadWeight = 4
number_of WrongName = 5
number_of NotARun = 6
number_of PartsNotHeld = 7
number_of OutsideDomain = 8
number_of BookTooLarge = 9
number_of BadMeasure = 10
number_of Contradiction = 11
number_of ListFull = 12
number_of NotHeld = 13
number_of BudgetSpent = 14
number_of BadFieldCount = 15
number_of SheetWaiting = 16
number_of DeckFull = 17
number_of UnsoundDonor = 18
number_of BenchTaken = 19
number_of WrongValueCount = 20
number_of TooManyEntries = 21
number_of OtherSheet = 22
number_of NoFieldToChange = 23
number_of NoValueLeft = 24
number_of TooFewPlaces = 25
number_of BadSheetLine = 26
number_of NoRoomForLine = 27

-- The refusal of the editor that a refusal to make a set becomes.
abbrev pub from_sets : SetRefusal → Refusal
from_sets sets.NotARun = NotARun
from_sets sets.NotHeld = NotHeld

-- The numbers run from 1 to 27, no two refusals share one, none is left out, and a refusal to make a set keeps its own.
pub record EachNumberOnce : Type 0 where
  pub least : (r : Refusal) → 1 ≤ number_of r
  pub most : (r : Refusal) → number_of r ≤ 27
  pub apart : (r s : Refusal) → number_of r ≡ number_of s → r ≡ s
  pub borne : (k : ℕ) → 1 ≤ k → k ≤ 27 → (r : Refusal) × (number_of r ≡ k)
  pub kept : (e : SetRefusal) → number_of (from_sets e) ≡ sets_refusals.number_of e
