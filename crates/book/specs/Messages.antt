-- What a refusal says to a person.
use Rattle.std.specs.Prelude.{ℕ, List, ◌++◌, codes, decimal}
use Rattle.book.specs.declared.refusal.Refusal.{Refusal}
use Rattle.book.specs.declared.refusal.Refusal.TheVariants.{BadText, BadLine, MisplacedLine, BadWeight, WrongName, NotARun, PartsNotHeld, OutsideDomain, BookTooLarge, BadMeasure, Contradiction, ListFull, NotHeld, BudgetSpent, BadFieldCount, SheetWaiting, DeckFull, UnsoundDonor, BenchTaken, WrongValueCount, TooManyEntries, OtherSheet, NoFieldToChange, NoValueLeft, TooFewPlaces, BadSheetLine, NoRoomForLine}
use Rattle.book.specs.Refusals.{number_of}

-- What is wrong, in a few words.
abbrev pub reason_of : Refusal → List ℕ
reason_of BadText = codes "the text is empty, too long, or does not end in a line end"
reason_of BadLine = codes "the line has not the form of a field line or an edit line"
reason_of MisplacedLine = codes "a field line after an edit, a 25th field, or an edit before any field"
reason_of BadWeight = codes "a weight is not 1 to 100"
reason_of WrongName = codes "a name is declared twice, undeclared, or twice in an edit"
reason_of NotARun = codes "no run below the top, or not above the part before it"
reason_of PartsNotHeld = codes "a set of these parts cannot be held"
reason_of OutsideDomain = codes "a set of the edit is not within its domain"
reason_of BookTooLarge = codes "a table is too short, or there are over 255 edits"
reason_of BadMeasure = codes "the sizes, the weights or the ranges are not in order"
reason_of Contradiction = codes "the edits leave no sound record"
reason_of ListFull = codes "the edit list is at capacity"
reason_of NotHeld = codes "the result cannot be held by this kind of set"
reason_of BudgetSpent = codes "the budget of tries is spent"
reason_of BadFieldCount = codes "the number of fields is not 1 to 24"
reason_of SheetWaiting = codes "an imputed sheet is on the bench"
reason_of DeckFull = codes "the deck is full"
reason_of UnsoundDonor = codes "the record has not one value a field, or is not sound"
reason_of BenchTaken = codes "a sheet is on the bench"
reason_of WrongValueCount = codes "there is not one value for each field, or the bench is not open"
reason_of TooManyEntries = codes "the bench has taken 60,000 sheets"
reason_of OtherSheet = codes "the bench has no such sheet"
reason_of NoFieldToChange = codes "a failed edit enters no field"
reason_of NoValueLeft = codes "no value is left to fill a changed field with"
reason_of TooFewPlaces = codes "there are fewer places than fields"
reason_of BadSheetLine = codes "the line has not one part a field, each a number or empty"
reason_of NoRoomForLine = codes "the values are not 1 to 24, or the bytes are too few"

-- The message: the refusal's number, then what is wrong.
abbrev pub message_of : Refusal → List ℕ
message_of r = codes "refused (" ++ (decimal (number_of r) ++ (codes "): " ++ reason_of r))
