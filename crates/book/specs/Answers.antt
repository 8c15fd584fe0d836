-- What the calls on a book answer.
use Rattle.std.specs.Prelude.{◌≡◌, ℕ, ◌+◌, ◌<◌, ◌≤◌, Bool, false, ◌⊎◌, ◌↔◌, List, length, Ok, Err, IsTrue, Result, slice_index_or}
use Rattle.book.specs.Books.{IsBook, Whole}
use Rattle.book.specs.declared.Book.{Book}
use Rattle.book.specs.declared.refusal.Refusal.{Refusal}
use Rattle.book.specs.declared.refusal.Refusal.TheVariants.{BadMeasure, WrongValueCount}

-- Granted where the book is measured, refused by 10 elsewhere.
abbrev pub Measuring : Type 0 → Result (Unit {0}) Refusal → Type 0
Measuring measured (Ok _) = measured
Measuring measured (Err e) = (e ≡ BadMeasure) × (measured → ⊥)

-- A question on a record: refused by 10 where the book is not measured, then by 20 where the record has not one value for
-- each field, and else answered by a value with the property P.
abbrev pub Asked : {X : Type 0} → Type 0 → Type 0 → (X → Type 0) → Result X Refusal → Type 0
Asked measured whole P (Ok x) = measured × whole × P x
Asked measured whole P (Err e) = ((e ≡ BadMeasure) × (measured → ⊥)) ⊎ ((e ≡ WrongValueCount) × measured × (whole → ⊥))

-- The same of a book and the values of a record.
abbrev pub Answered : {K X : Type 0} → Book K → List ℕ → (X → Type 0) → Result X Refusal → Type 0
Answered b values P r = Asked (IsBook b) (Whole b values) P r

-- Flags for the edits 1 to m of a book, at places 0 to m - 1: each says whether the edit is failed, and none is up past them.
pub record Flagged (places m : ℕ) (failed : ℕ → Type 0) (flags : List Bool) : Type 0 where
  pub long : length flags ≡ places
  pub each : (j : ℕ) → j < m → IsTrue (slice_index_or flags j false) ↔ failed (j + 1)
  pub past : (j : ℕ) → m ≤ j → slice_index_or flags j false ≡ false
