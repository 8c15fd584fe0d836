-- A book's tables, as the definitions of editing read them.
use Rattle.std.specs.Prelude.{◌≡◌, ℕ, ◌+◌, ◌*◌, List, length, slice_range}
use Rattle.sets.specs.Sets.{Values, ◌∈◌}
use Rattle.editing.specs.Edits.{Edit, ◌among◌, Fails, Inside, Sound, outside}
use Rattle.editing.specs.Tables.{tests, row, domains, edits, reading}
use Rattle.book.specs.declared.Book.{Book}
use Rattle.book.specs.Measure.{Measured}

-- The book's measure is that of a book.
abbrev pub IsBook : {K : Type 0} → Book K → Type 0
IsBook b = Measured b.n b.m (length b.sets.now) b.weights.now

-- The values are those of a record: one for each field.
abbrev pub Whole : {K : Type 0} → Book K → List ℕ → Type 0
Whole b values = length values ≡ b.n

-- Both hold, so that a question has an answer.
pub record Ready {K : Type 0} (b : Book K) (values : List ℕ) : Type 0 where
  pub book : IsBook b
  pub whole : Whole b values

-- Row j of the book's table, with a set for each field.
abbrev pub row_of : {K : Type 0} → Book K → ℕ → List K
row_of b j = slice_range b.sets.now (j * b.n) (j * b.n + b.n)

-- The value is one that an edit with this set speaks of: in the set, where that differs from the domain.
abbrev pub SpeaksOf : Values → Values → ℕ → Type 0
SpeaksOf set domain value = (set ≡ domain → ⊥) → value ∈ set

module _ {K : Type 0} (has : K → Values) where
  -- The book's domains.
  abbrev pub domains_of : Book K → Edit
  domains_of b = domains b.n (tests has b.sets.now)

  -- The edit of the book with the number j, from 1 on.
  abbrev pub edit_of : Book K → ℕ → Edit
  edit_of b j = row b.n (tests has b.sets.now) j

  -- All edits of the book, in the order of their numbers.
  abbrev pub edits_of : Book K → List Edit
  edits_of b = edits b.n b.m (tests has b.sets.now)

  -- The record fails the edit with the number j.
  abbrev pub FailsEdit : Book K → List ℕ → ℕ → Type 0
  FailsEdit b values j = Fails b.n (domains_of b) (reading values) (edit_of b j)

  -- The record lies within the domains.
  abbrev pub InsideDomains : Book K → List ℕ → Type 0
  InsideDomains b values = Inside b.n (domains_of b) (reading values)

  -- The record fails no edit of the book.
  abbrev pub PassesAll : Book K → List ℕ → Type 0
  PassesAll b values = (e : Edit) → e among edits_of b → Fails b.n (domains_of b) (reading values) e → ⊥

  -- The record is sound under the book.
  abbrev pub SoundUnder : Book K → List ℕ → Type 0
  SoundUnder b values = Sound b.n (domains_of b) (edits_of b) (reading values)

  -- The fields of the record that are outside their domains.
  abbrev pub outside_of : Book K → List ℕ → Values
  outside_of b values = outside b.n (domains_of b) (reading values)
