-- How the tables and slices of a program are read as edits and records.
use Rattle.std.specs.Prelude.{ℕ, zero, suc, ◌+◌, ◌*◌, if◌then◌else◌, List, [], ◌∷◌, map, nat_lt, slice_index, slice_index_or}
use Rattle.sets.specs.Sets.{Values, nothing}
use Rattle.editing.specs.Edits.{Edit, Record}

-- A table of sets of some kind, as the list of their membership tests.
abbrev pub tests : {K : Type 0} → (K → Values) → List K → List Values
tests has sets = map has sets

-- The set at a place of a table, and past its end the empty set.
abbrev pub at : List Values → ℕ → Values
at table q = slice_index_or table q nothing

-- Row j of a flat table with n sets to a row. From n on a row has nothing, so that no row depends on the next.
abbrev pub row : ℕ → List Values → ℕ → Edit
row n table j i = if nat_lt i n then at table (j * n + i) else nothing

-- The edits of the rows j, j + 1 and so on, c in all.
abbrev pub rows : (ℕ → Edit) → ℕ → ℕ → List Edit
rows edit j zero = []
rows edit j (suc c) = edit j ∷ rows edit (suc j) c

-- The domains are the first row of a book's table.
abbrev pub domains : ℕ → List Values → Edit
domains n table = row n table 0

-- The m edits of a book stand in the rows after that, so the edit numbered j, from 1 on, is row j.
abbrev pub edits : ℕ → ℕ → List Values → List Edit
edits n m table = rows (row n table) 1 m

-- A slice of values as a record.
abbrev pub reading : List ℕ → Record
reading values i = slice_index values i
