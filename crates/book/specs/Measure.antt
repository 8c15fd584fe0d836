-- The measure of a book: the sizes of its tables and the range of its weights.
use Rattle.std.specs.Prelude.{ℕ, ◌+◌, ◌*◌, ◌<◌, ◌≤◌, List, length, slice_index}

-- The limits of the editor, once for all definitions.
abbrev pub most_fields : ℕ
most_fields = 24

abbrev pub most_edits : ℕ
most_edits = 255

abbrev pub most_weight : ℕ
most_weight = 100

-- Sizes that fit one another: n fields and m edits within the limits, a row of n sets for the domains and for each edit,
-- and a weight for each field.
pub record Sized (fields_limit edits_limit n m sets weights : ℕ) : Type 0 where
  pub some_field : 1 ≤ n
  pub few_fields : n ≤ fields_limit
  pub few_edits : m ≤ edits_limit
  pub all_sets : (m + 1) * n ≤ sets
  pub all_weights : n ≤ weights

-- The weight of each of the n fields lies from 1 to 100.
abbrev pub Weighed : ℕ → List ℕ → Type 0
Weighed n weights = (i : ℕ) → i < n → (1 ≤ slice_index weights i) × (slice_index weights i ≤ most_weight)

-- A book of n fields and m edits over a table of so many sets and a table of weights.
pub record Measured (n m sets : ℕ) (weights : List ℕ) : Type 0 where
  pub sized : Sized most_fields most_edits n m sets (length weights)
  pub weighed : Weighed n weights
