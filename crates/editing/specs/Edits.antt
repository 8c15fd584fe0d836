-- The words of statistical data editing, over sets of values that are membership tests.
-- A record has n fields, numbered from 0. What an edit or a record says of a field from n on counts for nothing.
use Rattle.std.specs.Prelude.{◌≡◌, ℕ, ◌<◌, not, ◌&&◌, List, nat_lt}
use mathlib.Core.List.{Memᴰ}
use Rattle.sets.specs.Sets.{Values, ◌∈◌, Within}

infix 6 ◌among◌
-- A set of values for each field: the domains of the fields, or an edit. An edit describes records that are in error.
abbrev pub Edit : Type 0
Edit = ℕ → Values

-- A value for each field.
abbrev pub Record : Type 0
Record = ℕ → ℕ

-- The edit e stands in the list L.
abbrev pub ◌among◌ : Edit → List Edit → Type 0
e among L = Memᴰ e L

-- The edit e, under the domains D, enters field i: its set there differs from the domain.
abbrev pub Enters : Edit → Edit → ℕ → Type 0
Enters D e i = e i ≡ D i → ⊥

-- The edit e contains f: at each field the set of f lies within that of e.
abbrev pub Contains : ℕ → Edit → Edit → Type 0
Contains n e f = (i : ℕ) → i < n → Within (f i) (e i)

module _ (n : ℕ) (D : Edit) where
  -- The record x lies within the domains.
  abbrev pub Inside : Record → Type 0
  Inside x = (i : ℕ) → i < n → x i ∈ D i

  -- The record x fails e: at every field that e enters, its value is in the set of e.
  abbrev pub Fails : Record → Edit → Type 0
  Fails x e = (i : ℕ) → i < n → Enters D e i → x i ∈ e i

  -- The record x is sound under a list of edits: every value is in its domain, and no edit is failed.
  pub record Sound (edits : List Edit) (x : Record) : Type 0 where
    pub inside : Inside x
    pub passes : (e : Edit) → e among edits → Fails x e → ⊥

  -- The fields of x that lie outside their domains, as a set of field numbers.
  abbrev pub outside : Record → Values
  outside x i = nat_lt i n && not (D i (x i))
