-- The theorems of editing, each carried by the contract of a function.
use Rattle.std.specs.Prelude.{ℕ, ◌↔◌, List, ◌∷◌}
use Rattle.editing.specs.Edits.{Edit, Record, Contains, Inside, Fails, Sound, ◌among◌}

-- Containing is an order: each edit contains itself, and what a contained edit contains is contained.
abbrev pub ContainsIsAnOrder : Type 0
ContainsIsAnOrder =
    (n : ℕ) → ((e : Edit) → Contains n e e) × ((e f g : Edit) → Contains n e f → Contains n f g → Contains n e g)

-- A record within the domains that fails an edit fails every edit that contains it.
abbrev pub LargerFailsToo : Type 0
LargerFailsToo =
    (n : ℕ) (D : Edit) (e f : Edit) (x : Record) → Inside n D x → Contains n e f → Fails n D x f → Fails n D x e

-- So an edit that another of the list contains adds nothing: with it or without it, the same records are sound.
abbrev pub ContainedAddsNothing : Type 0
ContainedAddsNothing =
    (n : ℕ) (D : Edit) (L : List Edit) (e f : Edit) → e among L → Contains n e f
    → (x : Record) → Sound n D L x ↔ Sound n D (f ∷ L) x
