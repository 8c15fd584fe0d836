-- What is known of a value where it is not known whether an edit enters the field.
use Rattle.std.proofs.Common.{◌≡◌, ℕ, Bool, true, ap, ◌∙◌}
use mathlib.Core.Bool.{Bool-discrete}
use Rattle.sets.specs.Sets.{Values, ◌∈◌}
use Rattle.editing.specs.Edits.{Edit, Enters}

-- what does not fail to be equal is equal
pub stable : (a b : Bool) → ((a ≡ b → ⊥) → ⊥) → a ≡ b
stable a b h = elim (Bool-discrete a b) [ yes p ↦ p | no q ↦ absurd (h q) ]

-- a value of the domain is in the edit's set if it is wherever the edit enters the field
pub member : (D e : Edit) (i v : ℕ) → v ∈ D i → (Enters D e i → v ∈ e i) → v ∈ e i
member D e i v d h = stable (e i v) true (λ ne. ne (h (λ p. ne (ap (λ (A : Values). A v) p ∙ d))))
