-- Edits that contain others.
use Rattle.std.proofs.Common.{subst, inl, inr}
use mathlib.Core.List.Memᴰ
use Rattle.editing.specs.Edits.{Edit, Fails}
use Rattle.editing.specs.Theorems.{LargerFailsToo, ContainedAddsNothing}
use Rattle.editing.proofs.Sets.{member}

larger_fails_too : LargerFailsToo
larger_fails_too n D e f x inside contains fails i h enters =
    contains i h (x i) (member D f i (x i) (inside i h) (fails i h))

pub contained_adds_nothing : ContainedAddsNothing
contained_adds_nothing n D L e f listed contains x = (
  λ sound.
      record {
        inside = sound.inside;
        passes = λ g m fails.
            elim (Memᴰ.cases_cons m) [
              | inl p ↦
                  sound.passes e listed
                  (larger_fails_too n D e f x sound.inside contains (subst (λ (h : Edit). Fails n D x h) p fails))
              | inr later ↦ sound.passes g later fails
            ];
      },
  λ sound. record { inside = sound.inside; passes = λ g m fails. sound.passes g (Memᴰ.tail m) fails },
)
