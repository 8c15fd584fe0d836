-- Steps through a set.
use Rattle.std.proofs.Common.{◌≡◌, ℕ, ◌<◌, ◌≤◌, Bool, true, false, not, None, arith}
use Rattle.std.proofs.lemmas.Bool.Decides.{nat_tests}
use Rattle.sets.specs.Sets.{Values, ◌∈◌, others}
use Rattle.sets.specs.Steps.{Least}

-- what is not out is in
other_none : (b : Bool) → not b ≡ false → b ≡ true
other_none b h = grind (arith, nat_tests)

-- there is always a value that is no member
pub some_other : (A : Values) (top from : ℕ) → top ≤ 4294967295 → ((v : ℕ) → v ∈ A → v < top) → from ≤ 4294967295 → Least (others A) from None → ⊥
some_other A top from small low h none = omega (arith, low 4294967295 (other_none (A 4294967295) (none 4294967295 h (omega arith))))
