-- The fields of a record that lie outside their domains, found one field after another.
use Rattle.std.proofs.Common.{◌≡◌, ℕ, ◌+◌, ◌<◌, Bool, true, false, not, ◌&&◌, ◌||◌, eqb, ltb, ◌⊎◌, ap, ◌∙◌, inl, inr, arith}
use mathlib.Core.Path.{fun_ext}
use Rattle.std.proofs.lemmas.Bool.{cases_eq, cases_Bool}
use Rattle.std.proofs.lemmas.Bool.Decides.{nat_tests}
use Rattle.sets.specs.Sets.{Values, ◌∈◌, nothing, joined, single}
use Rattle.editing.specs.Edits.{Edit, Record, Inside, outside}

module _ (D : Edit) (x : Record) where
  -- the next field is added where its value is not in its domain
  pub outside_more : (i : ℕ) (b : Bool) → D i (x i) ≡ b → (v : ℕ) → outside (i + 1) D x v ≡ (outside i D x v || (eqb v i && not b))
  outside_more i b h v = at (cases_eq v i)
    where
      at : (v ≡ i) ⊎ (v ≡ i → ⊥) → outside (i + 1) D x v ≡ (outside i D x v || (eqb v i && not b))
      at (inl e) = let d : D v (x v) ≡ b = ap (λ (j : ℕ). D j (x j)) e ∙ h in grind (arith, nat_tests)
      at (inr n) = grind (arith, nat_tests)

  pub outside_in : (i : ℕ) → x i ∈ D i → outside (i + 1) D x ≡ outside i D x
  outside_in i h = fun_ext (λ v. outside_more i true h v ∙ grind (arith, nat_tests))

  pub outside_out : (i : ℕ) → D i (x i) ≡ false → outside (i + 1) D x ≡ joined (outside i D x) (single i)
  outside_out i h = fun_ext (λ v. outside_more i false h v ∙ grind (arith, nat_tests))

  -- a record lies within the domains where no field is outside
  pub inside_if_none : (n : ℕ) → outside n D x ≡ nothing → Inside n D x
  inside_if_none n none i h = let e : outside n D x i ≡ false = ap (λ (A : Values). A i) none in grind (arith, nat_tests)

  pub none_if_inside : (n : ℕ) → Inside n D x → outside n D x ≡ nothing
  none_if_inside n inside = fun_ext (λ i. at i (cases_Bool (ltb i n)))
    where
      at : (i : ℕ) → (ltb i n ≡ true) ⊎ (ltb i n ≡ false) → outside n D x i ≡ false
      at i (inl l) = let l' : i < n = grind (arith, nat_tests) in let d = inside i l' in grind (arith, nat_tests)
      at i (inr l) = grind (arith, nat_tests)
