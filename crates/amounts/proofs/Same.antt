-- What `eq` answers at two iterators that each show the list of what is left.
use Rattle.std.proofs.Common.{◌≡◌, Bool, true, false, List, [], ◌∷◌, ◌++◌, Some, None, Option, MatchOption, IfSome, ◌↔◌, IsTrue, sym, refl, ap, ◌∙◌}
use Rattle.std.specs.Iterator.{Yields, YieldsFirst, ComparesItemsByEq}
use Rattle.std.specs.List.{AllZip}
use Rattle.std.proofs.lemmas.Bool.{both_ways}

module _ {A : Type 0} where
  same_append : (xs : List A) {ys zs : List A} → xs ++ ys ≡ xs ++ zs → ys ≡ zs
  same_append [] e = e
  same_append (x ∷ xs) e = same_append xs (cc)

module _ {S A : Type 0} (rest : S → List A) where
  led : (s : S) (xs : List A) (t : S) → Yields (YieldsFirst rest) s xs t → rest s ≡ xs ++ rest t
  led s [] t e = ap rest e
  led s (x ∷ xs) t y = y.1 ∙ ap (λ (zs : List A). x ∷ zs) (led y.0 xs t y.2)

  module _ (eq : A → A → Bool) (told : (x y : A) → IsTrue (eq x y) ↔ (x ≡ y)) where
    same_items : (xs ys : List A) → AllZip (λ x y. eq x y ≡ true) xs ys → xs ≡ ys
    same_items [] [] z = refl
    same_items [] (y ∷ ys) z = absurd z
    same_items (x ∷ xs) [] z = absurd z
    same_items (x ∷ xs) (y ∷ ys) z = let e = (told x y).0 z.0 in let f = same_items xs ys z.1 in cc

    -- what follows the items that agree
    last_two : (s u t v : S) (o p : Option A) (r : Bool) → YieldsFirst rest s o u → YieldsFirst rest t p v
        → MatchOption o (MatchOption p (r ≡ true) (λ _. r ≡ false)) (λ x. (r ≡ false) × IfSome p (λ y. eq x y ≡ false))
        → IsTrue r ↔ (rest s ≡ rest t)
    last_two s u t v None None r a b e = (λ _. a.0 ∙ sym b.0, λ _. e)
    last_two s u t v None (Some y) r a b e = (λ h. absurd (both_ways r e h), λ h. absurd cc)
    last_two s u t v (Some x) None r a b e = (λ h. absurd (both_ways r e.0 h), λ h. absurd cc)
    last_two s u t v (Some x) (Some y) r a b e = (
      λ h. absurd (both_ways r e.0 h),
      λ h. let f : x ≡ y = cc in absurd (both_ways (eq x y) e.1 ((told x y).1 f)),
    )

    pub compared : (s other : S) (r : Bool) → ComparesItemsByEq (YieldsFirst rest) (λ x y. y ≡ x) (YieldsFirst rest) s other eq r → IsTrue r ↔ (rest s ≡ rest other)
    compared s other r (it, xs, ys, o, p, u, v, is, (s', a, b), (t, c, d), z, e) =
        let last = last_two s' u t v o p r b d e in
        let same = same_items xs ys z in
        let here : rest s ≡ xs ++ rest s' = led s xs s' a in
        let there : rest other ≡ xs ++ rest t = sym (ap rest is) ∙ led it ys t c ∙ ap (λ (zs : List A). zs ++ rest t) (sym same) in (
          λ h. here ∙ ap (λ (zs : List A). xs ++ zs) (last.0 h) ∙ sym there,
          λ h. last.1 (same_append xs (sym here ∙ h ∙ there)),
        )
