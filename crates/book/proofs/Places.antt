-- What holds of each element of a list, said of its places.
use Rattle.std.proofs.Common.{◌≡◌, ℕ, zero, suc, ◌+◌, ◌<◌, ◌↔◌, Bool, true, false, IsTrue, List, [], ◌∷◌, length, get_or, sym, refl, ap, ◌∙◌, subst, arith}
use Rattle.std.proofs.lemmas.Bool.{false≢true}
use Rattle.std.proofs.lemmas.List.{get_or_default}
use Rattle.std.specs.Bool.{MatchBool}
use Rattle.std.proofs.lemmas.Slice.Zip.{get_or-zip, length-zip}
use Rattle.std.proofs.lemmas.List.FromFn.{get_or-enumerate_from, length-enumerate_from}
use Rattle.std.specs.List.{AllWithin, HoldsAt, enumerate_from, zip}

-- the element at a place
element : {X : Type 0} (xs : List X) (i : ℕ) → i < length xs → X
element [] i h = absurd (omega arith)
element (x ∷ xs) zero h = x
element (x ∷ xs) (suc i) h = element xs i (omega arith)

-- what `all` answers where its closure tells P of an element
abbrev pub AnswersAll : {X : Type 0} → (X → Type 0) → List X → Bool → Type 0
AnswersAll P xs r = MatchBool r (AllWithin P xs 0 (length xs)) ((k : ℕ) × (k < length xs) × HoldsAt (λ x. P x → ⊥) xs k)

-- so it tells Q of each place, where P of an element says what Q says of its place
pub each_place :
    {X : Type 0} (P : X → Type 0) (Q : ℕ → Type 0) (xs : List X) (n : ℕ) (r : Bool) → length xs ≡ n
    → ((i : ℕ) (x : X) → i < n → x ≡ get_or xs i x → P x ↔ Q i)
    → AnswersAll P xs r → IsTrue r ↔ ((i : ℕ) → i < n → Q i)
each_place {X} P Q xs n r long same answer = at r answer
  where
    here : (i : ℕ) → i < n → (x : X) × (x ≡ get_or xs i x)
    here i h =
        let d = element xs i (omega arith) in
        (get_or xs i d, get_or_default xs i d (get_or xs i d) (omega arith))

    at : (b : Bool) → AnswersAll P xs b → IsTrue b ↔ ((i : ℕ) → i < n → Q i)
    at true each = (
      λ _ i h. let x = here i h in (same i x.0 h x.1).0 (subst P (sym x.1) (each i x.0 (omega arith) (omega arith))),
      λ _. refl,
    )
    at false some = (
      λ e. absurd (false≢true e),
      λ all.
          let h : some.0 < n = omega (arith, some.1) in
          let x = here some.0 h in
          absurd (some.2 x.0 (subst P x.1 ((same some.0 x.0 h x.1).1 (all some.0 h)))),
    )

-- the pairs of two lists of one length
module _ {A B : Type 0} (xs : List A) (ys : List B) (n : ℕ) (long : length xs ≡ n) (long' : length ys ≡ n) where
  pub length_pairs : length (zip xs ys) ≡ n
  length_pairs = omega (arith, length-zip xs ys)

  pub pair_at : (i : ℕ) (p : A × B) → i < n → p ≡ get_or (zip xs ys) i p → (p.0 ≡ get_or xs i p.0) × (p.1 ≡ get_or ys i p.1)
  pair_at i p h is =
      let e = is ∙ get_or-zip xs ys i p (omega arith) (omega arith) in
      (ap (λ (q : A × B). q.0) e, ap (λ (q : A × B). q.1) e)

  -- what a loop over the pairs and their places has at its turn k
  pub enumerated :
      (k i : ℕ) (x : A) (y : B) → k < length (enumerate_from 0 (zip xs ys)) → (i, (x, y)) ≡ get_or (enumerate_from 0 (zip xs ys)) k (i, (x, y))
      → (i ≡ k) × (k < n) × (x ≡ get_or xs k x) × (y ≡ get_or ys k y)
  enumerated k i x y h is =
      let l : k < n = omega (arith, length-enumerate_from 0 (zip xs ys), length_pairs) in
      let e = is ∙ get_or-enumerate_from 0 (zip xs ys) k (i, (x, y)) (omega (arith, length_pairs)) in
      let p = pair_at k (x, y) l (ap (λ (q : ℕ × (A × B)). q.1) e) in
      let f : i ≡ 0 + k = ap (λ (q : ℕ × (A × B)). q.0) e in
      (omega arith, l, p.0, p.1)
