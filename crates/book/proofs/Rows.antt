-- What is read from a book's tables, in the words of editing.
use Rattle.std.proofs.Common.{◌≡◌, ℕ, ◌+◌, ◌-◌, ◌*◌, ◌^◌, ◌<◌, ◌≤◌, ◌↔◌, Bool, true, false, IsTrue, eqb, List, length, get_or, drop, sym, ap, ◌∙◌, subst, mul_comm, arith, pow_pos}
use Rattle.std.proofs.lemmas.Nat.{mul-add-lt}
use Rattle.std.proofs.lemmas.Bool.{eqb-true, eq-eqb}
use Rattle.std.proofs.lemmas.List.{get_or_default, get_or-take, get_or-drop, length-take-le, length-drop}
use Rattle.std.specs.List.{zip}
use Rattle.sets.specs.Sets.{Values, ◌∈◌, joined, single}
use Rattle.sets.specs.Word.{bit}
use Rattle.sets.proofs.Words.{same_words, word_none}
use Rattle.editing.specs.Edits.{Edit, Record, Enters, Fails, outside}
use Rattle.editing.specs.Tables.{reading}
use Rattle.editing.proofs.Outside.{inside_if_none, none_if_inside, outside_in, outside_out}
use Rattle.editing.proofs.Tables.{among_row, read_row, row_among}
use Rattle.book.specs.declared.Book.{Book}
use Rattle.book.proofs.Places.{AnswersAll, each_place, length_pairs, pair_at}
use Rattle.book.specs.Books.{IsBook, domains_of, edit_of, FailsEdit, InsideDomains, outside_of, PassesAll, row_of, SpeaksOf}

-- a row ends within the table
row_within : (n m j sets : ℕ) → 1 ≤ n → j ≤ m → (m + 1) * n ≤ sets → j * n + n ≤ sets
row_within n m j sets some le fits = omega (arith, mul-add-lt j n (n - 1) (m + 1) (omega arith) (omega arith), mul_comm n (m + 1))

-- an edit with the set speaks of the value, beside its domain
abbrev pub Speaks : {K : Type 0} → (K → Values) → (K × K) × ℕ → Type 0
Speaks has p = SpeaksOf (has p.0.0) (has p.0.1) p.1

module _ {K : Type 0} (has : K → Values) (b : Book K) (measured : IsBook b) where
  pub length_row : (j : ℕ) → j ≤ b.m → length (row_of b j) ≡ b.n
  length_row j le =
      let within = row_within b.n b.m j (length b.sets.now) measured.sized.some_field le measured.sized.all_sets in
      omega (arith, within, length-take-le (j * b.n + b.n - j * b.n) (drop (j * b.n) b.sets.now) (omega (arith, length-drop (j * b.n) b.sets.now, within)))

  -- a set that was read in a row is that of the row's edit
  pub read_edit : (j i : ℕ) (s : K) → j ≤ b.m → i < b.n → s ≡ get_or (row_of b j) i s → edit_of has b j i ≡ has s
  read_edit j i s le h is =
      let within = row_within b.n b.m j (length b.sets.now) measured.sized.some_field le measured.sized.all_sets in
      let there = get_or-take (j * b.n + b.n - j * b.n) (drop (j * b.n) b.sets.now) i s (omega arith) in
      read_row has b.sets.now b.n j i s h (omega (arith, within)) (is ∙ there ∙ get_or-drop (j * b.n) b.sets.now i s)

  -- what was decided of the sets that were read holds of the edit with the number j
  speaks : (j i v : ℕ) (s d : K) → j ≤ b.m → i < b.n → s ≡ get_or (row_of b j) i s → d ≡ get_or (row_of b 0) i d
      → SpeaksOf (has s) (has d) v ↔ (Enters (domains_of has b) (edit_of has b j) i → v ∈ edit_of has b j i)
  speaks j i v s d le h s_is d_is =
      let there = read_edit j i s le h s_is in
      let here = read_edit 0 i d (omega arith) h d_is in
      rw (there, here) (λ x. x, λ x. x)

  -- so a record fails an edit where it speaks of each value, with the sets of the edit's row and those of the first
  pub fails_each :
      (values : List ℕ) (j : ℕ) (r : Bool) → length values ≡ b.n → j ≤ b.m → AnswersAll (Speaks has) (zip (zip (row_of b j) (row_of b 0)) values) r
      → IsTrue r ↔ FailsEdit has b values j
  fails_each values j r whole le =
      let long = length_row j le in
      let long' = length_row 0 (omega arith) in
      let longs = length_pairs (row_of b j) (row_of b 0) b.n long long' in
      each_place (Speaks has) _ _ b.n r (length_pairs _ values b.n longs whole)
      (λ i p h is.
      let e = pair_at _ values b.n longs whole i p h is in
      let d = pair_at (row_of b j) (row_of b 0) b.n long long' i p.0 h e.0 in
      let f : p.1 ≡ get_or values i 0 = e.1 ∙ get_or_default values i p.1 0 (omega (arith, whole)) in
      rw f (speaks j i (get_or values i 0) p.0.0 p.0.1 le h d.0 d.1))

module _ {K : Type 0} (has : K → Values) (b : Book K) (measured : IsBook b) (values : List ℕ) (i : ℕ) (h : i < b.n) (d : K) (d_is : d ≡ get_or (row_of b 0) i d) where
  abbrev D : Edit
  D = domains_of has b

  abbrev x : Record
  x = reading values

  -- whether the value of the field i is in its domain is what the set that was read there says
  read_inside : D i (x i) ≡ has d (x i)
  read_inside = ap (λ (A : Values). A (x i)) (read_edit has b measured 0 i d (omega arith) h d_is)

  -- so the fields found outside are those before i, with i or without
  pub found_outside : (mask more : ℕ) → bit mask ≡ outside i D x → false ≡ has d (x i) → bit more ≡ joined (bit mask) (single i) → bit more ≡ outside (i + 1) D x
  found_outside mask more so_far here added =
      added ∙ ap (λ (A : Values). joined A (single i)) so_far ∙ sym (outside_out D x i (read_inside ∙ sym here))

  pub found_inside : (mask : ℕ) → bit mask ≡ outside i D x → true ≡ has d (x i) → bit mask ≡ outside (i + 1) D x
  found_inside mask so_far here = so_far ∙ sym (outside_in D x i (read_inside ∙ sym here))

-- the edits of the book are those with the numbers 1 to m, so where none of these is failed, none is
pub passes_numbered : {K : Type 0} (has : K → Values) (b : Book K) (values : List ℕ)
    → ((a : ℕ) → a < b.m → FailsEdit has b values (a + 1) → ⊥) → PassesAll has b values
passes_numbered has b values none e listed fails =
    let t = among_row (edit_of has b) 1 b.m e listed in
    let q : t.0 - 1 + 1 ≡ t.0 = omega (arith, t.1) in
    none (t.0 - 1) (omega (arith, t.1, t.2))
    (subst (λ (f : Edit). Fails b.n (domains_of has b) (reading values) f) (t.3 ∙ ap (edit_of has b) (sym q)) fails)

pub numbered_passes : {K : Type 0} (has : K → Values) (b : Book K) (values : List ℕ) → PassesAll has b values
    → (a : ℕ) → a < b.m → FailsEdit has b values (a + 1) → ⊥
numbered_passes has b values all a l fails =
    all (edit_of has b (a + 1)) (row_among (edit_of has b) 1 b.m (a + 1) (omega arith) (omega arith)) fails

-- a word for the fields outside is 0 just where the record lies within the domains
pub decides_inside : {K : Type 0} (has : K → Values) (b : Book K) (values : List ℕ) (mask : ℕ) → mask < 2 ^ 64
    → bit mask ≡ outside_of has b values → IsTrue (eqb mask 0) ↔ InsideDomains has b values
decides_inside has b values mask fits is = (
  λ t. inside_if_none (domains_of has b) (reading values) b.n (sym is ∙ ap bit (eqb-true mask 0 t) ∙ word_none),
  λ inside. eq-eqb mask 0 (same_words mask 0 fits (pow_pos 64) (is ∙ none_if_inside (domains_of has b) (reading values) b.n inside ∙ sym word_none)),
)
