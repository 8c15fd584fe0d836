-- The bits of a word, and the set that they stand for.
use Rattle.std.proofs.Common.{◌≡◌, ℕ, zero, suc, ◌+◌, ◌-◌, ◌*◌, ◌/◌, ◌%◌, ◌^◌, ◌<◌, ◌≤◌, Bool, true, false, not, ◌&&◌, ◌==◌, nat_lt, nat_le, ◌⊎◌, Some, None, Option, ◌↔◌, IsTrue, unwrap_or, sym, subst, refl, ap, ◌∙◌, inl, inr, arith, pow_pos, shr-shr}
use Rattle.std.proofs.Math.Nat.{div-le_self}
use mathlib.Core.Path.{fun_ext}
use lib.Bits.{bit_and, bit_or, and_lt, or_lt}
use Rattle.std.specs.Int.{bit_at, bit_not, trailing_zeros, w64}
use Rattle.std.specs.Bool.{then_some}
use Rattle.std.proofs.lemmas.Nat.{pow_below}
use Rattle.std.proofs.lemmas.Nat.Bits.{bit_at_and, bit_at_or, bit_at_not, bit_at-zero, bit_at-lt, bit_at_above, bit_at-pow_same, bit_at-pow_other, bit_at-trailing_zeros, bit_at_ones, bit_at_ones_above, bit_at_mask_inside, bit_at_mask_below, ones_shr, ones_shl, same_from_bits_below}
use Rattle.std.proofs.lemmas.Bool.{and_parts, and_from, and_left, and_right, cases_Bool, cases_lt, cases_eq, eqb-true, eq-eqb, ne_eqb, ltb-true, lt-ltb, le-ltb, le-leb, lt-leb}
use Rattle.std.proofs.lemmas.Bool.Decides.{nat_tests}
use Rattle.sets.specs.Sets.{Values, between, single, met, joined, nothing, others, Within}
use Rattle.sets.specs.Steps.{Least}
use Rattle.sets.specs.Word.{bit, OneWordEach}

-- ---- members

pub member : (n v : ℕ) → bit n v ≡ true → (v < 64) × (bit_at n v ≡ 1)
member n v h = let p = and_parts (nat_lt v 64) (bit_at n v == 1) h in (ltb-true v 64 p.0, eqb-true (bit_at n v) 1 p.1)

pub is_member : (n v : ℕ) → v < 64 → bit_at n v ≡ 1 → bit n v ≡ true
is_member n v l h = and_from (nat_lt v 64) (bit_at n v == 1) (lt-ltb v 64 l) (eq-eqb (bit_at n v) 1 h)

pub no_member : (n v : ℕ) → bit_at n v ≡ 0 → bit n v ≡ false
no_member n v h = and_right (nat_lt v 64) (bit_at n v == 1) (ne_eqb (bit_at n v) 1 (λ e. omega arith))

past_member : (n v : ℕ) → 64 ≤ v → bit n v ≡ false
past_member n v h = and_left (nat_lt v 64) (bit_at n v == 1) (le-ltb v 64 h)

-- below 64 the test and the bit tell the same
pub same_bit : (a b v : ℕ) → v < 64 → bit a v ≡ bit b v → bit_at a v ≡ bit_at b v
same_bit a b v l e = let p = bit_at-lt a v in let q = bit_at-lt b v in grind (arith, nat_tests)

-- a set has one word
pub same_words : (a b : ℕ) → a < 2 ^ 64 → b < 2 ^ 64 → bit a ≡ bit b → a ≡ b
same_words a b p q h = same_from_bits_below 64 a b p q (λ v l. same_bit a b v l (ap (λ (A : Values). A v) h))

-- ---- the words of sets that are met, joined or empty

pub word_met : (a b : ℕ) → bit (bit_and a b) ≡ met (bit a) (bit b)
word_met a b = fun_ext (λ v.
    let e = bit_at_and a b v in
    grind (arith, nat_tests))

pub word_joined : (a b : ℕ) → bit (bit_or a b) ≡ joined (bit a) (bit b)
word_joined a b = fun_ext (λ v.
    let e = bit_at_or a b v in
    grind (arith, nat_tests))

pub word_none : bit 0 ≡ nothing
word_none = fun_ext (λ v. no_member 0 v (bit_at-zero v))

-- ---- questions on words

pub decides_same : (a b : ℕ) → a < 2 ^ 64 → b < 2 ^ 64 → IsTrue (a == b) ↔ (bit a ≡ bit b)
decides_same a b p q = (λ e. ap bit (eqb-true a b e), λ h. eq-eqb a b (same_words a b p q h))

pub decides_none : (a : ℕ) → a < 2 ^ 64 → IsTrue (a == 0) ↔ (bit a ≡ nothing)
decides_none a p = let same = decides_same a 0 p (pow_pos 64) in rw (sym word_none) same

within_met : (x y : Bool) → (x ≡ true → y ≡ true) → (x && y) ≡ x
within_met true y h = h refl
within_met false y h = refl

pub decides_within : (a b : ℕ) → a < 2 ^ 64 → b < 2 ^ 64 → IsTrue (bit_and a b == a) ↔ Within (bit a) (bit b)
decides_within a b p q =
    let same = decides_same (bit_and a b) a (and_lt 64 a b p q) p in (
      λ e v m. (and_parts (bit a v) (bit b v) (ap (λ (A : Values). A v) (sym (word_met a b) ∙ same.0 e) ∙ m)).1,
      λ h. same.1 (word_met a b ∙ fun_ext (λ v. within_met (bit a v) (bit b v) (h v))),
    )

-- ---- the word of a run

run_at : (l h : ℕ) → l ≤ h → h < 64 → (v : ℕ) → (v < l) ⊎ (l ≤ v) → (h < v) ⊎ (v ≤ h)
    → (bit (2 ^ (h + 1) - 1) v && bit (2 ^ 64 - 2 ^ l) v) ≡ between l h v
run_at l h p q v (inl a) b =
    and_right (bit (2 ^ (h + 1) - 1) v) _ (no_member (2 ^ 64 - 2 ^ l) v (bit_at_mask_below l 64 v a))
    ∙ sym (and_left (nat_le l v) (nat_le v h) (lt-leb l v a))
run_at l h p q v (inr a) (inl b) =
    and_left _ _ (no_member (2 ^ (h + 1) - 1) v (bit_at_ones_above (h + 1) v (omega arith)))
    ∙ sym (and_right (nat_le l v) (nat_le v h) (lt-leb v h b))
run_at l h p q v (inr a) (inr b) =
    and_from _ _ (is_member (2 ^ (h + 1) - 1) v (omega arith) (bit_at_ones (h + 1) v (omega arith)))
    (is_member (2 ^ 64 - 2 ^ l) v (omega arith) (bit_at_mask_inside l 64 v a (omega arith)))
    ∙ sym (and_from (nat_le l v) (nat_le v h) (le-leb l v a) (le-leb v h b))

-- the word that the code of a run computes
abbrev pub run_word : ℕ → ℕ → ℕ
run_word l h = bit_and (18446744073709551615 / 2 ^ (63 - h)) (18446744073709551615 * 2 ^ l % 2 ^ 64)

pub word_run : (l h : ℕ) → l ≤ h → h < 64 → bit (run_word l h) ≡ between l h
word_run l h p q =
    let e : 64 - (63 - h) ≡ h + 1 = omega arith in
    word_met _ _
    ∙ ap (λ (x : ℕ). met (bit x) (bit (18446744073709551615 * 2 ^ l % 2 ^ 64))) (ones_shr 64 (63 - h) (omega arith) ∙ ap (λ (x : ℕ). 2 ^ x - 1) e)
    ∙ ap (λ (x : ℕ). met (bit (2 ^ (h + 1) - 1)) (bit x)) (ones_shl 64 l (omega arith))
    ∙ fun_ext (λ v. run_at l h p q v (cases_lt v l) (cases_lt h v))

-- ---- the word of one value

pub word_single : (i : ℕ) → i < 64 → bit (2 ^ i) ≡ single i
word_single i h = fun_ext (λ v. at v (cases_eq v i))
  where
    at : (v : ℕ) → (v ≡ i) ⊎ (v ≡ i → ⊥) → bit (2 ^ i) v ≡ single i v
    at v (inl e) = is_member (2 ^ i) v (omega arith) (ap (bit_at (2 ^ i)) e ∙ bit_at-pow_same i) ∙ sym (eq-eqb v i e)
    at v (inr n) = no_member (2 ^ i) v (bit_at-pow_other i v n) ∙ sym (ne_eqb v i n)

-- ---- the word of any set

-- the value v, if it is to be a member
mark : Bool → ℕ → ℕ
mark true v = 2 ^ v
mark false v = 0

-- the word of the members below k
word_of : ℕ → Values → ℕ
word_of zero A = 0
word_of (suc k) A = bit_or (word_of k A) (mark (A k) k)

mark_lt : (b : Bool) (v : ℕ) → mark b v < 2 ^ suc v
unfolding mark
mark_lt true v = pow_below v (suc v) (omega arith)
mark_lt false v = pow_pos (suc v)

word_lt : (k : ℕ) (A : Values) → word_of k A < 2 ^ k
unfolding word_of
word_lt zero A = pow_pos 0
word_lt (suc k) A =
    or_lt (suc k) (word_of k A) (mark (A k) k) (omega (arith, word_lt k A, pow_below k (suc k) (omega arith))) (mark_lt (A k) k)

word_mark : (b : Bool) (k v : ℕ) → k < 64 → bit (mark b k) v ≡ (v == k && b)
unfolding mark
word_mark true k v h = ap (λ (A : Values). A v) (word_single k h) ∙ grind (arith, nat_tests)
word_mark false k v h = ap (λ (A : Values). A v) word_none ∙ grind (arith, nat_tests)

word_members : (k : ℕ) (A : Values) → k ≤ 64 → (v : ℕ) → bit (word_of k A) v ≡ (nat_lt v k && A v)
unfolding word_of
word_members zero A h v = ap (λ (B : Values). B v) word_none ∙ grind (arith, nat_tests)
word_members (suc k) A h v =
    let so_far = word_members k A (omega arith) v in
    let here = word_mark (A k) k v (omega arith) in
    ap (λ (B : Values). B v) (word_joined (word_of k A) (mark (A k) k)) ∙ at (cases_eq v k) so_far here
  where
    at : (v ≡ k) ⊎ (v ≡ k → ⊥) → bit (word_of k A) v ≡ (nat_lt v k && A v) → bit (mark (A k) k) v ≡ (v == k && A k)
        → joined (bit (word_of k A)) (bit (mark (A k) k)) v ≡ (nat_lt v (suc k) && A v)
    at (inl e) so_far here = let same : A v ≡ A k = ap A e in grind (arith, nat_tests)
    at (inr n) so_far here = grind (arith, nat_tests)

pub one_word_each : OneWordEach
one_word_each A small = (
  (word_of 64 A, word_lt 64 A, fun_ext (λ v. word_members 64 A (omega arith) v ∙ at v (cases_Bool (A v)))),
  λ w u p q is also. same_words w u p q (is ∙ sym also),
)
  where
    at : (v : ℕ) → (A v ≡ true) ⊎ (A v ≡ false) → (nat_lt v 64 && A v) ≡ A v
    at v (inl t) = let l = small v t in grind (arith, nat_tests)
    at v (inr f) = grind (arith, nat_tests)

-- ---- the first member from a value on

-- the bits of a word moved down
moved : (n k v : ℕ) → bit_at (n / 2 ^ k) v ≡ bit_at n (k + v)
moved n k v = ap (λ (x : ℕ). x % 2) (shr-shr n k v)

moved_from : (n k v : ℕ) → k ≤ v → bit_at n v ≡ bit_at (n / 2 ^ k) (v - k)
moved_from n k v h = let e : k + (v - k) ≡ v = omega arith in sym (moved n k (v - k) ∙ ap (bit_at n) e)

module _ (n from : ℕ) (fits : n < 2 ^ 64) where
  least_left : 0 < n / 2 ^ from → Least (bit n) from (Some (from + trailing_zeros w64 (n / 2 ^ from)))
  least_left h =
      let t = bit_at-trailing_zeros w64 (n / 2 ^ from) h (omega (arith, div-le_self n (2 ^ from))) in
      let m = from + trailing_zeros w64 (n / 2 ^ from) in
      let one : bit_at n m ≡ 1 = sym (moved n from (trailing_zeros w64 (n / 2 ^ from))) ∙ t.1 in
      let small : m < 64 = elim (cases_lt m 64) [ inl k ↦ k | inr k ↦ absurd (omega (arith, bit_at_above n 64 m fits k)) ] in
      (omega arith, omega arith, is_member n m small one, λ v l k. no_member n v (moved_from n from v l ∙ t.2 (v - from) (omega arith)))

  none_left : n / 2 ^ from ≡ 0 → Least (bit n) from None
  none_left h v l _ = no_member n v (moved_from n from v l ∙ ap (λ (x : ℕ). bit_at x (v - from)) h ∙ bit_at-zero (v - from))

  -- what is answered where nothing may be left
  pub one_or_none : (r : Option ℕ) → r ≡ then_some (not (n / 2 ^ from == 0)) (from + trailing_zeros w64 (n / 2 ^ from)) → Least (bit n) from r
  one_or_none r answered = subst (Least (bit n) from) (sym answered) (elim (cases_eq (n / 2 ^ from) 0) [
    | inl e ↦ subst (λ (b : Bool). Least (bit n) from (then_some (not b) (from + trailing_zeros w64 (n / 2 ^ from)))) (sym (eq-eqb _ 0 e)) (none_left e)
    | inr k ↦ subst (λ (b : Bool). Least (bit n) from (then_some (not b) (from + trailing_zeros w64 (n / 2 ^ from)))) (sym (ne_eqb _ 0 k)) (least_left (omega arith))
  ])

-- ---- the first value that is no member

flipped : (n v : ℕ) → n < 2 ^ 64 → v < 64 → bit (bit_not w64 n) v ≡ others (bit n) v
flipped n v fits l = let e = bit_at_not w64 n v fits l in let s = bit_at-lt n v in grind (arith, nat_tests)

pub least_other : (n from : ℕ) → n < 2 ^ 64 → from < 64 → (r : Option ℕ) → Least (bit (bit_not w64 n)) from r → Least (others (bit n)) from (Some (unwrap_or r 64))
least_other n from fits f (Some m) h =
    let small = (member (bit_not w64 n) m h.2).0 in
    (h.0, h.1, sym (flipped n m fits small) ∙ h.2, λ v l k. sym (flipped n v fits (omega arith)) ∙ h.3 v l k)
least_other n from fits f None h =
    (omega arith, omega arith, ap not (past_member n 64 (omega arith)), λ v l k. sym (flipped n v fits k) ∙ h v l (omega arith))
