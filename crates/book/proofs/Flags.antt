-- Flags for the edits of a book, set one after another.
use Rattle.std.proofs.Common.{◌≡◌, ℕ, zero, suc, ◌+◌, ◌<◌, Bool, false, ◌≢◌, ◌⊎◌, List, length, get_or, set, replicate, ◌↔◌, IsTrue, sym, refl, ◌∙◌, subst, inl, inr, arith, length-set, get_or-set_other, get_or-set_same}
use lib.ListN.{length-replicate}
use Rattle.std.proofs.lemmas.Bool.{cases_eq}
use Rattle.book.specs.Answers.{Flagged}

all_down : (places i : ℕ) → get_or (replicate places false) i false ≡ false
all_down zero i = refl
all_down (suc places) zero = refl
all_down (suc places) (suc i) = all_down places i

pub flags_none : (places : ℕ) (failed : ℕ → Type 0) → Flagged places 0 failed (replicate places false)
flags_none places failed =
    record {
      long = length-replicate places false;
      each = λ j h. absurd (omega arith);
      past = λ j h. all_down places j;
    }

pub flags_more :
    (places : ℕ) (failed : ℕ → Type 0) (j : ℕ) (flags : List Bool) (b : Bool) → j < places → Flagged places j failed flags
    → (IsTrue b ↔ failed (j + 1)) → Flagged places (j + 1) failed (set flags j b)
flags_more places failed j flags b l old here =
    record {
      long = length-set flags j b ∙ old.long;
      each = λ k h. at k h (cases_eq k j);
      past = λ k h. let n : k ≢ j = omega arith in get_or-set_other flags j k b false n ∙ old.past k (omega arith);
    }
  where
    at : (k : ℕ) → k < j + 1 → (k ≡ j) ⊎ (k ≡ j → ⊥) → IsTrue (get_or (set flags j b) k false) ↔ failed (k + 1)
    at k h (inl e) =
        let m : j < length flags = omega (arith, old.long) in
        let same = get_or-set_same flags j b false m in
        subst (λ (i : ℕ). IsTrue (get_or (set flags j b) i false) ↔ failed (i + 1)) (sym e)
        (subst (λ (c : Bool). IsTrue c ↔ failed (j + 1)) (sym same) here)
    at k h (inr n) =
        subst (λ (c : Bool). IsTrue c ↔ failed (k + 1)) (sym (get_or-set_other flags j k b false n)) (old.each k (omega arith))
