-- Each refusal has a number of its own.
use Rattle.std.proofs.Common.{◌≡◌, ℕ, ◌-◌, ◌≤◌, ◌==◌, true, [], ◌∷◌, get_or, sym, refl, ap, ◌∙◌, subst, arith}
use Rattle.std.proofs.lemmas.Bool.{eqb-true}
use Rattle.std.proofs.lemmas.List.FromFn.{get_or-range_with_len}
use Rattle.std.proofs.lemmas.List.Sums.{AllPass-from_list_all}
use Rattle.std.specs.List.{range_with_len}
use Rattle.book.specs.declared.refusal.Refusal.{Refusal}
use Rattle.book.specs.declared.refusal.Refusal.TheVariants.{BadText, BadLine, MisplacedLine, BadWeight, WrongName, NotARun, PartsNotHeld, OutsideDomain, BookTooLarge, BadMeasure, Contradiction, ListFull, NotHeld, BudgetSpent, BadFieldCount, SheetWaiting, DeckFull, UnsoundDonor, BenchTaken, WrongValueCount, TooManyEntries, OtherSheet, NoFieldToChange, NoValueLeft, TooFewPlaces, BadSheetLine, NoRoomForLine}
use Rattle.book.specs.Refusals.{number_of, EachNumberOnce}

-- the refusal with a given number, where there is one
abbrev numbered : ℕ → Refusal
numbered k =
    get_or
    (BadText ∷ BadText ∷ BadLine ∷ MisplacedLine ∷ BadWeight ∷ WrongName ∷ NotARun ∷ PartsNotHeld ∷ OutsideDomain ∷ BookTooLarge ∷ BadMeasure ∷ Contradiction ∷ ListFull ∷ NotHeld ∷ BudgetSpent ∷ BadFieldCount ∷ SheetWaiting ∷ DeckFull ∷ UnsoundDonor ∷ BenchTaken ∷ WrongValueCount ∷ TooManyEntries ∷ OtherSheet ∷ NoFieldToChange ∷ NoValueLeft ∷ TooFewPlaces ∷ BadSheetLine ∷ NoRoomForLine ∷ [])
    k BadText

placed : (r : Refusal) → numbered (number_of r) ≡ r
placed r = grind arith

apart : (r s : Refusal) → number_of r ≡ number_of s → r ≡ s
apart r s e = sym (placed r) ∙ ap numbered e ∙ placed s

borne : (k : ℕ) → 1 ≤ k → k ≤ 27 → number_of (numbered k) ≡ k
borne k low high =
    let all = AllPass-from_list_all (λ i. number_of (numbered i) == i) (range_with_len 1 27) refl in
    let e : get_or (range_with_len 1 27) (k - 1) 0 ≡ k = omega (arith, get_or-range_with_len 1 27 (k - 1) 0 (omega arith)) in
    eqb-true (number_of (numbered k)) k (subst (λ (i : ℕ). (number_of (numbered i) == i) ≡ true) e (all (k - 1) 0 (omega arith)))

pub each_number_once : EachNumberOnce
each_number_once =
    record {
      least = λ r. grind arith;
      most = λ r. grind arith;
      apart = apart;
      borne = λ k low high. (numbered k, borne k low high);
      kept = λ e. grind arith;
    }
