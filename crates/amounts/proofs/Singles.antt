-- The rows of no run and of one.
use Rattle.std.proofs.Common.{◌≡◌, ℕ, zero, suc, ◌+◌, ◌<◌, ◌≤◌, List, ◌∷◌, length, replicate, refl, ap, ◌∙◌, arith}
use mathlib.Core.Path.{fun_ext}
use Rattle.sets.specs.declared.Run.{Run}
use Rattle.sets.specs.Sets.{between, nothing}
use Rattle.amounts.specs.Rows.{inside, members, places, Filled, Tidy}
use Rattle.amounts.specs.RowsLemmas.{stood, counted_on, places_all}
use Rattle.amounts.specs.Runs.{or_nothing}
use Rattle.amounts.proofs.Drafting.{blank_counts}

abbrev pub blanks : ℕ → List Run
blanks n = replicate n (record { low = 1; high = 0 })

pub blanks_filled : (top l n : ℕ) → Filled top l 0 (blanks n)
blanks_filled top l zero = tt
blanks_filled top l (suc n) = (refl, refl, blanks_filled top l n)

pub blanks_long : (n : ℕ) → length (blanks n) ≡ n
blanks_long zero = refl
blanks_long (suc n) = ap suc (blanks_long n)

pub no_run : (top most : ℕ) → (members top (places most (blanks most)) ≡ nothing) × Tidy top most (blanks most)
no_run top most = (
  ap (members top) (places_all most (blanks most) (blanks_long most)) ∙ ap inside (blank_counts top 0 0 (blanks most) (blanks_filled top 0 most)),
  record { count = 0; filled = blanks_filled top 0 most; long = blanks_long most },
)

-- a row of one place at least
pub single_run : (top n : ℕ) (r : Run) → r.low ≤ r.high → r.high < top
    → (members top (places (suc n) (r ∷ blanks n)) ≡ between r.low r.high) × Tidy top (suc n) (r ∷ blanks n)
single_run top n r p q =
    let s = stood top 0 r (omega arith) p q in
    let none = blanks_filled top (r.high + 2) n in
    let long : length (r ∷ blanks n) ≡ suc n = ap suc (blanks_long n) in (
      ap (members top) (places_all (suc n) (r ∷ blanks n) long) ∙ ap inside (counted_on top 0 r (blanks n) s)
          ∙ ap (λ (rs : List Run). inside (r ∷ rs)) (blank_counts top (r.high + 2) (r.high + 2) (blanks n) none)
          ∙ fun_ext (λ v. or_nothing (between r.low r.high v)),
      record { count = 1; filled = (s, none); long = long },
    )
