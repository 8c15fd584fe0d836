use Rattle.std.proofs.Common.{ℕ, ◌+◌, ◌≡◌, refl, rules, tests, arith}
use Rattle.std.proofs.lemmas.Iterator.{cases_from_all, YieldsList-from_range}
use Rattle.std.proofs.lemmas.List.FromFn.{get_or-range_with_len, length-range_with_len}
use Rattle.std.specs.List.{range_with_len}
use Rattle.book.specs.Books.{FailsEdit}
use Rattle.book.proofs.Places.{each_place}
use Rattle.book.proofs.Rows.{passes_numbered, numbered_passes}
use Rattle.book.proofs.record.Record.passes_all.Goals as goal

pub returns : goal.returns
returns g c =
    let has = g.K.ValueSet.has in
    let book = c.args.self.now.book.now in
    let values = c.args.self.now.values.now in
    let Passes : ℕ → Type 0 = λ j. FailsEdit has book values (j + 1) → ⊥ in
    let all =
    each_place Passes Passes (range_with_len 0 book.m) book.m c.all.result (length-range_with_len 0 book.m)
    (λ i j h is. let e : j ≡ i = omega (arith, is, get_or-range_with_len 0 book.m i j h) in rw e (λ p. p, λ p. p))
    (cases_from_all _ _ _ Passes (λ j. Passes j → ⊥) c.all.ensures.ran (YieldsList-from_range 0 book.m book.m refl (omega arith)) (λ x q k. search (rules, tests)) (λ x q k. search (rules, tests))) in
    record {
      decides = (
        λ t. passes_numbered has book values (all.0 t),
        λ passes. all.1 (numbered_passes has book values passes),
      );
    }
