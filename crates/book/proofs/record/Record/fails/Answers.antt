use Rattle.std.proofs.Common.{ℕ, Iter, ◌∙◌, rules, tests}
use Rattle.std.proofs.lemmas.Iterator.{cases_from_all, YieldsList-from_slice, YieldsList-from_zip}
use Rattle.std.proofs.lemmas.Iterator.Consumers.{YieldsList-at}
use Rattle.std.specs.declared.iter.Zip.{Zip}
use Rattle.book.specs.Books.{row_of}
use Rattle.book.proofs.Rows.{fails_each, Speaks}
use Rattle.book.proofs.record.Record.fails.Goals as goal

-- each set of the row was read beside its domain and the value
pub returns : goal.returns
returns g c =
    let K : Type 0 = g.row.K.Denot in
    let has = g.K.ValueSet.has in
    let self = c.args.self.now in
    let book = self.book.now in
    let Met : (K × K) × ℕ → Type 0 = Speaks has in
    let triples : Zip (Zip (Iter K) (Iter K)) (Iter ℕ) = c.zip-2.result in
    let left : Zip (Zip (Iter K) (Iter K)) (Iter ℕ) = c.all.new.self in
    let pairs = YieldsList-from_zip (YieldsList-at c.zip.ensures.first (YieldsList-from_slice (row_of book c.args.number) (c.iter.ensures.rest ∙ c.row.ensures.row))) (YieldsList-from_slice (row_of book 0) (c.zip.ensures.second.0 ∙ c.row-2.ensures.row)) in
    record {
      decides =
          fails_each has book self.ready.book self.values.now c.args.number c.all.result self.ready.whole c.requires.number
          (cases_from_all left _ _ Met (λ p. Met p → ⊥) c.all.ensures.ran
          (YieldsList-from_zip {s = triples} (YieldsList-at c.zip-2.ensures.first pairs) (YieldsList-from_slice self.values.now c.zip-2.ensures.second.0))
          (λ x q k. search (rules, tests)) (λ x q k. search (rules, tests)));
    }
