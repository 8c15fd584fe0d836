use Rattle.std.proofs.Common.{◌≡◌, ℕ, ◌<◌, true, false, length, get_or, ◌∙◌, sym, ap, length-append, arith}
use Rattle.std.proofs.lemmas.Iterator.{YieldsList-from_slice, YieldsList-from_zip}
use Rattle.std.proofs.lemmas.Iterator.Consumers.{YieldsList-at, YieldsList-from_enumerate, YieldsList-turn}
use Rattle.std.proofs.lemmas.List.{get_or_default}
use Rattle.sets.specs.Sets.{joined, single}
use Rattle.sets.specs.Word.{bit}
use Rattle.editing.specs.Tables.{reading}
use Rattle.book.specs.Books.{row_of}
use Rattle.book.proofs.Places.{enumerated}
use Rattle.book.proofs.Rows.{found_inside, found_outside, length_row}
use Rattle.book.proofs.record.Record.outside_mask.Given.{Over}
use Rattle.book.proofs.record.Record.outside_mask.Goals as goal
use Rattle.book.proofs.record.Record.outside_mask.Goals.{After-contains}

-- the domain and the value of this turn are those of the next field
turn :
    (g : Over) (c : After-contains g)
    → let k = length c.loop-i.yielded in
    (c.in-Some.i ≡ k) × (k < c.args.self.now.book.now.n) × (c.in-Some.domain.now ≡ get_or (row_of c.args.self.now.book.now 0) k c.in-Some.domain.now)
    × (reading c.args.self.now.values.now k ≡ c.in-Some.value.now)
turn g c =
    let has = g.K.ValueSet.has in
    let book = c.args.self.now.book.now in
    let ready = c.args.self.now.ready in
    let values = c.args.self.now.values.now in
    let at =
    YieldsList-turn
    (YieldsList-at c.into_iter-i-iterator.ensures.into_iter_gives
    (YieldsList-from_enumerate
    (YieldsList-at c.enumerate-i-items.ensures.source
    (YieldsList-from_zip
    (YieldsList-at c.zip.ensures.first (YieldsList-from_slice (row_of book 0) (c.iter.ensures.rest ∙ c.row.ensures.row)))
    (YieldsList-from_slice values c.zip.ensures.second.0)))
    c.enumerate-i-items.ensures.count))
    c.loop-i.yielded c.loop-i.i-iterator c.loop-i.yielded_by _ c.next.new.self _ c.in-Some.is c.next.ensures.steps in
    let e = enumerated (row_of book 0) values book.n (length_row has book ready.book 0 (omega arith)) ready.whole (length c.loop-i.yielded) c.in-Some.i c.in-Some.domain.now c.in-Some.value.now at.0 at.1 in
    (e.0, e.1, e.2, get_or_default values (length c.loop-i.yielded) 0 c.in-Some.value.now (omega (arith, ready.whole)) ∙ sym e.3)

pub loop-i-preserved-then-not-contains : goal.loop-i-preserved-then-not-contains
loop-i-preserved-then-not-contains g c =
    let has = g.K.ValueSet.has in
    let self = c.args.self.now in
    let t = turn g (goal.at.loop-i-preserved-then-not-contains g c).After-contains in
    let here : false ≡ has c.in-Some.domain.now (reading self.values.now (length c.loop-i.yielded)) =
    c.if-not-contains.ensures.value ∙ ap (has c.in-Some.domain.now) (sym t.3) in
    let added = c.with_field-mask.ensures.value ∙ ap (λ (i : ℕ). joined (bit c.loop-i.mask) (single i)) t.0 in
    rw length-append
    (found_outside has self.book.now self.ready.book self.values.now (length c.loop-i.yielded) t.1 c.in-Some.domain.now t.2 c.loop-i.mask c.with_field-mask.result c.loop-i.invariant here added)

pub loop-i-preserved : goal.loop-i-preserved
loop-i-preserved g c =
    let has = g.K.ValueSet.has in
    let self = c.args.self.now in
    let t = turn g (goal.at.loop-i-preserved g c).After-contains in
    let here : true ≡ has c.in-Some.domain.now (reading self.values.now (length c.loop-i.yielded)) =
    c.if-not-contains.ensures.value ∙ ap (has c.in-Some.domain.now) (sym t.3) in
    rw length-append
    (found_inside has self.book.now self.ready.book self.values.now (length c.loop-i.yielded) t.1 c.in-Some.domain.now t.2 c.loop-i.mask c.loop-i.invariant here)
