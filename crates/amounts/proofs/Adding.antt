-- What a draft holds after a run is added.
use Rattle.std.proofs.Common.{Some, ◌≡◌, ℕ, suc, ◌+◌, ◌-◌, ◌<◌, ◌≤◌, max, Bool, true, false, cond, ◌||◌, eqb, ltb, leb, List, length, get_or, Ok, Err, Result, sym, ap, ◌∙◌, subst, ap₂, inl, inr, add-one, arith, length-set}
use mathlib.Core.Path.{fun_ext}
use Rattle.std.proofs.lemmas.List.{get_or-set_same}
use Rattle.std.proofs.lemmas.Bool.{and_parts, cases_Bool, cases_lt, or_cases, or_left, or_right, leb-true, ltb-true, eqb-true, eqb-false, le-leb, lt-leb}
use Rattle.std.proofs.lemmas.Bool.Decides.{nat_tests}
use Rattle.sets.specs.declared.Run.{Run}
use Rattle.sets.specs.declared.SetRefusal.{SetRefusal}
use Rattle.sets.specs.declared.SetRefusal.TheVariants.{NotHeld}
use Rattle.sets.specs.Sets.{Values, ◌∈◌, nothing, between, joined}
use Rattle.amounts.specs.declared.draft.Draft.{Draft}
use Rattle.amounts.specs.Pieces.{Splits}
use Rattle.amounts.specs.Rows.{counted, members, starts, few, Filled}
use Rattle.amounts.specs.Drafts.{last, touches, widened, pushed, added, answered, Made}
use Rattle.amounts.specs.RowsLemmas.{ascends, places_all}
use Rattle.amounts.proofs.Drafts.{Drafts}
use Rattle.amounts.specs.Runs.{or_nothing, or_assoc, between_true, is_between}
use Rattle.amounts.specs.Counting.{starts_apart, starts_inside, starts_some}
use Rattle.amounts.proofs.Drafting.{Grown, push, widen, last_most, filled_counts, filled_most}

pub starts_filled : (top k : ℕ) (rs : List Run) → Filled top 0 k rs → starts top (members top rs) ≡ k
starts_filled top k rs f = starts_inside top 0 (counted top 0 rs) (ascends top 0 rs) top (omega arith) ∙ filled_counts top 0 k rs f

-- nothing is left to come
pub finished : (top most : ℕ) (A : Values) (d : Draft) → Drafts top most A d nothing → Made top most A (Ok d.runs)
finished top most A d s =
    let same : A ≡ members top d.runs = s.whole ∙ fun_ext (λ v. or_nothing (members top d.runs v)) in (
      le-leb (starts top A) most (omega (arith, ap (starts top) same, starts_filled top d.count d.runs s.filled, filled_most top 0 d.count d.runs s.filled, s.long)),
      ap (members top) (places_all most d.runs s.long) ∙ sym same,
      record { count = d.count; filled = s.filled; long = s.long },
    )

pub no_refusal : (why : SetRefusal) → ◌≡◌ {A = Result (Unit {0}) SetRefusal} (Ok tt) (Err why) → ⊥
no_refusal why p = let z : ◌≡◌ {A = ℕ} 0 1 = cc in omega arith

same_refusal : (why : SetRefusal) → ◌≡◌ {A = Result (Unit {0}) SetRefusal} (Err NotHeld) (Err why) → why ≡ NotHeld
same_refusal why p = cc

module _ (top most : ℕ) (A : Values) (d : Draft) (r : Run) (here next : Values) (s : Drafts top most A d here)
    (split : here ≡ joined (between r.low r.high) next) (after : (v : ℕ) → v ∈ next → r.low ≤ v) (order : r.low ≤ r.high) (below : r.high < top) where
  low_here : r.low ∈ here
  low_here = ap (λ (B : Values). B r.low) split ∙ or_left _ (next r.low) (is_between r.low r.high r.low (omega arith) order)

  low_first : (v : ℕ) → v ∈ here → r.low ≤ v
  low_first v m =
      elim (or_cases (between r.low r.high v) (next v) (sym (ap (λ (B : Values). B v) split) ∙ m))
      [ inl h ↦ (between_true r.low r.high v h).0 | inr h ↦ after v h ]

  grown : (k : ℕ) (new : List Run) → Grown top 0 k d.runs new r → A ≡ joined (members top new) next
  grown k new g =
      s.whole
      ∙ fun_ext (λ v.
      ap (λ (B : Values). members top d.runs v || B v) split
      ∙ or_assoc (members top d.runs v) (between r.low r.high v) (next v)
      ∙ ap (λ (b : Bool). b || next v) (sym (g.has v)))

  abbrev none : Run
  none = record { low = 0; high = 0 }

  some : touches d r ≡ true → (0 < d.count) × (r.low ≤ (last d).high + 1)
  some t =
      let p = and_parts (ltb 0 d.count) (leb r.low ((last d).high + 1)) t in
      (ltb-true 0 d.count p.0, leb-true r.low ((last d).high + 1) p.1)

  apart : touches d r ≡ false → 0 < d.count → (last d).high + 2 ≤ r.low
  apart t h = grind (arith, nat_tests)

  add_widened : touches d r ≡ true → Drafts top most A (widened d r) next
  add_widened t =
      let h = some t in
      let k = d.count - 1 in
      let e : d.count ≡ suc k = omega (arith, h.0) in
      let lower = s.later r.low low_here h.0 in
      let g = widen top 0 k d.runs none r (subst (λ (n : ℕ). Filled top 0 n d.runs) e s.filled) lower h.1 order below in
      let there = get_or-set_same d.runs k (record { low = (last d).low; high = max (last d).high r.high }) none (omega (arith, filled_most top 0 d.count d.runs s.filled)) in
      record {
        filled = subst (λ (n : ℕ). Filled top 0 n (widened d r).runs) (sym e) g.filled;
        long = length-set d.runs k _ ∙ s.long;
        whole = grown (suc k) (widened d r).runs g;
        later = λ v m _. omega (arith, ap (λ (x : Run). x.low) there, lower, after v m);
      }

  add_pushed : touches d r ≡ false → (d.count ≡ most → ⊥) → Drafts top most A (pushed d r) next
  add_pushed t n =
      let room : d.count < length d.runs = omega (arith, n, filled_most top 0 d.count d.runs s.filled, s.long) in
      let g = push top 0 d.count d.runs none r s.filled room order below (λ _. omega arith) (λ j e. at j e) in
      let there = get_or-set_same d.runs d.count r none room in
      let e = add-one d.count in
      let i : d.count + 1 - 1 ≡ d.count = omega arith in
      record {
        filled = subst (λ (k : ℕ). Filled top 0 k (pushed d r).runs) (sym e) g.filled;
        long = length-set d.runs d.count r ∙ s.long;
        whole = grown (suc d.count) (pushed d r).runs g;
        later = λ v m _. omega (arith, ap (λ (x : Run). x.low) (ap (λ (k : ℕ). get_or (pushed d r).runs k none) i ∙ there), after v m);
      }
    where
      at : (j : ℕ) → d.count ≡ suc j → (get_or d.runs j none).high + 2 ≤ r.low
      at j e =
          let i : d.count - 1 ≡ j = omega arith in
          subst (λ (k : ℕ). (get_or d.runs k none).high + 2 ≤ r.low) i (apart t (omega arith))

  add_full : touches d r ≡ false → d.count ≡ most → few top most A ≡ false
  add_full t e = lt-leb (starts top A) most (elim (cases_lt 0 d.count) [ inl h ↦ beside h | inr h ↦ omega (arith, starts_some top r.low A in_all (omega arith)) ])
    where
      in_all : r.low ∈ A
      in_all = ap (λ (B : Values). B r.low) s.whole ∙ or_right (members top d.runs r.low) (here r.low) low_here

      -- what is to come lies apart from the draft
      beside : 0 < d.count → most < starts top A
      beside h =
          let k = d.count - 1 in
          let f : Filled top 0 (suc k) d.runs = subst (λ (n : ℕ). Filled top 0 n d.runs) (let c : d.count ≡ suc k = omega arith in c) s.filled in
          let both =
          starts_apart ((last d).high + 1) (members top d.runs) here (λ v m. omega (arith, last_most top 0 k d.runs none f v m))
          (λ v m. omega (arith, apart t h, low_first v m)) top in
          let one = starts_some top r.low here low_here (omega arith) in
          omega (arith, ap (starts top) s.whole, both, starts_filled top d.count d.runs s.filled, one)

  -- the run is in the draft, or there is no room for it
  pub add_on : answered most d r ≡ Ok tt → Drafts top most A (added most d r) next
  add_on e =
      elim (cases_Bool (touches d r)) [
        | inl t ↦ subst (λ (x : Draft). Drafts top most A x next) (sym (ap (λ (b : Bool). cond b (widened d r) (cond (eqb d.count most) d (pushed d r))) t)) (add_widened t)
        | inr t ↦
            elim (cases_Bool (eqb d.count most)) [
              | inl f ↦ absurd (no_refusal NotHeld (sym e ∙ ap₂ (λ (b c : Bool). cond b (Ok tt) (cond c (Err NotHeld) (Ok tt))) t f))
              | inr f ↦
                  subst (λ (x : Draft). Drafts top most A x next) (sym (ap₂ (λ (b c : Bool). cond b (widened d r) (cond c d (pushed d r))) t f))
                  (add_pushed t (eqb-false d.count most f))
            ]
      ]

  pub add_refused : (why : SetRefusal) → answered most d r ≡ Err why → (why ≡ NotHeld) × (few top most A ≡ false)
  add_refused why e =
      elim (cases_Bool (touches d r)) [
        | inl t ↦ absurd (no_refusal why (sym (ap (λ (b : Bool). cond b (Ok tt) (cond (eqb d.count most) (Err NotHeld) (Ok tt))) t) ∙ e))
        | inr t ↦
            elim (cases_Bool (eqb d.count most)) [
              | inl f ↦ (
                same_refusal why (sym (ap₂ (λ (b c : Bool). cond b (Ok tt) (cond c (Err NotHeld) (Ok tt))) t f) ∙ e),
                add_full t (eqb-true d.count most f),
              )
              | inr f ↦ absurd (no_refusal why (sym (ap₂ (λ (b c : Bool). cond b (Ok tt) (cond c (Err NotHeld) (Ok tt))) t f) ∙ e))
            ]
      ]

-- ---- the pieces of a set, one after another

module _ (top most : ℕ) (A : Values) (bound : (v : ℕ) → v ∈ A → v < top) (d : Draft) (here : Values) (s : Drafts top most A d here) where
  module _ (r : Run) (next : Values) (piece : Splits here (Some r) next) where
    high_below : r.high < top
    high_below =
        let m : r.high ∈ here = ap (λ (B : Values). B r.high) piece.0 ∙ or_left _ (next r.high) (is_between r.low r.high r.high piece.2 (omega arith)) in
        bound r.high (ap (λ (B : Values). B r.high) s.whole ∙ or_right (members top d.runs r.high) (here r.high) m)

    pub piece_added : (now : Draft) → now ≡ added most d r → answered most d r ≡ Ok tt → Drafts top most A now next
    piece_added now is e = subst (λ (x : Draft). Drafts top most A x next) (sym is) (add_on top most A d r here next s piece.0 piece.1 piece.2 high_below e)

    pub piece_refused : (why : SetRefusal) → answered most d r ≡ Err why → (why ≡ NotHeld) × (few top most A ≡ false)
    piece_refused = add_refused top most A d r here next s piece.0 piece.1 piece.2 high_below

  pub all_added : here ≡ nothing → Made top most A (Ok d.runs)
  all_added e = finished top most A d (subst (Drafts top most A d) e s)

pub count_added : (most : ℕ) (d now : Draft) (r : Run) → now ≡ added most d r → d.count ≤ most → now.count ≤ most
count_added most d now r is h =
    subst (λ (x : Draft). x.count ≤ most) (sym is)
    (elim (cases_Bool (touches d r)) [
      | inl t ↦ subst (λ (b : Bool). (cond b (widened d r) (cond (eqb d.count most) d (pushed d r))).count ≤ most) (sym t) h
      | inr t ↦
          subst (λ (b : Bool). (cond b (widened d r) (cond (eqb d.count most) d (pushed d r))).count ≤ most) (sym t)
          (elim (cases_Bool (eqb d.count most)) [
            | inl f ↦ subst (λ (b : Bool). (cond b d (pushed d r)).count ≤ most) (sym f) h
            | inr f ↦ let n = eqb-false d.count most f in subst (λ (b : Bool). (cond b d (pushed d r)).count ≤ most) (sym f) (omega (arith, n))
          ])
    ])
