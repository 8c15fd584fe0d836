-- The runs of a row that count.
use Rattle.std.specs.Prelude.{◌≡◌, ℕ, ◌+◌, ◌<◌, ◌≤◌, Bool, true, false, cond, ◌&&◌, List, [], ◌∷◌, length, nat_le, nat_lt}
use Rattle.std.proofs.Common.{sym, ap, subst, inl, inr, arith, length-take}
use Rattle.std.proofs.lemmas.List.{take_all}
use Rattle.std.proofs.lemmas.Bool.{and_parts, and_from, cases_Bool, leb-true, ltb-true, le-leb, lt-ltb}
use Rattle.sets.specs.declared.Run.{Run}
use Rattle.amounts.specs.Rows.{stands, counted, places, Ascending}

pub places_all : (most : ℕ) (row : List Run) → length row ≡ most → places most row ≡ row
unfolding places
places_all most row h = take_all most row (omega arith)

pub places_few : (most : ℕ) (row : List Run) → length (places most row) ≤ most
unfolding places
places_few most row = omega (arith, length-take most row)

module _ (top : ℕ) where
  pub standing : (least : ℕ) (r : Run) → stands top least r ≡ true → (least ≤ r.low) × (r.low ≤ r.high) × (r.high < top)
  standing least r e =
      let p = and_parts (nat_le least r.low) (nat_le r.low r.high && nat_lt r.high top) e in
      let q = and_parts (nat_le r.low r.high) (nat_lt r.high top) p.1 in
      (leb-true least r.low p.0, leb-true r.low r.high q.0, ltb-true r.high top q.1)

  pub stood : (least : ℕ) (r : Run) → least ≤ r.low → r.low ≤ r.high → r.high < top → stands top least r ≡ true
  stood least r p q s =
      and_from (nat_le least r.low) _ (le-leb least r.low p) (and_from (nat_le r.low r.high) (nat_lt r.high top) (le-leb r.low r.high q) (lt-ltb r.high top s))

  -- the first run of a row, if it counts
  pub counted_on : (least : ℕ) (r : Run) (rs : List Run) → stands top least r ≡ true → counted top least (r ∷ rs) ≡ (r ∷ counted top (r.high + 2) rs)
  counted_on least r rs e = ap (λ (b : Bool). cond b (r ∷ counted top (r.high + 2) rs) []) e

  pub counted_off : (least : ℕ) (r : Run) (rs : List Run) → stands top least r ≡ false → counted top least (r ∷ rs) ≡ []
  counted_off least r rs e = ap (λ (b : Bool). cond b (r ∷ counted top (r.high + 2) rs) []) e

  pub ascends : (least : ℕ) (rs : List Run) → Ascending top least (counted top least rs)
  ascends least [] = tt
  ascends least (r ∷ rs) =
      elim (cases_Bool (stands top least r)) [
        | inl e ↦
            let s = standing least r e in
            subst (Ascending top least) (sym (counted_on least r rs e)) (s.0, s.1, s.2, ascends (r.high + 2) rs)
        | inr e ↦ subst (Ascending top least) (sym (counted_off least r rs e)) tt
      ]
