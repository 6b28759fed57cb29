-- Where each place adds no more than what is told of its ends, no round on the way to a row's transition takes more time than the row gives.
use Rattle.std.proofs.Common.{ℕ, ℤ, ◌+◌, ◌*◌, ◌≡◌, List, [], ◌∷◌, All, Option, Some, sym, ap, subst, ◌∙◌, arith, pos, ◌+ℤ◌, ◌-ℤ◌}
use Rattle.std.specs.Prelude.{◌≤ℤ◌}
use Rattle.std.proofs.lemmas.Int.{ints}
use Rattle.std.proofs.lemmas.List.Sums.{sum_by-cons}
use Rattle.teg_net.specs.declared.entries.PlaceId.{PlaceId}
use Rattle.teg_net.specs.declared.entries.Place.{Place}
use Rattle.teg_net.specs.Nets.{NetLists, IsPlaceOf}
use Rattle.teg_net.specs.Circuits.{no_place, place_at, IsPathBetween, time_of, tokens_of}
use Rattle.endless_due.specs.declared.row.EndlessRow.{EndlessRow}
use Rattle.endless_due.specs.EndlessRows.{IsEndlessRow}
use Rattle.forever_laws.specs.PacedRows.{KeepsPace}
use Rattle.teg_forever.specs.Paces.{IsKept, IsWeighable, time_told}

-- what is told of the start of a path is no less than what it adds to what is told of its end
record IsToldOn (r : EndlessRow) (times : List (Option ℤ)) (net : NetLists) (ps : List PlaceId) (s : ℕ) (y : ℤ) : Type 0 where
  x : ℤ
  told : time_told times s ≡ Some x
  more : (pos (r.every * time_of net ps) -ℤ pos (r.gap * tokens_of net ps) +ℤ y) ≤ℤ x

parts : (a b c n : ℕ) → n ≡ b + c → a * n ≡ a * b + a * c
parts a b c n e = ap (λ (z : ℕ). a * z) e ∙ spread a b c where
  spread : (x y z : ℕ) → x * (y + z) ≡ x * y + x * z
  spread x y z = grind arith

told_on : (net : NetLists) (r : EndlessRow) (times : List (Option ℤ)) → All (IsKept r times) net.places
    → (ps : List PlaceId) (s t : ℕ) (y : ℤ) → IsPathBetween net s ps t → time_told times t ≡ Some y → IsToldOn r times net ps s y
told_on net r times kept [] s t y h e =
    let one : r.every * time_of net [] ≡ 0 = omega arith in
    let two : r.gap * tokens_of net [] ≡ 0 = omega arith in
    record { x = y; told = subst (λ (z : ℕ). time_told times z ≡ Some y) (sym h) e; more = omega (arith, ints, one, two) }
told_on net r times kept (p ∷ ps) s t y h e =
    let place : Place = place_at net p in
    let rest : IsToldOn r times net ps place.to.index y = told_on net r times kept ps place.to.index t y h.2 e in
    let here = kept p.index no_place h.0 rest.x rest.told in
    let time : r.every * time_of net (p ∷ ps) ≡ r.every * place.hold + r.every * time_of net ps =
    parts r.every place.hold (time_of net ps) (time_of net (p ∷ ps)) (sum_by-cons (λ q. (place_at net q).hold) p ps) in
    let tokens : r.gap * tokens_of net (p ∷ ps) ≡ r.gap * place.tokens + r.gap * tokens_of net ps =
    parts r.gap place.tokens (tokens_of net ps) (tokens_of net (p ∷ ps)) (sum_by-cons (λ q. (place_at net q).tokens) p ps) in
    let more = rest.more in
    let less = here.2 in
    record { x = here.0; told = subst (λ (z : ℕ). time_told times z ≡ Some here.0) h.1 here.1; more = omega (arith, ints, time, tokens, more, less) }

one_told : (times : List (Option ℤ)) (s : ℕ) (x y : ℤ) → time_told times s ≡ Some x → time_told times s ≡ Some y → x ≡ y
one_told times s x y a b = let c : Some x ≡ Some y = sym a ∙ b in cc

pub paced : (net : NetLists) (r : EndlessRow) (times : List (Option ℤ)) → All (IsKept r times) net.places → (y : ℤ) → time_told times r.transition.index ≡ Some y → KeepsPace net r
paced net r times kept y e round way s closed leads =
    let on : IsToldOn r times net way s y = told_on net r times kept way s r.transition.index y leads e in
    let again : IsToldOn r times net round s on.x = told_on net r times kept round s s on.x closed on.told in
    let same = one_told times s again.x on.x again.told on.told in
    let more = again.more in
    omega (arith, ints, same, more)

-- a row and a place of nets
pub weighable : (net own : NetLists) (r : EndlessRow) (p : Place) → IsEndlessRow own r → IsPlaceOf net p → IsWeighable r p
weighable net own r p row place = record { every = row.goes_on.every_in; gap = row.goes_on.gap_in; hold = place.hold_in; tokens = place.tokens_in }
