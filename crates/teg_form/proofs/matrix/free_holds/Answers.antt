use Rattle.std.proofs.Common.{ℕ, ℤ, pos, FitsSigned, unsigned_abs, to_z, of_z, to_z-of_z, ◌^◌, ◌≡◌, ◌≢◌, ◌*◌, ◌+◌, ◌<◌, length, get_or, set, List, sym, ap, subst, ◌∙◌, arith}
use Rattle.std.specs.Int.{w128}
use Rattle.std.proofs.lemmas.Int.{fits_signed_from_abs}
use Rattle.std.proofs.lemmas.List.{get_or_read}
use Rattle.dioid.specs.declared.dates.Date.{Date}
use Rattle.dioid.specs.declared.dates.Date.TheVariants.{Early, At}
use Rattle.dioid.specs.Dates.{later_of}
use Rattle.teg_net.specs.declared.entries.Place.{Place}
use Rattle.teg_net.specs.Nets.{NetLists, IsNet, IsPlaceOf}
use Rattle.teg_net.specs.Circuits.{no_place}
use Rattle.teg_form.specs.Times.{cell}
use Rattle.teg_form.proofs.Cells.{cell_in}
use Rattle.teg_form.proofs.Holds.{HoldsUpTo, holds_same, holds_more}
use Rattle.teg_form.proofs.matrix.free_holds.Goals as goal
use Rattle.teg_form.proofs.matrix.free_holds.Goals.{then-place-eq0, else-place-eq0}

raised : (net : NetLists) (holds : List Date) (i : ℕ) (p : Place) → IsNet net → HoldsUpTo net holds i → i < length net.places → p ≡ get_or net.places i no_place → p.tokens ≡ 0
    → HoldsUpTo net (set holds (p.from.index * length net.transitions + p.to.index) (later_of (cell holds (length net.transitions) p.from.index p.to.index) (At (pos p.hold)))) (i + 1)
raised net holds i p ok h l e z =
    let P : Place → Type 0 = λ q. HoldsUpTo net (set holds (q.from.index * length net.transitions + q.to.index)
    (later_of (cell holds (length net.transitions) q.from.index q.to.index) (At (pos q.hold)))) (i + 1) in
    subst P (sym e) (holds_more net holds i ok h l (ap (λ q. q.tokens) (sym e) ∙ z))

in_holds : (net : NetLists) (holds : List Date) (i : ℕ) (p : Place) → IsNet net → HoldsUpTo net holds i → i < length net.places → p ≡ get_or net.places i no_place
    → p.from.index * length net.transitions + p.to.index < length holds
in_holds net holds i p ok h l e =
    let is : IsPlaceOf net p = subst (IsPlaceOf net) (sym e) (ok.each_place i no_place l) in
    rw h.count (cell_in (length net.transitions) p.from.index p.to.index is.from_in is.to_in)

read_hold : (net : NetLists) (i : ℕ) (p : Place) (x : ℤ) → IsNet net → i < length net.places → p ≡ get_or net.places i no_place → x ≡ pos p.hold → to_z w128 (of_z w128 x) ≡ pos p.hold
read_hold net i p x ok l e is =
    let of : IsPlaceOf net p = subst (IsPlaceOf net) (sym e) (ok.each_place i no_place l) in
    let fits : FitsSigned w128 (pos p.hold) = fits_signed_from_abs w128 (pos p.hold) (let g : unsigned_abs (pos p.hold) < 2 ^ 127 = omega (arith, of.hold_in) in g) in
    rw is (to_z-of_z fits)

pub loop-place-preserved : goal.loop-place-preserved
loop-place-preserved c =
    let net = c.args.net.now in
    let value = c.places-place-items.ensures.value in
    let l = rw value at c.loop-place-test.true in
    let read = get_or_read c.places-place-items.result.now c.loop-place.place-index c.place-item.result c.loop-place-test.true c.place-item.is no_place in
    let place : c.place-item.result ≡ get_or net.places c.loop-place.place-index no_place = rw value at read in
    elim c.if-place-eq0.branch [
      | then-place-eq0 w ↦
          let n : ℕ = length net.transitions in
          let p : Place = c.place-item.result in
          let at : ℕ = p.from.index * n + p.to.index in
          let ok : IsNet net = c.places-place-items.ensures.rules in
          let before : w.index.result.now ≡ get_or c.loop-place.holds.items at w.index.result.now = rw c.transitions-count.ensures.value at w.index.ensures in
          let old : w.index.result.now ≡ cell c.loop-place.holds.items n p.from.index p.to.index =
          get_or_read c.loop-place.holds.items at w.index.result.now (in_holds net c.loop-place.holds.items c.loop-place.place-index p ok c.loop-place.invariant l place) before Early in
          let hold : to_z w128 (of_z w128 w.from.result) ≡ pos p.hold = read_hold net c.loop-place.place-index p w.from.result ok l place w.from.ensures in
          let new : w.later.result ≡ later_of (cell c.loop-place.holds.items n p.from.index p.to.index) (At (pos p.hold)) =
          w.later.ensures.value ∙ ap (λ z. later_of z (At (to_z w128 (of_z w128 w.from.result)))) old ∙ ap (λ z. later_of (cell c.loop-place.holds.items n p.from.index p.to.index) (At z)) hold in
          let more = raised net c.loop-place.holds.items c.loop-place.place-index p ok c.loop-place.invariant l place w.if-place-eq0.true in
          let is : c.if-place-eq0.holds.items ≡ set c.loop-place.holds.items at w.later.result = rw c.transitions-count.ensures.value at (ap (λ v. v.items) w.holds-is) in
          rw (is, new) more
      | else-place-eq0 w ↦
          let none : (get_or net.places c.loop-place.place-index no_place).tokens ≢ 0 = λ e. w.if-place-eq0.false (ap (λ q. q.tokens) place ∙ e) in
          rw w.holds-is (holds_same net c.loop-place.holds.items c.loop-place.place-index c.loop-place.invariant none)
    ]
