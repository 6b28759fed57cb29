use Rattle.std.proofs.Common.{ℕ, ◌-◌, ◌<◌, ◌≤◌, ◌≡◌, List, length, map, get_or, refl, sym, ap, ◌∙◌, arith}
use Rattle.std.proofs.lemmas.List.{get_or_default, length-map, map-set}
use Rattle.dioid.specs.declared.dates.Date.{Date}
use Rattle.dioid.specs.declared.dates.Date.TheVariants.{Early}
use Rattle.teg_net.specs.declared.entries.Place.{Place}
use Rattle.teg_net.specs.Nets.{NetLists, IsNet, IsPlaceOf}
use Rattle.teg_net.specs.Circuits.{place_at, no_place}
use Rattle.teg_model.specs.Systems.{System, available_in, IsLeastIn}
use Rattle.teg_model.specs.Datings.{system_with}
use Rattle.teg_model.proofs.Tokens.{available_same}
use Rattle.teg_check.specs.Ranks.{IsRanking}
use Rattle.teg_model.proofs.DateFunctions.{Dating, InitialDates}
use Rattle.date_rows.specs.declared.order.OrderedPlace.{OrderedPlace}
use Rattle.date_rows.specs.PlaceOrder.{IsRankedPlace, IsPlaceOrder}
use Rattle.date_rows.specs.Passes.{seen_at, KeptRows, AreLeastRowsBack, ReachesBack}
use Rattle.date_rows.proofs.Filling.{FilledTo, source_is, lower_before, filled_more, filled_begins, filled_is}
use Rattle.date_rows.proofs.Earliest.{earliest, earliest_is_least, earliest_within}
use Rattle.date_rows.proofs.Raising.{turn_in}
use Rattle.date_rows.proofs.passes.RowPass.raise.Goals as goal

abbrev no_turn : OrderedPlace
no_turn = record { turn = 0; place = record { index = 0 }; from = record { index = 0 }; to = record { index = 0 }; tokens = 0; hold = 0 }

-- the place to which the pass has come: it is one of the net's, and its token is taken from dates that are done
record IsComeTo (net : NetLists) (init : InitialDates) (rel : Dating) (ranks : List ℕ) (rows : KeptRows) (order : List OrderedPlace) (i k : ℕ) (row : List Date) : Type 0 where
  known : IsRankedPlace net ranks (get_or order i no_turn)
  place : IsPlaceOf net (place_at net (get_or order i no_turn).place)
  source : (x : Dating) → IsLeastIn (system_with net init rel) x → FilledTo net init rel x k order row i
      → (place_at net (get_or order i no_turn).place).tokens < k
      → seen_at rows.back row k (place_at net (get_or order i no_turn).place).from.index (k - (place_at net (get_or order i no_turn).place).tokens)
      ≡ x (place_at net (get_or order i no_turn).place).from.index (k - (place_at net (get_or order i no_turn).place).tokens)

come_to :
    (net : NetLists) (init : InitialDates) (rel : Dating) (ranks : List ℕ) (rows : KeptRows) (order : List OrderedPlace) (i k : ℕ) (row : List Date)
    → IsNet net → IsRanking net ranks → IsPlaceOrder net ranks order → 1 ≤ k → ReachesBack net k rows → AreLeastRowsBack net (system_with net init rel) k rows → i < length order
    → IsComeTo net init rel ranks rows order i k row
come_to net init rel ranks rows order i k row ok r ord o reach past l =
    let known : IsRankedPlace net ranks (get_or order i no_turn) = ord.known i no_turn l in
    let is : IsPlaceOf net (place_at net (get_or order i no_turn).place) = ok.each_place (get_or order i no_turn).place.index no_place known.place.in_range in
    record {
      known = known;
      place = is;
      source = λ x h s m.
          source_is net init rel ranks x k rows order row i (place_at net (get_or order i no_turn).place) ok r h ord o (past x h) s is.from_in (lower_before net ranks order i no_turn r ord l) m
          (reach.tokens (get_or order i no_turn).place.index no_place known.place.in_range m);
    }

pub loop-place-init : goal.loop-place-init
loop-place-init g c = rw (← c.self.view_is) (λ x h.
    let init = g.S.Source.initial c.self.inside.source.now in
    let rel = g.S.Source.release c.self.inside.source.now c.self.inside.net.now in
    filled_begins c.self.inside.net.now init rel x c.self.inside.number (g.P.Past.rows c.self.inside.past.now) c.self.inside.order.now (map g.C.DateCell.held c.args.row.now) h
    c.self.invariant.one c.self.invariant.reach (c.self.invariant.past x h) (rw (← c.self.view_is) at c.requires))

pub raised-requires-clause-place : goal.raised-requires-clause-place
raised-requires-clause-place g c = rw (← c.self.view_is) (c.self.invariant.order.2.known c.loop-place.place-index no_turn c.loop-place-test.true).place

pub raised-requires-clause-full : goal.raised-requires-clause-full
raised-requires-clause-full g c = c.loop-place.auto.row ∙ sym (length-map c.args.row.now g.C.DateCell.held) ∙ c.requires.full

pub bounds-row-place : goal.bounds-row-place
bounds-row-place g c =
    let turn = turn_in c.self.inside.net.now _ c.self.invariant.rules (c.self.invariant.order.2.known c.loop-place.place-index no_turn c.loop-place-test.true).place in
    let begun = rw (← c.self.view_is) at c.requires in
    rw (c.loop-place.auto.row, ← length-map c.args.row.now g.C.DateCell.held, begun.full) turn.to_in

pub raised-requires-clause-within : goal.raised-requires-clause-within
raised-requires-clause-within g c =
    let pass = c.self.inside in
    let ready = c.self.invariant in
    let net = pass.net.now in
    let init = g.S.Source.initial pass.source.now in
    let rel = g.S.Source.release pass.source.now net in
    let ranks = ready.order.0 in
    let i = c.loop-place.place-index in
    let o : OrderedPlace = get_or pass.order.now i no_turn in
    let row = map g.C.DateCell.held c.loop-place.row in
    let at = come_to net init rel ranks (g.P.Past.rows pass.past.now) pass.order.now i pass.number row ready.rules
    ready.order.1 ready.order.2 ready.one ready.reach ready.past c.loop-place-test.true in
    let filled : (x : Dating) → IsLeastIn (system_with net init rel) x → FilledTo net init rel x pass.number pass.order.now row i =
    rw (← c.self.view_is) at c.loop-place.invariant in
    let p : Place = place_at net o.place in
    let s : System = system_with net init rel in
    let x : Dating = earliest s ranks in
    let h = earliest_is_least net init rel ranks ready.rules ready.order.1 in
    rw (← c.self.view_is) (λ l.
    rw (at.source x h (filled x h) l)
    (earliest_within net init rel ranks g.C.DateCell.most pass.number ready.rules ready.order.1 ready.bounded p.from.index (pass.number - p.tokens) (omega arith) (omega arith)))

pub loop-place-preserved : goal.loop-place-preserved
loop-place-preserved g c = rw (← c.self.view_is) (λ x h.
    let pass = c.self.inside in
    let ready = c.self.invariant in
    let net = pass.net.now in
    let init = g.S.Source.initial pass.source.now in
    let rel = g.S.Source.release pass.source.now net in
    let held = g.C.DateCell.held in
    let rows = g.P.Past.rows pass.past.now in
    let ranks = ready.order.0 in
    let i = c.loop-place.place-index in
    let row = map held c.loop-place.row in
    let o : OrderedPlace = get_or pass.order.now i no_turn in
    let at = come_to net init rel ranks rows pass.order.now i pass.number row ready.rules
    ready.order.1 ready.order.2 ready.one ready.reach ready.past c.loop-place-test.true in
    let filled : (x : Dating) → IsLeastIn (system_with net init rel) x → FilledTo net init rel x pass.number pass.order.now row i =
    rw (← c.self.view_is) at c.loop-place.invariant in
    let p : Place = place_at net o.place in
    let s = filled x h in
    let there : available_in init (seen_at rows.back row pass.number) p pass.number ≡ available_in init x p pass.number =
    available_same init (seen_at rows.back row pass.number) x p pass.number (at.source x h s) in
    let ends : p.to.index ≡ o.to.index = ap (λ t. t.index) (sym at.known.place.to) in
    rw (map-set held c.loop-place.row o.to.index c.raised.result, rw (← c.self.view_is) at c.raised.ensures)
    (filled_more net init rel x pass.number pass.order.now row i o o.to.index (available_in init (seen_at rows.back row pass.number) p pass.number) (get_or row o.to.index Early)
    h ready.one s c.loop-place-test.true (λ d. get_or_default pass.order.now i d no_turn c.loop-place-test.true) ends (rw ends at at.place.to_in) at.known.place.in_range there refl))

pub returns-clause-least : goal.returns-clause-least
returns-clause-least g c = rw (← c.self.view_is) (λ x h.
    let pass = c.self.inside in
    let ready = c.self.invariant in
    let net = pass.net.now in
    let init = g.S.Source.initial pass.source.now in
    let rel = g.S.Source.release pass.source.now net in
    let end : c.loop-place.place-index ≡ length pass.order.now = omega (arith, c.loop-place-test.false, c.loop-place.auto.place-index-end) in
    let s : FilledTo net init rel x pass.number pass.order.now (map g.C.DateCell.held c.loop-place.row) (length pass.order.now) = rw end at ((rw (← c.self.view_is) at c.loop-place.invariant) x h) in
    filled_is net init rel ready.order.0 x pass.number pass.order.now (map g.C.DateCell.held c.loop-place.row) ready.rules ready.order.1 h ready.order.2 ready.one s)

pub returns-clause-exists : goal.returns-clause-exists
returns-clause-exists g c =
    let pass = c.self.inside in
    let ready = c.self.invariant in
    let net = pass.net.now in
    let init = g.S.Source.initial pass.source.now in
    let rel = g.S.Source.release pass.source.now net in
    rw (← c.self.view_is) (earliest (system_with net init rel) ready.order.0, earliest_is_least net init rel ready.order.0 ready.rules ready.order.1)
