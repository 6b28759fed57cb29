-- What a pass reads of one place: where its turn lies in the net, and the date of the token that it takes.
use Rattle.std.proofs.Common.{ℕ, ◌-◌, ◌<◌, ◌≤◌, ◌≡◌, List, length, map, get_or, sym, ap, ◌∙◌, arith}
use Rattle.std.proofs.lemmas.List.{get_or-map}
use Rattle.dioid.specs.declared.dates.Date.{Date}
use Rattle.dioid.specs.declared.dates.Date.TheVariants.{Early}
use Rattle.dioid.specs.Dates.{delayed}
use Rattle.teg_net.specs.Nets.{NetLists, IsNet, IsPlaceOf}
use Rattle.teg_net.specs.Limits.{greatest_hold, most_place_tokens}
use Rattle.teg_net.specs.Circuits.{no_place, place_at}
use Rattle.teg_model.specs.Systems.{available_in}
use Rattle.teg_model.specs.DateBounds.{IsDateWithin}
use Rattle.teg_model.proofs.Tokens.{available_after, available_first}
use Rattle.teg_model.proofs.DateFunctions.{Dating, InitialDates}
use Rattle.date_rows.specs.declared.order.OrderedPlace.{OrderedPlace}
use Rattle.date_rows.specs.PlaceOrder.{IsOrderedPlaceOf}
use Rattle.date_rows.specs.Passes.{seen_at, IsSourceWithin}
use Rattle.date_rows.proofs.Seeing.{seen_before, seen_here}

-- the turn's ends are transitions of the net, and its numbers keep their limits
pub record IsTurnIn (net : NetLists) (o : OrderedPlace) : Type 0 where
  pub to_in : o.to.index < length net.transitions
  pub from_in : o.from.index < length net.transitions
  pub hold_in : o.hold ≤ greatest_hold
  pub tokens_in : o.tokens ≤ most_place_tokens

pub turn_in : (net : NetLists) (o : OrderedPlace) → IsNet net → IsOrderedPlaceOf net o → IsTurnIn net o
turn_in net o ok is =
    let p : IsPlaceOf net (place_at net o.place) = ok.each_place o.place.index no_place is.in_range in
    record { to_in = rw is.to p.to_in; from_in = rw is.from p.from_in; hold_in = rw is.hold p.hold_in; tokens_in = rw is.tokens p.tokens_in }

-- the date of a cell that was read
pub held_read : {C : Type 0} (held : C → Date) (row : List C) (i : ℕ) (x : C) → i < length row → x ≡ get_or row i x → held x ≡ get_or (map held row) i Early
held_read held row i x l e = ap held e ∙ sym (get_or-map held row i x Early l)

module _ (net : NetLists) (init : InitialDates) (back : Dating) (row : List Date) (k : ℕ) (o : OrderedPlace) (is : IsOrderedPlaceOf net o) where
  seen_of_here : o.tokens ≡ 0 → seen_at back row k (place_at net o.place).from.index (k - (place_at net o.place).tokens) ≡ get_or row o.from.index Early
  seen_of_here none =
      let at : k - o.tokens ≡ k = omega arith in
      rw (← is.from, ← is.tokens, at) (seen_here back row k o.from.index)

  seen_of_before : 1 ≤ o.tokens → o.tokens < k → seen_at back row k (place_at net o.place).from.index (k - (place_at net o.place).tokens) ≡ back o.from.index o.tokens
  seen_of_before some far = rw (← is.from, ← is.tokens) (seen_before back row k o.from.index o.tokens some far)

  -- without tokens the place takes the date of this number
  pub taken_here : o.tokens ≡ 0 → 1 ≤ k → available_in init (seen_at back row k) (place_at net o.place) k ≡ delayed o.hold (get_or row o.from.index Early)
  taken_here none one = rw is.hold (available_after init (seen_at back row k) (place_at net o.place) k (get_or row o.from.index Early) (omega (arith, is.tokens)) (seen_of_here none))

  pub within_here : (most : ℕ) → o.tokens ≡ 0 → 1 ≤ k → IsSourceWithin most back row k (place_at net o.place) → IsDateWithin most (get_or row o.from.index Early)
  within_here most none one within = rw (seen_of_here none) at (within (omega (arith, is.tokens)))

  -- with fewer tokens than the number it takes a date so many rows back
  pub taken_before : 1 ≤ o.tokens → o.tokens < k → available_in init (seen_at back row k) (place_at net o.place) k ≡ delayed o.hold (back o.from.index o.tokens)
  taken_before some far = rw is.hold (available_after init (seen_at back row k) (place_at net o.place) k (back o.from.index o.tokens) (omega (arith, is.tokens)) (seen_of_before some far))

  pub within_before : (most : ℕ) → 1 ≤ o.tokens → o.tokens < k → IsSourceWithin most back row k (place_at net o.place) → IsDateWithin most (back o.from.index o.tokens)
  within_before most some far within = rw (seen_of_before some far) at (within (omega (arith, is.tokens)))

  -- and else it takes an initial token
  pub taken_first : k ≤ o.tokens → available_in init (seen_at back row k) (place_at net o.place) k ≡ init (place_at net o.place) k
  taken_first many = available_first init (seen_at back row k) (place_at net o.place) k (omega (arith, is.tokens))
