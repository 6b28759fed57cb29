-- A search that is over has found the least losses.
use Rattle.std.proofs.Common.{ℕ, suc, ◌+◌, ◌*◌, ◌<◌, ◌≤◌, ◌≡◌, Bool, true, false, List, [], ◌∷◌, length, get_or, Option, Some, None, refl, sym, ap, subst, ◌∙◌, arith, ⊎_elim, ◌⊎◌, inl, inr}
use Rattle.std.specs.Prelude.{IsSome, All}
use Rattle.std.proofs.lemmas.Bool.{cases_Bool}
use Rattle.std.proofs.lemmas.List.Sums.{sum_by-cons}
use Rattle.std.proofs.Math.Nat.{mul-le-mul_right}
use Rattle.teg_net.specs.declared.entries.PlaceId.{PlaceId}
use Rattle.teg_net.specs.Limits.{most_transitions}
use Rattle.teg_net.specs.Nets.{NetLists, IsNet, IsPlaceOf}
use Rattle.teg_net.specs.Circuits.{no_place, place_at, from_of}
use Rattle.teg_net.specs.Parts.{to_of}
use Rattle.teg_critical.specs.declared.endings.Ending.{Ending}
use Rattle.teg_critical.specs.declared.losses.Loss.{Loss}
use Rattle.teg_critical.specs.LossEndings.{IsEndingAt}
use Rattle.teg_critical.specs.Losses.{most_loss, loss_at}
use Rattle.teg_critical.specs.LeastLosses.{amount_in, loss_of_path, IsWay, IsLeastLoss, told_at, IsToldBack, AreToldBack, IsToldWithin, is_settled, AreSettled}
use Rattle.teg_critical.proofs.SearchStates.{IsSearching, IsOver}

pub within_more : (o : Option ℕ) (x y : ℕ) → IsToldWithin o x → x ≤ y → IsToldWithin o y
within_more None x y h l = h
within_more (Some d) x y h l = omega arith

pub within_some : (o : Option ℕ) (d : ℕ) → o ≡ Some d → IsToldWithin o d
within_some o d e = let some : IsToldWithin (Some d) d = omega arith in subst (λ (z : Option ℕ). IsToldWithin z d) (sym e) some

pub record IsTold (o : Option ℕ) (x : ℕ) : Type 0 where
  pub number : ℕ
  pub is : o ≡ Some number
  pub low : number ≤ x

pub within_told : (o : Option ℕ) (x : ℕ) → IsToldWithin o x → IsTold o x
within_told None x h = absurd h
within_told (Some d) x h = record { number = d; is = refl; low = h }

module _ {net : NetLists} {losses : List (Option Loss)} {start : ℕ} {least : List (Option ℕ)} {settled : List Bool} (s : IsSearching net losses start least settled) where
  -- a transition of which no more is told than of those that are not settled
  module _ (t : ℕ) (stop : (u d : ℕ) → is_settled settled u ≡ false → told_at least u ≡ Some d → IsToldWithin (told_at least t) d) where
    -- no path loses less than is told of its end, or of this transition
    reach : (ps : List PlaceId) (a b x : ℕ) → IsWay net losses a ps b → IsToldWithin (told_at least a) x
        → IsToldWithin (told_at least b) (x + loss_of_path losses ps) ⊎ IsToldWithin (told_at least t) (x + loss_of_path losses ps)
    reach [] a b x way h = inl (within_more (told_at least b) x (x + loss_of_path losses []) (subst (λ (z : ℕ). IsToldWithin (told_at least z) x) way.path h) (omega arith))
    reach (p ∷ ps) a b x way h =
        let told : IsTold (told_at least a) x = within_told (told_at least a) x h in
        let low = told.low in
        let from : told_at least (from_of net p) ≡ Some told.number = ap (told_at least) way.path.1 ∙ told.is in
        let here : IsSome (loss_at losses p) = way.along 0 p (omega arith) in
        let more = sum_by-cons (λ q. amount_in (loss_at losses q)) p ps in
        ⊎_elim
        (λ (done : is_settled settled (from_of net p) ≡ true).
        let next = s.taken p told.number way.path.0 here done from in
        let rest : IsWay net losses (to_of net p) ps b = record { path = way.path.2; along = λ i d l. way.along (suc i) d (omega arith) } in
        ⊎_elim
        (λ q. inl (within_more (told_at least b) (told.number + amount_in (loss_at losses p) + loss_of_path losses ps) (x + loss_of_path losses (p ∷ ps)) q (omega arith)))
        (λ q. inr (within_more (told_at least t) (told.number + amount_in (loss_at losses p) + loss_of_path losses ps) (x + loss_of_path losses (p ∷ ps)) q (omega arith)))
        (reach ps (to_of net p) b (told.number + amount_in (loss_at losses p)) rest next))
        (λ (opened : is_settled settled (from_of net p) ≡ false). inr
        (within_more (told_at least t) told.number (x + loss_of_path losses (p ∷ ps)) (stop (from_of net p) told.number opened from) (omega arith)))
        (cases_Bool (is_settled settled (from_of net p)))

    no_less : (ps : List PlaceId) → IsWay net losses start ps t → IsToldWithin (told_at least t) (0 + loss_of_path losses ps)
    no_less ps way = ⊎_elim (λ q. q) (λ q. q) (reach ps start t 0 way s.begins)

    each_least : (o : Option ℕ) → told_at least t ≡ o → IsLeastLoss net losses start t o
    each_least None e = λ ps way. subst (λ (z : Option ℕ). IsToldWithin z (0 + loss_of_path losses ps)) e (no_less ps way)
    each_least (Some d) e = (
      s.sound t d e,
      λ ps way. (let h : d ≤ 0 + loss_of_path losses ps = subst (λ (z : Option ℕ). IsToldWithin z (0 + loss_of_path losses ps)) e (no_less ps way) in omega arith),
    )

  module _ (ok : IsNet net) where
    -- a place that ends where the search began, and starts at such a transition
    told_back : (e : Ending) → IsEndingAt net start e → ((u d : ℕ) → is_settled settled u ≡ false → told_at least u ≡ Some d → IsToldWithin (told_at least e.start) d) → IsToldBack net losses least e
    told_back e at stop = record {
      least = subst (λ (z : ℕ). IsLeastLoss net losses z e.start (told_at least e.start)) (sym at.there) (each_least e.start stop (told_at least e.start) refl);
      small = λ d told.
          let small = s.small e.start d told in
          let few : length settled ≤ most_transitions = (let a = ok.few_transitions in let b = s.marks in omega arith) in
          let most : length settled * most_loss ≤ most_transitions * most_loss = mul-le-mul_right {m = length settled} {n = most_transitions} most_loss few in
          omega arith;
    }

    -- the search is over
    pub searched : IsOver least settled → (wanted : List Ending) → All (IsEndingAt net start) wanted → AreToldBack net losses least wanted
    searched over wanted at = record {
      count = s.count;
      each = λ i d l. told_back (get_or wanted i d) (at i d l) (λ u x opened told. let none = over u opened in let f : ⊥ = cc in absurd f);
    }

    -- the start of a place of the net is one of its transitions
    pub start_in : (e : Ending) → IsEndingAt net start e → e.start < length settled
    start_in e at =
        let rules : IsPlaceOf net (place_at net e.place) = ok.each_place e.place.index no_place at.ending.in_range in
        let low : from_of net e.place < length net.transitions = rules.from_in in
        let is : e.start ≡ from_of net e.place = ap (λ (z : Ending). z.start) at.ending.is in
        let marks = s.marks in
        omega arith

    -- or these transitions are settled
    pub settled_back : (wanted : List Ending) → All (IsEndingAt net start) wanted → AreSettled settled wanted → AreToldBack net losses least wanted
    settled_back wanted at done = record {
      count = s.count;
      each = λ i d l. told_back (get_or wanted i d) (at i d l) (λ u x opened told. s.before (get_or wanted i d).start u x (start_in (get_or wanted i d) (at i d l)) (done i d l) opened told);
    }
