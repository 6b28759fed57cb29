-- Holding times that are changed one after another.
use Rattle.std.proofs.Common.{ℕ, ◌+◌, ◌<◌, ◌≡◌, ◌≢◌, length, refl, ap, ◌∙◌, arith, ⊎_elim}
use Rattle.std.proofs.lemmas.Bool.{cases_eq}
use Rattle.std.proofs.lemmas.List.{get_or-set_other, length-set}
use Rattle.std.proofs.lemmas.Grind.{get_or-set_at}
use Rattle.teg_net.specs.declared.entries.Place.{Place}
use Rattle.teg_net.specs.declared.entries.PlaceId.{PlaceId}
use Rattle.teg_net.specs.Nets.{NetLists}
use Rattle.teg_net.specs.Circuits.{no_place, place_at}
use Rattle.teg_net.specs.Changes.{place_with_hold, with_hold}
use Rattle.teg_net.proofs.Changing.{kept}
use Rattle.token_bounds.specs.MostTokens.{HaveSamePlaces, AreStillUpTo, IsHeldAlone, long_time}

-- the changed place has the holding time
changed_hold : (net : NetLists) (id q : PlaceId) (hold : ℕ) → id.index < length net.places → q.index ≡ id.index → (place_at (with_hold net id hold) q).hold ≡ hold
changed_hold net id q hold l e = ap (λ (z : Place). z.hold) (get_or-set_at net.places id.index q.index (place_with_hold hold (place_at net id)) no_place e l)

-- others have theirs
other_hold : (net : NetLists) (id q : PlaceId) (hold : ℕ) → q.index ≢ id.index → (place_at (with_hold net id hold) q).hold ≡ (place_at net q).hold
other_hold net id q hold other = ap (λ (z : Place). z.hold) (get_or-set_other net.places id.index q.index (place_with_hold hold (place_at net id)) no_place other)

pub same_places : (net : NetLists) → HaveSamePlaces net net
same_places net = record { count = refl; from = λ q. refl; to = λ q. refl; tokens = λ q. refl }

same_more : (net changed : NetLists) (id : PlaceId) (hold : ℕ) → HaveSamePlaces net changed → HaveSamePlaces net (with_hold changed id hold)
same_more net changed id hold h = record {
  count = length-set changed.places id.index (place_with_hold hold (place_at changed id)) ∙ h.count;
  from = λ q. kept (λ (z : Place). z.from) (λ n z. refl) changed id hold q ∙ h.from q;
  to = λ q. kept (λ (z : Place). z.to) (λ n z. refl) changed id hold q ∙ h.to q;
  tokens = λ q. kept (λ (z : Place). z.tokens) (λ n z. refl) changed id hold q ∙ h.tokens q;
}

-- and the one that does
pub alone : (net changed : NetLists) (p : PlaceId) (n : ℕ) → n ≡ length net.places → p.index < length net.places → AreStillUpTo net changed n → IsHeldAlone net p (with_hold changed p long_time)
alone net changed p n e l h =
    let count = h.same.count in
    record {
      same = same_more net changed p long_time h.same;
      own = changed_hold changed p p long_time (omega arith) refl;
      others = λ q m other. other_hold changed p q long_time other ∙ h.still q (omega arith);
    }
