-- The places into a transition that are held longest, as the first i places into it give them, and that it waits for no other.
use Rattle.std.proofs.Common.{ℕ, ◌+◌, ◌-◌, ◌<◌, ◌≤◌, ◌≡◌, ◌≢◌, ◌++◌, ◌∷◌, [], List, true, Option, Some, None, length, get_or, set, refl, sym, ap, subst, ◌∙◌, arith, ⊎_elim}
use Rattle.std.specs.Prelude.{All, Any, nat_lt, option_map}
use Rattle.std.proofs.lemmas.Bool.{cases_eq, cases_lt}
use Rattle.std.proofs.lemmas.Bool.Decides.{nat_tests}
use Rattle.std.proofs.lemmas.Grind.{common_steps}
use Rattle.std.proofs.lemmas.List.{length-set, get_or-set_other}
use Rattle.std.proofs.lemmas.List.Elements.{All-push, All-set}
use Rattle.std.proofs.lemmas.List.Quantifiers.{Any-push, any-set}
use Rattle.teg_net.specs.declared.entries.Place.{Place}
use Rattle.teg_net.specs.declared.entries.PlaceId.{PlaceId}
use Rattle.teg_net.specs.Nets.{NetLists}
use Rattle.teg_net.specs.declared.places_of.PlaceEnd.TheVariants.{To}
use Rattle.teg_net.specs.Circuits.{place_at}
use Rattle.teg_net.specs.PlaceLists.{ListsPlacesAt}
use Rattle.run_laws.specs.declared.fired.Fired.{Fired}
use Rattle.run_laws.specs.Runs.{firing_date, token_date, IsThereBy}
use Rattle.teg_replay.specs.Longest.{IsHeldAsLong, IsLongerOf, ListsLongestAt}
use Rattle.teg_replay.proofs.Latest.{no_id}

pub record LongestUpTo (net : NetLists) (t : ℕ) (into : List PlaceId) (i : ℕ) (ids : List PlaceId) : Type 0 where
  pub known : All (λ p. p.index < length net.places) ids
  pub right : All (λ p. (place_at net p).to.index ≡ t) ids
  pub all : (j : ℕ) (d : PlaceId) → j < i → Any (λ p. IsHeldAsLong net p (get_or into j d)) ids

pub held_self : (net : NetLists) (a : PlaceId) → IsHeldAsLong net a a
held_self net a = record { from = refl; to = refl; tokens = refl; hold = omega arith }

held_on : (net : NetLists) (a b c : PlaceId) → IsHeldAsLong net a b → IsHeldAsLong net b c → IsHeldAsLong net a c
held_on net a b c h g = record { from = h.from ∙ g.from; to = h.to ∙ g.to; tokens = h.tokens ∙ g.tokens; hold = omega (arith, h.hold, g.hold) }

any_more : {X : Type 0} (P : X → Type 0) (xs : List X) (y : X) → Any P xs → Any P (xs ++ y ∷ [])
any_more P xs y (i, d, l, e, p) = (i, d, grind (arith, common_steps), grind (arith, common_steps), p)

pub longest_push : (net : NetLists) (t : ℕ) (into ids : List PlaceId) (i : ℕ) (id : PlaceId) → ListsPlacesAt net To t into → LongestUpTo net t into i ids → i < length into
    → ((d : PlaceId) → get_or into i d ≡ id) → LongestUpTo net t into (i + 1) (ids ++ id ∷ [])
longest_push net t into ids i id lists h l is = record {
  known = All-push (λ p. p.index < length net.places) ids id h.known (rw (is no_id) at (lists.known i no_id l));
  right = All-push (λ p. (place_at net p).to.index ≡ t) ids id h.right (rw (is no_id) at (lists.right i no_id l));
  all = λ j d m.
      ⊎_elim
      (λ (q : j < i). any_more (λ p. IsHeldAsLong net p (get_or into j d)) ids id (h.all j d q))
      (λ (q : i ≤ j). let one : j ≡ i = omega (arith, m, q) in rw (one, is d) (Any-push (λ p. IsHeldAsLong net p id) ids id (held_self net id)))
      (cases_lt j i);
}

-- what is held longest takes the place of what it is held as long as
pub longest_set : (net : NetLists) (t : ℕ) (into ids : List PlaceId) (i n : ℕ) (id longer : PlaceId) → ListsPlacesAt net To t into → LongestUpTo net t into i ids → i < length into
    → ((d : PlaceId) → get_or into i d ≡ id) → n < length ids → ((d : PlaceId) → IsLongerOf net (get_or ids n d) id longer) → LongestUpTo net t into (i + 1) (set ids n longer)
longest_set net t into ids i n id longer lists h l is ln g =
    let len : length (set ids n longer) ≡ length ids = length-set ids n longer in
    record {
      known = All-set (λ p. p.index < length net.places) ids n longer (g no_id).known h.known;
      right = All-set (λ p. (place_at net p).to.index ≡ t) ids n longer (ap (λ x. x.index) (g no_id).over_other.to ∙ rw (is no_id) at (lists.right i no_id l)) h.right;
      all = λ j d m.
          ⊎_elim
          (λ (q : j < i).
          let old = h.all j d q in
          let P : PlaceId → Type 0 = λ p. IsHeldAsLong net p (get_or into j d) in
          ⊎_elim
          (λ (s : old.0 ≡ n).
          let there : get_or ids n old.1 ≡ old.1 = ap (λ x. get_or ids x old.1) (sym s) ∙ old.3 in
          any-set P ids n longer ln (held_on net longer old.1 (get_or into j d) (subst (IsHeldAsLong net longer) there (g old.1).over_one) old.4))
          (λ (s : old.0 ≢ n). (old.0, old.1, omega (arith, old.2, len), get_or-set_other ids n old.0 longer old.1 s ∙ old.3, old.4))
          (cases_eq old.0 n))
          (λ (q : i ≤ j). let one : j ≡ i = omega (arith, m, q) in rw (one, is d) (any-set (λ p. IsHeldAsLong net p id) ids n longer ln (g no_id).over_other))
          (cases_lt j i);
    }

pub longest_is : (net : NetLists) (t : ℕ) (into ids : List PlaceId) (i : ℕ) → ListsPlacesAt net To t into → LongestUpTo net t into i ids → length into ≤ i → ListsLongestAt net t ids
longest_is net t into ids i lists h end = record {
  known = h.known;
  right = h.right;
  all = λ other l e. let at = lists.all other l e in rw at.2 at (h.all at.0 other (omega (arith, at.1, end)));
}

pub record LongestLists (net : NetLists) (lists : List (List PlaceId)) (n : ℕ) : Type 0 where
  pub width : length lists ≡ n
  pub each : (t : ℕ) → t < n → ListsLongestAt net t (get_or lists t [])

pub lists_more : (net : NetLists) (lists : List (List PlaceId)) (n : ℕ) (list : List PlaceId) → LongestLists net lists n → ListsLongestAt net n list → LongestLists net (lists ++ list ∷ []) (n + 1)
lists_more net lists n list h g = record {
  width = let w = h.width in grind (arith, common_steps);
  each = λ t l.
      let w = h.width in
      ⊎_elim
      (λ (q : t < n). let e : get_or (lists ++ list ∷ []) t [] ≡ get_or lists t [] = grind (arith, common_steps) in rw e (h.each t q))
      (λ (q : n ≤ t). let one : t ≡ n = omega (arith, l, q) in let e : get_or (lists ++ list ∷ []) n [] ≡ list = grind (arith, common_steps) in rw (one, e) g)
      (cases_lt t n);
}

less_held : (a b date : ℕ) (o : Option ℕ) → a ≤ b → IsThereBy date (option_map (λ d. d + b) o) → IsThereBy date (option_map (λ d. d + a) o)
less_held a b date None l h = h
less_held a b date (Some d) l h = omega (arith, l, h)

-- a token that a firing brings is there by when that of a place held as long is
pub held_there : (run : List Fired) (p q : Place) (k date : ℕ) → p.from ≡ q.from → p.tokens ≡ q.tokens → q.hold ≤ p.hold → q.tokens < k
    → IsThereBy date (token_date run p k) → IsThereBy date (token_date run q k)
held_there run p q k date from tokens hold late h =
    let test : nat_lt q.tokens k ≡ true = grind (arith, nat_tests) in
    rw test (less_held q.hold p.hold date (firing_date run q.from.index (k - q.tokens)) hold (rw (from, tokens, test) at h))
