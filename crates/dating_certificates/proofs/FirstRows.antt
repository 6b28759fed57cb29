-- Dates cut off behind a number: Never stands there, and the system of the cut dates releases nothing there.
use Rattle.std.proofs.Common.{ℕ, ◌<◌, ◌≤◌, ◌≡◌, ◌-◌, true, false, ltb, leb, length, get_or, refl, arith, inl, inr, ⊎_elim}
use Rattle.std.specs.Prelude.{All, ◌⊎◌, nat_lt, nat_le, if◌then◌else◌}
use Rattle.std.proofs.lemmas.Bool.{cases_lt}
use Rattle.std.proofs.lemmas.Bool.Decides.{nat_tests}
use Rattle.dioid.specs.declared.dates.Date.TheVariants.{Early, Never}
use Rattle.dioid.specs.Dates.{IsAtMostDate}
use Rattle.dioid.proofs.DateOrder.{never_last, same_by_at_most, at_most_refl}
use Rattle.teg_net.specs.declared.entries.Place.{Place}
use Rattle.teg_net.specs.Nets.{NetLists}
use Rattle.teg_net.specs.Circuits.{IsLive}
use Rattle.teg_model.specs.Systems.{System, IsFeasibleIn, IsLeastIn, IsTightIn}
use Rattle.teg_model.specs.LiveRanks.{HasEndsInRange}
use Rattle.teg_model.specs.Datings.{IsFeasibleUnder, IsLeastUnder, extended_places, available_at, initial_date, at_input}
use Rattle.teg_model.proofs.DateFunctions.{Dating}
use Rattle.teg_model.proofs.LiveRanks.{live_is_ranked}
use Rattle.teg_model.proofs.OfNet.{all_extended_in, ranks_extended, release_below, at_input_is}
use Rattle.teg_model.proofs.TightLeast.{tight_is_least_in}
use Rattle.teg_model.proofs.Tokens.{available_after, available_first}
use Rattle.dating_certificates.specs.TightRows.{AreThereBy, AreTightUpTo}

-- the dates of the first so many transitions up to a number, and Never elsewhere
abbrev cut : ℕ → ℕ → Dating → Dating
cut n last v t k = if nat_lt t n then (if nat_le k last then v t k else Never) else Never

cut_in : (n last : ℕ) (v : Dating) (t k : ℕ) → t < n → k ≤ last → cut n last v t k ≡ v t k
cut_in n last v t k l m =
    let a : ltb t n ≡ true = grind (arith, nat_tests) in
    let b : leb k last ≡ true = grind (arith, nat_tests) in
    rw (a, b) refl

cut_low : (n last : ℕ) (v : Dating) (t k : ℕ) → n ≤ t → cut n last v t k ≡ Never
cut_low n last v t k l = let a : ltb t n ≡ false = grind (arith, nat_tests) in rw a refl

cut_behind : (n last : ℕ) (v : Dating) (t k : ℕ) → t < n → last < k → cut n last v t k ≡ Never
cut_behind n last v t k l m =
    let a : ltb t n ≡ true = grind (arith, nat_tests) in
    let b : leb k last ≡ false = grind (arith, nat_tests) in
    rw (a, b) refl

-- a firing is among them, or all that is cut off is Never there
inside_or_never : (n last t k : ℕ) → ((t < n) × (k ≤ last)) ⊎ ((v : Dating) → cut n last v t k ≡ Never)
inside_or_never n last t k =
    ⊎_elim
    (λ (l : t < n). ⊎_elim (λ (m : last < k). inr (λ v. cut_behind n last v t k l m)) (λ (m : k ≤ last). inl (l, m)) (cases_lt last k))
    (λ (l : n ≤ t). inr (λ v. cut_low n last v t k l))
    (cases_lt t n)

-- the token of a place of the net is there when it was
cut_available : (n last : ℕ) (v : Dating) (p : Place) (k : ℕ) → p.from.index < n → k ≤ last → available_at (cut n last v) p k ≡ available_at v p k
cut_available n last v p k l m =
    ⊎_elim
    (λ (q : p.tokens < k).
    let same = cut_in n last v p.from.index (k - p.tokens) l (omega (arith, m)) in
    rw (available_after initial_date v p k (v p.from.index (k - p.tokens)) q refl) (available_after initial_date (cut n last v) p k (v p.from.index (k - p.tokens)) q same))
    (λ (q : k ≤ p.tokens).
    rw (available_first initial_date v p k q) (available_first initial_date (cut n last v) p k q))
    (cases_lt p.tokens k)

-- the dates of a dating keep up to a number what the net asks of them
record KeepsUpTo (net : NetLists) (u v : Dating) (last : ℕ) : Type 0 where
  each : (t k : ℕ) → t < length net.transitions → 1 ≤ k → k ≤ last → AreThereBy net u v t k (v t k)

-- the system in which nothing behind the number is released
abbrev cut_system : NetLists → Dating → ℕ → System
cut_system net u last = record { places = extended_places net; initial = initial_date; release = cut (length net.transitions) last (λ t k. at_input net t (u t k) Early) }

-- both ends of each place are in the net
pub both_in : (net : NetLists) → HasEndsInRange net → All (λ p. (p.from.index < length net.transitions) × (p.to.index < length net.transitions)) (extended_places net)
both_in net ends = all_extended_in net (λ p. (p.from.index < length net.transitions) × (p.to.index < length net.transitions)) ends (λ t l. (l, l))

-- what is cut off is feasible for the places
cut_keeps : (net : NetLists) (u v : Dating) (last : ℕ) → HasEndsInRange net → KeepsUpTo net u v last
    → (k : ℕ) → 1 ≤ k → All (λ p. IsAtMostDate (available_at (cut (length net.transitions) last v) p k) (cut (length net.transitions) last v p.to.index k)) (extended_places net)
cut_keeps net u v last ends h k o i d l =
    let n = length net.transitions in
    let p : Place = get_or (extended_places net) i d in
    let ends_of = both_in net ends i d l in
    ⊎_elim
    (λ (m : last < k). rw (cut_behind n last v p.to.index k ends_of.1 m) (never_last (available_at (cut n last v) p k)))
    (λ (m : k ≤ last).
    rw (cut_in n last v p.to.index k ends_of.1 m, cut_available n last v p k ends_of.0 m) ((h.each p.to.index k ends_of.1 o m).tokens i d l refl))
    (cases_lt last k)

-- and in the system
cut_feasible : (net : NetLists) (u v : Dating) (last : ℕ) → HasEndsInRange net → KeepsUpTo net u v last → IsFeasibleIn (cut_system net u last) (cut (length net.transitions) last v)
cut_feasible net u v last ends h = record {
  places = cut_keeps net u v last ends h;
  releases = λ t k o.
      let n = length net.transitions in
      let a : Dating = λ t k. at_input net t (u t k) Early in
      ⊎_elim
      (λ (q : (t < n) × (k ≤ last)).
      rw (cut_in n last a t k q.0 q.1, cut_in n last v t k q.0 q.1) (release_below net t (u t k) (v t k) (h.each t k q.0 o q.1).release))
      (λ (never : (w : Dating) → cut n last w t k ≡ Never). rw (never a, never v) (at_most_refl Never))
      (inside_or_never n last t k);
}

-- and in the net
cut_under : (net : NetLists) (u v : Dating) (last : ℕ) → HasEndsInRange net → KeepsUpTo net u v last → IsFeasibleUnder net u (cut (length net.transitions) last v)
cut_under net u v last ends h = record {
  places = cut_keeps net u v last ends h;
  inputs = λ t k o is.
      let n = length net.transitions in
      ⊎_elim
      (λ (q : (t < n) × (k ≤ last)). rw (cut_in n last v t k q.0 q.1) ((h.each t k q.0 o q.1).release is))
      (λ (never : (w : Dating) → cut n last w t k ≡ Never). rw (never v) (never_last (u t k)))
      (inside_or_never n last t k);
}

-- what is tight up to the number is tight in the system
cut_tight : (net : NetLists) (u x : Dating) (last : ℕ) → HasEndsInRange net → AreTightUpTo net u x last → IsTightIn (cut_system net u last) (cut (length net.transitions) last x)
cut_tight net u x last ends h = record {
  tight = λ t k z o all under.
      let n = length net.transitions in
      let a : Dating = λ t k. at_input net t (u t k) Early in
      ⊎_elim
      (λ (q : (t < n) × (k ≤ last)).
      let by : AreThereBy net u x t k z =
      record {
        tokens = λ i d l e.
            let p : Place = get_or (extended_places net) i d in
            rw (cut_available n last x p k (both_in net ends i d l).0 q.1) at (all i d l e);
        release = λ is. rw (at_input_is net t (u t k) Early is) at (rw (cut_in n last a t k q.0 q.1) at under);
      } in
      rw (cut_in n last x t k q.0 q.1) ((h t k q.0 o q.1).least z by))
      (λ (never : (w : Dating) → cut n last w t k ≡ Never). rw (never x) (rw (never a) at under))
      (inside_or_never n last t k);
}

-- a feasible dating keeps what the net asks
keeps_of_feasible : (net : NetLists) (u y : Dating) (last : ℕ) → IsFeasibleUnder net u y → KeepsUpTo net u y last
keeps_of_feasible net u y last f = record {
  each = λ t k l o m. record {
    tokens = λ i d j e. rw e at (f.places k o i d j);
    release = f.inputs t k o;
  };
}

-- rows that are tight up to a number are the first of the least dating
pub first_rows : (net : NetLists) → HasEndsInRange net → IsLive net → (u x y : Dating) (last : ℕ) → AreTightUpTo net u x last → IsLeastUnder net u y
    → (t k : ℕ) → t < length net.transitions → 1 ≤ k → k ≤ last → x t k ≡ y t k
first_rows net ends live u x y last h least t k l o m =
    let n = length net.transitions in
    let ranked = live_is_ranked net ends live in
    let keeps : KeepsUpTo net u x last = record { each = λ t k l o m. (h t k l o m).there } in
    let in_system : IsLeastIn (cut_system net u last) (cut n last x) =
    tight_is_least_in (cut_system net u last) (cut n last x) ranked.0 ranked.1 (ranks_extended net ranked.0 ranked.1 ranked.2) (cut_feasible net u x last ends keeps) (cut_tight net u x last ends h) in
    let below = in_system.least (cut n last y) (cut_feasible net u y last ends (keeps_of_feasible net u y last least.feasible)) t k o in
    let above = least.least (cut n last x) (cut_under net u x last ends keeps) t k l o in
    same_by_at_most (x t k) (y t k) (rw (cut_in n last x t k l m, cut_in n last y t k l m) at below) (rw (cut_in n last x t k l m) at above)
