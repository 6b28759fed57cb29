-- The loops that write a row of dates and raise it to the latest of what each firing waits for.
use Rattle.std.proofs.Common.{ℕ, ◌+◌, ◌<◌, ◌≤◌, ◌≡◌, ◌≢◌, List, length, get_or, set, refl, sym, ◌∙◌, arith, ⊎_elim}
use Rattle.std.proofs.lemmas.Bool.{cases_lt, cases_eq}
use Rattle.std.proofs.lemmas.List.{length-set, get_or-set_same, get_or-set_other, get_or_default}
use Rattle.dioid.specs.declared.dates.Date.{Date}
use Rattle.dioid.specs.declared.dates.Date.TheVariants.{Early}
use Rattle.dioid.specs.Dates.{IsAtMostDate, later_of}
use Rattle.dioid.proofs.DateOrder.{at_most_trans, later_left, later_right, later_least}
use Rattle.teg_net.specs.Nets.{NetLists}
use Rattle.teg_net.specs.Circuits.{no_place}
use Rattle.teg_model.specs.Datings.{implicit_place, available_at, at_input}
use Rattle.teg_model.proofs.DateFunctions.{Dating}
use Rattle.teg_model.proofs.OfNet.{all_extended_in, extended_has, implicit_is, release_below, at_input_is}
use Rattle.dating_certificates.specs.TightRows.{AreThereBy}
use Rattle.dating_certificates.specs.Waits.{begun_date, HasBegun, AreLatestWaits}

-- the row has begun up to transition i
pub record BegunTo (net : NetLists) (u x : Dating) (k : ℕ) (row : List Date) (i : ℕ) : Type 0 where
  pub full : length row ≡ length net.transitions
  pub begun : (t : ℕ) → t < i → get_or row t Early ≡ begun_date net u x t k

pub begun_more : (net : NetLists) (u x : Dating) (k : ℕ) (row : List Date) (i : ℕ) (date : Date)
    → i < length net.transitions → BegunTo net u x k row i → date ≡ begun_date net u x i k → BegunTo net u x k (set row i date) (i + 1)
begun_more net u x k row i date l h is = record {
  full = length-set row i date ∙ h.full;
  begun = λ t m. ⊎_elim
      (λ (q : t < i). let other : t ≢ i = omega arith in get_or-set_other row i t date Early other ∙ h.begun t q)
      (λ (q : i ≤ t).
      let t_is : t ≡ i = omega arith in
      rw t_is (get_or-set_same row i date Early (omega (arith, h.full)) ∙ is))
      (cases_lt t i);
}

-- the date is at most z that firing k of transition t waits for at the first i places, at the firing before and for its release
pub record AreThereAmong (net : NetLists) (u x : Dating) (t k i : ℕ) (z : Date) : Type 0 where
  pub own : IsAtMostDate (available_at x (implicit_place t) k) z
  pub release : IsAtMostDate (at_input net t (u t k) Early) z
  pub tokens : (q : ℕ) → q < i → (get_or net.places q no_place).to.index ≡ t → IsAtMostDate (available_at x (get_or net.places q no_place) k) z

-- d is the latest of these
pub record IsLatestAmong (net : NetLists) (u x : Dating) (t k i : ℕ) (d : Date) : Type 0 where
  pub there : AreThereAmong net u x t k i d
  pub least : (z : Date) → AreThereAmong net u x t k i z → IsAtMostDate d z

-- the row is raised by the first i places
pub record RaisedTo (net : NetLists) (u x : Dating) (k : ℕ) (row : List Date) (i : ℕ) : Type 0 where
  pub full : length row ≡ length net.transitions
  pub latest : (t : ℕ) → t < length net.transitions → IsLatestAmong net u x t k i (get_or row t Early)

pub raised_begins : (net : NetLists) (u x : Dating) (k : ℕ) (row : List Date) → HasBegun net u x k row → RaisedTo net u x k row 0
raised_begins net u x k row h = record {
  full = h.full;
  latest = λ t l.
      let own : Date = available_at x (implicit_place t) k in
      let release : Date = at_input net t (u t k) Early in
      rw (h.begun t l) record {
        there = record { own = later_left own release; release = later_right own release; tokens = λ q m e. absurd (omega arith) };
        least = λ z a. later_least own release z a.own a.release;
      };
}

-- what is there by z for one place more is there for one less
one_less : (net : NetLists) (u x : Dating) (t k i : ℕ) (z : Date) → AreThereAmong net u x t k (i + 1) z → AreThereAmong net u x t k i z
one_less net u x t k i z a = record { own = a.own; release = a.release; tokens = λ q m e. a.tokens q (omega arith) e }

-- the transition that the place enters waits for its token too
latest_here : (net : NetLists) (u x : Dating) (k i : ℕ) (d : Date) → IsLatestAmong net u x (get_or net.places i no_place).to.index k i d
    → IsLatestAmong net u x (get_or net.places i no_place).to.index k (i + 1) (later_of d (available_at x (get_or net.places i no_place) k))
latest_here net u x k i d s =
    let to : ℕ = (get_or net.places i no_place).to.index in
    let date : Date = available_at x (get_or net.places i no_place) k in
    let new : Date = later_of d date in
    record {
      there = record {
        own = at_most_trans (available_at x (implicit_place to) k) d new s.there.own (later_left d date);
        release = at_most_trans (at_input net to (u to k) Early) d new s.there.release (later_left d date);
        tokens = λ q m e. ⊎_elim
            (λ (r : q < i). at_most_trans (available_at x (get_or net.places q no_place) k) d new (s.there.tokens q r e) (later_left d date))
            (λ (r : i ≤ q). let q_is : q ≡ i = omega arith in rw q_is (later_right d date))
            (cases_lt q i);
      };
      least = λ z a. later_least d date z (s.least z (one_less net u x to k i z a)) (a.tokens i (omega arith) refl);
    }

-- another one does not
latest_there : (net : NetLists) (u x : Dating) (t k i : ℕ) (d : Date) → t ≢ (get_or net.places i no_place).to.index → IsLatestAmong net u x t k i d → IsLatestAmong net u x t k (i + 1) d
latest_there net u x t k i d other s = record {
  there = record {
    own = s.there.own;
    release = s.there.release;
    tokens = λ q m e. ⊎_elim
        (λ (r : q < i). s.there.tokens q r e)
        (λ (r : i ≤ q). let q_is : q ≡ i = omega arith in absurd (other (sym (rw q_is at e))))
        (cases_lt q i);
  };
  least = λ z a. s.least z (one_less net u x t k i z a);
}

pub raised_more : (net : NetLists) (u x : Dating) (k : ℕ) (row : List Date) (i : ℕ) (date : Date)
    → (get_or net.places i no_place).to.index < length net.transitions → RaisedTo net u x k row i
    → date ≡ later_of (get_or row (get_or net.places i no_place).to.index Early) (available_at x (get_or net.places i no_place) k)
    → RaisedTo net u x k (set row (get_or net.places i no_place).to.index date) (i + 1)
raised_more net u x k row i date in' h is =
    let to : ℕ = (get_or net.places i no_place).to.index in
    record {
      full = length-set row to date ∙ h.full;
      latest = λ t l. ⊎_elim
          (λ (q : t ≡ to).
          rw (q, get_or-set_same row to date Early (omega (arith, h.full, in')), is) (latest_here net u x k i (get_or row to Early) (h.latest to in')))
          (λ (q : t ≢ to). rw (get_or-set_other row to t date Early q) (latest_there net u x t k i (get_or row t Early) q (h.latest t l)))
          (cases_eq t to);
    }

-- what is there by z of all places is all that the firing waits for
all_there : (net : NetLists) (u x : Dating) (t k : ℕ) (z : Date) → AreThereAmong net u x t k (length net.places) z → AreThereBy net u x t k z
all_there net u x t k z a = record {
  tokens = all_extended_in net (λ p. p.to.index ≡ t → IsAtMostDate (available_at x p k) z)
      (λ i d l. rw (get_or_default net.places i d no_place l) (a.tokens i l))
      (λ s l e. rw e a.own);
  release = λ is. rw (at_input_is net t (u t k) Early is) at a.release;
}

all_among : (net : NetLists) (u x : Dating) (t k : ℕ) (z : Date) → t < length net.transitions → AreThereBy net u x t k z → AreThereAmong net u x t k (length net.places) z
all_among net u x t k z l a = record {
  own = let i = implicit_is net t l in (rw i.2 at (a.tokens i.0 no_place i.1)) refl;
  release = release_below net t (u t k) z a.release;
  tokens = extended_has net (λ p. p.to.index ≡ t → IsAtMostDate (available_at x p k) z) (λ i m. a.tokens i no_place m);
}

pub raised_is : (net : NetLists) (u x : Dating) (k : ℕ) (row : List Date) → RaisedTo net u x k row (length net.places) → AreLatestWaits net u x k row
raised_is net u x k row h = record {
  full = h.full;
  latest = λ t l.
      let s = h.latest t l in
      record {
        there = all_there net u x t k (get_or row t Early) s.there;
        least = λ z a. s.least z (all_among net u x t k z l a);
      };
}
