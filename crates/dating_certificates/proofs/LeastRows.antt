-- The rows of the least dating are tight, and so are dates that agree with them.
use Rattle.std.proofs.Common.{ℕ, suc, ◌+◌, ◌-◌, ◌*◌, ◌/◌, ◌%◌, ◌<◌, ◌≤◌, ◌≡◌, Bool, List, length, get_or, sym, ap, subst, ◌∙◌, arith}
use Rattle.std.specs.Prelude.{All, IsTrue, ◌↔◌}
use Rattle.std.proofs.lemmas.List.{get_or_default}
use Rattle.std.proofs.lemmas.Nat.{div-add-mod'}
use Rattle.std.proofs.Math.Nat.{mod-lt, div-lt_iff_lt-mul}
use Rattle.dioid.specs.declared.dates.Date.{Date}
use Rattle.dioid.specs.declared.dates.Date.TheVariants.{Early}
use Rattle.teg_net.specs.declared.entries.Place.{Place}
use Rattle.teg_net.specs.Nets.{NetLists, IsNet}
use Rattle.teg_net.specs.Circuits.{IsLive}
use Rattle.teg_model.specs.LiveRanks.{HasEndsInRange}
use Rattle.teg_model.specs.DateBounds.{IsDateWithin, greatest_least_date}
use Rattle.teg_model.specs.Datings.{IsLeastUnder, extended_places, initial_date, listed_releases, system_of}
use Rattle.teg_model.specs.LeastDatings.{IsTight}
use Rattle.teg_model.proofs.DateFunctions.{Dating}
use Rattle.teg_model.proofs.LiveRanks.{live_is_ranked, live_ranks}
use Rattle.teg_model.proofs.LeastOver.{least_over}
use Rattle.teg_model.proofs.NetBound.{least_keeps_bound}
use Rattle.teg_model.proofs.OfNet.{net_ends, least_of, least_of_system, tight_of_least}
use Rattle.teg_model.proofs.Tokens.{available_same}
use Rattle.dating_certificates.specs.TightRows.{AreThereBy, AreTightUpTo}
use Rattle.dating_certificates.specs.CheckedRows.{date_in_rows, AreRowsOf, AreTightRows, AreFirstRows, TightRowsAreFirstRows}
use Rattle.dating_certificates.proofs.FirstRows.{both_in, first_rows}

-- the datings agree up to a number
abbrev AgreeUpTo : NetLists → Dating → Dating → ℕ → Type 0
AgreeUpTo net x y last = (t k : ℕ) → t < length net.transitions → 1 ≤ k → k ≤ last → x t k ≡ y t k

-- then what is there by z in the one is there in the other
there_too : (net : NetLists) (u x y : Dating) (last : ℕ) → HasEndsInRange net → AgreeUpTo net x y last
    → (t k : ℕ) (z : Date) → k ≤ last → AreThereBy net u x t k z → AreThereBy net u y t k z
there_too net u x y last ends same t k z m a = record {
  tokens = λ i d l e.
      let p : Place = get_or (extended_places net) i d in
      rw (← available_same initial_date x y p k (λ q. same p.from.index (k - p.tokens) (both_in net ends i d l).0 (omega arith) (omega arith))) (a.tokens i d l e);
  release = a.release;
}

agreeing_tight : (net : NetLists) (u x y : Dating) (last : ℕ) → HasEndsInRange net → AgreeUpTo net x y last → AreTightUpTo net u x last → AreTightUpTo net u y last
agreeing_tight net u x y last ends same h t k l o m =
    let s = h t k l o m in
    let back : AgreeUpTo net y x last = λ t k l o m. sym (same t k l o m) in
    rw (back t k l o m) record {
      there = there_too net u x y last ends same t k (x t k) m s.there;
      least = λ z a. s.least z (there_too net u y x last ends back t k z m a);
    }

least_tight : (net : NetLists) (u x : Dating) (last : ℕ) → IsLeastUnder net u x → IsTight net u x → AreTightUpTo net u x last
least_tight net u x last h tight t k l o m = record {
  there = record {
    tokens = λ i d j e. rw e at (h.feasible.places k o i d j);
    release = h.feasible.inputs t k o;
  };
  least = λ z a. tight.tight t k z l o a.tokens a.release;
}

-- what holds of the date of each transition and row holds of each date
all_rows : (net : NetLists) (dates : List Date) (rows : ℕ) (P : Date → Type 0) → IsNet net → AreRowsOf net dates rows
    → ((t k : ℕ) → t < length net.transitions → 1 ≤ k → k ≤ rows → P (date_in_rows (length net.transitions) dates t k)) → All P dates
all_rows net dates rows P ok h each i d l =
    let n : ℕ = length net.transitions in
    let below : i / n < rows = (div-lt_iff_lt-mul ok.some_transition).1 (rw h.whole at l) in
    let back : i / n + 1 - 1 ≡ i / n = omega arith in
    let place : (i / n + 1 - 1) * n + i % n ≡ i = rw back (div-add-mod' i n) in
    let here = each (i % n) (i / n + 1) (mod-lt i ok.some_transition) (omega arith) (omega (arith, below)) in
    subst P (ap (λ z. get_or dates z Early) place ∙ get_or_default dates i Early d l) here

-- the first rows of the least dating of a live net are tight
first_tight : (net : NetLists) (dates : List Date) → IsNet net → IsLive net → AreFirstRows net dates → AreTightRows net dates
first_tight net dates ok live h =
    let n : ℕ = length net.transitions in
    let u : Dating = listed_releases net in
    let ends = net_ends net ok in
    let ranked = live_is_ranked net ends live in
    let ranks = live_ranks net ends live in
    let x : Dating = least_over (system_of net u) ranked.0 ranked.1 in
    let least : IsLeastUnder net u x = least_of_system net u x (least_of net u ranked.0 ranked.1 ranked.2) in
    let same : AgreeUpTo net x (date_in_rows n dates) h.rows = λ t k l o m. sym (h.same x least t k l o m) in
    let few = h.whole.few in
    record {
      rows = h.rows;
      whole = h.whole;
      within = all_rows net dates h.rows (IsDateWithin greatest_least_date) ok h.whole (λ t k l o m.
          rw (h.same x least t k l o m)
          (least_keeps_bound net x (suc (suc n)) ranks.0 ok (omega (arith, ok.few_transitions)) ranks.1 least t k l o (omega (arith, m, few))));
      tight = agreeing_tight net u x (date_in_rows n dates) h.rows ends same (least_tight net u x h.rows least (tight_of_least net u x ranked.0 ranked.1 ranked.2 least));
    }

pub tight_first : TightRowsAreFirstRows
tight_first net ok live dates = (
  λ h. record {
    rows = h.rows;
    whole = h.whole;
    same = λ x least. first_rows net (net_ends net ok) live (listed_releases net) (date_in_rows (length net.transitions) dates) x h.rows h.tight least;
  },
  first_tight net dates ok live,
)

-- what tells tight rows tells the first rows of a live net
pub tells_first : (net : NetLists) (dates : List Date) (told : Bool) → IsNet net → (IsTrue told ↔ AreTightRows net dates) → IsLive net → IsTrue told ↔ AreFirstRows net dates
tells_first net dates told ok h live = let both = tight_first net ok live dates in (λ t. both.0 (h.0 t), λ f. h.1 (both.1 f))
