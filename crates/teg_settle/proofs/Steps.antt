-- What rows of a net show, in the words of its least dating.
use Rattle.std.proofs.Common.{ℕ, ◌<◌, ◌≤◌, ◌≡◌, Option, Some, None, IsSome, IfSome, IfNone, MatchOption, length, refl, sym, ◌∙◌, arith}
use Rattle.teg_net.specs.Nets.{NetLists}
use Rattle.teg_net.specs.Circuits.{IsLive}
use Rattle.periodic_laws.specs.teg_model.Datings.{IsLeastDating, listed_releases, system_of}
use Rattle.periodic_laws.proofs.teg_model_proofs.OfNet.{only_least, least_of_system}
use Rattle.periodic_laws.proofs.teg_model_proofs.DateFunctions.{Dating}
use Rattle.periodic_laws.proofs.settled_laws_proofs.Everywhere.{same_repeats}
use Rattle.periodic_laws.specs.LinearSystem.{LeastDatingsRepeat}
use Rattle.date_rows.specs.DateTables.{TableDates}
use Rattle.date_rows.specs.KeptRows.{IsRows, AreLeastRows}
use Rattle.teg_settle.specs.declared.releases.Releases.{Releases}
use Rattle.teg_settle.specs.declared.releases.Repetition.{Repetition}
use Rattle.teg_settle.specs.ComparedRows.{AreRowsOf, IsReady, IsRefuted, IsSeen, most_window, read_step}
use Rattle.teg_settle.specs.Steps.{AreOwnReleases, ShowsForm, ShowsNoForm, showing_rows}
use Rattle.teg_settle.proofs.Leasts.{least, least_is}
use Rattle.teg_settle.proofs.Owning.{own_least, own_system}
use Rattle.teg_settle.proofs.Reaching.{fewer_unseen}

some_of : {A : Type 0} (o : Option A) (N : Type 0) (S : A → Type 0) → MatchOption o N S → (N → ⊥) → IsSome o
some_of None N S m never = absurd (never m)
some_of (Some a) N S m never = refl

module _ (net : NetLists) (r : Releases) (own : AreOwnReleases net r) where
  -- rows of the net are rows of the system of its releases
  pub rows_of_own : (rows : TableDates) → IsRows rows → AreLeastRows net (system_of net (listed_releases net)) rows → rows.count ≤ most_window → AreRowsOf net r rows
  rows_of_own rows limits rows_are few = record {
    limits = limits;
    least = record { width = rows_are.width; least = λ x h. rows_are.least x (own_system net r own.tokens own.waits x h) };
    few = few;
  }

  module _ (most : ℕ) (h : IsReady net r most) where
    abbrev z : Dating
    z = least net r most h

    same : (x : Dating) → IsLeastDating net x → (t k : ℕ) → t < length net.transitions → 1 ≤ k → z t k ≡ x t k
    same x is = only_least net (listed_releases net) z x (own_least net r own.tokens own.waits z (least_is net r most h)) is

    shows_form : (rows : TableDates) (f : Repetition) → IsSeen net r rows f → ShowsForm net rows f
    shows_form rows f seen = record {
      fits = seen.fits;
      repeats = λ x is. same_repeats (length net.transitions) z x f.after f.period (read_step rows f.period) (same x is) (seen.repeats z (least_is net r most h));
      least_period = λ x is k p s rep. seen.least_period z (least_is net r most h) k p s (same_repeats (length net.transitions) x z k p s (λ t j l o. sym (same x is t j l o)) rep);
      least_after = λ x is k p s rep. seen.least_after z (least_is net r most h) k p s (same_repeats (length net.transitions) x z k p s (λ t j l o. sym (same x is t j l o)) rep);
    }

    -- and rows of that system are those of the net
    pub own_rows : (rows : TableDates) → AreRowsOf net r rows → AreLeastRows net (system_of net (listed_releases net)) rows
    own_rows rows a = record {
      width = a.least.width;
      least = λ x is t k l o m. a.least.least z (least_is net r most h) t k l o m ∙ same x (least_of_system net (listed_releases net) x is) t k l o;
    }

    pub shows_no_form : (count : ℕ) → most ≤ 1000 → ((period : ℕ) → IsRefuted net r most count period) → ShowsNoForm net count
    shows_no_form count few none x is after period step rep fits =
        none period z (least_is net r most h) after step (same_repeats (length net.transitions) x z after period step (λ t j l o. sym (same x is t j l o)) rep) (omega arith)

    pub shown_by : (rows : TableDates) (o : Option Repetition) → MatchOption o ((period : ℕ) → IsRefuted net r most rows.count period) (IsSeen net r rows) → IfSome o (ShowsForm net rows)
    shown_by rows None found = tt
    shown_by rows (Some f) found = shows_form rows f found

    pub none_shown : (rows : TableDates) (o : Option Repetition) → most ≤ 1000
        → MatchOption o ((period : ℕ) → IsRefuted net r most rows.count period) (IsSeen net r rows) → IfNone o (ShowsNoForm net rows.count)
    none_shown rows None few found = shows_no_form rows.count few found
    none_shown rows (Some f) few found = tt

    -- rows that are enough show one
    pub enough_show : LeastDatingsRepeat → IsLive net → (rows : TableDates) (o : Option Repetition) → most ≤ 1000
        → MatchOption o ((period : ℕ) → IsRefuted net r most rows.count period) (IsSeen net r rows) → showing_rows net ≤ rows.count → IsSome o
    enough_show law live rows o few found enough =
        some_of o ((period : ℕ) → IsRefuted net r most rows.count period) (IsSeen net r rows) found
        (λ none. let fewer = fewer_unseen law net live r own most h rows.count none in omega (arith, fewer))
