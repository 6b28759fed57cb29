-- The settling length and a limit: what the search finds, or does not find, says which is greater.
use Rattle.std.proofs.Common.{ℕ, ◌+◌, ◌*◌, ◌<◌, ◌≤◌, ◌≡◌, List, arith, ⊎_elim}
use Rattle.std.specs.Prelude.{All}
use Rattle.std.proofs.lemmas.Bool.{cases_lt}
use Rattle.teg_net.specs.Nets.{NetLists, IsNet}
use Rattle.teg_check.specs.Ranks.{IsRanking}
use Rattle.periodic_laws.proofs.teg_model_proofs.DateFunctions.{Dating}
use Rattle.periodic_laws.specs.settled_laws.SettledForms.{SettledForm}
use Rattle.date_rows.specs.DateTables.{TableDates}
use Rattle.teg_settle.specs.declared.releases.Releases.{Releases}
use Rattle.teg_settle.specs.declared.releases.Repetition.{Repetition}
use Rattle.teg_settle.specs.declared.refusals.SettleRefusal.{SettleRefusal}
use Rattle.teg_settle.specs.declared.refusals.SettleRefusal.TheVariants.{TooLong, OutOfMemory}
use Rattle.teg_settle.specs.LimitRefusals.{IsRightSettleRefusal}
use Rattle.teg_settle.specs.InitialReleases.{OnlyInputsWait}
use Rattle.list_spans.specs.Spans.{AreSpans}
use Rattle.teg_settle.specs.declared.search.Found.{Found}
use Rattle.teg_settle.specs.ShortestForms.{IsFound}
use Rattle.teg_settle.specs.ComparedRows.{IsReady, IsRefuted, IsSeen, IsToldBy, IsLeastForm, LeastSettlesPast}
use Rattle.teg_settle.proofs.Copying.{IsCopy, copy_stands}
use Rattle.teg_settle.proofs.Leasts.{least, least_is, dates_on}
use Rattle.teg_settle.proofs.Tested.{window_of}

pub ready : (net : NetLists) (r : Releases) (ranks : List ℕ) (most : ℕ) → IsNet net → IsRanking net ranks
    → OnlyInputsWait net r.waits.items → AreSpans net r.spans.items → 1 ≤ most → All (λ p. p.tokens ≤ most) net.places → IsReady net r most
ready net r ranks most ok ranking waits spans some tokens = record { is_net = ok; ranks = ranks; ranking = ranking; waits = waits; spans = spans; some = some; tokens = tokens }

-- no form is seen in rows that show each form within the limit
pub past_unseen : (net : NetLists) (r : Releases) (most limit last : ℕ) → IsReady net r most → last ≡ 2 * limit + most
    → ((period : ℕ) → IsRefuted net r most last period) → LeastSettlesPast net r limit
past_unseen net r most limit last h is none = (
  least net r most h,
  least_is net r most h,
  λ after period step rep. ⊎_elim
      (λ (far : limit < after + period). far)
      (λ (near : after + period ≤ limit). absurd (none period (least net r most h) (least_is net r most h) after step rep (omega arith)))
      (cases_lt limit (after + period)),
)

-- the shortest form is longer than the limit
pub past_seen : (net : NetLists) (r : Releases) (most limit : ℕ) (rows : TableDates) (f : Repetition) → IsReady net r most
    → IsSeen net r rows f → limit < f.after + f.period → LeastSettlesPast net r limit
past_seen net r most limit rows f h seen far =
    let z : Dating = least net r most h in (
      z,
      least_is net r most h,
      λ k p step rep.
          let after = seen.least_after z (least_is net r most h) k p step rep in
          let period = seen.least_period z (least_is net r most h) k p step rep in
          omega arith,
    )

module _ (net : NetLists) (r : Releases) (f : Found) (h : IsFound net r f) where
  abbrev most : ℕ
  most = h.ready.0

  abbrev z : Dating
  z = least net r most h.ready.1

  -- the rows that were found tell the least dating
  tells : IsToldBy net f.rows f.form (least net r h.ready.0 h.ready.1)
  tells =
      let is = least_is net r most h.ready.1 in
      let one = (h.seen.repeats z is).at_least_one in
      record {
        window = window_of net r most h.ready.1 f.rows h.rows f.form.period one (omega (arith, h.seen.fits));
        fits = h.seen.fits;
        dates = h.rows.least.least z is;
        repeats = h.seen.repeats z is;
        within = λ t k l o m. dates_on net r most h.ready.1 z is t k o m;
      }

  pub found_told : (x : Dating) × IsToldBy net f.rows f.form x
  found_told = (z, tells)

  -- and a form of them is the shortest
  pub found_form : (s : SettledForm) → IsCopy net f.rows f.form s → IsLeastForm net r s
  found_form s made = (
    z,
    least_is net r most h.ready.1,
    record {
      stands = copy_stands net f.rows f.form s z made tells;
      least_period = λ k p u g. rw made.period (h.seen.least_period z (least_is net r most h.ready.1) k p u g);
      least_after = λ k p u g. rw made.after (h.seen.least_after z (least_is net r most h.ready.1) k p u g);
    },
  )

pub refusal_weaker : (P Q : Type 0) (limit : ℕ) (e : SettleRefusal) → (P → Q) → IsRightSettleRefusal P limit e → IsRightSettleRefusal Q limit e
refusal_weaker P Q limit (TooLong l) f h = (h.0, f h.1)
refusal_weaker P Q limit OutOfMemory f h = tt
