-- What the meet of the residuals over the rows tells of an input.
use Rattle.std.proofs.Common.{ℕ, ◌+◌, ◌-◌, ◌≤◌, ◌≡◌, ◌==◌, true, false, List, [], ◌∷◌, Option, Some, None, Result, Ok, Err, length, refl, sym, subst, ap, ◌∙◌, arith}
use Rattle.std.specs.Prelude.{IfNone, IfOk, OnOk, slice_get}
use Rattle.forever_laws.specs.series_laws.SeriesForms.{Form, value_at}
use Rattle.series_form.specs.NumberBounds.{IsSeries}
use Rattle.series_ops.specs.declared.gains.Gain.{Gain}
use Rattle.series_ops.specs.Gains.{gain_zero}
use Rattle.teg_net.specs.declared.entries.TransitionId.{TransitionId}
use Rattle.teg_net.specs.Nets.{NetLists, IsInput}
use Rattle.teg_net.proofs.NetRules.{net_ends}
use Rattle.forever_laws.specs.settled_laws.SettledForms.{SettledForm, settled_length}
use Rattle.teg_settle.specs.walk_times.Transfers.{IsTransferOf}
use Rattle.forever_laws.specs.due_laws.MeetingDueDates.{InputsMeet, inputs_at_zero}
use Rattle.forever_laws.specs.due_laws.LatestDates.{IsLatestDate}
use Rattle.endless_due.specs.declared.row.EndlessRow.{EndlessRow}
use Rattle.endless_due.specs.EndlessRows.{due_on}
use Rattle.forever_laws.specs.SeriesColumns.{AreSeriesColumns, residual_over}
use Rattle.forever_laws.specs.ColumnLaws.{ColumnsExist}
use Rattle.forever_laws.specs.EndlessDues.{ResidualsAreLatestDates, ResidualsAreFreeOrNumbers}
use Rattle.teg_forever.specs.declared.releases.Release.{Release}
use Rattle.teg_forever.specs.declared.releases.Release.TheVariants.{Free, Latest}
use Rattle.teg_forever.specs.declared.releases.ForeverRefusal.{ForeverRefusal}
use Rattle.teg_forever.specs.declared.releases.ForeverRefusal.TheVariants.{Late, TooLong, TooWide, OutOfMemory}
use Rattle.teg_forever.specs.LatestReleases.{IsReleaseOf, ForeverRefused, longest_form}
use Rattle.teg_forever.specs.Asked.{InputAsked, IsAskedWith}
use Rattle.teg_forever.specs.InputAnswers.{IsFineRelease, IsReleaseBy, IsStopped, AreReleasesBelow}
use Rattle.teg_forever.specs.Divisions.{IsMeetOver}
use Rattle.forever_laws.proofs.Inputs.{input_in}
use Rattle.forever_laws.proofs.number_laws_proofs.Numbers.{same_number}

module _ (a : InputAsked) (h : IsAskedWith a) (exist : ColumnsExist) (m : Gain) (meet : IsMeetOver a.net a.rows a.input.index (length a.rows) m) where
  -- an input whose walk times settle is fine where each row fits, and the meet has its latest dates
  pub fine_release : ResidualsAreLatestDates → ResidualsAreFreeOrNumbers → 1 ≤ length a.rows → InputsMeet a.net (due_on a.rows) inputs_at_zero
      → (release : Release) → IsReleaseBy m.series release → IsFineRelease a.net a.rows a.input.index release
  fine_release latest numbers some zero release by =
      let c = exist a.net (net_ends a.net h.rules) h.is_live a.rows h.ends a.input.index h.input in
      let is = meet c.0 c.1 c.2 in
      record {
        fine = record { settles = (a.settled, h.transfer, h.short); walks = c.0; dues = c.1; columns = c.2; fit = is.fit };
        right = by_meet c.0 c.1 c.2 release (subst (λ (g : Gain). IsReleaseBy g.series release) is.value by);
      }
    where
      by_meet : (walks dues : ℕ → Gain) → AreSeriesColumns a.net a.input.index a.rows walks dues → (release : Release)
          → IsReleaseBy (residual_over (length a.rows) walks dues).series release → IsReleaseOf a.net a.rows a.input.index release
      by_meet walks dues columns Free by =
          ((numbers a.net (net_ends a.net h.rules) h.is_live a.rows h.ends some zero a.input.index (input_in a.net a.input.index h.input) walks dues columns).0 by).1
      by_meet walks dues columns (Latest s) by = (
        subst (λ (z : Form). IsSeries z) (sym by.1) by.2,
        λ k one.
            let shift : k - 1 + 1 ≡ k = omega arith in
            let u_in = input_in a.net a.input.index h.input in
            let date = latest a.net (net_ends a.net h.rules) h.is_live a.rows h.ends some zero a.input.index u_in walks dues columns (k - 1) in
            let number = (numbers a.net (net_ends a.net h.rules) h.is_live a.rows h.ends some zero a.input.index u_in walks dues columns).1 by.0 (k - 1) in (
              subst (λ (z : Form). IsLatestDate a.net (due_on a.rows) a.input.index k (value_at z (k - 1))) (sym by.1)
                  (subst (λ (n : ℕ). IsLatestDate a.net (due_on a.rows) a.input.index n (value_at (residual_over (length a.rows) walks dues).series (k - 1))) shift date),
              (number.0, ap (λ (z : Form). value_at z (k - 1)) by.1 ∙ number.1),
            ),
      )

pub no_rows : (rows : List EndlessRow) → true ≡ (length rows == 0) → rows ≡ []
no_rows [] e = refl
no_rows (r ∷ rows) e = let none : length (r ∷ rows) ≡ 0 = same_number (length (r ∷ rows)) 0 (sym e) in absurd (omega arith)

pub some_rows : (rows : List EndlessRow) → false ≡ (length rows == 0) → 1 ≤ length rows
some_rows [] e = absurd (cc e)
some_rows (r ∷ rows) e = omega arith

-- without rows an input is fine, and free
pub free_alone : (net : NetLists) (rows : List EndlessRow) (u : ℕ) (f : SettledForm) → IsTransferOf net u f → settled_length f ≤ longest_form → rows ≡ [] → IsFineRelease net rows u Free
free_alone net rows u f transfer short e = subst (λ (l : List EndlessRow). IsFineRelease net l u Free) (sym e) (record {
  fine = record {
    settles = (f, transfer, short);
    walks = λ i. gain_zero;
    dues = λ i. gain_zero;
    columns = record { walk_series = λ i r w. absurd (none i r w); due_series = λ i r w. absurd (none i r w) };
    fit = λ i w. absurd (omega arith);
  };
  right = λ k one steps b n d w is. cc is;
})
  where
    none : (i : ℕ) (r : EndlessRow) → slice_get [] i ≡ Some r → ⊥
    none i r w = cc w

-- why an input has no release is why there are none
pub refused_at : (net : NetLists) (rows : List EndlessRow) (u : TransitionId) (releases : List Release) → IsInput net u.index
    → AreReleasesBelow net rows u.index releases
    → (why : ForeverRefusal) → IsStopped net rows u why → ForeverRefused net rows why
refused_at net rows u releases input below (Late t k due least) h = absurd h
refused_at net rows u releases input below (TooLong v) h =
    subst (λ (w : TransitionId). ForeverRefused net rows (TooLong w)) (sym h.0) (record { input = input; meet = below.meet; before = λ w l i. below.fine w l i; long = h.1 })
refused_at net rows u releases input below (TooWide v row) h =
    subst (λ (w : TransitionId). ForeverRefused net rows (TooWide w row)) (sym h.0) (record {
      input = input;
      meet = below.meet;
      before = λ w l i. below.fine w l i;
      settles = h.1.settles;
      walks = h.1.walks;
      dues = h.1.dues;
      columns = h.1.columns;
      place = h.1.place;
      stops = h.1.stops;
      stopped = h.1.stopped;
      is_row = h.1.is_row;
      row_is = h.1.row_is;
    })
refused_at net rows u releases input below OutOfMemory h = tt

-- what holds anyway holds of an answer
pub any_ok : {X E : Type 0} (r : Result X E) (Q : Type 0) → Q → IfOk r (λ _. Q)
any_ok (Ok x) Q h = h
any_ok (Err e) Q h = tt

pub any_on : {X E : Type 0} (r : Result X E) (Q : Type 0) → Q → OnOk r Q
any_on (Ok x) Q h = h
any_on (Err e) Q h = tt

pub each_ok : {X E : Type 0} (r : Result X E) (P Q : X → Type 0) → IfOk r P → ((x : X) → P x → Q x) → IfOk r Q
each_ok (Ok x) P Q h f = f x h
each_ok (Err e) P Q h f = h

pub none_of : {X : Type 0} (o : Option X) (P : Type 0) → ((x : X) → o ≡ Some x → ⊥) → IfNone o P → P
none_of None P h p = p
none_of (Some x) P h p = absurd (h x refl)
