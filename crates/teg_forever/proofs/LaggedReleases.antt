-- Inputs whose places lead on as those of one before, but for a lag: walks take so much longer, rows that fit for that one fit for them, too,
-- and their releases are that one's, so much earlier.
use Rattle.std.proofs.Common.{ℕ, ℤ, pos, zero, suc, ◌+◌, ◌-◌, ◌<◌, ◌≤◌, ◌≡◌, ◌≢◌, ◌+ℤ◌, ◌-ℤ◌, true, List, [], ◌∷◌, ◌++◌, Some, length, refl, sym, subst, ap, ◌∙◌, arith, ⊎_elim}
use Rattle.std.specs.Prelude.{IfOk, Result, Ok, Err, slice_get, if◌then◌else◌}
use Rattle.std.proofs.lemmas.Bool.{cases_lt}
use Rattle.std.proofs.lemmas.Int.{ints}
use Rattle.std.proofs.lemmas.Option.{slice_get_within, get_or_from_slice_get}
use Rattle.dioid.specs.declared.dates.Date.{Date}
use Rattle.dioid.specs.declared.dates.Date.TheVariants.{Early, At, Never}
use Rattle.dioid.specs.Dates.{date_left, delayed, move}
use Rattle.dioid.specs.DateOrder.{Le}
use Rattle.dioid.proofs.AtMost.{le_antisym, le_is, le_trans, move_le}
use Rattle.dioid.proofs.Moves.{delayed_is_move, move_forth, move_injective, move_move}
use Rattle.forever_laws.specs.series_laws.Residual.{IsLeftAt}
use Rattle.forever_laws.specs.series_laws.SeriesForms.{Form, size_of, value_at, form_with}
use Rattle.forever_laws.proofs.series_laws_proofs.Canonical.{constant_is}
use Rattle.series_form.specs.NumberBounds.{IsSeries}
use Rattle.series_form.specs.SeriesAnswers.{AnswersOf}
use Rattle.series_form.specs.declared.forms.SeriesRefused.{SeriesRefused}
use Rattle.series_ops.specs.declared.gains.Gain.{Gain}
use Rattle.teg_net.specs.Nets.{NetLists, IsNet, IsInput}
use Rattle.teg_net.proofs.NetRules.{net_ends}
use Rattle.teg_net.specs.Circuits.{IsLive}
use Rattle.teg_net.specs.Walks.{walk_time}
use Rattle.forever_laws.specs.settled_laws.SettledForms.{SettledForm, settled_length}
use Rattle.teg_lags.specs.Lags.{AreLagged, IsFormMoved}
use Rattle.teg_settle.specs.walk_times.WalkTimes.{WalkTimesSettle}
use Rattle.teg_settle.specs.walk_times.Transfers.{IsGreatestWalkTime}
use Rattle.teg_lags.proofs.Lagged.{LeadsSo, lagged_back, lagged_time, lagged_times, lagged_walk}
use Rattle.teg_due.specs.RowNames.{is_input}
use Rattle.forever_laws.specs.due_laws.LatestDates.{IsDateToDue, IsLatestDate}
use Rattle.forever_laws.specs.due_laws.MeetingDueDates.{InputsMeet, inputs_at_zero}
use Rattle.endless_due.specs.declared.row.EndlessRow.{EndlessRow}
use Rattle.endless_due.specs.EndlessRows.{IsEndlessOf, IsEndlessRow, due_on}
use Rattle.forever_laws.specs.SeriesColumns.{AreSeriesColumns, IsWalkSeries}
use Rattle.forever_laws.proofs.Fitting.{walk_series_fit}
use Rattle.forever_laws.proofs.Inputs.{input_in, latest_from_zero}
use Rattle.forever_laws.proofs.Meeting.{has_row}
use Rattle.forever_laws.proofs.MovedColumns.{moved_row_fits, moved_walks}
use Rattle.forever_laws.proofs.MovedForms.{moved_form, moved_is_canonical, moved_size, moved_value}
use Rattle.forever_laws.proofs.Residuals.{GotRow, got_row}
use Rattle.teg_forever.specs.declared.releases.Release.{Release}
use Rattle.teg_forever.specs.declared.releases.Release.TheVariants.{Free, Latest}
use Rattle.teg_forever.specs.InputAnswers.{IsFineRelease}
use Rattle.teg_forever.specs.Lagged.{IsEarlierBy, IsEarlierSeries}
use Rattle.teg_forever.specs.LatestReleases.{AreBeside, IsFine, IsReleaseOf, WalkTimesSettleSoon, inputs_below, longest_form}
use Rattle.teg_forever.proofs.InputLists.{inputs_more}
use Rattle.teg_forever.proofs.Series.{behind, some_is}

-- ---- a series, earlier

left_of_number : (x : ℤ) (d : Date) → date_left (At x) d ≡ move (pos 0 -ℤ x) d
left_of_number x Early = refl
left_of_number x (At t) = ap At (omega (arith, ints))
left_of_number x Never = refl

-- the residual by the same date at each shift
left_by_constant : (x : ℤ) (s : ℕ → Date) (c : ℕ → Date) (k : ℕ) (d : Date) → ((i : ℕ) → c i ≡ At x) → ((i : ℕ) → Le (s k) (s (k + i))) → IsLeftAt c s k d → d ≡ move (pos 0 -ℤ x) (s k)
left_by_constant x s c k d same up is =
    let each : (i : ℕ) → date_left (c i) (s (k + i)) ≡ move (pos 0 -ℤ x) (s (k + i)) = λ i. ap (λ (z : Date). date_left z (s (k + i))) (same i) ∙ left_of_number x (s (k + i)) in
    let here : k + 0 ≡ k = omega arith in
    let low : Le d (move (pos 0 -ℤ x) (s k)) = le_trans (is.below 0) (le_is (each 0 ∙ ap (λ (n : ℕ). move (pos 0 -ℤ x) (s n)) here)) in
    let high : Le (move (pos 0 -ℤ x) (s k)) d = is.greatest (move (pos 0 -ℤ x) (s k)) (λ i. le_trans (move_le (pos 0 -ℤ x) (up i)) (le_is (sym (each i)))) in
    le_antisym low high

pub earlier_by_left : (x : ℤ) (c s t : Form) → c ≡ form_with (At x ∷ []) 1 (pos 0) → IsSeries s → IsSeries t → ((k : ℕ) → IsLeftAt (value_at c) (value_at s) k (value_at t k)) → IsEarlierSeries x s t
earlier_by_left x c s t is iss ist h =
    let zero_move : move (pos 0) (At x) ≡ At x = ap At (omega (arith, ints)) in
    let same : (k : ℕ) → value_at c k ≡ At x = λ k. ap (λ (z : Form). value_at z k) is ∙ (constant_is (At x) zero_move).1 k in
    record {
      series = ist;
      earlier = λ k. left_by_constant x (value_at s) (value_at c) k (value_at t k) same (λ i. iss.canonical.form.rising.rises k (k + i) (omega arith)) (h k);
    }

pub earlier_ok : (x : ℤ) (c s : Form) (n m : ℕ) (r : Result Form SeriesRefused) → c ≡ form_with (At x ∷ []) 1 (pos 0) → IsSeries s
    → AnswersOf (λ t. (k : ℕ) → IsLeftAt (value_at c) (value_at s) k (value_at t k)) n m r → IfOk r (IsEarlierSeries x s)
earlier_ok x c s n m (Ok t) is iss h = earlier_by_left x c s t is iss h.0 h.1
earlier_ok x c s n m (Err e) is iss h = tt

-- ---- inputs

module _ (net : NetLists) (ok : IsNet net) (u v : ℕ) (lag : ℤ) (first : IsInput net u) (second : IsInput net v) (lagged : AreLagged net u v lag) where
  lagged_settles : WalkTimesSettle → IsLive net → WalkTimesSettleSoon net u → WalkTimesSettleSoon net v
  lagged_settles settle live h =
      let f : SettledForm = h.0 in
      let g = settle net (net_ends net ok) live v second in
      let moved : IsFormMoved net lag f g.0 = lagged_times net ok u v lag first second lagged f g.0 h.1 g.1 in
      let after : f.after ≡ g.0.after = moved.after in
      let period : f.period ≡ g.0.period = moved.period in
      let short : settled_length f ≤ longest_form = h.2 in
      (g.0, g.1, omega (arith, after, period, short))

  module _ (rows : List EndlessRow) (ends : IsEndlessOf net rows) where
    row_rules : (i : ℕ) (r : EndlessRow) → slice_get rows i ≡ Some r → IsEndlessRow net r
    row_rules i r at = subst (IsEndlessRow net) (get_or_from_slice_get rows i r r at) (ends.each i r (slice_get_within rows i r at))

    row_apart : (i : ℕ) (r : EndlessRow) → slice_get rows i ≡ Some r → IsInput net r.transition.index → ⊥
    row_apart i r at = (row_rules i r at).no_input

    lagged_columns : (walks dues : ℕ → Gain) → AreSeriesColumns net u rows walks dues → AreSeriesColumns net v rows (moved_walks lag walks) dues
    lagged_columns walks dues columns = record {
      walk_series = λ i r at.
          let own : IsWalkSeries net u r.transition.index (walks i).series = columns.walk_series i r at in
          record {
            canonical = moved_is_canonical lag (walks i).series own.canonical;
            times = λ k. subst (IsGreatestWalkTime net v r.transition.index (k + 1)) (sym (moved_value lag (walks i).series k))
                (lagged_time net ok u v lag first second lagged r.transition.index (k + 1) (value_at (walks i).series k) (row_apart i r at) (own.times k));
          };
      due_series = columns.due_series;
    }

    lagged_short : (walks dues : ℕ → Gain) → IsLive net → WalkTimesSettleSoon net u → AreSeriesColumns net u rows walks dues → (i : ℕ) → i < length rows
        → size_of (moved_form lag (walks i).series) ≤ 20000
    lagged_short walks dues live soon columns i l =
        let g : GotRow rows i = got_row rows i l in
        let is : IsSeries (walks i).series =
        walk_series_fit net ok live u first soon.0 soon.1 soon.2 g.row.transition.index (row_rules i g.row g.got).in_range (walks i).series (columns.walk_series i g.row g.got) in
        let short : size_of (walks i).series ≤ 20000 = is.short in
        omega (arith, short, moved_size lag (walks i).series)

    lagged_fine : WalkTimesSettle → IsLive net → InputsMeet net (due_on rows) inputs_at_zero → IsFine net rows u → IsFine net rows v
    lagged_fine settle live zeros h =
        let columns : AreSeriesColumns net v rows (moved_walks lag h.walks) h.dues = lagged_columns h.walks h.dues h.columns in
        record {
          settles = lagged_settles settle live h.settles;
          walks = moved_walks lag h.walks;
          dues = h.dues;
          columns = columns;
          fit = λ i l. moved_row_fits net ok rows ends zeros v (input_in net v second) lag h.walks h.dues u (input_in net u first) h.columns columns
              (lagged_short h.walks h.dues live h.settles h.columns) i l (h.fit i l);
        }

    due_apart : (b n d : ℕ) → due_on rows b n ≡ Some d → IsInput net b → ⊥
    due_apart b n d e is =
        let h = has_row rows b n d e in
        row_apart h.index h.row h.got (subst (IsInput net) (sym h.names) is)

    -- a walk that takes so much longer, from a date so much earlier
    still_due : (n m due : ℕ) (d : Date) → pos m ≡ pos n +ℤ lag → delayed n d ≡ At (pos due) → delayed m (move (pos 0 -ℤ lag) d) ≡ At (pos due)
    still_due n m due d e h =
        let net_of : (pos 0 -ℤ lag) +ℤ pos m ≡ pos n = omega (arith, ints, e) in
        delayed_is_move m (move (pos 0 -ℤ lag) d) ∙ (move_move (pos 0 -ℤ lag) (pos m) d ∙ (ap (λ (z : ℤ). move z d) net_of ∙ (sym (delayed_is_move n d) ∙ h)))

    date_on : (k : ℕ) (d : Date) → IsDateToDue net (due_on rows) u k d → IsDateToDue net (due_on rows) v k (move (pos 0 -ℤ lag) d)
    date_on k d h =
        let o : LeadsSo net v k h.to h.number lag h.steps = lagged_walk net ok u v lag first second lagged h.steps k h.to h.number (due_apart h.to h.number h.due_date h.is_due) h.walk in
        record {
          to = h.to;
          number = h.number;
          due_date = h.due_date;
          steps = o.own;
          walk = o.walk;
          is_due = h.is_due;
          is = still_due (walk_time net h.steps) (walk_time net o.own) h.due_date d o.time h.is;
        }

module _ (net : NetLists) (ok : IsNet net) (u v : ℕ) (lag : ℤ) (first : IsInput net u) (second : IsInput net v) (lagged : AreLagged net u v lag)
    (rows : List EndlessRow) (ends : IsEndlessOf net rows) where
  -- and the other way round
  date_back : (k : ℕ) (d : Date) → IsDateToDue net (due_on rows) v k d → IsDateToDue net (due_on rows) u k (move lag d)
  date_back k d h =
      let twice : pos 0 -ℤ (pos 0 -ℤ lag) ≡ lag = omega (arith, ints) in
      subst (λ (z : ℤ). IsDateToDue net (due_on rows) u k (move z d)) twice
      (date_on net ok v u (pos 0 -ℤ lag) second first (lagged_back net u v lag lagged) rows ends k d h)

  earlier_latest : (k : ℕ) (d : Date) → IsLatestDate net (due_on rows) u k d → IsLatestDate net (due_on rows) v k (move (pos 0 -ℤ lag) d)
  earlier_latest k d h = record {
    attained = λ e. date_on net ok u v lag first second lagged rows ends k d (h.attained (λ (n : d ≡ Never). e (ap (move (pos 0 -ℤ lag)) n)));
    least = λ a m. (le_move_over' (record { holds = h.least (move lag a) (date_back k a m) })).holds;
  }
    where
      le_move_over' : {a : Date} → Le d (move lag a) → Le (move (pos 0 -ℤ lag) d) a
      le_move_over' {a} l = subst (Le (move (pos 0 -ℤ lag) d)) (move_forth lag a) (move_le (pos 0 -ℤ lag) l)

  lagged_release : IsLive net → InputsMeet net (due_on rows) inputs_at_zero → (old new : Release) → IsEarlierBy lag old new → IsReleaseOf net rows u old → IsReleaseOf net rows v new
  lagged_release live zeros Free Free e h = λ k one steps b n d w due.
      let back : AreLagged net v u (pos 0 -ℤ lag) = lagged_back net u v lag lagged in
      let o : LeadsSo net u k b n (pos 0 -ℤ lag) steps = lagged_walk net ok v u (pos 0 -ℤ lag) second first back steps k b n (due_apart net ok u v lag first second lagged rows ends b n d due) w in
      h k one o.own b n d o.walk due
  lagged_release live zeros Free (Latest t) e h = absurd e
  lagged_release live zeros (Latest s) Free e h = absurd e
  lagged_release live zeros (Latest s) (Latest t) e h = (
    e.series,
    λ k one.
        let old = h.1 k one in
        let is : value_at t (k - 1) ≡ move (pos 0 -ℤ lag) (value_at s (k - 1)) = e.earlier (k - 1) in
        let latest : IsLatestDate net (due_on rows) v k (value_at t (k - 1)) = subst (IsLatestDate net (due_on rows) v k) (sym is) (earlier_latest k (value_at s (k - 1)) old.0) in
        let number : value_at t (k - 1) ≢ Never = λ n.
        let never : value_at s (k - 1) ≡ Never = move_injective (pos 0 -ℤ lag) (value_at s (k - 1)) Never (sym is ∙ n) in
        let no : At (pos old.1.0) ≡ Never = sym old.1.1 ∙ never in
        absurd (cc) in
        (latest, latest_from_zero net (net_ends net ok) (due_on rows) zeros v k (value_at t (k - 1)) (input_in net v second) one latest number),
  )

  pub lagged_fine_release : WalkTimesSettle → IsLive net → InputsMeet net (due_on rows) inputs_at_zero → IsFine net rows u → (old new : Release) → IsReleaseOf net rows u old → IsEarlierBy lag old new
      → IsFineRelease net rows v new
  lagged_fine_release settle live zeros fine old new h e = record {
    fine = lagged_fine net ok u v lag first second lagged rows ends settle live zeros fine;
    right = lagged_release live zeros old new e h;
  }

-- ---- where it stands

-- what stands beside an input that is kept
pub beside_at : (Is : ℕ → Release → Type 0) (ts : List ℕ) (releases : List Release) (place t : ℕ) (r : Release)
    → AreBeside Is ts releases → slice_get ts place ≡ Some t → slice_get releases place ≡ Some r → Is t r
beside_at Is [] releases place t r h a b = cc a
beside_at Is (s ∷ ts) [] place t r h a b = absurd h
beside_at Is (s ∷ ts) (q ∷ releases) zero t r h a b = subst (λ (z : ℕ). Is z r) (some_is (Some s) s t refl a) (subst (Is s) (some_is (Some q) q r refl b) h.0)
beside_at Is (s ∷ ts) (q ∷ releases) (suc place) t r h a b = beside_at Is ts releases place t r h.1 a b

in_front : {A : Type 0} (xs ys : List A) (place : ℕ) (x : A) → slice_get xs place ≡ Some x → slice_get (xs ++ ys) place ≡ Some x
in_front [] ys place x h = cc h
in_front (y ∷ xs) ys zero x h = h
in_front (y ∷ xs) ys (suc place) x h = in_front xs ys place x h

-- the inputs before one transition stand among those before a later one
pub below_on : (net : NetLists) (m n place t : ℕ) → n ≤ m → slice_get (inputs_below net n) place ≡ Some t → slice_get (inputs_below net m) place ≡ Some t
below_on net zero n place t l h = let e : n ≡ 0 = omega arith in subst (λ (z : ℕ). slice_get (inputs_below net z) place ≡ Some t) e h
below_on net (suc m) n place t l h = ⊎_elim
    (λ low. in_front (inputs_below net m) (if is_input net m then m ∷ [] else []) place t (below_on net m n place t (omega arith) h))
    (λ high. let e : n ≡ suc m = omega arith in subst (λ (z : ℕ). slice_get (inputs_below net z) place ≡ Some t) e h)
    (cases_lt n (suc m))

-- an input stands behind those before it
pub stands_next : (net : NetLists) (u n place : ℕ) → u < n → is_input net u ≡ true → place ≡ length (inputs_below net u) → slice_get (inputs_below net n) place ≡ Some u
stands_next net u n place l told e =
    below_on net n (u + 1) place u (omega arith)
    (subst (λ (i : ℕ). slice_get (inputs_below net (u + 1)) i ≡ Some u) (sym e)
    (subst (λ (l : List ℕ). slice_get l (length (inputs_below net u)) ≡ Some u) (sym (inputs_more net u told)) (behind (inputs_below net u) u)))
