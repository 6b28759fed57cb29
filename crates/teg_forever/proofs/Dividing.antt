-- What residuals that are kept tell of the rows of an input.
use Rattle.std.proofs.Common.{ℕ, true, ◌+◌, ◌<◌, ◌≡◌, List, [], ◌∷◌, ◌++◌, All, Some, Result, Ok, Err, length, get_or, refl, sym, subst, ap, ◌∙◌, arith, below_more, ⊎_elim}
use Rattle.std.specs.Prelude.{Option, None, IfOk, IfSome, OnOk, slice_get, take}
use Rattle.std.proofs.Math.ListN.{get_or-append}
use Rattle.std.proofs.Math.Seq.{get_or-append_seam}
use Rattle.std.proofs.lemmas.Bool.{cases_lt}
use Rattle.std.proofs.lemmas.List.{length-append}
use Rattle.std.proofs.lemmas.List.Elements.{All-append, All-cons, All-nil, All-take}
use Rattle.std.proofs.lemmas.Option.{slice_get_within, get_or_from_slice_get}
use Rattle.dioid.specs.ElementAnswers.{Answers}
use Rattle.dioid.specs.declared.algebra.Refused.{Refused}
use Rattle.dioid.specs.declared.algebra.Refused.TheVariants.{Range, OutOfMemory as NoRoom}
use Rattle.forever_laws.specs.dioid_matrix.Residuals.{RowFits}
use Rattle.forever_laws.proofs.dioid_matrix_proofs.Meets.{meet_more, row_fits}
use Rattle.forever_laws.specs.series_laws.SeriesForms.{Form}
use Rattle.series_ops.specs.declared.gains.Gain.{Gain}
use Rattle.series_ops.specs.Gains.{gain_left, gain_meet, LeftFits, MeetFits}
use Rattle.forever_laws.specs.periodic_laws.Equations.{gains}
use Rattle.teg_net.specs.declared.entries.Again.{Again}
use Rattle.teg_net.specs.declared.entries.TransitionId.{TransitionId}
use Rattle.teg_net.specs.Inputs.{list_date}
use Rattle.teg_net.specs.Nets.{NetLists}
use Rattle.teg_net.proofs.NetRules.{net_ends}
use Rattle.forever_laws.specs.teg_model.Datings.{as_date}
use Rattle.endless_due.specs.declared.row.EndlessRow.{EndlessRow}
use Rattle.endless_due.specs.EndlessRows.{again_of_row}
use Rattle.forever_laws.specs.SeriesColumns.{AreSeriesColumns, IsDueSeries, IsWalkSeries, due_date_at, gain_residuals, residual_over}
use Rattle.forever_laws.specs.ColumnLaws.{ColumnsExist}
use Rattle.forever_laws.proofs.OneColumn.{one_due, one_walk}
use Rattle.forever_laws.proofs.Residuals.{GotRow, got_row}
use Rattle.teg_forever.specs.declared.divisions.Divided.{Divided}
use Rattle.teg_forever.specs.declared.divisions.Divisions.{Divisions}
use Rattle.teg_forever.specs.declared.releases.ForeverRefusal.{ForeverRefusal}
use Rattle.teg_forever.specs.declared.releases.ForeverRefusal.TheVariants.{Late, TooLong, TooWide, OutOfMemory}
use Rattle.teg_forever.specs.InputAnswers.{IsStopped}
use Rattle.teg_forever.specs.Divisions.{AreAlike, AreDivisions, AreFirstsTo, AreSteadyTo, IsAlikeAt, IsDivided, IsKeptIn, IsMeetOver, IsMeetTo, IsMisfit, IsDividedAt, IsRefusedAt, IsResidualOf, IsRowResidual, StandsAt, refusal_at}
use Rattle.teg_forever.specs.Asked.{InputAsked, IsAskedWith}
use Rattle.teg_forever.proofs.Series.{behind, some_is}

-- ---- rows that ask the same dates

same_dates : (r s : EndlessRow) → AreAlike r s → (k : ℕ) → due_date_at r k ≡ due_date_at s k
same_dates r s h k =
    let again : again_of_row r ≡ again_of_row s = λ i. record { every = h.every i; gap = h.gap i } in
    ap (λ (l : List ℕ). as_date (list_date l (Some (again_of_row r)) (k + 1))) h.dates ∙ ap (λ (a : Again). as_date (list_date s.dates (Some a) (k + 1))) again

-- have the same due series
pub alike_due : (r s : EndlessRow) → AreAlike r s → (f : Form) → IsDueSeries r f → IsDueSeries s f
alike_due r s h f is = record { canonical = is.canonical; dates = λ k. is.dates k ∙ same_dates r s h k }

pub alike_itself : (rows : List EndlessRow) (i : ℕ) → i < length rows → IsAlikeAt rows i i
alike_itself rows i l = record {
  within = l;
  alike = λ r s a b.
      let same : r ≡ s = some_is (slice_get rows i) r s a b in
      record { every = ap (λ (q : EndlessRow). q.every) same; gap = ap (λ (q : EndlessRow). q.gap) same; dates = ap (λ (q : EndlessRow). q.dates) same };
}

pub alike_found : (rows : List EndlessRow) (i j : ℕ) (a b : EndlessRow) → j < length rows → slice_get rows i ≡ Some a → slice_get rows j ≡ Some b → AreAlike a b → IsAlikeAt rows i j
alike_found rows i j a b l x y h = record {
  within = l;
  alike = λ r s p q. subst (λ (z : EndlessRow). AreAlike z s) (some_is (slice_get rows i) a r x p) (subst (λ (z : EndlessRow). AreAlike a z) (some_is (slice_get rows j) b s y q) h);
}

-- one row more
pub firsts_more : (rows : List EndlessRow) (n : ℕ) (firsts : List ℕ) (first : ℕ) → AreFirstsTo rows n firsts → IsAlikeAt rows n first → AreFirstsTo rows (n + 1) (firsts ++ first ∷ [])
firsts_more rows n firsts first h here =
    let long : length firsts ≡ n = h.long in
    record {
      long = length-append firsts (first ∷ []) ∙ ap (λ (z : ℕ). z + 1) long;
      each = λ i l. ⊎_elim
          (λ low. subst (IsAlikeAt rows i) (sym (get_or-append firsts (first ∷ []) 0 i (omega arith))) (h.each i low))
          (λ high.
          let end : i ≡ length firsts = omega arith in
          let same : n ≡ i = omega arith in
          subst (λ (k : ℕ). IsAlikeAt rows k (get_or (firsts ++ first ∷ []) i 0)) same
          (subst (IsAlikeAt rows n) (sym (ap (λ (m : ℕ). get_or (firsts ++ first ∷ []) m 0) end ∙ get_or-append_seam firsts first [] 0)) here))
          (cases_lt i n);
    }

-- ---- due series that are steady

-- of one row more
pub steady_more : (rows : List EndlessRow) (n : ℕ) (list : List (Option Gain)) (r : EndlessRow) (told : Option Gain) → AreSteadyTo rows n list → slice_get rows n ≡ Some r
    → IfSome told (λ due. IsDueSeries r due.series) → AreSteadyTo rows (n + 1) (list ++ told ∷ [])
steady_more rows n list r told h at is =
    let long : length list ≡ n = h.long in
    record {
      long = length-append list (told ∷ []) ∙ ap (λ (z : ℕ). z + 1) long;
      each = λ i s l here. ⊎_elim
          (λ low. subst (λ (z : Option Gain). IfSome z (λ due. IsDueSeries s due.series)) (sym (get_or-append list (told ∷ []) None i (omega arith))) (h.each i s low here))
          (λ high.
          let end : i ≡ length list = omega arith in
          let same : n ≡ i = omega arith in
          let row : r ≡ s = some_is (slice_get rows i) r s (subst (λ (k : ℕ). slice_get rows k ≡ Some r) same at) here in
          let last : get_or (list ++ told ∷ []) i None ≡ told = ap (λ (m : ℕ). get_or (list ++ told ∷ []) m None) end ∙ get_or-append_seam list told [] None in
          subst (λ (z : Option Gain). IfSome z (λ due. IsDueSeries s due.series)) (sym last) (subst (λ (z : EndlessRow). IfSome told (λ due. IsDueSeries z due.series)) row is))
          (cases_lt i n);
    }

-- ---- what is kept

-- a residual that was made
pub divided : (rows : List EndlessRow) (due : ℕ) (r : EndlessRow) (walk asked residual : Gain) → slice_get rows due ≡ Some r
    → IsDueSeries r asked.series → residual ≡ gain_left walk asked → LeftFits walk asked
    → IsDivided rows (record { due = due; walk = walk; residual = residual })
divided rows due r walk asked residual at is e fits s here d other =
    let row : r ≡ s = some_is (slice_get rows due) r s at here in
    let same : asked ≡ d = one_due s asked d (subst (λ (z : EndlessRow). IsDueSeries z asked.series) row is) other in (
      e ∙ ap (gain_left walk) same,
      subst (LeftFits walk) same fits,
    )

pub misfit : (rows : List EndlessRow) (due : ℕ) (r : EndlessRow) (walk asked : Gain) (why : Refused) → slice_get rows due ≡ Some r → IsDueSeries r asked.series
    → Answers true (LeftFits walk asked) (gain_left walk asked) (Err why) → IsMisfit rows due walk why
misfit rows due r walk asked Range at is h = λ s d here other fits.
    (let row : r ≡ s = some_is (slice_get rows due) r s at here in
    let same : asked ≡ d = one_due s asked d (subst (λ (z : EndlessRow). IsDueSeries z asked.series) row is) other in
    h (subst (LeftFits walk) (sym same) fits))
misfit rows due r walk asked NoRoom at is h = tt

-- all that is kept is right
pub all_kept : (rows : List EndlessRow) (old new : List Divided) (x : Divided) (place : ℕ) → IsKeptIn old x new place → IsDivided rows x → All (IsDivided rows) old → All (IsDivided rows) new
all_kept rows old new x place kept right h =
    subst (All (IsDivided rows)) (sym kept.list_is)
    (All-append (IsDivided rows) (take kept.count old) (x ∷ []) (All-take (IsDivided rows) kept.count old h) (All-cons (IsDivided rows) x [] right (All-nil (IsDivided rows))))

pub divisions_kept : {E : Type 0} (rows : List EndlessRow) (old new : Divisions) (x : Divided) (r : Result ℕ E) → AreDivisions rows old → new.firsts.items ≡ old.firsts.items
    → new.steady.items ≡ old.steady.items → IsDivided rows x
    → IfOk r (IsKeptIn old.list.items x new.list.items) → OnOk r (AreDivisions rows new)
divisions_kept rows old new x (Ok place) h same steady right kept = record {
  firsts = subst (AreFirstsTo rows (length rows)) (sym same) h.firsts;
  steady = subst (AreSteadyTo rows (length rows)) (sym steady) h.steady;
  each = all_kept rows old.list.items new.list.items x place kept right h.each;
}
divisions_kept rows old new x (Err e) h same steady right kept = tt

-- it stands where it was put
pub kept_place : (old new : List Divided) (x : Divided) (place : ℕ) → IsKeptIn old x new place → IsDividedAt new x.due x.walk place
kept_place old new x place kept = record {
  divided = x;
  stands = subst (λ (l : List Divided). slice_get l place ≡ Some x) (sym kept.list_is)
      (subst (λ (n : ℕ). slice_get (take kept.count old ++ x ∷ []) n ≡ Some x) (sym kept.place_is) (behind (take kept.count old) x));
  due_is = refl;
  walk_is = refl;
}

kept_at : (rows : List EndlessRow) (list : List Divided) (place : ℕ) (x : Divided) → slice_get list place ≡ Some x → All (IsDivided rows) list → IsDivided rows x
kept_at rows list place x here all = subst (IsDivided rows) (get_or_from_slice_get list place x x here) (all place x (slice_get_within list place x here))

-- ---- a row

module _ (net : NetLists) (rows : List EndlessRow) (u : ℕ) (i first : ℕ) (r : EndlessRow) (at : slice_get rows i ≡ Some r)
    (alike : IsAlikeAt rows i first) (walk : Gain) (is : IsWalkSeries net u r.transition.index walk.series) where
  -- the due series of the row is that of the first alike
  due_of_first : (walks dues : ℕ → Gain) → AreSeriesColumns net u rows walks dues → (s : EndlessRow) → slice_get rows first ≡ Some s → IsDueSeries s (dues i).series
  due_of_first walks dues columns s here = alike_due r s (alike.alike r s at here) (dues i).series (columns.due_series i r at)

  walk_of_row : (walks dues : ℕ → Gain) → AreSeriesColumns net u rows walks dues → walk ≡ walks i
  walk_of_row walks dues columns = one_walk net u r.transition.index walk (walks i) is (columns.walk_series i r at)

  -- the residual that stands at the place is that of the row
  pub residual_found : (list : List Divided) (place : ℕ) → All (IsDivided rows) list → IsDividedAt list first walk place → IsResidualOf net rows u i list place
  residual_found list place all found = record {
    divided = found.divided;
    stands = found.stands;
    within = slice_get_within list place found.divided found.stands;
    is = λ walks dues columns.
        let x : Divided = found.divided in
        let g : GotRow rows first = got_row rows first alike.within in
        let there : slice_get rows x.due ≡ Some g.row = subst (λ (n : ℕ). slice_get rows n ≡ Some g.row) (sym found.due_is) g.got in
        let right : IsDivided rows x = kept_at rows list place x found.stands all in
        let told = right g.row there (dues i) (due_of_first walks dues columns g.row g.got) in
        let same : x.walk ≡ walks i = found.walk_is ∙ walk_of_row walks dues columns in (
          told.0 ∙ ap (λ (w : Gain). gain_left w (dues i)) same,
          subst (λ (w : Gain). LeftFits w (dues i)) same told.1,
        );
  }

  -- a row without one that fits
  pub refused_row : (id : TransitionId) (why : Refused) → id.index ≡ u → IsMisfit rows first walk why → IsRefusedAt net rows id i (refusal_at why id r)
  refused_row id Range e h = (
    refl,
    record {
      stopped = r;
      is_row = at;
      row_is = refl;
      misfits = λ walks dues columns fits.
          (let g : GotRow rows first = got_row rows first alike.within in
          let c : AreSeriesColumns net u rows walks dues = subst (λ (v : ℕ). AreSeriesColumns net v rows walks dues) e columns in
          h g.row (dues i) g.got (due_of_first walks dues c g.row g.got) (subst (λ (w : Gain). LeftFits w (dues i)) (sym (walk_of_row walks dues c)) fits.0));
    },
  )
  refused_row id NoRoom e h = tt

-- ---- the meet over rows

-- a residual that is kept is that of its row
pub row_residual : (net : NetLists) (rows : List EndlessRow) (u i : ℕ) (list : List Divided) (place : ℕ) (q : Gain) → IsResidualOf net rows u i list place → StandsAt list place q
    → IsRowResidual net rows u i q
row_residual net rows u i list place q h stands walks dues columns = let told = h.is walks dues columns in (stands h.divided h.stands ∙ told.0, told.1)

-- the meet of one row
pub meet_begun : (net : NetLists) (rows : List EndlessRow) (u : ℕ) (q m : Gain) → IsRowResidual net rows u 0 q → m ≡ q → IsMeetOver net rows u 1 m
meet_begun net rows u q m h e walks dues columns =
    let told = h walks dues columns in
    record {
      value = e ∙ told.0;
      fit = λ i l. (let zero_is : 0 ≡ i = omega arith in subst (RowFits gains gain_residuals walks dues) zero_is (told.1, λ some. absurd (omega arith)));
    }

-- and of one row more
pub meet_on : (net : NetLists) (rows : List EndlessRow) (u i : ℕ) (q m after : Gain) → 0 < i → IsMeetOver net rows u i m → IsRowResidual net rows u i q
    → after ≡ gain_meet m q → MeetFits m q → IsMeetOver net rows u (i + 1) after
meet_on net rows u i q m after some before h e fits walks dues columns =
    let told = h walks dues columns in
    let old : IsMeetTo walks dues i m = before walks dues columns in
    record {
      value = meet_more gains gain_residuals walks dues i m (walks i) (dues i) q after some old.value refl refl told.0 e;
      fit = below_more (RowFits gains gain_residuals walks dues) i old.fit (row_fits gains gain_residuals walks dues i m (walks i) (dues i) q old.value refl refl told.0 told.1 fits);
    }

-- a row whose meet with those before does not fit
pub refused_meet : (net : NetLists) (rows : List EndlessRow) (id : TransitionId) (i : ℕ) (r : EndlessRow) (q m : Gain) (why : Refused)
    → 0 < i → slice_get rows i ≡ Some r → IsMeetOver net rows id.index i m → IsRowResidual net rows id.index i q
    → Answers true (MeetFits m q) (gain_meet m q) (Err why) → IsRefusedAt net rows id i (refusal_at why id r)
refused_meet net rows id i r q m Range some at before h other = (
  refl,
  record {
    stopped = r;
    is_row = at;
    row_is = refl;
    misfits = λ walks dues columns fits.
        (let told = h walks dues columns in
        let old : IsMeetTo walks dues i m = before walks dues columns in
        other (subst (λ (z : Gain). MeetFits z q) (sym old.value) (subst (λ (z : Gain). MeetFits (residual_over i walks dues) z) (sym told.0) (fits.1 some))));
  },
)
refused_meet net rows id i r q m NoRoom some at before h other = tt

-- ---- why an input has no release

-- the first row that does not fit stops the search for the release of the input
pub stopped_at : (a : InputAsked) → IsAskedWith a → ColumnsExist → (i : ℕ) → i < length a.rows
    → ((walks dues : ℕ → Gain) → AreSeriesColumns a.net a.input.index a.rows walks dues → (j : ℕ) → j < i → RowFits gains gain_residuals walks dues j)
    → (why : ForeverRefusal) → IsRefusedAt a.net a.rows a.input i why → IsStopped a.net a.rows a.input why
stopped_at a h exist i l fit (Late t k due least) at = absurd at
stopped_at a h exist i l fit (TooLong v) at = absurd at
stopped_at a h exist i l fit (TooWide v row) at =
    let c = exist a.net (net_ends a.net h.rules) h.is_live a.rows h.ends a.input.index h.input in (
      at.0,
      record {
        settles = (a.settled, h.transfer, h.short);
        walks = c.0;
        dues = c.1;
        columns = c.2;
        place = i;
        stops = record { within = l; before = fit c.0 c.1 c.2; here = at.1.misfits c.0 c.1 c.2 };
        stopped = at.1.stopped;
        is_row = at.1.is_row;
        row_is = at.1.row_is;
      },
    )
stopped_at a h exist i l fit OutOfMemory at = tt
