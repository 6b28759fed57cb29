-- Rows that have the walk series and the due series of the row before, and what they leave of the meet.
use Rattle.std.proofs.Common.{ℕ, ◌+◌, ◌-◌, ◌<◌, ◌≡◌, List, Some, length, refl, sym, subst, ap, ap₂, ◌∙◌, arith, below_more}
use Rattle.std.specs.Prelude.{IsTrue, slice_get}
use Rattle.forever_laws.specs.dioid_matrix.Residuals.{RowFits}
use Rattle.forever_laws.proofs.dioid_matrix_proofs.Meets.{meet_more, row_fits}
use Rattle.forever_laws.specs.series_laws.SeriesForms.{Form, form_with, value_at}
use Rattle.forever_laws.proofs.series_laws_proofs.Canonical.{one_canonical}
use Rattle.series_ops.specs.declared.gains.Gain.{Gain}
use Rattle.series_ops.specs.Gains.{gain_left, gain_meet, gain_of, MeetFits}
use Rattle.series_form.specs.NumberBounds.{IsSeries}
use Rattle.forever_laws.specs.periodic_laws.Equations.{gains}
use Rattle.teg_net.specs.Nets.{NetLists}
use Rattle.forever_laws.specs.settled_laws.SettledForms.{SettledForm}
use Rattle.teg_settle.specs.walk_times.Transfers.{IsTransferOf}
use Rattle.endless_due.specs.declared.row.EndlessRow.{EndlessRow}
use Rattle.forever_laws.specs.SeriesColumns.{IsDueSeries, IsWalkSeries, gain_residuals}
use Rattle.forever_laws.proofs.OneColumn.{one_due, one_time}
use Rattle.forever_laws.proofs.Residuals.{GotRow, got_row}
use Rattle.forever_laws.proofs.Series.{transfers_are_series}
use Rattle.teg_forever.specs.Alike.{HaveSameWalks, told_form}
use Rattle.teg_forever.specs.declared.residuals.Meet.{Meet}
use Rattle.teg_forever.specs.Divisions.{AreMet, IsAlikeAt, IsAsBefore, IsMeetOver, IsMeetSoFar, IsMeetTo, IsRowResidual, StaysOver}
use Rattle.teg_forever.proofs.Dividing.{alike_due, meet_begun, meet_on}
use Rattle.teg_forever.proofs.Itself.{meet_itself}

-- ---- a row as the one before

module _ (net : NetLists) (u : ℕ) (f : SettledForm) (transfer : IsTransferOf net u f) where
  -- transitions of which the form tells the same dates have one walk series
  one_series : (s t : ℕ) → s < length net.transitions → t < length net.transitions → HaveSameWalks f s t → (a b : Gain) → IsWalkSeries net u s a.series → IsWalkSeries net u t b.series → a ≡ b
  one_series s t l m same a b h w =
      let form : told_form f s ≡ told_form f t = ap₂ (λ r z. form_with r f.period z) same.row same.step in
      let from_s = transfers_are_series net u f transfer s l in
      let from_t = transfers_are_series net u f transfer t m in
      let values : (k : ℕ) → value_at a.series k ≡ value_at b.series k = λ k.
      one_time net u s (k + 1) (value_at a.series k) (value_at (told_form f s) k) (h.times k) (from_s.each k)
      ∙ (ap (λ (z : Form). value_at z k) form
      ∙ one_time net u t (k + 1) (value_at (told_form f t) k) (value_at b.series k) (from_t.each k) (w.times k)) in
      ap gain_of (one_canonical a.series b.series h.canonical w.canonical values)

  pub as_before : (rows : List EndlessRow) (i j : ℕ) (r q : EndlessRow) → slice_get rows i ≡ Some r → slice_get rows (i - 1) ≡ Some q
      → r.transition.index < length net.transitions → q.transition.index < length net.transitions
      → IsAlikeAt rows i j → IsAlikeAt rows (i - 1) j → HaveSameWalks f r.transition.index q.transition.index → IsAsBefore net rows u i
  as_before rows i j r q at before l m here there same walks dues columns =
      let g : GotRow rows j = got_row rows j here.within in
      let s : EndlessRow = g.row in
      let first : IsDueSeries s (dues i).series = alike_due r s (here.alike r s at g.got) (dues i).series (columns.due_series i r at) in
      let other : IsDueSeries s (dues (i - 1)).series = alike_due q s (there.alike q s before g.got) (dues (i - 1)).series (columns.due_series (i - 1) q before) in (
        one_series r.transition.index q.transition.index l m same (walks i) (walks (i - 1)) (columns.walk_series i r at) (columns.walk_series (i - 1) q before),
        one_due s (dues i) (dues (i - 1)) first other,
      )

-- ---- a meet that stays

-- it stays where it is one of the two
pub stays_first : (m q after : Gain) → AreMet m q after → after.series ≡ m.series → AreMet after q after
stays_first m q after h e =
    let same : after ≡ m = ap gain_of e in
    record { value = h.value ∙ ap (λ (z : Gain). gain_meet z q) (sym same); fit = subst (λ (z : Gain). MeetFits z q) (sym same) h.fit }

pub stays_second : (after q : Gain) → IsSeries after.series → after.series ≡ q.series → AreMet after q after
stays_second after q h e = let both = meet_itself after q h e in record { value = both.0; fit = both.1 }

-- the meet over one row
pub begun_so_far : (net : NetLists) (rows : List EndlessRow) (u : ℕ) (q : Gain) (m : Meet) → IsRowResidual net rows u 0 q → IsSeries q.series → m.gain.series ≡ q.series
    → IsMeetSoFar net rows u 1 m
begun_so_far net rows u q m h is e =
    let same : m.gain ≡ q = ap gain_of e in
    record {
      over = meet_begun net rows u q m.gain h same;
      stays = λ t walks dues columns.
          let left : m.gain ≡ gain_left (walks 0) (dues 0) = same ∙ (h walks dues columns).0 in
          stays_second m.gain (gain_left (walks 0) (dues 0)) (subst (λ (z : Gain). IsSeries z.series) (sym same) is) (ap (λ (z : Gain). z.series) left);
    }

-- and over one row more
pub met_so_far : (net : NetLists) (rows : List EndlessRow) (u i : ℕ) (q m : Gain) (after : Meet)
    → 0 < i → IsMeetOver net rows u i m → IsRowResidual net rows u i q
    → AreMet m q after.gain → (IsTrue after.stays → AreMet after.gain q after.gain) → IsMeetSoFar net rows u (i + 1) after
met_so_far net rows u i q m after some over h met stay = record {
  over = meet_on net rows u i q m after.gain some over h met.value met.fit;
  stays = λ t walks dues columns.
      let last : i + 1 - 1 ≡ i = omega arith in
      subst (λ (n : ℕ). AreMet after.gain (gain_left (walks n) (dues n)) after.gain) (sym last)
      (subst (λ (z : Gain). AreMet after.gain z after.gain) (h walks dues columns).0 (stay t));
}

-- so it is the meet over one more row, and stays
module _ (net : NetLists) (rows : List EndlessRow) (u i : ℕ) (m : Gain) (some : 0 < i) (over : IsMeetOver net rows u i m) (stays : StaysOver net rows u i m) (same : IsAsBefore net rows u i) where
  repeated_over : IsMeetOver net rows u (i + 1) m
  repeated_over walks dues columns =
      let old : IsMeetTo walks dues i m = over walks dues columns in
      let is = same walks dues columns in
      let stay : AreMet m (gain_left (walks (i - 1)) (dues (i - 1))) m = stays walks dues columns in
      let left : gain_left (walks (i - 1)) (dues (i - 1)) ≡ gain_left (walks i) (dues i) = ap₂ gain_left (sym is.0) (sym is.1) in
      let before : RowFits gains gain_residuals walks dues (i - 1) = old.fit (i - 1) (omega arith) in
      let fits = subst (λ (w : Gain). gain_residuals.left_fits w (dues i)) (sym is.0) (subst (λ (d : Gain). gain_residuals.left_fits (walks (i - 1)) d) (sym is.1) before.0) in
      record {
        value = meet_more gains gain_residuals walks dues i m (walks i) (dues i) (gain_left (walks (i - 1)) (dues (i - 1))) m some old.value refl refl left stay.value;
        fit = below_more (RowFits gains gain_residuals walks dues) i old.fit
            (row_fits gains gain_residuals walks dues i m (walks i) (dues i) (gain_left (walks (i - 1)) (dues (i - 1))) old.value refl refl left fits stay.fit);
      }

  repeated_stays : StaysOver net rows u (i + 1) m
  repeated_stays walks dues columns =
      let is = same walks dues columns in
      let stay : AreMet m (gain_left (walks (i - 1)) (dues (i - 1))) m = stays walks dues columns in
      let last : i + 1 - 1 ≡ i = omega arith in
      subst (λ (n : ℕ). AreMet m (gain_left (walks n) (dues n)) m) (sym last)
      (subst (λ (q : Gain). AreMet m q m) (ap₂ gain_left (sym is.0) (sym is.1)) stay)

pub repeated_so_far : (net : NetLists) (rows : List EndlessRow) (u i : ℕ) (m : Meet) → 0 < i → IsMeetSoFar net rows u i m → IsTrue m.stays → IsAsBefore net rows u i → IsMeetSoFar net rows u (i + 1) m
repeated_so_far net rows u i m some h t same = record {
  over = repeated_over net rows u i m.gain some h.over (h.stays t) same;
  stays = λ s. repeated_stays net rows u i m.gain some h.over (h.stays t) same;
}
