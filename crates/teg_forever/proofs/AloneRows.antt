-- Rows of the net without its inputs tell the least dates with all inputs at 0, and so late numbers.
use Rattle.std.proofs.Common.{ℕ, ◌≡◌, ◌<◌, ◌≤◌, ◌+◌, ◌-◌, ◌∙◌, pos, List, All, length, Some, take, refl, sym, subst, arith}
use Rattle.std.specs.Prelude.{slice_index_or, slice_get}
use Rattle.std.proofs.lemmas.Option.{slice_get_within, get_or_from_slice_get}
use Rattle.dioid.specs.declared.dates.Date.{Date}
use Rattle.dioid.specs.declared.dates.Date.TheVariants.{Early, At}
use Rattle.teg_net.specs.Nets.{NetLists, IsNet, without_inputs}
use Rattle.teg_net.proofs.NetRules.{net_ends}
use Rattle.teg_net.specs.Circuits.{IsLive}
use Rattle.forever_laws.specs.teg_model.Datings.{IsLeastUnder}
use Rattle.forever_laws.specs.due_laws.MeetingDueDates.{inputs_at_zero}
use Rattle.date_rows.specs.Streams.{IsLeastRow}
use Rattle.endless_due.specs.declared.row.EndlessRow.{EndlessRow}
use Rattle.endless_due.specs.EndlessRows.{row_due, IsEndlessRow}
use Rattle.forever_laws.specs.Late.{IsLeastLate, NoneLate, NoneLateTo}
use Rattle.forever_laws.specs.EndlessDues.{LateIsSoon, ZeroInputsAreNoLists, ZeroMeetsWhereNoneLate}
use Rattle.forever_laws.specs.PacedRows.{NoRowsAreMet}
use Rattle.forever_laws.proofs.Zeros.{date_is, least_number}
use Rattle.teg_check.specs.Ranks.{IsRanking}
use Rattle.teg_forever.specs.Asked.{AreMetAtZero, AreRankedRows, RankedRows}
use Rattle.teg_forever.specs.LateFirings.{InLeastAtZero}
use Rattle.teg_forever.specs.LatestReleases.{IsLateAnswer}
use Rattle.teg_forever.proofs.LateNumbers.{first_found, none_more}

module _ (net plain : NetLists) (ok : IsNet net) (live : IsLive net) (same : plain ≡ without_inputs net) (law : ZeroInputsAreNoLists) (k : ℕ) (row : List Date) (is : IsLeastRow plain k row) where
  -- the dates of the row
  pub tells : (t : ℕ) → t < length net.transitions → (x : ℕ → ℕ → Date) → IsLeastUnder net inputs_at_zero x → slice_index_or row t Early ≡ x t k
  tells t l x least = ((subst (λ (n : NetLists). IsLeastRow n k row) same is).same x ((law net x).1 least)).same t l

  -- which are numbers
  pub is_number : (t : ℕ) → t < length net.transitions → 1 ≤ k → (m : ℕ) × (slice_index_or row t Early ≡ At (pos m))
  is_number t l one =
      let own : IsLeastRow (without_inputs net) k row = subst (λ (n : NetLists). IsLeastRow n k row) same is in
      let x : ℕ → ℕ → Date = own.exists.0 in
      let least : IsLeastUnder net inputs_at_zero x = (law net x).0 own.exists.1 in
      let ends = net_ends net ok in
      (least_number net ends live x least t k, tells t l x least ∙ date_is net ends live x least t k l one)

-- the date of the next number, by the number of rows that were given before
pub comes_at : (net : NetLists) (t given k date : ℕ) → given + 1 ≡ k → InLeastAtZero net (λ x. x t (given + 1) ≡ At (pos date)) → InLeastAtZero net (λ x. x t k ≡ At (pos date))
comes_at net t given k date e h = subst (λ (m : ℕ). InLeastAtZero net (λ x. x t m ≡ At (pos date))) e h

module _ (net : NetLists) (r : EndlessRow) (k due date : ℕ) (one : 1 ≤ k) (is_due : row_due r k ≡ Some due) (comes : InLeastAtZero net (λ x. x r.transition.index k ≡ At (pos date))) where
  -- the first late number, where none before is late
  pub found : due < date → InLeastAtZero net (λ x. NoneLateTo x r (k - 1)) → InLeastAtZero net (λ x. IsLeastLate x r k due date)
  found late none x least = first_found x r k due date one is_due (comes x least) late (none x least)

  -- none so far, where this one is not late
  pub none_so_far : date ≤ due → InLeastAtZero net (λ x. NoneLateTo x r (k - 1)) → InLeastAtZero net (λ x. NoneLateTo x r k)
  none_so_far low none x least = none_more x r k due date is_due (comes x least) low (none x least)

-- ---- the net without its inputs

pub ranking_without : (net plain : NetLists) → plain ≡ without_inputs net → (ranks : List ℕ) → IsRanking net ranks → IsRanking plain ranks
ranking_without net plain e ranks h = subst (λ (n : NetLists). IsRanking n ranks) (sym e) (record { count = h.count; small = h.small; rises = h.rises })

-- ---- the answer at a row

module _ (a : RankedRows) (h : AreRankedRows a) where
  pub late_answer_in : LateIsSoon → (x : ℕ → ℕ → Date) → IsLeastUnder a.net inputs_at_zero x → (i : ℕ) (r : EndlessRow) → slice_get a.rows i ≡ Some r
      → All (NoneLate x) (take i a.rows) → (k due date : ℕ) → IsLeastLate x r k due date → IsLateAnswer a.net a.rows r.transition.index k due date
  late_answer_in law x least i r at none k due date late =
      let rule : IsEndlessRow a.net r = subst (IsEndlessRow a.net) (get_or_from_slice_get a.rows i r r at) (h.ends.each i r (slice_get_within a.rows i r at)) in
      let low = law a.net h.rules h.is_live x least r rule k due date late in
      record {
        dating = x;
        is_least = least;
        row = r;
        first = record { index = i; is_row = at; none_before = none; least_late = late };
        transition = refl;
        number_in = omega (arith, low.0);
        due_in = omega (arith, low.1);
        least_in = omega (arith, low.2);
      }

  -- where no row is late the inputs at 0 meet the due dates
  pub all_meet_in : NoRowsAreMet → ZeroMeetsWhereNoneLate → InLeastAtZero a.net (λ x. All (NoneLate x) a.rows) → AreMetAtZero a
  all_meet_in zero law none =
      let ends = net_ends a.net h.rules in
      let some = zero a.net ends h.is_live in
      (law a.net ends h.is_live a.rows h.ends some.0 some.1).1 (none some.0 some.1)
