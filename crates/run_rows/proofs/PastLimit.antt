-- Where a jump is long and a token would come late past it, no form is within a limit.
use Rattle.std.proofs.Common.{ℕ, ℤ, suc, pos, ◌+◌, ◌-◌, ◌*◌, ◌<◌, ◌≤◌, ◌≡◌, ◌+ℤ◌, List, length, get_or, sym, ap, ◌∙◌, arith, ⊎_elim}
use Rattle.std.specs.Prelude.{◌*ℤ◌, All}
use lib.IntN.{zero-*ℤ}
use Rattle.std.proofs.lemmas.Bool.{cases_lt}
use Rattle.std.proofs.lemmas.Int.{ints}
use Rattle.std.proofs.lemmas.List.Elements.{All-from_get_or}
use Rattle.dioid.specs.declared.dates.Date.{Date}
use Rattle.dioid.specs.Dates.{delayed, move}
use Rattle.dioid.proofs.Moves.{move_move}
use Rattle.teg_net.specs.Nets.{NetLists, IsNet}
use Rattle.teg_net.specs.Circuits.{no_place}
use Rattle.teg_net.specs.declared.entries.Place.{Place}
use Rattle.teg_check.specs.Ranks.{IsRanking}
use Rattle.teg_model.specs.Datings.{available_at, initial_date}
use Rattle.teg_model.proofs.DateFunctions.{Dating}
use Rattle.teg_model.proofs.OfNet.{extended_has, net_ends}
use Rattle.teg_model.proofs.Tokens.{available_after}
use Rattle.date_rows.specs.DateTables.{TableDates, date_at}
use Rattle.jump_laws.specs.Jumps.{AreInTimeAfter, IsInTimeAfter, MovesInTurns, MovesUpTo}
use Rattle.jump_laws.specs.Runs.{Run, kept_step}
use Rattle.jump_laws.proofs.InLists.{too_long}
use Rattle.jump_laws.proofs.InSystems.{token_on}
use Rattle.jump_laws.proofs.Turns.{one_more, step_on, turns_on}
use Rattle.settled_laws.specs.SettledForms.{NetSettlesPast}
use Rattle.run_rows.specs.LeastRuns.{AreRowsPast}
use Rattle.run_rows.specs.ReadRuns.{IsJumpWindow}
use Rattle.run_rows.specs.RoomyRuns.{step_of}
use Rattle.run_rows.specs.TurnsLeft.{IsPlaceInTime}
use Rattle.run_rows.proofs.GoneOn.{earliest, is}
use Rattle.run_rows.proofs.Jumping.{residue_same}

-- one turn past so many
turn_past : (s : ℤ) (q : ℕ) (a : Date) → move (pos 1 *ℤ s) (move (pos q *ℤ s) a) ≡ move (pos (q + 1) *ℤ s) a
turn_past s q a =
    let once : pos 1 *ℤ s ≡ s = one_more 0 s ∙ ap (λ z. z +ℤ s) (zero-*ℤ s) ∙ omega (arith, ints) in
    let is : q + 1 ≡ suc q = omega arith in
    rw (is, one_more q s, once) (move_move (pos q *ℤ s) s a)

module _ (net : NetLists) (ok : IsNet net) (ranks : List ℕ) (rank : IsRanking net ranks) (most : ℕ) (one : 1 ≤ most) (tokens : All (λ p. p.tokens ≤ most) net.places)
    (after : ℕ) (rows : TableDates) (r : AreRowsPast net after rows) (run : Run) (turns : ℕ) (w : IsJumpWindow net most after rows run turns) where
  abbrev x : Dating
  x = earliest net ranks

  abbrev turn : ℕ
  turn = run.turn

  abbrev end : ℕ
  end = after + rows.count

  abbrev begin : ℕ
  begin = after + (((rows.count - run.turn) - run.turn) - most)

  abbrev step : ℕ → ℕ → ℤ
  step = step_of run

  residues : (t k : ℕ) → step_of run t (k + run.turn) ≡ step_of run t k
  residues t k = ap (kept_step run t) (residue_same run.first run.turn k)

  moved : MovesUpTo (length net.transitions) (earliest net ranks) begin run.turn (end + turns * run.turn) (step_of run)
  moved = w.moves (earliest net ranks) (is net ok ranks rank)

  window : MovesInTurns net (earliest net ranks) begin run.turn (end + turns * run.turn) (step_of run)
  window =
      let fits = w.fits in
      record {
        at_least_one = w.some;
        two_turns = omega (arith, fits, one);
        tokens = λ i d l. let few = tokens i d l in omega (arith, few, fits);
        residues = residues;
        moves = moved;
      }

  row : (t k : ℕ) → t < length net.transitions → 1 ≤ k → k ≤ rows.count → date_at rows t k ≡ earliest net ranks t (after + k)
  row t k l o m = r.same (earliest net ranks) (is net ok ranks rank) t k l o m

  -- where past the jump a token would be in time for one turn more, it would be so past the rows for one more than the jump has
  place_on : AreInTimeAfter 1 net (earliest net ranks) run.turn (end + turns * run.turn) (step_of run) → (i : ℕ) → i < length net.places
      → IsPlaceInTime (turns + 1) after rows run (get_or net.places i no_place)
  place_on on i l =
      let p : Place = get_or net.places i no_place in
      let ends = net_ends net ok i no_place l in
      let few = tokens i no_place l in
      let fits = w.fits in
      let some = w.some in
      record {
        each = λ k in_turn. record {
          at = λ j o m.
              let past = in_turn.past in
              let last = in_turn.last in
              let number : ℕ = after + k in
              let s : ℤ = step_of run p.from.index (after + (k - p.tokens)) in
              let g : ℤ = step_of run p.to.index (after + k) in
              let from_is : after + (k - p.tokens) ≡ (after + k) - p.tokens = omega (arith, few, fits, past) in
              ⊎_elim
              (λ (q : turns < j).
              let all : j ≡ turns + 1 = omega (arith, q, m) in
              let token : available_at x p number ≡ delayed p.hold (date_at rows p.from.index (k - p.tokens)) =
              available_after initial_date x p number (date_at rows p.from.index (k - p.tokens)) (omega (arith, few, fits, past))
              (ap (earliest net ranks p.from.index) (sym from_is) ∙ sym (row p.from.index (k - p.tokens) ends.0 (omega (arith, few, fits, past)) (omega (arith, last)))) in
              let date : x p.to.index number ≡ date_at rows p.to.index k = sym (row p.to.index k ends.1 (omega (arith, fits, past, some)) last) in
              let later : ℕ = number + turns * turn in
              let its = token_on initial_date x begin turn (end + turns * turn) (step p.from.index) p (residues p.from.index) (moved p.from.index ends.0) number turns (omega (arith, few, fits, past)) (omega (arith, last)) in
              let own = turns_on (x p.to.index) begin turn (end + turns * turn) (step p.to.index) (residues p.to.index) (moved p.to.index ends.1) number turns (omega (arith, fits, past)) (omega (arith, last)) in
              let there : IsInTimeAfter 1 step p later (available_at x p later) (x p.to.index later) =
              extended_has net (λ p. IsInTimeAfter 1 step p later (available_at x p later) (x p.to.index later))
              (λ c b. on later (omega (arith, past)) (omega (arith, last)) c no_place b) i l in
              let before : later - p.tokens ≡ ((after + k) - p.tokens) + turns * turn = omega (arith, few, fits, past) in
              let s_is : step p.from.index (later - p.tokens) ≡ s = ap (step p.from.index) before ∙ (step_on turn (step p.from.index) (residues p.from.index) ((after + k) - p.tokens) turns ∙ ap (step p.from.index) (sym from_is)) in
              let g_is : step p.to.index later ≡ g = step_on turn (step p.to.index) (residues p.to.index) number turns in
              let s_here : step p.from.index ((after + k) - p.tokens) ≡ s = ap (step p.from.index) (sym from_is) in
              rw all (rw (s_is, g_is, its, own, s_here, token, date, turn_past s turns (delayed p.hold (date_at rows p.from.index (k - p.tokens))), turn_past g turns (date_at rows p.to.index k)) at there))
              (λ (q : j ≤ turns). ((w.in_time i no_place l).each k in_turn).at j o q)
              (cases_lt turns j);
        };
      }

  pub past_limit : (limit : ℕ) → (All (IsPlaceInTime (turns + 1) after rows run) net.places → ⊥) → begin + limit + run.turn + run.turn ≤ end + turns * run.turn → NetSettlesPast net limit
  past_limit limit late room =
      too_long net (net_ends net ok) (earliest net ranks) (is net ok ranks rank) begin run.turn (end + turns * run.turn) 1 limit (step_of run) window
      (λ on. late (All-from_get_or (IsPlaceInTime (turns + 1) after rows run) net.places no_place (place_on on))) room
