-- The last turn of rows of the least dating is a run that goes on for as many turns as its tokens and releases are in time.
use Rattle.std.proofs.Common.{ℕ, ℤ, suc, ◌+◌, ◌-◌, ◌*◌, ◌<◌, ◌≤◌, ◌≡◌, [], length, get_or, refl, sym, ap, subst, ◌∙◌, arith, ⊎_elim}
use Rattle.std.specs.Prelude.{All, ◌/◌, ◌%◌}
use Rattle.std.proofs.lemmas.Bool.{cases_lt}
use Rattle.std.proofs.lemmas.List.{get_or_past}
use Rattle.std.proofs.lemmas.Option.{slice_get_past}
use Rattle.std.proofs.lemmas.Nat.{mod-mul-add, div-add-mod'}
use Rattle.std.proofs.Math.Nat.{add-mod_right, mod-lt, mul-le-mul_right}
use Rattle.dioid.specs.declared.dates.Date.TheVariants.{Early}
use Rattle.dioid.specs.Dates.{delayed, move}
use Rattle.teg_net.specs.Limits.{greatest_firing_number}
use Rattle.teg_net.specs.Nets.{NetLists, IsNet, IsInput}
use Rattle.teg_net.specs.Circuits.{IsLive}
use Rattle.teg_net.specs.declared.entries.Place.{Place}
use Rattle.teg_model.specs.DateBounds.{IsDateWithin, greatest_least_date}
use Rattle.teg_model.specs.Datings.{IsLeastDating, available_at, implicit_place, initial_date, listed_releases}
use Rattle.teg_model.proofs.DateFunctions.{Dating}
use Rattle.teg_model.proofs.OfNet.{all_extended_in, net_ends}
use Rattle.teg_model.proofs.Tokens.{available_after}
use Rattle.date_rows.specs.DateTables.{TableDates, date_at}
use Rattle.jump_laws.specs.Jumps.{MovesUpTo, MovesInTurns, AreInTimeAfter, IsInTimeAfter, IsReleasedAfter}
use Rattle.jump_laws.specs.ListedJumps.{GoesOnInTurns, listed_pace}
use Rattle.jump_laws.specs.Runs.{Run, IsRunOf, kept_date, kept_step}
use Rattle.teg_net.proofs.NetRules.{lists_by_rule}
use Rattle.jump_laws.proofs.InLists.{listed_jump}
use Rattle.jump_laws.proofs.Runs.{read_off}
use Rattle.run_rows.specs.LeastRuns.{AreRowsPast}
use Rattle.run_rows.specs.ReadRuns.{GoesOnFor, IsJumpRun, IsLastTurn}
use Rattle.run_rows.specs.RoomyRuns.{IsRoomy, end_of, residue_of, run_of, step_of}
use Rattle.run_rows.specs.TurnsLeft.{IsInLastTurn, IsPlaceInTime}

-- an input is a transition of the net
pub input_in : (net : NetLists) (t : ℕ) → IsInput net t → t < length net.transitions
input_in net t i =
    ⊎_elim
    (λ (l : t < length net.transitions). l)
    (λ (l : length net.transitions ≤ t). absurd (rw (slice_get_past net.transitions t l) at i))
    (cases_lt t (length net.transitions))

pub residue_same : (first turn k : ℕ) → residue_of first turn (k + turn) ≡ residue_of first turn k
residue_same first turn k =
    let is : (k + turn) + (turn - first % turn) ≡ (k + (turn - first % turn)) + turn = omega arith in
    ap (λ z. z % turn) is ∙ add-mod_right (k + (turn - first % turn)) turn

residue_here : (first turn i : ℕ) → i < turn → residue_of first turn (first + i) ≡ i
residue_here first turn i l =
    let q : ℕ = first / turn in
    let rest : ℕ = first % turn in
    let whole : q * turn + rest ≡ first = div-add-mod' first turn in
    let low : rest < turn = mod-lt first (omega (arith, l)) in
    let more : suc q * turn ≡ q * turn + turn = grind arith in
    let is : (first + i) + (turn - rest) ≡ suc q * turn + i = omega (arith, whole, low, more) in
    ap (λ z. z % turn) is ∙ mod-mul-add (suc q) turn i l

module _ (net : NetLists) (ok : IsNet net) (live : IsLive net) (after : ℕ) (rows : TableDates) (r : AreRowsPast net after rows) (last : Run) (lt : IsLastTurn after rows last)
    (most turns : ℕ) (one : 1 ≤ most) (some : 1 ≤ last.turn) (fits : most + last.turn + last.turn ≤ rows.count) (tokens : All (λ p. p.tokens ≤ most) net.places)
    (g : GoesOnFor net most after rows last turns) where
  abbrev turn : ℕ
  turn = last.turn

  abbrev end : ℕ
  end = after + rows.count

  abbrev begin : ℕ
  begin = after + (((rows.count - last.turn) - last.turn) - most)

  abbrev step : ℕ → ℕ → ℤ
  step = step_of last

  abbrev run : Run
  run = run_of last.first last.turn (turns + 1) last.dates last.steps

  go : 1 ≤ turns
  go = let two = g.some in omega (arith, two)

  residues : (t k : ℕ) → step_of last t (k + last.turn) ≡ step_of last t k
  residues t k = ap (kept_step last t) (residue_same last.first turn k)

  module _ (x : Dating) (h : IsLeastDating net x) where
    row : (t k : ℕ) → t < length net.transitions → after < k → k ≤ after + rows.count → date_at rows t (k - after) ≡ x t k
    row t k l o m =
        let back : after + (k - after) ≡ k = omega (arith, o) in
        r.same x h t (k - after) l (omega (arith, o)) (omega (arith, m)) ∙ ap (x t) back

    moved : MovesUpTo (length net.transitions) x begin last.turn (after + rows.count) (step_of last)
    moved t l k a m =
        let i : ℕ = k - after in
        let back : after + i ≡ k = omega (arith, a) in
        let on : (k + turn) - after ≡ i + turn = omega (arith, a) in
        sym (row t (k + turn) l (omega (arith, a)) m)
        ∙ (ap (date_at rows t) on
        ∙ ((g.moves t l).moves i (omega (arith, a)) (omega (arith, a, m))
        ∙ (ap (λ z. move (step t z) (date_at rows t i)) back ∙ ap (move (step t k)) (row t k l (omega (arith, a)) (omega (arith, m))))))

    window : MovesInTurns net x begin last.turn (after + rows.count) (step_of last)
    window = record {
      at_least_one = some;
      two_turns = omega (arith, fits, one);
      tokens = λ i d l. let few = tokens i d l in omega (arith, few, fits);
      residues = residues;
      moves = moved;
    }

    -- a place whose tokens are in time in the rows is so by the dates
    place_on : (p : Place) → p.from.index < length net.transitions → p.to.index < length net.transitions → p.tokens ≤ most → IsPlaceInTime turns after rows last p
        → (k : ℕ) → after + rows.count < k + last.turn → k ≤ after + rows.count → IsInTimeAfter turns (step_of last) p k (available_at x p k) (x p.to.index k)
    place_on p from to few h k a m =
        let i : ℕ = k - after in
        let in_turn : IsInLastTurn rows turn i = record { past = omega (arith, a, fits); last = omega (arith, m) } in
        let before : after + (i - p.tokens) ≡ k - p.tokens = omega (arith, a, few, fits) in
        let here : after + i ≡ k = omega (arith, a, fits) in
        let there : (k - p.tokens) - after ≡ i - p.tokens = omega (arith, a, few, fits) in
        let token : available_at x p k ≡ delayed p.hold (date_at rows p.from.index (i - p.tokens)) =
        available_after initial_date x p k (date_at rows p.from.index (i - p.tokens)) (omega (arith, a, few, fits))
        (sym (row p.from.index (k - p.tokens) from (omega (arith, a, few, fits)) (omega (arith, m))) ∙ ap (date_at rows p.from.index) there) in
        let date : x p.to.index k ≡ date_at rows p.to.index i = sym (row p.to.index k to (omega (arith, a, fits)) m) in
        let in_time = (h.each i in_turn).at turns go (omega arith) in
        rw (token, date) (rw (before, here) at in_time)

    in_time : AreInTimeAfter turns net x last.turn (after + rows.count) (step_of last)
    in_time k a m =
        all_extended_in net (λ p. IsInTimeAfter turns step p k (available_at x p k) (x p.to.index k))
        (λ i d l. let ends = net_ends net ok i d l in place_on (get_or net.places i d) ends.0 ends.1 (tokens i d l) (g.left.places i d l) k a m)
        (λ t l. place_on (implicit_place t) l l one (g.left.implicit t l) k a m)

    released : (t k : ℕ) → IsInput net t → after + rows.count < k + last.turn → k ≤ after + rows.count
        → IsReleasedAfter turns (step_of last) (listed_pace net last.turn) t k (listed_releases net t k) (x t k)
    released t k input a m =
        let i : ℕ = k - after in
        let in_turn : IsInLastTurn rows turn i = record { past = omega (arith, a, fits); last = omega (arith, m) } in
        let here : after + i ≡ k = omega (arith, a, fits) in
        let date : date_at rows t i ≡ x t k = row t k (input_in net t input) (omega (arith, a, fits)) m in
        rw (here, date) at (((g.left.inputs t input).each i in_turn).at turns go (omega arith))

    jumped : MovesUpTo (length net.transitions) x begin last.turn ((after + rows.count) + turns * last.turn) (step_of last)
    jumped = listed_jump net (net_ends net ok) (lists_by_rule net ok) live x h begin turn end turns step (record {
      window = window;
      in_time = in_time;
      lists = let at : after + ((rows.count - turn) - turn) ≡ (end - turn) - turn = omega (arith, fits) in subst (λ z. All (GoesOnInTurns turn z) net.inputs) at g.lists;
      released = released;
    })

    kept : (t i : ℕ) → t < length net.transitions → i < last.turn → kept_date last t i ≡ x t (last.first + i)
    kept t i l m =
        let first = lt.first in
        let column = lt.columns.each t (rw r.width l) in
        let at : after + (((rows.count - turn) + 1) + i) ≡ last.first + i = omega (arith, first, fits) in
        column.same i m ∙ (r.same x h t (((rows.count - turn) + 1) + i) l (omega arith) (omega (arith, m, fits)) ∙ ap (x t) at)

    pub jump_is_run : IsRunOf (length net.transitions) x (run_of last.first last.turn (turns + 1) last.dates last.steps)
    jump_is_run =
        let first = lt.first in
        let more : (turns + 1) * turn ≡ turns * turn + turn = grind arith in
        read_off (length net.transitions) x step run
        (record {
          at_least_one = some;
          dates = λ t i l m. kept t i l m;
          steps = λ t i l m. ap (kept_step last t) (sym (residue_here last.first turn i m));
        })
        (λ t k l. residues t k) begin (end + turns * turn) (omega (arith, first, fits)) (omega (arith, first, more))
        (λ t l. jumped t l)

  pub jump_is_roomy : (x : Dating) → IsLeastDating net x → ((t k : ℕ) → t < length net.transitions → 1 ≤ k → k ≤ greatest_firing_number → IsDateWithin greatest_least_date (x t k))
      → after + rows.count + turns * last.turn ≤ greatest_firing_number → IsRoomy (run_of last.first last.turn (turns + 1) last.dates last.steps)
  jump_is_roomy x h dated few =
      let own = jump_is_run x h in
      let first = lt.first in
      record {
        some = some;
        room = λ t i j m n.
            ⊎_elim
            (λ (l : t < length net.transitions).
            let more = mul-le-mul_right turn n in
            let is : suc j * turn ≡ j * turn + turn = grind arith in
            let all : (turns + 1) * turn ≡ turns * turn + turn = grind arith in
            rw (own.dates t i l m) (rw (own.moves t i j l m n) at (dated t ((last.first + i) + j * turn) l (omega (arith, first, fits)) (omega (arith, first, m, more, is, all, few)))))
            (λ (l : length net.transitions ≤ t).
            let wide = lt.columns.wide in
            let width = r.width in
            let none : kept_date last t i ≡ Early = ap (λ z. get_or z i Early) (get_or_past last.dates t [] (omega (arith, l, wide, width))) in
            rw none tt)
            (cases_lt t (length net.transitions));
      }

  pub ends : end_of (run_of last.first last.turn (turns + 1) last.dates last.steps) ≡ after + rows.count + turns * last.turn
  ends =
      let first = lt.first in
      let all : (turns + 1) * turn ≡ turns * turn + turn = grind arith in
      omega (arith, first, all)

  pub jump_run : IsJumpRun net most after rows (run_of last.first last.turn (turns + 1) last.dates last.steps)
  jump_run =
      let first = lt.first in
      let long = g.long in
      let all : (turns + 1) * turn ≡ turns * turn + turn = grind arith in
      let back : (turns + 1) - 1 ≡ turns = omega arith in
      record {
        run = record {
          least = λ x h. jump_is_run x h;
          from = omega (arith, first, some);
          to = omega (arith, first, all);
        };
        begins = omega (arith, first, fits, one);
        long = rw ends (omega (arith, long));
        window = rw back (record {
          more = refl;
          some = some;
          first = first;
          fits = fits;
          moves = λ x h. jumped x h;
          in_time = λ i d l. record { each = (g.left.places i d l).each };
        });
      }
