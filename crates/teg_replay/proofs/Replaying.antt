-- One more row of a log.
use Rattle.std.proofs.Common.{ℕ, ◌+◌, ◌<◌, ◌≤◌, ◌≡◌, List, [], ◌∷◌, ◌++◌, length, take, get_or, sym, ap, ◌∙◌, arith, ⊎_elim}
use Rattle.std.proofs.lemmas.Bool.{cases_lt}
use Rattle.std.proofs.lemmas.List.{take_more, map-append, length_push, get_or_append_left, get_or_push}
use Rattle.teg_net.specs.Nets.{NetLists}
use Rattle.teg_outside.specs.declared.monitor.Firing.{Firing}
use Rattle.run_laws.specs.declared.fired.Fired.{Fired}
use Rattle.teg_due.specs.declared.rows.LogRow.{LogRow}
use Rattle.teg_replay.specs.declared.replayed.Replayed.{Replayed}
use Rattle.std.specs.Prelude.{Result, Ok, Err, Some, IfOk, IfSome}
use Rattle.teg_replay.specs.declared.refusal.FireRefusal.{FireRefusal}
use Rattle.teg_replay.specs.declared.refusal.FireRefusal.TheVariants.{Illegal, BackInTime, BeforeRelease, OutOfMemory}
use Rattle.run_laws.specs.Runs.{IsLegalAfter}
use Rattle.teg_replay.specs.RefusedFirings.{Fails, IsRightFireRefusal, IsFailure, NamesPlaceOf}
use Rattle.teg_replay.specs.Firings.{IsFiringOf}
use Rattle.teg_replay.specs.Replays.{fired_of, run_of, AreFiringsOf, WereShown, Replays}
use Rattle.run_laws.proofs.Prefixes.{legal_begins, legal_push}

abbrev pub no_row : LogRow
no_row = record { row = 0; transition = record { index = 0 }; date = 0 }

pub firings_begin : (net : NetLists) (rows : List LogRow) → AreFiringsOf net rows []
firings_begin net rows = record {
  within = omega arith;
  legal = legal_begins net;
  told = λ i row firing l. absurd (omega arith);
}

pub run_more : (rows : List LogRow) (i : ℕ) (d : LogRow) → i < length rows → run_of (take (i + 1) rows) ≡ run_of (take i rows) ++ fired_of (get_or rows i d) ∷ []
run_more rows i d l = rw (take_more rows i d l) (map-append fired_of (take i rows) (get_or rows i d ∷ []))

pub firings_more : (net : NetLists) (rows : List LogRow) (firings : List Firing) (i : ℕ) (row : LogRow) (firing : Firing) → AreFiringsOf net rows firings → length firings ≡ i → i < length rows
    → ((d : LogRow) → get_or rows i d ≡ row) → IsLegalAfter net (run_of (take i rows)) (fired_of row) → IsFiringOf net (run_of (take i rows)) (fired_of row) firing
    → AreFiringsOf net rows (firings ++ firing ∷ [])
firings_more net rows firings i row firing h e l is g t =
    let long : length (firings ++ firing ∷ []) ≡ i + 1 = length_push firings firing ∙ ap (λ n. n + 1) e in
    record {
      within = rw long (omega arith);
      legal = rw (long, run_more rows i no_row l, is no_row) (legal_push net (run_of (take i rows)) (fired_of row) (rw e at h.legal) g);
      told = λ j d f m.
          ⊎_elim
          (λ (q : j < length firings). rw (get_or_append_left firings (firing ∷ []) f j q) (h.told j d f q))
          (λ (q : length firings ≤ j).
          let one : j ≡ i = omega (arith, m, long, e, q) in
          let last : length firings ≡ j = e ∙ sym one in
          rw (get_or_push firings firing f j last, one, is d) t)
          (cases_lt j (length firings));
    }

-- a refusal other than want of memory is a failure
pub right_fails : (net : NetLists) (run : List Fired) (f : Fired) (why : FireRefusal) → IsRightFireRefusal net run f why → IsFailure why → Fails net run f why
right_fails net run f (Illegal id date) h n = h
right_fails net run f (BackInTime last) h n = h
right_fails net run f (BeforeRelease release) h n = h
right_fails net run f OutOfMemory h n = absurd n

-- the answer where the row is refused
pub replay_refused : {E : Type 0} (net : NetLists) (rows : List LogRow) (before now : List Firing → List (List ℕ))
    (firings : List Firing) (i accepted : ℕ) (run : List Fired) (row : LogRow) (why : FireRefusal) (result : Result Replayed E)
    → AreFiringsOf net rows firings → WereShown before now firings → length firings ≡ i → accepted ≡ i → i < length rows → ((d : LogRow) → get_or rows i d ≡ row) → run ≡ run_of (take i rows)
    → IsRightFireRefusal net run (fired_of row) why
    → IfOk result (λ replayed. replayed ≡ record { accepted = accepted; refused = Some (record { row = row.row; why = why }) }) → IfOk result (λ _. IsFailure why) → Replays net rows before now result
replay_refused net rows before now firings i accepted run row why (Ok replayed) h shown e a l is r right told failed =
    rw told (
      firings,
      record {
        accepted = a ∙ sym e;
        told = h;
        ends = rw e (record {
          in_range = l;
          number = λ d. ap (λ x. x.row) (sym (is d));
          fails = λ d. rw (is d, ← r) (right_fails net run (fired_of row) why right failed);
        });
      },
      shown,
    )
replay_refused net rows before now firings i accepted run row why (Err x) h shown e a l is r right told failed = (firings, h, shown)

names_place : (net : NetLists) (run : List Fired) (f : Fired) (why : FireRefusal) → IsRightFireRefusal net run f why → NamesPlaceOf net why
names_place net run f (Illegal id date) h = h.in_range
names_place net run f (BackInTime last) h = tt
names_place net run f (BeforeRelease release) h = tt
names_place net run f OutOfMemory h = tt

-- and the place that it names
pub refused_named : {E : Type 0} (net : NetLists) (run : List Fired) (row : LogRow) (accepted : ℕ) (why : FireRefusal) (result : Result Replayed E) → IsRightFireRefusal net run (fired_of row) why
    → IfOk result (λ replayed. replayed ≡ record { accepted = accepted; refused = Some (record { row = row.row; why = why }) })
    → IfOk result (λ replayed. IfSome replayed.refused (λ refused. NamesPlaceOf net refused.why))
refused_named net run row accepted why (Ok replayed) right told = rw told (names_place net run (fired_of row) why right)
refused_named net run row accepted why (Err x) right told = tt
