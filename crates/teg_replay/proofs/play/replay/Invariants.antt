use Rattle.std.proofs.Common.{◌≡◌, List, map, take, length}
use Rattle.teg_outside.specs.declared.monitor.Firing.{Firing}
use Rattle.teg_replay.specs.Games.{IsGameOf}
use Rattle.teg_replay.specs.Replays.{run_of, AreFiringsOf, WereShown}
use Rattle.teg_replay.proofs.play.replay.Given as goal

abbrev pub invariant-loop-row : goal.invariant-loop-row
invariant-loop-row g l = record {
  stands : IsGameOf l.net l.game;
  run : l.game.run ≡ run_of (take l.row-index l.log);
  accepted : l.accepted ≡ l.row-index;
  shown : (firings : List Firing) × (length firings ≡ l.row-index) × AreFiringsOf l.net l.log firings
      × WereShown (λ firings. map (λ m. (goal.Monitor-dyn g (m.vtable, m.value)).line_text m.value firings) l.initial.monitors)
      (λ firings. map (λ m. (goal.Monitor-dyn g (m.vtable, m.value)).line_text m.value firings) l.monitors) firings;
}
