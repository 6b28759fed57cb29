use Rattle.std.proofs.Common.{◌+◌, ◌++◌, ◌∷◌, ◌∙◌, [], get_or, refl, sym, ap}
use Rattle.std.proofs.lemmas.List.{get_or_default, length_push}
use Rattle.teg_due.specs.declared.rows.LogRow.{LogRow}
use Rattle.teg_replay.specs.Replays.{fired_of}
use Rattle.teg_replay.proofs.Shown.{shown_begins, shown_on}
use Rattle.teg_replay.proofs.Replaying.{no_row, firings_begin, firings_more, run_more, replay_refused, refused_named}
use Rattle.teg_replay.proofs.Failing.{refused_not_legal, refused_not_earliest}
use Rattle.teg_replay.proofs.play.replay.Goals as goal

pub loop-row-init : goal.loop-row-init
loop-row-init g c = record {
  stands = c.in-Ok.ensures.stands;
  run = c.in-Ok.ensures.empty;
  accepted = refl;
  shown = ([], refl, firings_begin c.args.net.now c.args.log.now, shown_begins _);
}

pub loop-row-preserved : goal.loop-row-preserved
loop-row-preserved g c =
    let net = c.args.net.now in
    let log = c.args.log.now in
    let i = c.loop-row.row-index in
    let l = c.loop-row-test.true in
    let h = c.loop-row.invariant in
    let row : LogRow = get_or log i no_row in
    let legal = rw h.run at c.in-Ok-fire.ensures.legal in
    let told = rw h.run at c.in-Ok-fire.ensures.told in
    record {
      stands = c.in-Ok-fire.ensures.stands;
      run = c.in-Ok-fire.ensures.appended ∙ (ap (λ r. r ++ fired_of row ∷ []) h.run ∙ sym (run_more log i no_row l));
      accepted = ap (λ n. n + 1) h.accepted;
      shown = (
        h.shown.0 ++ c.in-Ok-fire.firing ∷ [],
        length_push h.shown.0 c.in-Ok-fire.firing ∙ ap (λ n. n + 1) h.shown.1,
        firings_more net log h.shown.0 i row c.in-Ok-fire.firing h.shown.2 h.shown.1 l (λ d. get_or_default log i d no_row l) legal told,
        shown_on _ _ _ h.shown.0 c.in-Ok-fire.firing h.shown.3 c.show_each.ensures,
      );
    }

pub returns-in-Err-clause-replayed : goal.returns-in-Err-clause-replayed
returns-in-Err-clause-replayed g c =
    let log = c.args.log.now in
    let i = c.loop-row.row-index in
    let l = c.loop-row-test.true in
    let h = c.loop-row.invariant in
    replay_refused c.args.net.now log _ _ h.shown.0 i c.loop-row.accepted c.loop-row.game.run (get_or log i no_row) c.in-Err.why _ h.shown.2 h.shown.3 h.shown.1 h.accepted l
    (λ d. get_or_default log i d no_row l) h.run c.in-Err.ensures.refused c.refused.ensures.told c.refused.ensures.failed

pub returns-in-Err-clause-legal : goal.returns-in-Err-clause-legal
returns-in-Err-clause-legal g c =
    let log = c.args.log.now in
    let i = c.loop-row.row-index in
    let l = c.loop-row-test.true in
    let h = c.loop-row.invariant in
    refused_not_legal c.args.net.now log i c.loop-row.game.run (get_or log i no_row) c.in-Err.why c.refused.result l
    (λ d. get_or_default log i d no_row l) h.run c.in-Err.ensures.refused c.refused.ensures.failed

pub returns-in-Err-clause-earliest : goal.returns-in-Err-clause-earliest
returns-in-Err-clause-earliest g c =
    let log = c.args.log.now in
    let i = c.loop-row.row-index in
    let l = c.loop-row-test.true in
    let h = c.loop-row.invariant in
    refused_not_earliest c.args.net.now log i c.loop-row.game.run (get_or log i no_row) c.in-Err.why c.refused.result h.stands.rules l (λ d. get_or_default log i d no_row l) h.run
    c.in-Err.ensures.refused c.refused.ensures.failed

pub returns-in-Err-clause-named : goal.returns-in-Err-clause-named
returns-in-Err-clause-named g c =
    refused_named c.args.net.now c.loop-row.game.run
    (get_or c.args.log.now c.loop-row.row-index no_row) c.loop-row.accepted c.in-Err.why c.refused.result c.in-Err.ensures.refused c.refused.ensures.told

pub returns-in_default-clause-replayed : goal.returns-in_default-clause-replayed
returns-in_default-clause-replayed g c = ([], firings_begin c.args.net.now c.args.log.now, shown_begins _)
