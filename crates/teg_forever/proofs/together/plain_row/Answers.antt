use Rattle.teg_forever.proofs.AloneRows.{ranking_without}
use Rattle.teg_forever.proofs.together.plain_row.Goals as goal

pub new-requires : goal.new-requires
new-requires c =
    let a = c.args.due.now in
    let given = c.net.ensures.given in
    let stands = ranking_without a.net c.args.plain.now c.requires.plain a.ranks given.stands in
    rw (c.net.ensures.value, c.live.ensures) (record {
      live = record { rules = given.rules; is_live = given.is_live; ends = c.row.ensures.rules };
      plain_is = c.requires.plain;
      plain_live = c.ranked_nets_are_live.ensures c.args.plain.now a.ranks stands;
      stands = stands;
    })
