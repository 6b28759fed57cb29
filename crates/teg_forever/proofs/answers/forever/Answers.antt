use Rattle.teg_forever.proofs.Gathered.{all_releases}
use Rattle.teg_forever.proofs.Residues.{each_ok}
use Rattle.teg_forever.proofs.answers.forever.Goals as goal

pub new-due-requires : goal.new-due-requires
new-due-requires c = record {
  ranked = record {
    rules = c.transitions.ensures.rules;
    stands = c.requires.stands;
    is_live = c.ranked_nets_are_live.ensures c.args.net.now c.args.live.now c.requires.stands;
    ends = c.requires.rows;
  };
  lists = c.in_ok-leaving.ensures;
}

pub returns-clause-releases : goal.returns-clause-releases
returns-clause-releases c =
    let releases = rw c.new-due.ensures at c.releases_of.ensures.releases in
    each_ok c.releases_of.result _ _ releases
    (λ releases h. all_releases c.args.net.now c.args.rows.now releases.items c.latest_at_inputs_are_latest.ensures
    c.transitions.ensures.rules (c.ranked_nets_are_live.ensures c.args.net.now c.args.live.now c.requires.stands) h)
