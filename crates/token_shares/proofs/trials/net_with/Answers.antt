use Rattle.std.proofs.Common.{◌≡◌, false, rules}
use Rattle.std.specs.Prelude.{IsTrue}
use Rattle.token_shares.proofs.Trying.{more, no_room}
use Rattle.token_shares.proofs.trials.net_with.Goals as goal

pub returns-then-not-add-clause-none : goal.returns-then-not-add-clause-none
returns-then-not-add-clause-none c =
    let no : c.add.result ≡ false = search rules in
    no_room c.args.plain.now c.args.places.now c.args.numbers.now c.requires.places c.requires.count c.loop-index.index c.loop-index.trial c.loop-index-test.true
    c.loop-index.invariant (c.add.ensures.no no)

pub loop-index-preserved : goal.loop-index-preserved
loop-index-preserved c =
    let yes : IsTrue c.add.result = search rules in
    more c.args.plain.now c.args.places.now c.args.numbers.now c.requires.places c.requires.count c.loop-index.index c.loop-index.trial c.loop-index-test.true
    c.loop-index.invariant c.add.new.trial (c.add.ensures.yes yes)
