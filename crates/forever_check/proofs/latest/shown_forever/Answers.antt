use Rattle.std.proofs.Common.{ℕ, List, All, ◌≡◌, subst}
use Rattle.teg_net.specs.declared.entries.InputList.{InputList}
use Rattle.teg_net.specs.Nets.{NetLists, IsNet}
use Rattle.teg_model.specs.Datings.{listed_releases}
use Rattle.teg_model.proofs.OfNet.{net_ends}
use Rattle.due_laws.specs.MeetingDueDates.{InputsMeet}
use Rattle.endless_due.specs.EndlessRows.{due_on}
use Rattle.forever_check.specs.ShownReleases.{IsShortestList}
use Rattle.forever_check.specs.ReleaseWalks.{IsMeetingNet, IsReleaseShown}
use Rattle.forever_check.proofs.LatestReleases.{are_latest}
use Rattle.forever_check.proofs.latest.shown_forever.Goals as goal

pub returns : goal.returns
returns c = λ yes.
    let net : NetLists = c.args.net.now in
    let rows = c.args.rows.now in
    let released : NetLists = c.in-Some.released in
    let m : IsMeetingNet net rows c.args.text.now released = rw c.in-Some.is at c.in_ok-released.ensures in
    let lists : List InputList = released.inputs in
    let each : All (IsReleaseShown net rows) lists = rw c.inputs-lists.ensures.value at (c.in_ok-latest.ensures yes) in
    let meet = subst (λ (n : NetLists). InputsMeet net (due_on rows) (listed_releases n)) m.is m.meet in
    let latest = are_latest net lists (subst IsNet m.is m.rules) rows (net_ends net c.rules.ensures) m.releases meet each in
    record {
      live = m.live;
      due = m.due;
      lists = lists;
      releases = m.releases;
      told = m.told;
      latest = latest.0;
      dates = latest.1;
      shortest = subst (λ (ls : List InputList). All IsShortestList ls) c.inputs-lists.ensures.value (c.are_shortest.ensures c.if-not-are_shortest.false);
    }
