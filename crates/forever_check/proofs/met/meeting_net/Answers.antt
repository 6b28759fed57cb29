use Rattle.std.proofs.Common.{ℕ, List, Option, ◌≡◌, sym, ap, subst, ◌∙◌}
use Rattle.teg_net.specs.declared.entries.InputList.{InputList}
use Rattle.teg_net.specs.Nets.{NetLists}
use Rattle.teg_model.specs.Datings.{listed_releases}
use Rattle.due_laws.specs.MeetingDueDates.{InputsMeet}
use Rattle.endless_due.specs.EndlessRows.{due_on}
use Rattle.forever_check.specs.ShownReleases.{with_lists}
use Rattle.forever_check.proofs.Released.{meet_in}
use Rattle.forever_check.proofs.met.meeting_net.Goals as goal

pub returns : goal.returns
returns c =
    let net : NetLists = c.args.net.now in
    let due : ℕ → ℕ → Option ℕ = due_on c.args.rows.now in
    let made : c.in-Some-2.released ≡ with_lists net c.in-Some.lists.items = rw c.in-Some-2.is at c.in_ok-released.ensures in
    let lists : List InputList = c.in-Some-2.released.inputs in
    let same : lists ≡ c.in-Some.lists.items = ap (λ (n : NetLists). n.inputs) made in
    let is : c.in-Some-2.released ≡ with_lists net lists = made ∙ ap (with_lists net) (sym same) in
    record {
      rules = c.rules.ensures;
      is = is;
      live = c.in_ok-is_seen_live.ensures.0 c.if-not-branch.false;
      due = c.is_endless_of.ensures.0 c.if-not-is_endless_of.false;
      releases = rw c.inputs.ensures.value at (c.in_ok-tells_lists.ensures.releases c.if-not-branch-2.false);
      told = rw c.inputs.ensures.value at (c.in_ok-tells_lists.ensures.told c.if-not-branch-2.false);
      meet = subst (λ (n : NetLists). InputsMeet net due (listed_releases n)) (sym is)
          (meet_in net lists (listed_releases (with_lists net lists)) due
          (subst (λ (n : NetLists). InputsMeet n due (listed_releases n)) is (c.in_ok-is_seen_kept.ensures c.if-not-branch-3.false)));
    }
