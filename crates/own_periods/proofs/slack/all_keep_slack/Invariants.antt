use Rattle.std.proofs.Common.{ℕ, ◌<◌, get_or}
use Rattle.teg_net.specs.declared.entries.Place.{Place}
use Rattle.own_periods.specs.OwnRows.{KeepsOwnSlack}
use Rattle.own_periods.proofs.slack.all_keep_slack.Given as goal

abbrev pub invariant-loop-place : goal.invariant-loop-place
invariant-loop-place l = (i : ℕ) (d : Place) → i < l.place-index → KeepsOwnSlack l.of.rows.now l.of.pace l.of.owns.now (get_or l.place-items i d)
