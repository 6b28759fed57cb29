use Rattle.std.proofs.Common.{rules, ◌≡◌, ◌+◌, ℕ, ap, refl}
use Rattle.answer_check.specs.ShownLists.{IsRefutedList, IsShownIfList}
use Rattle.pace_audit.proofs.alone.wrong_list_finding.Goals as goal

pub returns-in-Some : goal.returns-in-Some
returns-in-Some c =
    let net = c.args.net.now in
    let text = c.args.text.now in
    let same : c.from.result ≡ c.in-Some.row = search rules in
    let refuted : IsRefutedList net text c.in-Some.row = rw c.in-Some.is at c.in_ok-row.ensures.row in
    let not_shown = rw c.in-Some.is at c.in_ok-row.ensures.not_shown in
    (c.in-Some.row, ap (λ (n : ℕ). n + 1) same, refuted, λ shown. not_shown refl shown.0 shown.1)

pub returns-in-None : goal.returns-in-None
returns-in-None c =
    let shown : IsShownIfList c.args.net.now c.args.text.now = rw c.in-None.is at c.in_ok-row.ensures.row in
    λ live count words list. c.requires count list.few (shown live count words list)
