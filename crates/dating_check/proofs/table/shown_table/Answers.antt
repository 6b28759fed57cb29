use Rattle.std.proofs.Common.{rules, ◌≡◌, ℕ, IsTrue, List, length, refl, sym, ap, subst, ◌∙◌, string_bytes}
use Rattle.teg_due.specs.declared.rows.DueRow.{DueRow}
use Rattle.teg_text.specs.Lines.{written}
use Rattle.dating_check.specs.DueNumbers.{IsGreatestNumber}
use Rattle.dating_check.specs.ShownTables.{AreAttained, table_told_lines}
use Rattle.dating_check.proofs.table.shown_table.Goals as goal

pub returns : goal.returns
returns c =
    let net = c.args.net.now in
    let due = c.args.due.now.rows.items in
    let told = c.in-Some.told in
    let dates = c.as_slice-dates.result.now in
    let ways = c.as_slice-ways.result.now in
    let live = c.in_ok-is_seen_live.ensures.0 (search rules) in
    let same : string_bytes c.in_ok-lines.lines ≡ c.args.text.now = search rules in
    let sure : IsTrue c.in_ok-check_plan.field-0 = search rules in
    let greatest : IsGreatestNumber due told.numbers = search rules in
    let wide = ap length c.transitions.ensures.value in
    let steps : AreAttained net due told.numbers (length net.transitions) dates ways =
    subst (λ (n : ℕ). AreAttained net due told.numbers n dates ways) wide
    (subst (λ (l : List DueRow). AreAttained net l told.numbers (length c.transitions.result.now) dates ways) c.as_slice-listed.ensures.value (c.if-not-are_attained.ensures refl)) in
    record {
      live = live;
      greatest = greatest;
      table = (
        dates,
        ways,
        record {
          told = sym same ∙ (c.in_ok-lines.ensures ∙ ap (λ (n : ℕ). written (table_told_lines net n told.numbers dates ways)) wide);
          steps = steps;
          plan = λ list listed. record { rows = (c.in_ok-check_plan.ensures.plan live list listed).0 sure; inputs = c.in_ok-check_plan.ensures.inputs live list listed sure };
        },
      );
    }
