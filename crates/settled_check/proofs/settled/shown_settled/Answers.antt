use Rattle.std.proofs.Common.{rules, ◌≡◌, ℕ, IsTrue, refl, sym, ap, ◌∙◌, length, string_bytes}
use Rattle.teg_net.specs.Circuits.{IsLive}
use Rattle.teg_text.specs.Lines.{written}
use Rattle.settled_certificates.specs.SettledRows.{form_by_rows, SettlesAs}
use Rattle.settled_check.specs.ShownForms.{lines_of_form}
use Rattle.settled_check.proofs.settled.shown_settled.Goals as goal

pub returns : goal.returns
returns c =
    let net = c.args.net.now in
    let told = c.in-Some.told in
    let dates = c.as_slice-dates.result.now in
    let steps = c.as_slice-steps.result.now in
    let same : string_bytes c.in_ok-lines.lines ≡ c.args.text.now = search rules in
    let sure : IsTrue c.in_ok-check_shortest.field-0 = search rules in
    let live : IsLive net = c.in_ok-is_seen_live.ensures.0 (search rules) in
    let settles : SettlesAs net told.after told.period dates steps = c.in_ok-check_shortest.ensures.settled live sure in
    let wide = ap length c.transitions.ensures.value in (
      form_by_rows (length net.transitions) dates told.after told.period steps,
      refl,
      refl,
      sym same ∙ (c.in_ok-lines.ensures ∙ ap (λ (n : ℕ). written (lines_of_form net (form_by_rows n dates told.after told.period steps))) wide),
      live,
      record { stands = settles.stands; tells = settles.tells; shortest = c.in_ok-check_shortest.ensures.shortest live sure },
    )
