use Rattle.std.proofs.Common.{rules, ◌≡◌, sym, ◌∙◌, string_bytes}
use Rattle.std.proofs.lemmas.Bool.{iff_false}
use Rattle.teg_net.specs.Circuits.{IsLive}
use Rattle.answer_check.proofs.refuted_list.is_other_list.Goals as goal

pub returns : goal.returns
returns c =
    let net = c.args.net.now in
    let live : IsLive net = c.in_ok-is_seen_live.ensures.0 (search rules) in (
      λ yes. (let same : string_bytes c.in_ok-lines.lines ≡ c.args.text.now = search rules in
          record {
            live = live;
            rows = c.are_rows.ensures.0 (search rules);
            told = sym same ∙ c.in_ok-lines.ensures;
            other = iff_false (c.in_ok-check_rows.ensures.first live) (search rules);
          }),
      λ h. (let same : string_bytes c.in_ok-lines.lines ≡ c.args.text.now = c.in_ok-lines.ensures ∙ sym h.told in search rules),
    )
