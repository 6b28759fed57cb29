use Rattle.std.proofs.Common.{rules, ◌≡◌, [], ◌∙◌, codes, drop, get_or, map, string_bytes}
use Rattle.teg_report.specs.UsageLines.{command_form, commands}
use Rattle.teg_report.proofs.TextsWritten.{usage_joined}
use Rattle.teg_report.proofs.usage.usage.Goals as goal

pub returns : goal.returns
returns c =
    let bytes : c.into_bytes.result.items ≡ string_bytes c.push_uses.new.text = search rules in
    bytes ∙ usage_joined (codes "usage:") (get_or (map command_form commands) 0 [])
    (drop 1 (map command_form commands)) _ _ _ c.new-text.ensures.bytes c.in_ok-push_use.ensures c.in_ok-push_uses.ensures
