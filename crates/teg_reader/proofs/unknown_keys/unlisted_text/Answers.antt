use Rattle.std.proofs.Common.{Some, string_bytes, option_map, not, ap, ◌∙◌}
use Rattle.teg_reader.specs.UnknownKeys.{is_field}
use Rattle.teg_reader.proofs.KeyLemmas.{least_key}
use Rattle.teg_reader.proofs.unknown_keys.unlisted_text.Goals as goal

pub returns-in-Some : goal.returns-in-Some
returns-in-Some c =
    let found = c.in-Some.ensures.first in
    ap Some c.as_str.ensures.value ∙ (ap (option_map string_bytes) found ∙ least_key (λ k. not (is_field c.args.fields.now k)) c.args.table.now.entries c.in-Some.ensures.ordered)

pub returns-in-None : goal.returns-in-None
returns-in-None c =
    let found = c.in-None.ensures.first in
    ap (option_map string_bytes) found ∙ least_key (λ k. not (is_field c.args.fields.now k)) c.args.table.now.entries c.in-None.ensures.ordered
