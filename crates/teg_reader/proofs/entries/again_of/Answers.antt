use Rattle.std.proofs.Common.{◌≡◌, ◌≤◌, Bor, Some, option_map, ap, sym, ◌∙◌, arith}
use Rattle.toml.specs.declared.value.Value.{Value}
use Rattle.toml.specs.View.{view}
use Rattle.teg_reader.specs.declared.keys.Key.TheVariants as key
use Rattle.teg_reader.specs.DocumentTrees.{data_at, as_number}
use Rattle.teg_reader.proofs.SoundLemmas.{every_within}
use Rattle.teg_reader.proofs.entries.again_of.Goals as goal

pub overflow_cast-result : goal.overflow_cast-result
overflow_cast-result c =
    let found : data_at key.Every (view c.args.entry.now) ≡ Some (view c.in-Some.every.now) = sym c.value_at.ensures ∙ ap (option_map (λ (v : Bor Value). view v.now)) c.in-Some.is in
    let small : as_number (view c.in-Some.every.now) ≤ 1000 = every_within (view c.args.entry.now) (view c.in-Some.every.now) c.requires found in
    omega (arith, c.as_number.ensures.value)
