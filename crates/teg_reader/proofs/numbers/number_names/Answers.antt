use Rattle.std.proofs.Common.{◌≡◌, ◌++◌, ◌∷◌, [], false, bytes_eq, sym, ◌∙◌}
use Rattle.std.proofs.lemmas.Bool.{false≢true}
use Rattle.std.specs.List.{list_any}
use Rattle.teg_reader.proofs.NumberLemmas.{TextKey, was_new, grown, repeats_here, all_more}
use Rattle.teg_reader.proofs.numbers.number_names.Goals as goal

pub unreachable-requires : goal.unreachable-requires
unreachable-requires c =
    let twice = repeats_here c.args.entries.now c.loop-entry.entry-index c.entry-item.result c.loop-entry.names.keys c.text_at-name.result _ _ c.loop-entry-test.true c.entry-item.is
    c.text_at-name.ensures c.in_ok-is_new.ensures.added c.if-not-is_new.true c.loop-entry.invariant in
    false≢true (sym twice ∙ c.requires)

pub loop-entry-preserved : goal.loop-entry-preserved
loop-entry-preserved c =
    let new : list_any (λ (k : TextKey). bytes_eq c.text_at-name.result.now k.now) c.loop-entry.names.keys ≡ false = was_new _ _ c.in_ok-is_new.ensures.added c.if-not-is_new.false in
    let keys : c.insert_full.new.self.keys ≡ c.loop-entry.names.keys ++ c.text_at-name.result ∷ [] = grown _ _ _ _ c.in_ok-is_new.ensures.keys new in
    rw keys (all_more c.args.entries.now c.loop-entry.entry-index c.entry-item.result c.loop-entry.names.keys c.text_at-name.result _
    c.loop-entry-test.true c.entry-item.is c.text_at-name.ensures c.loop-entry.invariant)
