use Rattle.std.proofs.Common.{◌≡◌, ℕ, bytes_eq, map, sym, ◌∙◌, ap}
use Rattle.std.proofs.lemmas.Bool.{false≢true}
use Rattle.std.specs.List.{position_or_len}
use Rattle.std.specs.Map.Iter.{deref}
use Rattle.teg_net.specs.declared.entries.TransitionId.{TransitionId}
use Rattle.teg_reader.specs.NetOf.{id_of}
use Rattle.teg_reader.proofs.NumberLemmas.{any_deref, position_deref, position_found}
use Rattle.teg_reader.proofs.numbers.number_of.Goals as goal

pub unreachable-requires : goal.unreachable-requires
unreachable-requires c =
    let found = c.get_index_of.ensures.found ∙ (any_deref c.args.text.now c.args.names.now.keys ∙ c.requires.known) in
    false≢true (rw c.in-None.is at found)

pub returns : goal.returns
unfolding id_of
returns c =
    let there : position_or_len (bytes_eq c.args.text.now) (map deref c.args.names.now.keys) ≡ c.in-Some.index =
    sym (position_deref c.args.text.now c.args.names.now.keys)
    ∙ position_found (λ k. bytes_eq c.args.text.now k.now) c.args.names.now.keys c.in-Some.index (sym c.get_index_of.ensures.index ∙ c.in-Some.is) in
    let id : ℕ → TransitionId = λ n. record { index = n } in
    ap id (sym there)
