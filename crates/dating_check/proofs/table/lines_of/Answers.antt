use Rattle.std.proofs.Common.{ℕ, ◌≡◌, List, [], ◌∷◌, ◌++◌, codes, length, refl, ap, sym, ◌∙◌, string_bytes, arith}
use Rattle.std.specs.Fmt.{decimal}
use Rattle.std.specs.List.{flat_map, range_with_len}
use Rattle.teg_text.specs.Lines.{line_then, written}
use Rattle.teg_text.proofs.Joining.{line_append, written_flat_map}
use Rattle.teg_text.proofs.Listing.{more_after}
use Rattle.dating_check.specs.ShownTables.{firing_lines}
use Rattle.dating_check.proofs.table.lines_of.Goals as goal

pub loop-index-preserved : goal.loop-index-preserved
loop-index-preserved c =
    let rows = c.args.rows in
    let k = c.loop-index.index in
    more_after (λ t. written (firing_lines c.args.net.now rows.width rows.numbers rows.dates.now rows.ways.now t)) _ _ _ _ 0 k k (omega arith) c.in_ok-push_firings.ensures refl c.loop-index.invariant

pub returns : goal.returns
returns c =
    let net = c.args.net.now in
    let rows = c.args.rows in
    let lines = firing_lines net rows.width rows.numbers rows.dates.now rows.ways.now in
    let count = length net.transitions in
    let words = codes "latest" ∷ codes "inputs" ∷ codes "for" ∷ decimal rows.numbers ∷ codes "firings" ∷ [] in
    let all : c.loop-index.index ≡ count = omega (arith, c.loop-index-test.false, c.loop-index.auto.index-end, ap length c.transitions-index-end.ensures.value) in
    let head : string_bytes c.in_ok-text.text ≡ line_then words [] = c.in_ok-text.ensures.ok in
    rw all at c.loop-index.invariant
    ∙ (ap (λ (l : List ℕ). l ++ flat_map (λ t. written (lines t)) (range_with_len 0 count)) head
    ∙ (ap (λ (l : List ℕ). line_then words [] ++ l) (sym (written_flat_map lines (range_with_len 0 count)))
    ∙ sym (line_append words (written (flat_map lines (range_with_len 0 count))))))
