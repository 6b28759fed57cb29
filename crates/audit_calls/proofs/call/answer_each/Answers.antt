use Rattle.std.proofs.Common.{◌≡◌, List, [], map, slice_index_or, ap, sym, ◌∙◌, string_bytes, String, Global, Bor}
use Rattle.std.proofs.lemmas.List.{get_or-map}
use Rattle.audit_calls.proofs.Further.{one_more}
use Rattle.audit_calls.proofs.call.answer_each.Goals as goal

pub loop-index-preserved : goal.loop-index-preserved
loop-index-preserved g c =
    let questions = c.args.questions.now in
    let k = c.loop-index.index in
    let read = c.index-questions-index.result in
    let words = λ (x : Bor (List (String Global))). x.now in
    let same : slice_index_or (map words questions) k [] ≡ read.now =
    get_or-map words questions k read [] c.loop-index-test.true ∙ sym (ap words c.index-questions-index.is) in
    let told = c.in_ok-last.ensures in
    one_more g.A.Auditor.finds (map words questions) k read.now
    (g.S.Shelf.state c.args.shelf.now) (g.S.Shelf.state c.loop-index.shelf) (g.S.Shelf.state c.answer_words.new.shelf)
    c.loop-index.status c.in_ok-last.last _ (string_bytes c.loop-index.text) told.0 _ same c.loop-index.invariant told.2 c.graver-status.ensures told.1
