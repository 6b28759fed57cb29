use Rattle.std.proofs.Common.{◌∙◌}
use Rattle.std.proofs.lemmas.Result.{err_from_is_err_and}
use Rattle.teg_files.specs.List.{list_text}
use Rattle.teg_files.proofs.WrittenLists.{cut_up, head_cut, list_written}
use Rattle.teg_files.proofs.listing.write_listing.Goals as goal

pub returns-in_err-write_all : goal.returns-in_err-write_all
returns-in_err-write_all g c = λ x h.
    let net = c.args.net.now in
    let a = g.W.Sink.state c.args.out.now in
    let d = g.W.Sink.state c.write_all.new.out in
    let e = c.in_err-write_all.field-0.0 in
    let p = err_from_is_err_and c.from_residual.result c.from_residual.ensures.1 in
    cut_up a d (list_text net x c.args.count) c.from_residual.result p.0 e p.1
    (head_cut net x c.args.count a d c.deref.result.now e (c.deref.ensures.value ∙ c.requires.listing.head) c.in_err-write_all.ensures)

pub returns : goal.returns
returns g c = λ x h.
    list_written c.args.net.now x c.args.count (g.W.Sink.state c.args.out.now) (g.W.Sink.state c.write_all.new.out) (g.W.Sink.state c.write_rows.new.out) c.deref.result.now c.write_rows.result
    (c.deref.ensures.value ∙ c.requires.listing.head) c.in_ok-write_all.ensures (c.write_rows.ensures x h)
