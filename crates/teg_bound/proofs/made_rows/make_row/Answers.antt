use Rattle.std.proofs.Common.{◌≡◌, length, sym, ap, ◌∙◌}
use Rattle.std.specs.Vec.{with_items}
use Rattle.std.proofs.lemmas.List.{with_items_is}
use Rattle.teg_bound.proofs.made_rows.make_row.Goals as goal

pub returns-clause-made : goal.returns-clause-made
returns-clause-made c =
    let row = c.write_next.new.row in
    let is = c.write_next.ensures.row in
    let whole : length row ≡ length c.args.net.now.transitions = (is.same is.exists.0 is.exists.1).full in
    let room = c.args.rows.now.row in
    let items : (with_items room row).items ≡ row = with_items_is room row (whole ∙ (sym c.requires.made.full ∙ sym room.ok.0)) in
    record { stream = c.write_next.ensures.stands; full = ap length items ∙ whole }
