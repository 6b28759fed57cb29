use Rattle.teg_files.proofs.WrittenLists.{told_whole, told_cut}
use Rattle.teg_files.proofs.listing.write_list.Goals as goal

pub returns-in-Ok-write_listing : goal.returns-in-Ok-write_listing
returns-in-Ok-write_listing g c =
    let least = c.in-Ok.ensures.exists in
    told_whole c.args.net.now c.net.result.now least.0 c.args.count (g.W.Sink.state c.args.out.now) (g.W.Sink.state c.write_listing.new.out) c.net.ensures.net least.1 c.in-Ok-write_listing.ensures

pub returns-in-Err-Failed : goal.returns-in-Err-Failed
returns-in-Err-Failed g c =
    let least = c.in-Ok.ensures.exists in
    told_cut c.args.net.now c.net.result.now least.0 c.args.count (g.W.Sink.state c.args.out.now) (g.W.Sink.state c.write_listing.new.out) c.in-Err-Failed.field-0 c.net.ensures.net least.1
    c.in-Err-Failed.ensures
