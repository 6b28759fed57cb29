use Rattle.std.proofs.Common.{map, string_bytes}
use Rattle.teg_request.specs.Requests.{request_of}
use Rattle.teg_run.proofs.Showing.{words_lost}
use Rattle.teg_run.proofs.call.serve_words.Goals as goal

pub returns-in-Ok-Some : goal.returns-in-Ok-Some
returns-in-Ok-Some g c =
    let asks = rw c.in-Ok-Some.field-0-is at c.in-Ok-Some.ensures in
    rw (← asks) c.serve_request.ensures

pub returns-in-Err : goal.returns-in-Err
returns-in-Err g c = words_lost (request_of (map string_bytes c.args.words.now)) _ _ _ _ _ c.finish-in-Err.ensures
