use Rattle.std.proofs.Common.{map, string_bytes}
use Rattle.teg_request.specs.Requests.{request_of}
use Rattle.teg_run.specs.ShownFirings.{ShowsAsked}
use Rattle.teg_run.proofs.Showing.{serves_of}
use Rattle.teg_run.proofs.ShownFiles.{shows_told}
use Rattle.teg_run.proofs.call.serve.Goals as goal

pub returns-clause-runs : goal.returns-clause-runs
returns-clause-runs g c = serves_of _ (ShowsAsked (request_of (map string_bytes c.args.words.now)) _ _) _ _ _ _ _ _ c.serve_words.ensures

pub returns-clause-told : goal.returns-clause-told
returns-clause-told g c = shows_told _ _ c.serve_words.ensures
