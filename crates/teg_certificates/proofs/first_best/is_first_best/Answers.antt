use Rattle.teg_certificates.proofs.NamedRatios.{none_named, named_none}
use Rattle.teg_certificates.proofs.first_best.is_first_best.Goals as goal

pub returns-in-None : goal.returns-in-None
returns-in-None c =
    let answers = c.args.answers.now in
    rw c.in-None.is (
      λ t. none_named answers (c.none_told.ensures.0 t),
      λ h. c.none_told.ensures.1 (named_none answers h),
    )
