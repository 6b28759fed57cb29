use Rattle.std.proofs.Common.{◌≡◌, ℕ, Result, Ok, Err, IfOk, ap, ◌∙◌}
use Rattle.std.specs.Global.{Vec}
use Rattle.std.specs.Option.{option_copied}
use Rattle.teg_report.specs.Answering.{IsReadFrom, answer_in}
use Rattle.teg_report.specs.KeptAnswers.{IsAnswerKept, IsPlain, IsAnswerTold}
use Rattle.teg_report.specs.AnswerMeanings.{meant}
use Rattle.teg_report.specs.Reports.{text_of}
use Rattle.teg_report.proofs.ReadBack.{told_read}
use Rattle.teg_report.proofs.reports.report.Goals as goal

-- what holds of a value by two facts on it
by_both : {X E : Type 0} (P Q R : X → Type 0) (r : Result X E) → ((x : X) → P x → Q x → R x) → IfOk r P → IfOk r Q → IfOk r R
by_both P Q R (Ok x) f p q = f x p q
by_both P Q R (Err e) f p q = tt

pub returns-clause-told : goal.returns-clause-told
returns-clause-told c =
    let net = option_copied c.args.net in
    let mine = meant c.args.answer.now in
    let kept : IfOk c.text.result (λ _. IsPlain mine → IsAnswerKept mine) = c.text.ensures.kept in
    by_both (λ (_ : Vec ℕ). IsPlain mine → IsAnswerKept mine) (λ (_ : Vec ℕ). IsPlain mine → IsAnswerKept mine) (λ (_ : Vec ℕ). IsPlain mine → IsAnswerTold net mine) c.text.result
    (λ _ h _ plain. record { keeps_rules = c.know_rules.ensures; about = c.requires; kept = h plain }) kept kept

pub returns-clause-read_back : goal.returns-clause-read_back
returns-clause-read_back c =
    let net = option_copied c.args.net in
    let mine = meant c.args.answer.now in
    by_both
    (λ (text : Vec ℕ). text.items ≡ text_of net mine)
    (λ (text : Vec ℕ). IsPlain mine → IsAnswerKept mine)
    (λ (text : Vec ℕ). IsPlain mine → IsReadFrom net mine text.items)
    c.text.result
    (λ text is kept plain names named. ap (answer_in names) is ∙ told_read net names named mine (record { keeps_rules = c.know_rules.ensures; about = c.requires; kept = kept plain }))
    c.text.ensures.text c.text.ensures.kept
