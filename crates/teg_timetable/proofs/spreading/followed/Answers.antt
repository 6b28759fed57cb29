use Rattle.std.proofs.Common.{ℕ, ◌≡◌, List, sym, ap, subst, ◌∙◌}
use Rattle.std.proofs.lemmas.Result.{err_from_is_err_and}
use Rattle.delay_laws.specs.SettlingLaws.{AreSettledDelays}
use Rattle.teg_timetable.specs.DelayAnswers.{IsOutcomeIn, IsRightOutcome, IsSpread}
use Rattle.teg_timetable.specs.Spreads.{AreLeftDelays, LeftDelays, Spread, delay_left, outcome_told}
use Rattle.teg_timetable.proofs.Settling.{exceeds, left_delays, left_of, outcome_in, settled_left, spread_is}
use Rattle.teg_timetable.proofs.spreading.followed.Goals as goal

pub returns-in_err-settled-clause-refused : goal.returns-in_err-settled-clause-refused
returns-in_err-settled-clause-refused c =
    let p = c.args.planned.now in
    let why = err_from_is_err_and c.from_residual-in_err-settled.result c.from_residual-in_err-settled.ensures.1 in
    rw (why.1, why.2)
    (exceeds p.net.now p.period p.table.now p.kept c.in_ok-derived.derived c.args.limit c.in_ok-derived.ensures.tells c.in_err-settled.field-0.0 c.in_err-settled.ensures.refused)

pub new-left-requires : goal.new-left-requires
new-left-requires c =
    let p = c.args.planned.now in
    let f = c.in_ok-settled.settled in
    subst (λ (fs : List ℕ). AreLeftDelays (record { firsts = fs; every = p.period; form = f })) (sym c.in_ok-firsts.ensures)
    (left_delays p.net.now p.period p.table.now p.kept f (c.in_ok-derived.ensures.tells.forms f c.in_ok-settled.ensures.form) c.period.ensures.kept.short)

pub outcome-requires-clause-settled : goal.outcome-requires-clause-settled
outcome-requires-clause-settled c =
    let p = c.args.planned.now in
    let f = c.in_ok-settled.settled in
    let same : c.new-left.result ≡ left_of p.period p.table.now f = c.new-left.ensures ∙ ap (λ (fs : List ℕ). record { firsts = fs; every = p.period; form = f }) c.in_ok-firsts.ensures in
    subst (λ (z : LeftDelays). AreSettledDelays p.net.now p.period p.table.now (delay_left z) z.form.after z.form.period) (sym same)
    (settled_left p.net.now p.period p.table.now p.kept f (c.in_ok-derived.ensures.tells.forms f c.in_ok-settled.ensures.form))

pub returns-clause-spread : goal.returns-clause-spread
returns-clause-spread c =
    let p = c.args.planned.now in
    let f = c.in_ok-settled.settled in
    let told = outcome_told c.in_ok-outcome.outcome in
    let same : c.new-left.result ≡ left_of p.period p.table.now f = c.new-left.ensures ∙ ap (λ (fs : List ℕ). record { firsts = fs; every = p.period; form = f }) c.in_ok-firsts.ensures in
    subst (IsSpread p.net.now p.period p.table.now c.args.limit)
    (sym (c.new.ensures ∙ ap (λ (z : LeftDelays). record { firsts = z.firsts; every = z.every; form = z.form; outcome = told }) same))
    (spread_is p.net.now p.period p.table.now p.kept f (c.in_ok-derived.ensures.tells.forms f c.in_ok-settled.ensures.form) c.args.limit c.in_ok-settled.ensures.within told
    (subst (λ (z : LeftDelays). IsRightOutcome p.net.now p.period (delay_left z) told) same c.in_ok-outcome.ensures))

pub returns-clause-about : goal.returns-clause-about
returns-clause-about c =
    let p = c.args.planned.now in
    subst (λ (s : Spread). IsOutcomeIn p.net.now s.outcome) (sym c.new.ensures)
    (outcome_in p.net.now p.period (delay_left c.new-left.result) (outcome_told c.in_ok-outcome.outcome) c.in_ok-outcome.ensures)
