use Rattle.std.proofs.Common.{rules, ℕ, ◌≡◌, ◌+◌, ◌-◌, arith, subst}
use Rattle.date_rows.specs.Streams.{rows_given}
use Rattle.teg_forever.proofs.AloneRows.{ranking_without}
use Rattle.teg_forever.specs.TogetherRows.{IsSearchedTo}
use Rattle.teg_forever.proofs.SearchedRows.{dates_at, search_begun, search_ended}
use Rattle.teg_forever.proofs.together.search_through.Goals as goal

pub new-requires : goal.new-requires
new-requires c =
    let a = c.args.due.now in
    rw c.live.ensures (record { stands = ranking_without a.net c.args.plain.now c.requires.plain a.ranks c.net-net.ensures.given.stands })

pub greatest_of-last-requires-clause-few : goal.greatest_of-last-requires-clause-few
greatest_of-last-requires-clause-few c = c.requires.lasts.few

pub loop-number-init : goal.loop-number-init
loop-number-init c =
    let a = c.args.due.now in
    record {
      stands = search rules;
      given = search rules;
      full = search rules;
      searched = search_begun a.net a.rows c.args.lasts.now c.greatest_of-last.result c.greatest_of-last.ensures.most;
    }

pub searched-search-requires-clause-dates : goal.searched-search-requires-clause-dates
searched-search-requires-clause-dates c =
    let given = c.loop-number.invariant.given in
    let same : rows_given c.loop-number.stream + 1 ≡ c.loop-number.number = omega arith in
    dates_at c.args.due.now.net _ _ c.loop-number.number same c.write_least.ensures.least

pub loop-number-preserved : goal.loop-number-preserved
loop-number-preserved c =
    let a = c.args.due.now in
    let given = c.loop-number.invariant.given in
    let more = c.write_least.ensures.given in
    let full = c.write_least.ensures.full in
    let before = c.loop-number.invariant.full in
    let same : c.loop-number.number ≡ c.loop-number.number + 1 - 1 = omega arith in
    record {
      stands = c.write_least.ensures.stands;
      given = omega arith;
      full = omega arith;
      searched = subst (λ (k : ℕ). IsSearchedTo a.net a.rows c.args.lasts.now k c.searched-search.result) same c.searched-search.ensures;
    }

pub returns-then-search-number : goal.returns-then-search-number
returns-then-search-number c =
    let a = c.args.due.now in
    let s = c.loop-number.search in
    search_ended a.net a.rows c.args.lasts.now (c.loop-number.number - 1) s c.requires.lasts
    (λ i l. let ask = c.loop-number.invariant.searched.until i l in omega (arith, ask)) c.loop-number.invariant.searched

pub returns : goal.returns
returns c =
    let a = c.args.due.now in
    let s = c.loop-number.search in
    let within = c.loop-number.invariant.searched.within in
    search_ended a.net a.rows c.args.lasts.now (c.loop-number.number - 1) s c.requires.lasts
    (λ i l. let ask = c.greatest_of-last.ensures.most i (omega (arith, l, within)) in omega (arith, ask)) c.loop-number.invariant.searched
