use Rattle.std.proofs.Common.{◌<◌, ◌≤◌, arith, ⊎_elim}
use Rattle.std.proofs.lemmas.Bool.{cases_lt}
use Rattle.teg_bound.proofs.TwoStreams.{none_refuted}
use Rattle.teg_bound.proofs.two_streams.first_return.Goals as goal

pub return_in-requires-clause-streams : goal.return_in-requires-clause-streams
return_in-requires-clause-streams g c =
    let made = c.make_rows.ensures.made in
    let inv = c.search.invariant in
    record {
      early_is = made;
      late_is = c.make_rows-in-search.ensures.made;
      same = omega (arith, c.make_rows.ensures.count, c.make_rows-in-search.ensures.count);
      long = omega (arith, made.stream.few c.search.last (omega (arith, inv.some)) inv.tokens, c.make_rows.ensures.count);
    }

pub search-smaller : goal.search-smaller
search-smaller g c =
    let net = c.args.net.now in
    let made = c.make_rows.ensures.made in
    let count = c.make_rows.ensures.count in
    let none = rw c.in-None.is at c.return_in.ensures.found in
    ⊎_elim
    (λ (l : c.search.last < g.enough). omega (arith, c.search.invariant.some))
    (λ (l : g.enough ≤ c.search.last).
    absurd (none_refuted net c.args.live.now c.requires.0 c.requires.1.0 c.make_rows.new.rows made g.enough c.requires.1.1 (omega (arith, l, count)) none))
    (cases_lt c.search.last g.enough)

pub search-preserved : goal.search-preserved
search-preserved g c =
    let inv = c.search.invariant in
    record {
      early_is = c.make_rows.ensures.made;
      late_is = c.return_in.ensures.made;
      early_in = omega (arith, c.make_rows.ensures.count);
      late_in = omega (arith, c.return_in.ensures.few, c.make_rows.ensures.count);
      some = omega (arith, inv.some);
      tokens = λ i d l. omega (arith, inv.tokens i d l);
      few = omega (arith, c.if-last-gt-MOST_MADE.false);
    }
