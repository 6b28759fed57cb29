use Rattle.std.proofs.Common.{rules, ◌≡◌, ◌≤◌, ◌<◌, ◌++◌, ◌∷◌, List, [], ℕ, Option, length, sym, subst, ap, arith}
use Rattle.std.specs.Prelude.{IfSome}
use Rattle.std.proofs.lemmas.List.{length-append}
use Rattle.teg_net.specs.Limits.{greatest_firing_number}
use Rattle.teg_forever.specs.LateFirings.{TellsWhetherLate}
use Rattle.teg_forever.specs.TogetherRows.{AreLasts}
use Rattle.teg_forever.proofs.SearchedRows.{lasts_more}
use Rattle.teg_forever.proofs.together.lasts_of.Goals as goal

pub loop-place-init : goal.loop-place-init
loop-place-init c = record {
  count = omega arith;
  lasts = record { count = omega arith; few = λ i l. absurd (omega arith); tell = λ i r l at. absurd (omega arith) };
}

pub loop-place-preserved : goal.loop-place-preserved
loop-place-preserved c =
    let a = c.args.due.now in
    let old = c.loop-place.lasts.items in
    let last = c.in-Some.last in
    let row = c.plain_row.result.row in
    let count : length old ≡ c.loop-place.place = c.loop-place.invariant.count in
    let added : c.push.new.self.items ≡ old ++ last ∷ [] = search rules in
    let within : c.loop-place.place < length a.rows = rw c.rows-place-end.ensures.value at c.loop-place-test.true in
    let small = subst (λ (o : Option ℕ). IfSome o (λ n. n ≤ greatest_firing_number)) c.in-Some.is c.in_ok-last.ensures.few in
    let tells = subst (λ (o : Option ℕ). IfSome o (TellsWhetherLate a.net row)) c.in-Some.is (rw c.plain_row.ensures.net at c.in_ok-last.ensures.tells) in
    let stands = rw (sym count) at c.plain_row.ensures.row in
    record {
      count = omega (arith, ap (λ (l : List ℕ). length l) added, count, length-append old (last ∷ []));
      lasts = subst (AreLasts a.net a.rows) (sym added) (lasts_more a.net a.rows old last row (omega arith) small stands tells c.loop-place.invariant.lasts);
    }
