use Rattle.std.proofs.Common.{◌≡◌, ◌+◌, length, replicate, rules}
use Rattle.dioid.specs.declared.dates.Date.TheVariants.{Early}
use Rattle.settled_forms.proofs.Spreading.{spread_stored}
use Rattle.settled_forms.proofs.settled.Settled.spread.Goals as goal

pub invariant_of-settled : goal.invariant_of-settled
invariant_of-settled c =
    let s = c.settled.inside in
    let none : c.in_ok-early.early.items ≡ replicate (s.after + s.period) Early = search rules in
    let there : c.len-other.result ≡ length s.rows.items = search rules in
    let owned = rw c.deref.ensures.value at c.in_ok-settled-inside.ensures in
    rw (c.in_ok-push.ensures.items, c.in_ok-push-2.ensures.items)
    (spread_stored s.after s.period s.rows.items c.in_ok-early.early s.steps.items s.own.items c.in_ok-settled-inside.field-0.items c.args.marks.now c.args.new.now c.args.self c.len-other.result
    c.settled.invariant c.settled.view_is c.requires.few c.requires.known none there owned.count owned.each).0

pub returns : goal.returns
returns c =
    let s = c.settled.inside in
    let none : c.in_ok-early.early.items ≡ replicate (s.after + s.period) Early = search rules in
    let there : c.len-other.result ≡ length s.rows.items = search rules in
    let owned = rw c.deref.ensures.value at c.in_ok-settled-inside.ensures in
    rw (c.in_ok-push.ensures.items, c.in_ok-push-2.ensures.items)
    (spread_stored s.after s.period s.rows.items c.in_ok-early.early s.steps.items s.own.items c.in_ok-settled-inside.field-0.items c.args.marks.now c.args.new.now c.args.self c.len-other.result
    c.settled.invariant c.settled.view_is c.requires.few c.requires.known none there owned.count owned.each).1
