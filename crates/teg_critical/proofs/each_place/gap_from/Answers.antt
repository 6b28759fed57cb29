use Rattle.std.proofs.Common.{Option, Some, None, ◌≡◌, refl}
use Rattle.teg_critical.proofs.Telling.{leaves, gap_within}
use Rattle.teg_critical.proofs.EachPlace.{no_loss, no_back, back_is}
use Rattle.teg_critical.proofs.each_place.gap_from.Goals as goal

none_by : {X : Type 0} (o : Option X) → ((x : X) → o ≡ Some x → ⊥) → o ≡ None
none_by None h = refl
none_by (Some x) h = absurd (h x refl)

pub returns-in_default-clause-none : goal.returns-in_default-clause-none
returns-in_default-clause-none c = no_loss c.args.known.now.net.now c.args.best c.args.known.now.losses.now c.requires.can c.args.ending c.requires.ending (none_by _ c.in_default.not-Some)

pub returns-in_default-back-clause-none : goal.returns-in_default-back-clause-none
returns-in_default-back-clause-none c = no_back c.args.known.now.net.now c.args.best c.args.known.now.losses.now c.requires.can c.args.ending c.requires.ending c.args.back.now
    c.requires.back (none_by _ c.in_default-back.not-Some)

pub gap_by-requires : goal.gap_by-requires
gap_by-requires c =
    let net = c.args.known.now.net.now in
    let back = back_is net c.args.best c.args.known.now.losses.now c.requires.can c.args.ending c.requires.ending c.args.back.now c.requires.back (Some c.in-Some-back.rest) c.in-Some-back.is in
    leaves net c.requires.can.rules c.args.best c.args.known.now.losses.now c.requires.can c.args.ending.place c.requires.ending.in_range c.in-Some.loss c.in-Some.is c.in-Some-back.rest back

pub returns-clause-some : goal.returns-clause-some
returns-clause-some c =
    let net = c.args.known.now.net.now in
    let back = back_is net c.args.best c.args.known.now.losses.now c.requires.can c.args.ending c.requires.ending c.args.back.now c.requires.back (Some c.in-Some-back.rest) c.in-Some-back.is in
    rw c.gap_by.ensures
    (gap_within net c.requires.can.rules c.args.best c.args.known.now.losses.now c.requires.can c.args.ending.place c.requires.ending.in_range c.in-Some.loss c.in-Some.is c.in-Some-back.rest back)
