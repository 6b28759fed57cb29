use Rattle.teg_critical.proofs.EachPlace.{can_tell}
use Rattle.teg_critical.proofs.each_place.slacks_at.Goals as goal

pub tell_all-requires-clause-can : goal.tell_all-requires-clause-can
tell_all-requires-clause-can c =
    rw c.deref.ensures.value
    (can_tell c.args.net.now c.places.ensures.rules c.args.answer.now c.requires.certificate c.requires.live c.args.best c.requires.best c.in_ok-losses.losses.items c.in_ok-losses.ensures)

pub returns-clause-greatest : goal.returns-clause-greatest
returns-clause-greatest c =
    (can_tell c.args.net.now c.places.ensures.rules c.args.answer.now c.requires.certificate c.requires.live c.args.best c.requires.best c.in_ok-losses.losses.items c.in_ok-losses.ensures).greatest
