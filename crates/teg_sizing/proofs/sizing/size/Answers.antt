use Rattle.std.proofs.Common.{refl, subst}
use Rattle.std.specs.Prelude.{IfNone, IfSome}
use Rattle.teg_sizing.specs.Surpluses.{NoneIsAbove, IsAboveApart, NonePasses}
use Rattle.teg_sizing.proofs.Enough.{enough_alone, never_apart}
use Rattle.teg_sizing.proofs.sizing.size.Goals as goal

pub returns-in-Some : goal.returns-in-Some
returns-in-Some c =
    let net = c.args.net.now in
    let r = c.args.target.now in
    let p = c.args.place in
    never_apart net r p c.in-Some.places.items c.lowest_first.result.places.items
    (subst (λ o. IfSome o (λ own. IsAboveApart net r p own.items)) c.in-Some.is c.in_ok-apart.ensures.some) c.lowest_first.ensures

pub returns-in-None : goal.returns-in-None
returns-in-None c =
    let net = c.args.net.now in
    let r = c.args.target.now in
    let p = c.args.place in (
      refl,
      enough_alone net r p (subst (λ o. IfNone o (NoneIsAbove net r p)) c.in_default.is c.in_ok-apart.ensures.none)
          (subst (λ o. IfNone o (NonePasses net p)) c.in-None.is c.in_ok-best.ensures.none),
    )
