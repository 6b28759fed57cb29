use Rattle.std.proofs.Common.{Result, Ok, Err, MatchResult}
use Rattle.teg_settle.specs.ComparedRows.{IsRefuted, IsSeenFrom}
use Rattle.teg_settle.proofs.Tested.{refuted, seen_from}
use Rattle.teg_settle.proofs.search.tried.Goals as goal

pub returns-then-refute : goal.returns-then-refute
returns-then-refute c =
    refuted c.args.asked.now.net.now c.args.asked.now.releases.now c.args.asked.now.most c.requires.ready c.args.rows.now c.requires.made c.args.period c.requires.fits
    (rw (c.new-test.ensures, c.count.ensures.value) at (c.refute.ensures c.if-refute.true))

-- what follows from either answer
either : {X Y : Type 0} (o : Result X Y) (A A' : X → Type 0) (B B' : Y → Type 0) → MatchResult o A B → ((x : X) → A x → A' x) → ((y : Y) → B y → B' y) → MatchResult o A' B'
either (Ok x) A A' B B' h f g = f x h
either (Err y) A A' B B' h f g = g y h

pub returns : goal.returns
returns c =
    let net = c.args.asked.now.net.now in
    let r = c.args.asked.now.releases.now in
    let most = c.args.asked.now.most in
    let rows = c.args.rows.now in
    let p = c.args.period in
    either c.tested.result _ (IsSeenFrom net r rows most p) _ (λ w. IsRefuted net r most rows.count p)
    (rw (c.new-test.ensures, c.count.ensures.value) at c.tested.ensures)
    (λ after pass. seen_from net r most c.requires.ready rows c.requires.made p after c.requires.window.some c.requires.fits pass)
    (λ w bad. refuted net r most c.requires.ready rows c.requires.made p c.requires.fits bad)
