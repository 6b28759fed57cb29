use Rattle.std.proofs.Common.{◌-◌, ◌<◌, ◌∙◌, length, sym, subst, arith}
use Rattle.teg_forever.specs.Divisions.{IsAlikeAt}
use Rattle.teg_forever.proofs.Repeated.{as_before}
use Rattle.teg_forever.proofs.alike.is_as_before.Goals as goal

pub have_same_walks-requires : goal.have_same_walks-requires
have_same_walks-requires c =
    let rows = c.settled.ensures.asked.transfer.2.stands.sizes.rows_are in
    rw c.settled.ensures.value (record {
      first = omega (arith, c.row-row.ensures.rules.in_range);
      other = omega (arith, c.row-before.ensures.rules.in_range);
    })

pub returns : goal.returns
returns c = λ yes.
    let a = c.args.asked.now in
    let h = c.settled.ensures.asked in
    let i = c.args.place in
    let before : i - 1 < length a.rows = omega (arith, c.requires.place) in
    let here : IsAlikeAt a.rows i c.first.result = subst (IsAlikeAt a.rows i) (sym c.first.ensures) (c.requires.divisions.firsts.each i c.requires.place) in
    let there : IsAlikeAt a.rows (i - 1) c.first.result = subst (IsAlikeAt a.rows (i - 1)) (sym (c.if-first.false ∙ c.first-2.ensures)) (c.requires.divisions.firsts.each (i - 1) before) in
    as_before a.net a.input.index a.settled h.transfer a.rows i c.first.result c.row-row.result.now c.row-before.result.now
    c.row-row.ensures.stands c.row-before.ensures.stands c.row-row.ensures.rules.in_range c.row-before.ensures.rules.in_range here there (rw c.settled.ensures.value at c.have_same_walks.ensures yes)
