use Rattle.std.proofs.Common.{ℕ, true, false, ◌≡◌, ◌<◌, ◌+◌, ◌*◌, length, get_or, set, ap, subst, ◌∙◌, sym, arith, rules}
use Rattle.std.proofs.lemmas.List.{get_or_read, length_push}
use lib.ListN.{replicate}
use Rattle.teg_parts.specs.PlacesAlong.{far_of, AddsPlacesAlong}
use Rattle.teg_parts.proofs.Marks.{unmarked, unmarked_less, work_less}
use Rattle.teg_parts.proofs.Reaching.{search_start, passed_over, gone_along, search_over}
use Rattle.teg_parts.proofs.components.led_from.Goals as goal

pub search-init : goal.search-init
search-init c =
    let n : ℕ = length c.transitions.result.now in
    let filled : c.in_ok-marks.marks.items ≡ replicate n false = c.in_ok-marks.ensures.items_if_clones_equal (search rules) in
    rw filled (search_start n c.push_places_along.new.agenda.items (ap length c.transitions.ensures.value) c.requires.start
    (rw c.new-agenda.ensures.items at c.in_ok-push_places_along.ensures))

pub search-preserved : goal.search-preserved
search-preserved c =
    let far = c.far_from-far.result in
    let marks = c.search.marks.items in
    let end = c.far_from-far.ensures in
    let count = c.search.invariant.count in
    let mark : c.index.result.now ≡ get_or marks far false = get_or_read marks far c.index.result.now (omega (arith, end.bound)) c.index.ensures false in
    passed_over c.pop.new.self.items c.in-Some.id c.in-Some.ensures.items c.search.invariant (rw end.value at (sym mark ∙ c.if-not-index.false))

pub search-smaller : goal.search-smaller
search-smaller c =
    let fewer : length c.search.agenda.items ≡ length c.pop.new.self.items + 1 = ap length c.in-Some.ensures.items ∙ length_push c.pop.new.self.items c.in-Some.id in
    omega (arith, fewer)

pub search-smaller-in-Continue-branch-3 : goal.search-smaller-in-Continue-branch-3
search-smaller-in-Continue-branch-3 c =
    let far = c.far_from-far.result in
    let marks = c.search.marks.items in
    let rest = c.pop.new.self.items in
    let after = c.push_places_along-then-not-index.new.agenda.items in
    let places : ℕ = length c.args.net.now.places in
    let count = c.search.invariant.count in
    let in_marks : far < length marks = omega (arith, c.far_from-far.ensures.bound) in
    let mark : get_or marks far false ≡ false = sym (get_or_read marks far c.index.result.now in_marks c.index.ensures false) ∙ c.if-not-index.true in
    let fewer : length c.search.agenda.items ≡ length rest + 1 = ap length c.in-Some.ensures.items ∙ length_push rest c.in-Some.id in
    subst (λ n. unmarked (set marks far true) * (places + 1) + length after < unmarked marks * (places + 1) + n) (sym fewer)
    (work_less (unmarked marks) (unmarked (set marks far true)) places (length rest) (length after) (unmarked_less marks far in_marks mark) c.in_ok-push_places_along-2.ensures.few)

pub search-preserved-in-Continue-branch-3 : goal.search-preserved-in-Continue-branch-3
search-preserved-in-Continue-branch-3 c =
    let net = c.args.net.now in
    let near = c.args.along.now.near in
    let rest = c.pop.new.self.items in
    let p = c.in-Some.id in
    let after = c.push_places_along-then-not-index.new.agenda.items in
    let end = c.far_from-far.ensures in
    let adds : AddsPlacesAlong net near (far_of near net p) rest after = rw end.value at c.in_ok-push_places_along-2.ensures in
    rw end.value (gone_along rest p c.in-Some.ensures.items c.search.invariant after (rw end.value at end.bound) adds)

pub returns : goal.returns
returns c =
    let ok = c.search.agenda.ok in
    let none : length c.search.agenda.items ≡ 0 = omega (arith, ok.0, c.in_default.ensures.cases) in
    search_over c.args.net.now c.args.along.now.near c.args.start c.search.marks.items c.search.agenda.items none c.search.invariant
