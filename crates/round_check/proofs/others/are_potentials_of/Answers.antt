use Rattle.std.proofs.Common.{◌≡◌, get_or, length, map, refl, sym, ap, ◌∙◌, arith}
use Rattle.std.proofs.lemmas.Bool.{iff_false, false≢true}
use Rattle.std.proofs.lemmas.List.{get_or-map, length-map, ext_get_or}
use Rattle.policy_rounds.specs.RunAnswers.{potential_of}
use Rattle.teg_certificates.proofs.Deciding.{none_told}
use Rattle.round_check.proofs.Choosing.{none_chosen}
use Rattle.round_check.proofs.others.are_potentials_of.Goals as goal

pub returns : goal.returns
returns c =
    let told = c.args.told.now in
    let choices = c.args.choices.now in
    let long = length-map choices potential_of in (
      λ yes. ext_get_or none_told told (map potential_of choices) (omega (arith, long))
          (λ i l. c.loop-index.invariant i (omega arith) ∙ sym (get_or-map potential_of choices i none_chosen none_told (omega arith))),
      λ same. refl,
    )

-- other lists have other lengths, or another potential
pub returns-then-told-choices : goal.returns-then-told-choices
returns-then-told-choices c = (
  λ y. absurd (false≢true y),
  λ same.
      let long = length-map c.args.choices.now potential_of in
      let many : length c.args.told.now ≡ length (map potential_of c.args.choices.now) = ap length same in
      absurd (omega (arith, long, many, c.if-told-choices.true)),
)

pub returns-then-not-is_potential_of : goal.returns-then-not-is_potential_of
returns-then-not-is_potential_of c = (
  λ y. absurd (false≢true y),
  λ same.
      let told = c.args.told.now in
      let choices = c.args.choices.now in
      let i = c.loop-index.index in
      let here : get_or told i none_told ≡ potential_of (get_or choices i none_chosen) = ap (λ l. get_or l i none_told) same ∙ get_or-map potential_of choices i none_chosen none_told (omega arith) in
      absurd (iff_false c.is_potential_of.ensures c.if-not-is_potential_of.true (cc (here))),
)
