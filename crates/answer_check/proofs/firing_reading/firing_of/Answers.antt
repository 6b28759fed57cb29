use Rattle.std.proofs.Common.{rules, Bor, ◌≡◌, ◌≢◌, List, ℕ, [], length, map, slice_index_or, refl, sym, subst, ◌∙◌}
use Rattle.std.specs.Prelude.{All}
use Rattle.std.specs.List.{slice_get}
use Rattle.std.specs.Option.{IsSomeAnd}
use Rattle.std.proofs.lemmas.Bool.{iff_false}
use Rattle.std.proofs.lemmas.List.{length-map}
use Rattle.teg_net.specs.declared.entries.Transition.{Transition}
use Rattle.answer_check.specs.DateReading.{IsSmallWord}
use Rattle.answer_check.proofs.Firings.{not_first, not_four, not_named, not_numbered, words_are}
use Rattle.answer_check.proofs.firing_reading.firing_of.Goals as goal

pub returns-then-not-has : goal.returns-then-not-has
returns-then-not-has c =
    let words : List (List ℕ) = map (λ x. x.now) c.args.words.now in
    let long : length words ≡ length c.args.words.now = length-map c.args.words.now (λ (x : Bor (List ℕ)). x.now) in
    not_four c.args.net.now words (λ e. iff_false c.has.ensures c.if-not-has.true (sym long ∙ e))

pub returns-then-not-is_date : goal.returns-then-not-is_date
returns-then-not-is_date c =
    let words : List (List ℕ) = map (λ x. x.now) c.args.words.now in
    not_first c.args.net.now words (λ e. iff_false c.is_date.ensures c.if-not-is_date.true (c.text_at.ensures ∙ e))

pub returns-in_default : goal.returns-in_default
returns-in_default c =
    let net = c.args.net.now in
    let words : List (List ℕ) = map (λ x. x.now) c.args.words.now in
    not_named net words (subst (λ (w : List ℕ). All (λ (x : Transition). x.name ≢ w) net.transitions) c.text_at-2.ensures (c.in_default.ensures.none.0 refl))

pub returns-in_default-2 : goal.returns-in_default-2
returns-in_default-2 c =
    let words : List (List ℕ) = map (λ x. x.now) c.args.words.now in
    let none = rw c.in_default-2.is at c.in_ok-number.ensures in
    not_numbered c.args.net.now words (λ n small e. none n small (c.text_at-3.ensures ∙ e))

pub returns : goal.returns
returns c =
    let net = c.args.net.now in
    let words : List (List ℕ) = map (λ x. x.now) c.args.words.now in
    let t = c.in-Some.transition in
    let long : length words ≡ length c.args.words.now = length-map c.args.words.now (λ (x : Bor (List ℕ)). x.now) in
    let number : IsSmallWord c.text_at-3.result.now c.in-Some-2.number = rw c.in-Some-2.is at c.in_ok-number.ensures in
    let named : IsSomeAnd (slice_get net.transitions t.index) (λ (x : Transition). x.name ≡ slice_index_or words 1 []) =
    subst (λ (w : List ℕ). IsSomeAnd (slice_get net.transitions t.index) (λ (x : Transition). x.name ≡ w)) c.text_at-2.ensures c.in-Some.ensures.found in
    rw c.text_at-4.ensures
    (words_are net words t c.in-Some-2.number (long ∙ c.has.ensures.0 (search rules)) (sym c.text_at.ensures ∙ c.is_date.ensures.0 (search rules)) named number.few (sym c.text_at-3.ensures ∙ number.told))
