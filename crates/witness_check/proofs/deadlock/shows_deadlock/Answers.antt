use Rattle.std.proofs.Common.{rules, ◌≡◌, ◌++◌, ◌∷◌, [], codes, lit<, sym, ◌∙◌}
use Rattle.std.proofs.lemmas.Bool.{false≢true}
use Rattle.std.proofs.lemmas.Str.Pattern.{strip_suffix_char}
use Rattle.witness_check.specs.NamedPlaces.{AreNamedBy, names_behind_blanks}
use Rattle.witness_check.proofs.NamedPlaces.{deadlock_named, deadlock_told, one_named}
use Rattle.witness_check.proofs.deadlock.shows_deadlock.Goals as goal

pub returns-in_default-clause-told : goal.returns-in_default-clause-told
returns-in_default-clause-told c = (
  λ e. absurd (false≢true e),
  λ h. absurd (c.in_default.ensures.cases (names_behind_blanks c.args.net.now h.0 ++ 10 ∷ []) h.3),
)

pub returns-in_default-2-clause-told : goal.returns-in_default-2-clause-told
returns-in_default-2-clause-told c =
    let text = c.args.text.now in
    let words = c.in-Some.words.now in
    let names = c.in-Some-strip_suffix.names.now in
    let first : text ≡ codes "refused: token-free circuit" ++ words = search rules in
    let cut = strip_suffix_char 10 words c.strip_suffix.result c.strip_suffix.ensures.cases (lit< tt) in
    let last : words ≡ names ++ 10 ∷ [] = rw c.in-Some-strip_suffix.is at cut in
    let none = rw c.in_default-2.is at c.in_ok-places.ensures in (
      λ e. absurd (false≢true e),
      λ h. absurd (none h.0 (deadlock_named c.args.net.now text words names h.0 first last h.1 h.3)),
    )

pub returns-clause-told : goal.returns-clause-told
returns-clause-told c =
    let net = c.args.net.now in
    let text = c.args.text.now in
    let words = c.in-Some.words.now in
    let names = c.in-Some-strip_suffix.names.now in
    let first : text ≡ codes "refused: token-free circuit" ++ words = search rules in
    let cut = strip_suffix_char 10 words c.strip_suffix.result c.strip_suffix.ensures.cases (lit< tt) in
    let last : words ≡ names ++ 10 ∷ [] = rw c.in-Some-strip_suffix.is at cut in
    let named : AreNamedBy net names c.in-Some-2.places.items = rw c.in-Some-2.is at c.in_ok-places.ensures in
    let same = c.deref.ensures.value in (
      λ yes. (let h = c.shows_deadlock.ensures.0 yes in (c.in-Some-2.places.items, rw same at h.0, rw same at h.1, deadlock_told net text words names c.in-Some-2.places.items first last named)),
      λ h.
          (let is : h.0 ≡ c.in-Some-2.places.items = one_named net names h.0 c.in-Some-2.places.items c.rules.ensures (deadlock_named net text words names h.0 first last h.1 h.3) named in
          c.shows_deadlock.ensures.1 (rw (is ∙ sym same) at h.1, rw (is ∙ sym same) at h.2)),
    )
