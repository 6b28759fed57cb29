-- A net has one standard form.
use Rattle.std.proofs.Common.{◌≡◌, ℕ, ◌<◌, ◌⊎◌, ⊎_elim, inl, inr, List, subst, ◌∙◌, arith}
use Rattle.std.specs.Prelude.{Contains}
use Rattle.teg_net.specs.Nets.{NetLists}
use Rattle.teg_form.specs.declared.stars.StarEntry.{StarEntry}
use Rattle.teg_form.specs.declared.entries.Entry.{Entry}
use Rattle.teg_form.specs.StandardForms.{FormLists, IsTimeOfFreePath, IsTimeOfMarkedPath, IsGreatestTime, IsStarEntry, IsStarBefore, AreStars, IsEntry, IsEntryBefore, AreEntries, IsStandardFormOf}
use Rattle.teg_form.proofs.SortedSame.{of_contained, sorted_same}

-- two greatest times of one kind are one
greatest_same : (IsTime : ℕ → Type 0) (t u : ℕ) → IsGreatestTime IsTime t → IsGreatestTime IsTime u → t ≡ u
greatest_same IsTime t u h k = omega (arith, h.greatest u k.reached, k.greatest t h.reached)

star_is : (e f : StarEntry) → e.to.index ≡ f.to.index → e.from.index ≡ f.from.index → e.time ≡ f.time → e ≡ f
star_is e f to from time = λ i. record { to = record { index = to i }; from = record { index = from i }; time = time i }

entry_is : (e f : Entry) → e.to.index ≡ f.to.index → e.from.index ≡ f.from.index → e.tokens ≡ f.tokens → e.time ≡ f.time → e ≡ f
entry_is e f to from tokens time = λ i. record { to = record { index = to i }; from = record { index = from i }; tokens = tokens i; time = time i }

star_in_other : (net : NetLists) (stars others : List StarEntry) → AreStars net stars → AreStars net others → (e : StarEntry) → Contains stars e → Contains others e
star_in_other net stars others h k e c =
    let own = of_contained (IsStarEntry net) stars e h.known c in
    let found = k.all e.from.index e.to.index e.time own.different own.time.reached in
    let theirs = of_contained (IsStarEntry net) others found.1 k.known (found.0, found.2, found.3) in
    let ends : IsGreatestTime (IsTimeOfFreePath net e.from.index e.to.index) found.1.time = rw found.4.1 at (rw found.4.0 at theirs.time) in
    let same : found.1 ≡ e = star_is found.1 e found.4.0 found.4.1 (greatest_same _ found.1.time e.time ends own.time) in
    subst (Contains others) same (found.0, found.2, found.3)

entry_in_other : (net : NetLists) (entries others : List Entry) → AreEntries net entries → AreEntries net others → (e : Entry) → Contains entries e → Contains others e
entry_in_other net entries others h k e c =
    let own = of_contained (IsEntry net) entries e h.known c in
    let found = k.all e.from.index e.to.index e.tokens e.time own.marked own.time.reached in
    let theirs = of_contained (IsEntry net) others found.1 k.known (found.0, found.2, found.3) in
    let ends : IsGreatestTime (IsTimeOfMarkedPath net e.from.index e.to.index e.tokens) found.1.time = rw found.4.2 at (rw found.4.1 at (rw found.4.0 at theirs.time)) in
    let same : found.1 ≡ e = entry_is found.1 e found.4.0 found.4.1 found.4.2 (greatest_same _ found.1.time e.time ends own.time) in
    subst (Contains others) same (found.0, found.2, found.3)

star_strict : (e : StarEntry) → IsStarBefore e e → ⊥
star_strict e h = ⊎_elim (λ (to : _). omega (arith, to)) (λ (from : _). omega (arith, from.1)) h

star_joined : (e f g : StarEntry) → IsStarBefore e f → IsStarBefore f g → IsStarBefore e g
star_joined e f g h k =
    ⊎_elim
    (λ (to : e.to.index < f.to.index). ⊎_elim (λ (to' : f.to.index < g.to.index). inl (omega (arith, to, to'))) (λ (same : _). inl (omega (arith, to, same.0))) k)
    (λ (here : _). ⊎_elim (λ (to' : f.to.index < g.to.index). inl (omega (arith, here.0, to'))) (λ (same : _). inr (here.0 ∙ same.0, omega (arith, here.1, same.1))) k) h

entry_strict : (e : Entry) → IsEntryBefore e e → ⊥
entry_strict e h =
    ⊎_elim (λ (to : _). omega (arith, to)) (λ (same : _). ⊎_elim (λ (from : _). omega (arith, from)) (λ (tokens : _). omega (arith, tokens.1)) same.1) h

entry_joined : (e f g : Entry) → IsEntryBefore e f → IsEntryBefore f g → IsEntryBefore e g
entry_joined e f g h k =
    ⊎_elim
    (λ (to : e.to.index < f.to.index). ⊎_elim (λ (to' : f.to.index < g.to.index). inl (omega (arith, to, to'))) (λ (same : _). inl (omega (arith, to, same.0))) k)
    (λ (here : _). ⊎_elim (λ (to' : f.to.index < g.to.index). inl (omega (arith, here.0, to')))
    (λ (same : _). inr (here.0 ∙ same.0, source_joined e f g here.1 same.1)) k) h
  where
    AreBeside : Entry → Entry → Type 0
    AreBeside a b = (a.from.index < b.from.index) ⊎ ((a.from.index ≡ b.from.index) × (a.tokens < b.tokens))

    source_joined : (a b c : Entry) → AreBeside a b → AreBeside b c → AreBeside a c
    source_joined a b c p q =
        ⊎_elim
        (λ (from : a.from.index < b.from.index). ⊎_elim (λ (from' : b.from.index < c.from.index). inl (omega (arith, from, from'))) (λ (same : _). inl (omega (arith, from, same.0))) q)
        (λ (here : _). ⊎_elim (λ (from' : b.from.index < c.from.index). inl (omega (arith, here.0, from'))) (λ (same : _). inr (here.0 ∙ same.0, omega (arith, here.1, same.1))) q) p

pub one_form : (net : NetLists) (form other : FormLists) → IsStandardFormOf net form → IsStandardFormOf net other → other ≡ form
one_form net form other h k =
    let stars : other.stars ≡ form.stars = sorted_same IsStarBefore star_strict star_joined other.stars form.stars k.stars.sorted h.stars.sorted
    (star_in_other net other.stars form.stars k.stars h.stars) (star_in_other net form.stars other.stars h.stars k.stars) in
    let entries : other.entries ≡ form.entries = sorted_same IsEntryBefore entry_strict entry_joined other.entries form.entries k.entries.sorted h.entries.sorted
    (entry_in_other net other.entries form.entries k.entries h.entries) (entry_in_other net form.entries other.entries h.entries k.entries) in
    λ i. record { stars = stars i; entries = entries i }
