use Rattle.std.proofs.Common.{◌≡◌, List, IsTrue, false, true, ap, sym, ◌∙◌}
use Rattle.std.proofs.lemmas.Slice.Eq.{slice_eq-Decides}
use Rattle.teg_form.specs.StandardForms.{FormLists}
use Rattle.teg_form.specs.declared.stars.StarEntry.{StarEntry}
use Rattle.teg_form.specs.declared.entries.Entry.{Entry}
use Rattle.teg_form.proofs.EqualEntries.{star_Decides, entry_Decides}
use Rattle.teg_form.proofs.form.are_alike.Goals as goal

pub returns-then-eq : goal.returns-then-eq
returns-then-eq c =
    let first = c.args.first.now in
    let second = c.args.second.now in
    let stars : first.stars ≡ second.stars =
    sym c.stars.ensures ∙ ((slice_eq-Decides star_Decides c.stars.result.now c.stars-2.result.now c.eq.result c.eq.ensures).0 c.if-eq.true
    ∙ c.stars-2.ensures) in
    let entries = slice_eq-Decides entry_Decides c.entries.result.now c.entries-then-eq.result.now c.eq-then-eq.result c.eq-then-eq.ensures in
    let with_stars : List StarEntry → FormLists = λ s. record { stars = s; entries = first.entries } in
    let with_entries : List Entry → FormLists = λ e. record { stars = second.stars; entries = e } in
    let alike = λ (yes : IsTrue c.eq-then-eq.result). ap with_stars stars ∙ ap with_entries (sym c.entries.ensures ∙ (entries.0 yes ∙ c.entries-then-eq.ensures)) in
    let same_lists = λ (same : first ≡ second). entries.1 (c.entries.ensures ∙ (ap (λ (f : FormLists). f.entries) same ∙ sym c.entries-then-eq.ensures)) in
    (alike, same_lists)

pub returns-else-eq : goal.returns-else-eq
returns-else-eq c =
    let stars = slice_eq-Decides star_Decides c.stars.result.now c.stars-2.result.now c.eq.result c.eq.ensures in
    let same_lists = λ (same : c.args.first.now ≡ c.args.second.now).
    stars.1 (c.stars.ensures ∙ (ap (λ (f : FormLists). f.stars) same ∙ sym c.stars-2.ensures)) in
    ((λ (yes : IsTrue c.eq.result). (let no : false ≡ true = sym c.if-eq.false ∙ yes in absurd (cc))), same_lists)
