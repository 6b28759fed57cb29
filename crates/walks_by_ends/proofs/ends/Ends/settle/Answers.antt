use Rattle.std.proofs.Common.{ℕ, ◌+◌, ◌<◌, ◌≡◌, ◌∙◌, List, [], ◌∷◌, ◌++◌, length, get_or, set, sym, ap, subst, rules}
use Rattle.std.specs.Prelude.{IfSome, Option}
use Rattle.std.proofs.lemmas.List.{get_or_default, get_or-set_other, get_or-set_same, length-set}
use Rattle.teg_net.specs.declared.entries.Place.{Place}
use Rattle.teg_net.specs.Circuits.{no_place, place_at}
use Rattle.teg_settle.specs.settled_laws.SettledForms.{SettledForm}
use Rattle.walks_by_ends.specs.declared.ends.End.{End}
use Rattle.walks_by_ends.specs.declared.ends.End.TheVariants.{Open, Kept, Dear}
use Rattle.walks_by_ends.specs.EndForms.{AreEndsOf, EndForms, IsEndForm, end_forms}
use Rattle.walks_by_ends.proofs.Keeping.{keeps, keeps_dear}
use Rattle.walks_by_ends.proofs.ends.Ends.settle.Goals as goal

pub returns-in_ok-push-in-Some : goal.returns-in_ok-push-in-Some
returns-in_ok-push-in-Some c =
    let net = c.args.net.now in
    let p = c.args.place in
    let s = c.self.inside in
    let a : EndForms = end_forms s.forms.items s.ends.items in
    let read = c.index-places-place.result in
    let is : get_or c.places.result.now p.index read ≡ place_at net p =
    ap (λ (ps : List Place). get_or ps p.index read) c.places.ensures.value ∙ get_or_default net.places p.index read no_place c.requires.place in
    let ok : AreEndsOf net a = subst (AreEndsOf net) (sym c.self.view_is) c.requires.ends in
    let e = (get_or c.places.result.now p.index read).to.index in
    let within : e < length net.transitions = rw is ((c.rules.ensures.each_place p.index no_place c.requires.place).to_in) in
    let in' : e < length s.ends.items = rw ok.wide within in
    let f : SettledForm = c.in-Some.form in
    let form : IsEndForm net e f = rw is (subst (λ (o : Option SettledForm). IfSome o (IsEndForm net (place_at net p).to.index)) c.in-Some.is c.in_ok-form.ensures) in
    let added : c.push.new.self.items ≡ s.forms.items ++ f ∷ [] = search rules in
    let last : Kept c.len.result ≡ Kept (length s.forms.items) = ap Kept (search rules) in
    let ends : List End = set s.ends.items e (Kept c.len.result) in
    let all : AreEndsOf net (end_forms (s.forms.items ++ f ∷ []) ends) =
    keeps net a ok e within f form ends (length-set s.ends.items e (Kept c.len.result)) (get_or-set_same s.ends.items e (Kept c.len.result) Open in' ∙ last)
    (λ t not. get_or-set_other s.ends.items e t (Kept c.len.result) Open not) in
    subst (λ (fs : List SettledForm). AreEndsOf net (end_forms fs ends)) (sym added) all

pub returns-in-None : goal.returns-in-None
returns-in-None c =
    let net = c.args.net.now in
    let p = c.args.place in
    let s = c.self.inside in
    let a : EndForms = end_forms s.forms.items s.ends.items in
    let read = c.index-places-place.result in
    let is : get_or c.places.result.now p.index read ≡ place_at net p =
    ap (λ (ps : List Place). get_or ps p.index read) c.places.ensures.value ∙ get_or_default net.places p.index read no_place c.requires.place in
    let ok : AreEndsOf net a = subst (AreEndsOf net) (sym c.self.view_is) c.requires.ends in
    let e = (get_or c.places.result.now p.index read).to.index in
    let within : e < length net.transitions = rw is ((c.rules.ensures.each_place p.index no_place c.requires.place).to_in) in
    let in' : e < length s.ends.items = rw ok.wide within in
    keeps_dear net a ok e (set s.ends.items e Dear) (length-set s.ends.items e Dear) (get_or-set_same s.ends.items e Dear Open in') (λ t not. get_or-set_other s.ends.items e t Dear Open not)
