-- What is known of the ends of places stays known where one more is.
use Rattle.std.proofs.Common.{ℕ, ◌+◌, ◌<◌, ◌≤◌, ◌≡◌, ◌≢◌, List, [], ◌∷◌, ◌++◌, length, get_or, set, refl, sym, subst, ap, ◌∙◌, arith, ⊎_elim}
use Rattle.std.specs.Prelude.{slice_set}
use Rattle.std.proofs.lemmas.Bool.{cases_eq}
use Rattle.std.proofs.lemmas.List.{get_or_append_left, length-append}
use Rattle.std.proofs.Math.Seq.{get_or-append_seam}
use Rattle.teg_net.specs.Nets.{NetLists}
use Rattle.teg_settle.specs.settled_laws.SettledForms.{SettledForm}
use Rattle.walks_by_ends.specs.declared.ends.End.{End}
use Rattle.walks_by_ends.specs.declared.ends.End.TheVariants.{Open, Kept, Dear}
use Rattle.walks_by_ends.specs.EndForms.{AreEndsOf, EndForms, IsEndForm, IsKeptAt, IsKeptEnd, IsSoundAt, end_form, end_forms, form_at, no_form}

longer : (forms : List SettledForm) (f : SettledForm) → length (forms ++ f ∷ []) ≡ length forms + 1
longer forms f = length-append forms (f ∷ [])

sound_more : (forms : List SettledForm) (f : SettledForm) (x : End) → IsSoundAt forms x → IsSoundAt (forms ++ f ∷ []) x
sound_more forms f Open h = h
sound_more forms f (Kept i) h = let l = longer forms f in omega (arith, h, l)
sound_more forms f Dear h = h

kept_less : (forms : List SettledForm) (f : SettledForm) (x : End) → IsSoundAt forms x → IsKeptAt (forms ++ f ∷ []) x → IsKeptAt forms x
kept_less forms f Open h k = k
kept_less forms f (Kept i) h k = h
kept_less forms f Dear h k = k

same_form : (forms : List SettledForm) (f : SettledForm) (x : End) → IsSoundAt forms x → form_at (forms ++ f ∷ []) x ≡ form_at forms x
same_form forms f Open h = refl
same_form forms f (Kept i) h = get_or_append_left forms (f ∷ []) no_form i h
same_form forms f Dear h = refl

module _ (net : NetLists) (a : EndForms) (ok : AreEndsOf net a) (e : ℕ) (within : e < length net.transitions) (f : SettledForm) (is : IsEndForm net e f) (ends : List End)
    (long : length ends ≡ length a.ends) (here : get_or ends e Open ≡ Kept (length a.forms)) (there : (t : ℕ) → t ≢ e → get_or ends t Open ≡ get_or a.ends t Open) where
  forms : List SettledForm
  forms = a.forms ++ f ∷ []

  in_list : IsSoundAt (a.forms ++ f ∷ []) (Kept (length a.forms))
  in_list = let l = longer a.forms f in omega (arith, l)

  pub keeps : AreEndsOf net (end_forms (a.forms ++ f ∷ []) ends)
  keeps = record {
    wide = long ∙ ok.wide;
    sound = λ t l. ⊎_elim
        (λ (q : t ≡ e). rw (q, here) in_list)
        (λ (q : t ≢ e). rw (there t q) (sound_more a.forms f (get_or a.ends t Open) (ok.sound t l)))
        (cases_eq t e);
    each = λ t l k. ⊎_elim
        (λ (q : t ≡ e).
        let form : form_at (a.forms ++ f ∷ []) (get_or ends t Open) ≡ f = ap (λ (j : ℕ). form_at (a.forms ++ f ∷ []) (get_or ends j Open)) q ∙ (ap (form_at (a.forms ++ f ∷ [])) here ∙ get_or-append_seam a.forms f [] no_form) in
        subst (IsEndForm net t) (sym form) (subst (λ (j : ℕ). IsEndForm net j f) (sym q) is))
        (λ (q : t ≢ e).
        let old : IsKeptAt (a.forms ++ f ∷ []) (get_or a.ends t Open) = subst (IsKeptAt (a.forms ++ f ∷ [])) (there t q) k in
        let form : form_at (a.forms ++ f ∷ []) (get_or ends t Open) ≡ form_at a.forms (get_or a.ends t Open) = ap (form_at (a.forms ++ f ∷ [])) (there t q) ∙ same_form a.forms f (get_or a.ends t Open) (ok.sound t l) in
        subst (IsEndForm net t) (sym form) (ok.each t l (kept_less a.forms f (get_or a.ends t Open) (ok.sound t l) old)))
        (cases_eq t e);
  }

pub keeps_dear : (net : NetLists) (a : EndForms) → AreEndsOf net a → (e : ℕ) (ends : List End) → length ends ≡ length a.ends → get_or ends e Open ≡ Dear
    → ((t : ℕ) → t ≢ e → get_or ends t Open ≡ get_or a.ends t Open) → AreEndsOf net (end_forms a.forms ends)
keeps_dear net a ok e ends long here there = record {
  wide = long ∙ ok.wide;
  sound = λ t l. ⊎_elim
      (λ (q : t ≡ e). rw (q, here) tt)
      (λ (q : t ≢ e). rw (there t q) (ok.sound t l))
      (cases_eq t e);
  each = λ t l k. ⊎_elim
      (λ (q : t ≡ e). absurd (rw (q, here) at k))
      (λ (q : t ≢ e).
      let old : IsKeptAt a.forms (get_or a.ends t Open) = subst (IsKeptAt a.forms) (there t q) k in
      subst (λ x. IsEndForm net t (form_at a.forms x)) (sym (there t q)) (ok.each t l old))
      (cases_eq t e);
}
