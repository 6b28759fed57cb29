-- The form of a part that is told of the whole net by its new numbers is spread out.
use Rattle.std.proofs.Common.{ℕ, ◌<◌, ◌≡◌, ◌∙◌, Bool, true, false, cond, List, [], length, get_or, replicate, refl, sym, ap, subst, arith}
use Rattle.std.specs.Prelude.{pos}
use Rattle.std.proofs.lemmas.List.FromFn.{get_or-map-range_with_len, length-map-range_with_len}
use Rattle.dioid.specs.declared.dates.Date.TheVariants.{Early}
use Rattle.periodic_laws.specs.settled_laws.SettledForms.{SettledForm, settled_length, row_of, step_of_form}
use Rattle.settled_forms.specs.Spread.{IsSpreadOut, is_marked}
use Rattle.teg_settle.specs.SpreadForms.{spread_form, spread_row, spread_step}

pub spread_rows : (marks : List Bool) (new : List ℕ) (f : SettledForm) → length (spread_form marks new f).rows ≡ length new
spread_rows marks new f = length-map-range_with_len (spread_row marks new f) 0 (length new)

pub row_spread : (marks : List Bool) (new : List ℕ) (f : SettledForm) (t : ℕ) → t < length new → row_of (spread_form marks new f) t ≡ spread_row marks new f t
row_spread marks new f t l = get_or-map-range_with_len (spread_row marks new f) 0 (length new) t t [] l (omega arith)

pub step_spread : (marks : List Bool) (new : List ℕ) (f : SettledForm) (t : ℕ) → t < length new → step_of_form (spread_form marks new f) t ≡ spread_step marks new f t
step_spread marks new f t l = get_or-map-range_with_len (spread_step marks new f) 0 (length new) t t (pos 0) l (omega arith)

pub spread_out : (marks : List Bool) (new : List ℕ) (f : SettledForm) → IsSpreadOut marks new f (spread_form marks new f)
spread_out marks new f = record {
  after = refl;
  period = refl;
  rows_count = spread_rows marks new f;
  steps_count = length-map-range_with_len (spread_step marks new f) 0 (length new);
  rows = row_spread marks new f;
  steps = step_spread marks new f;
}

-- the form g is told so
module _ (marks : List Bool) (new : List ℕ) (f g : SettledForm) (is : spread_form marks new f ≡ g) (t : ℕ) (l : t < length g.rows) where
  pub has_number : t < length new
  has_number =
      let here : t < length (spread_form marks new f).rows = subst (λ (h : SettledForm). t < length h.rows) (sym is) l in
      omega (arith, here, spread_rows marks new f)

  pub row_on : is_marked marks t ≡ true → row_of f (get_or new t 0) ≡ row_of g t
  row_on e =
      sym (ap (λ b. cond b (row_of f (get_or new t 0)) (replicate (settled_length f) Early)) e) ∙ (sym (row_spread marks new f t has_number) ∙ ap (λ (h : SettledForm). row_of h t) is)

  pub row_off : is_marked marks t ≡ false → replicate (settled_length f) Early ≡ row_of g t
  row_off e =
      sym (ap (λ b. cond b (row_of f (get_or new t 0)) (replicate (settled_length f) Early)) e) ∙ (sym (row_spread marks new f t has_number) ∙ ap (λ (h : SettledForm). row_of h t) is)

  pub step_on : is_marked marks t ≡ true → step_of_form f (get_or new t 0) ≡ step_of_form g t
  step_on e = sym (ap (λ b. cond b (step_of_form f (get_or new t 0)) (pos 0)) e) ∙ (sym (step_spread marks new f t has_number) ∙ ap (λ (h : SettledForm). step_of_form h t) is)

  pub step_off : is_marked marks t ≡ false → pos 0 ≡ step_of_form g t
  step_off e = sym (ap (λ b. cond b (step_of_form f (get_or new t 0)) (pos 0)) e) ∙ (sym (step_spread marks new f t has_number) ∙ ap (λ (h : SettledForm). step_of_form h t) is)
