-- The words of a table have no blanks, and its lines stand transition by transition.
use Rattle.std.proofs.Common.{ℕ, zero, suc, ◌+◌, ◌*◌, ◌<◌, ◌≤◌, ◌≡◌, true, ◌++◌, Option, Some, None, length, map, get_or, refl, sym, ap, subst, ◌∙◌, arith, ⊎_elim}
use Rattle.std.specs.List.{flat_map, list_all, range_with_len}
use Rattle.std.proofs.lemmas.Bool.{cases_lt}
use Rattle.std.proofs.lemmas.List.{get_or_append_left, get_or-append-add, get_or_past}
use Rattle.std.proofs.lemmas.List.FromFn.{get_or-map-range_with_len, length-map-range_with_len}
use Rattle.teg_model.specs.dioid.declared.dates.Date.{Date}
use Rattle.teg_model.specs.dioid.declared.dates.Date.TheVariants.{Early, At, Never}
use Rattle.teg_model.specs.teg_net.declared.entries.Place.{Place}
use Rattle.teg_model.specs.teg_net.declared.entries.PlaceId.{PlaceId}
use Rattle.teg_model.specs.teg_net.declared.entries.Role.{Role}
use Rattle.teg_model.specs.teg_net.declared.entries.Role.TheVariants.{Internal, Input, Output}
use Rattle.teg_model.specs.teg_net.declared.walks.Step.{Step}
use Rattle.teg_model.specs.teg_net.declared.walks.Step.TheVariants.{By, Next}
use Rattle.teg_model.specs.teg_net.Circuits.{no_place}
use Rattle.teg_model.specs.teg_net.Nets.{NetLists, IsNet}
use Rattle.teg_text.specs.Lines.{is_word}
use Rattle.teg_text.specs.WordsOfNames.{name_of_place}
use Rattle.teg_text.proofs.NamesRead.{place_is_word}
use Rattle.teg_text.proofs.Words.{signed_is_word}
use Rattle.dating_check.specs.ShownTables.{latest_date_words, role_told, way_words}

pub role_is_word : (role : Role) → is_word (role_told role) ≡ true
role_is_word Internal = refl
role_is_word Input = refl
role_is_word Output = refl

some_place_is_word : (net : NetLists) (p : PlaceId) → IsNet net → is_word (name_of_place net p) ≡ true
some_place_is_word net p ok =
    ⊎_elim
    (λ (l : p.index < length net.places). place_is_word net p ok l)
    (λ (l : length net.places ≤ p.index). subst (λ (q : Place). is_word q.name ≡ true) (sym (get_or_past net.places p.index no_place l)) refl)
    (cases_lt p.index (length net.places))

way_is_words : (net : NetLists) (way : Option Step) → IsNet net → list_all is_word (way_words net way) ≡ true
way_is_words net None ok = refl
way_is_words net (Some (By p)) ok = rw (some_place_is_word net p ok) refl
way_is_words net (Some Next) ok = refl

pub date_is_words : (net : NetLists) (date : Date) (way : Option Step) → IsNet net → list_all is_word (latest_date_words net date way) ≡ true
date_is_words net Early way ok = way_is_words net way ok
date_is_words net (At z) way ok = rw (signed_is_word z) (way_is_words net way ok)
date_is_words net Never way ok = refl

-- the cell of a grid, in the list of its cells
pub grid_at : {L : Type 0} (f : ℕ → ℕ → L) (a width count t k : ℕ) (d : L) → t < width → k < count →
    get_or (flat_map (λ t. map (f t) (range_with_len 1 count)) (range_with_len a width)) (t * count + k) d ≡ f (a + t) (k + 1)
grid_at f a zero count t k d l m = absurd (omega (arith, l))
grid_at f a (suc width) count zero k d l m =
    let row = map (f a) (range_with_len 1 count) in
    let same : 0 * count + k ≡ k = omega arith in
    let first : a ≡ a + 0 = omega arith in
    ap (λ (i : ℕ). get_or (row ++ flat_map (λ t. map (f t) (range_with_len 1 count)) (range_with_len (a + 1) width)) i d) same
    ∙ (get_or_append_left row _ d k (omega (arith, m, length-map-range_with_len (f a) 1 count))
    ∙ (get_or-map-range_with_len (f a) 1 count k (k + 1) d m (omega arith) ∙ ap (λ (b : ℕ). f b (k + 1)) first))
grid_at f a (suc width) count (suc t) k d l m =
    let row = map (f a) (range_with_len 1 count) in
    let rest = flat_map (λ t. map (f t) (range_with_len 1 count)) (range_with_len (a + 1) width) in
    let same : suc t * count + k ≡ length row + (t * count + k) = omega (arith, length-map-range_with_len (f a) 1 count) in
    let next : a + 1 + t ≡ a + suc t = omega arith in
    ap (λ (i : ℕ). get_or (row ++ rest) i d) same
    ∙ (get_or-append-add row rest (t * count + k) d ∙ (grid_at f (a + 1) width count t k d (omega (arith, l)) m ∙ ap (λ (b : ℕ). f b (k + 1)) next))
