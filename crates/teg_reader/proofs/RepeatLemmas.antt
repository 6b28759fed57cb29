-- The first text that stands twice, step by step.
use Rattle.std.proofs.Common.{◌≡◌, ℕ, ◌+◌, ◌-◌, ◌<◌, Ordering, Bool, true, false, not, if◌then◌else◌, List, [], ◌∷◌, ◌++◌, map, take, get_or, length}
use Rattle.std.proofs.Common.{bytes_eq, ◌||◌, Option, Some, None, refl, ap, sym, subst, ◌∙◌}
use Rattle.std.proofs.lemmas.List.{take_more, map-append}
use Rattle.std.proofs.lemmas.List.Folds.{list_any-append}
use Rattle.std.proofs.lemmas.Map.Text.{is_eq-slice_cmp}
use Rattle.std.specs.BTreeSet.{BTreeSet, Updates, contains, contains_by}
use Rattle.std.specs.Cmp.Lexicographic.{slice_cmp}
use Rattle.std.specs.List.{take-map}
use Rattle.std.specs.Ordering.{nat_cmp}
use Rattle.toml.specs.declared.value.Value.{Value}
use Rattle.toml.specs.View.{view}
use Rattle.teg_reader.specs.declared.keys.Key.{Key}
use Rattle.teg_reader.specs.declared.refusals.Section.{Section}
use Rattle.teg_reader.specs.declared.refusals.ReadRefusal.{ReadRefusal}
use Rattle.teg_reader.specs.declared.refusals.ReadRefusal.TheVariants.{Repeated}
use Rattle.teg_reader.specs.TextLists.{is_among}
use Rattle.teg_reader.specs.DocumentTrees.{text_at}
use Rattle.teg_reader.specs.PassWalks.{first_finding, spot_at}
use Rattle.teg_reader.specs.Repeats.{repeats_earlier}
use Rattle.teg_reader.proofs.Facts.{one_less}
use Rattle.teg_reader.proofs.TreeLemmas.{entries_from, entries_from-more}
use Rattle.teg_reader.proofs.NumberLemmas.{TextKey, was_there, was_new, same_either_way}

-- the texts at the key of the entries before this one
abbrev pub texts_before : Key → ℕ → List Value → List (List ℕ)
texts_before key i es = map (text_at key) (map view (take i es))

texts_before-more : (key : Key) (i : ℕ) (es : List Value) (v : Value) → i < length es → v ≡ get_or es i v → texts_before key (i + 1) es ≡ texts_before key i es ++ text_at key (view v) ∷ []
texts_before-more key i es v h is = rw (take_more es i v h, map-append, map-append, ← is)

taken : (es : List Value) (i : ℕ) → take ((i + 1) - 1) (map view es) ≡ map view (take i es)
taken es i = rw (one_less i) (take-map view i es)

-- the look at this entry, by whether its text is among those before
looked : (section : Section) (key : Key) (es : List Value) (i : ℕ) (v : Value) (b : Bool) → is_among (texts_before key i es) (text_at key (view v)) ≡ b
    → repeats_earlier key (map view es) (spot_at section (i + 1)) (view v) ≡ (if b then Some (Repeated (spot_at section (i + 1))) else None)
unfolding repeats_earlier
looked section key es i v b h = rw (taken es i, h)

-- the order in which an ordered set keeps texts
abbrev text_order : TextKey → TextKey → Ordering
text_order a b = slice_cmp nat_cmp a.now b.now

-- whether an ordered set has the text
abbrev has_text : BTreeSet TextKey → List ℕ → Bool
has_text s t = contains_by (λ k. slice_cmp nat_cmp t k.now) s

-- the ordered set has these texts, and no others
abbrev pub HasTexts : BTreeSet TextKey → List (List ℕ) → Type 0
HasTexts s texts = (t : List ℕ) → has_text s t ≡ is_among texts t

added_one : (b c d : Bool) → b ≡ c → (if b then true else d) ≡ (d || (c || false))
added_one true true true h = refl
added_one true true false h = refl
added_one true false d h = cc
added_one false true d h = cc
added_one false false true h = refl
added_one false false false h = refl

-- a text that is added
has_more : (s n : BTreeSet TextKey) (k : TextKey) (texts : List (List ℕ)) → Updates text_order s n k true → HasTexts s texts → HasTexts n (texts ++ k.now ∷ [])
has_more s n k texts updates before t =
    let asked : TextKey = record { ref_ptr = (0, 0); now = t } in
    let after : has_text n t ≡ (if bytes_eq k.now t then true else has_text s t) = rw (← is_eq-slice_cmp k.now t) (updates.0 asked) in
    after ∙ (ap (λ b. if bytes_eq k.now t then true else b) (before t)
    ∙ (added_one (bytes_eq k.now t) (bytes_eq t k.now) (is_among texts t) (same_either_way k.now t) ∙ sym (list_any-append (bytes_eq t) texts (k.now ∷ []))))

-- the text of this entry was added to those seen
pub seen_more : (key : Key) (es : List Value) (i : ℕ) (v : Value) (s n : BTreeSet TextKey) (k : TextKey) → i < length es → v ≡ get_or es i v
    → k.now ≡ text_at key (view v) → Updates text_order s n k true → HasTexts s (texts_before key i es) → HasTexts n (texts_before key (i + 1) es)
seen_more key es i v s n k h is text updates before =
    subst (HasTexts n) (ap (λ t. texts_before key i es ++ t ∷ []) text ∙ sym (texts_before-more key i es v h is)) (has_more s n k (texts_before key i es) updates before)

pub rest_more : (section : Section) (key : Key) (es : List Value) (i : ℕ) (v : Value) (s : BTreeSet TextKey) (k : TextKey) (added : Bool) (all : Option ReadRefusal) → i < length es → v ≡ get_or es i v
    → k.now ≡ text_at key (view v) → added ≡ not (contains text_order s k) → added ≡ true → HasTexts s (texts_before key i es)
    → first_finding (repeats_earlier key (map view es)) section (i + 1) (entries_from i es) ≡ all
    → first_finding (repeats_earlier key (map view es)) section ((i + 1) + 1) (entries_from (i + 1) es) ≡ all
rest_more section key es i v s k added all h is text test new seen before =
    let opened = rw (entries_from-more es i v h is) at before in
    let none : is_among (texts_before key i es) (text_at key (view v)) ≡ false = rw (← text) (sym (seen k.now) ∙ was_new _ _ test new) in
    rw (looked section key es i v false none) at opened

-- the text of this entry was there
pub repeated_here : (section : Section) (key : Key) (es : List Value) (i : ℕ) (v : Value) (s : BTreeSet TextKey) (k : TextKey)
    (added : Bool) (all : Option ReadRefusal) → i < length es → v ≡ get_or es i v
    → k.now ≡ text_at key (view v) → added ≡ not (contains text_order s k) → added ≡ false → HasTexts s (texts_before key i es)
    → first_finding (repeats_earlier key (map view es)) section (i + 1) (entries_from i es) ≡ all → all ≡ Some (Repeated (spot_at section (i + 1)))
repeated_here section key es i v s k added all h is text test old seen before =
    let opened = rw (entries_from-more es i v h is) at before in
    let there : is_among (texts_before key i es) (text_at key (view v)) ≡ true = rw (← text) (sym (seen k.now) ∙ was_there _ _ test old) in
    sym (rw (looked section key es i v true there) at opened)
