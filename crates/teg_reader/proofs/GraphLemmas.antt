-- What the passes over the graph say where they find nothing.
use Rattle.std.proofs.Common.{◌≡◌, ℕ, ◌<◌, Bool, true, false, not, cond, ◌&&◌, ◌==◌, if◌then◌else◌, List, [], ◌∷◌, length, bytes_eq, Option, Some, None, refl, arith}
use Rattle.std.proofs.lemmas.Bool.{and_parts}
use Rattle.std.proofs.lemmas.Bool.Decides.{nat_tests}
use Rattle.std.specs.List.{list_all}
use Rattle.toml.specs.Data.{Data}
use Rattle.teg_net.specs.Names.{is_name}
use Rattle.teg_reader.specs.declared.keys.Key.TheVariants as key
use Rattle.teg_reader.specs.declared.refusals.Section.TheVariants as section
use Rattle.teg_reader.specs.TextLists.{is_among}
use Rattle.teg_reader.specs.DocumentTrees.{text_at, texts_at, array_at, entry_names}
use Rattle.teg_reader.specs.PassWalks.{spot_at, finding, first_of_entries}
use Rattle.teg_reader.specs.BadNames.{has_good_name}
use Rattle.teg_reader.specs.UnknownTransitions.{unknown_among, unknown_text, unknown_transition}
use Rattle.teg_reader.specs.EventGraphs.{no_transitions, not_event_graph, first_text, end_at, is_input_named, input_has_upstream}
use Rattle.teg_reader.specs.InputLists.{has_good_owner, bad_input}
use Rattle.teg_reader.specs.Documents.{bad_graph}
use Rattle.teg_reader.proofs.Facts.{same_text, or_true}
use Rattle.teg_reader.proofs.ClearLemmas.{neither, unmapped, none_where, all_clear, all_passed, clear}

-- the passes over the graph
pub record IsGraph (top : Data) : Type 0 where
  pub some_transition : no_transitions (array_at key.Transition top) ≡ None
  pub known : finding (unknown_transition (entry_names (array_at key.Transition top))) top ≡ None
  pub ends : first_of_entries not_event_graph (array_at key.Place top) ≡ None
  pub inputs_free : first_of_entries (input_has_upstream (array_at key.Transition top)) (array_at key.Place top) ≡ None
  pub inputs : first_of_entries (bad_input (array_at key.Transition top)) (array_at key.Input top) ≡ None

pub good_graph : (top : Data) → bad_graph top ≡ None → IsGraph top
unfolding bad_graph
good_graph top h =
    let ts = array_at key.Transition top in
    let a = neither (no_transitions ts) _ h in
    let b = neither (finding (unknown_transition (entry_names ts)) top) _ a.1 in
    let c = neither (first_of_entries not_event_graph (array_at key.Place top)) _ b.1 in
    let d = neither (first_of_entries (input_has_upstream ts) (array_at key.Place top)) _ c.1 in
    record { some_transition = a.0; known = b.0; ends = c.0; inputs_free = d.0; inputs = d.1 }

-- there is a transition
pub at_least_one : (ts : List Data) → no_transitions ts ≡ None → 0 < length ts
unfolding no_transitions
at_least_one [] h = cc
at_least_one (t ∷ ts) h = omega arith

-- where two tests pass at each entry, so does what follows from both
pub both_pass : (p q r : Data → Bool) → ((d : Data) → p d ≡ true → q d ≡ true → r d ≡ true) → (es : List Data) → list_all p es ≡ true → list_all q es ≡ true → list_all r es ≡ true
both_pass p q r says [] hp hq = refl
both_pass p q r says (e ∷ es) hp hq =
    let a = and_parts (p e) _ hp in
    let b = and_parts (q e) _ hq in
    rw (says e a.0 b.0, both_pass p q r says es a.1 b.1)

found_none : (b : Bool) (x : List ℕ) (rest : Option (List ℕ)) → cond (not b) (Some x) rest ≡ None → (b ≡ true) × (rest ≡ None)
found_none true x rest h = (λ _. true, h)
found_none false x rest h = cc

all_known : (names texts : List (List ℕ)) → unknown_among names texts ≡ None → list_all (is_among names) texts ≡ true
unfolding unknown_among
all_known names [] h = refl
all_known names (t ∷ ts) h =
    let parts = found_none (is_among names t) t _ h in
    rw (parts.0, all_known names ts parts.1)

-- each text of the place is one of the names
abbrev pub has_known_texts : List (List ℕ) → Data → Bool
has_known_texts names d = list_all (is_among names) (texts_at key.From d) && list_all (is_among names) (texts_at key.To d)

place_known : (names : List (List ℕ)) (n : ℕ) (d : Data) → unknown_transition names (spot_at section.Place n) d ≡ None → has_known_texts names d ≡ true
unfolding unknown_transition unknown_text
place_known names n d h =
    let both = neither (unknown_among names (texts_at key.From d)) _ (unmapped _ _ h) in
    rw (all_known names (texts_at key.From d) both.0, all_known names (texts_at key.To d) both.1)

pub places_known : (top : Data) → IsGraph top → list_all (has_known_texts (entry_names (array_at key.Transition top))) (array_at key.Place top) ≡ true
places_known top graph =
    all_clear (unknown_transition (entry_names (array_at key.Transition top))) section.Place (has_known_texts (entry_names (array_at key.Transition top)))
    (place_known (entry_names (array_at key.Transition top))) 1 (array_at key.Place top) (clear _ top graph.known).places

-- the transition of the entry is one of the names
abbrev pub has_known_owner : List (List ℕ) → Data → Bool
has_known_owner names d = is_among names (text_at key.Transition d)

owner_known : (names : List (List ℕ)) (n : ℕ) (d : Data) → unknown_transition names (spot_at section.Input n) d ≡ None → has_known_owner names d ≡ true
unfolding unknown_transition unknown_text unknown_among
owner_known names n d h = (found_none (is_among names (text_at key.Transition d)) (text_at key.Transition d) None (unmapped _ _ h)).0

pub owners_known : (top : Data) → finding (unknown_transition (entry_names (array_at key.Transition top))) top ≡ None
    → list_all (has_known_owner (entry_names (array_at key.Transition top))) (array_at key.Input top) ≡ true
owners_known top known =
    all_clear (unknown_transition (entry_names (array_at key.Transition top))) section.Input (has_known_owner (entry_names (array_at key.Transition top)))
    (owner_known (entry_names (array_at key.Transition top))) 1 (array_at key.Input top) (clear _ top known).inputs

-- a text that is the name of a transition is a name
among_good : (ts : List Data) (text : List ℕ) → list_all has_good_name ts ≡ true → is_among (entry_names ts) text ≡ true → is_name text ≡ true
among_good [] text good h = cc
among_good (t ∷ ts) text good h =
    let parts = and_parts (has_good_name t) _ good in
    or_true (bytes_eq text (text_at key.Name t)) (is_among (entry_names ts) text) h
    (λ e. rw (same_text text (text_at key.Name t) e) parts.0)
    (λ e. among_good ts text parts.1 e)

pub owners_good : (ts es : List Data) → list_all has_good_name ts ≡ true → list_all (has_known_owner (entry_names ts)) es ≡ true → list_all has_good_owner es ≡ true
owners_good ts [] good known = refl
owners_good ts (e ∷ es) good known =
    let parts = and_parts (has_known_owner (entry_names ts) e) _ known in
    let here : has_good_owner e ≡ true = among_good ts (text_at key.Transition e) good parts.0 in
    rw (here, owners_good ts es good parts.1)

-- the place has one text at either end
abbrev pub has_one_end : Data → Bool
has_one_end d = (length (texts_at key.From d) == 1) && (length (texts_at key.To d) == 1)

pub none_unless : {A : Type 0} (b : Bool) (x : A) → (if b then None else Some x) ≡ None → b ≡ true
none_unless true x h = λ _. true
none_unless false x h = cc

place_joined : (d : Data) → not_event_graph d ≡ None → has_one_end d ≡ true
unfolding not_event_graph
place_joined d h = none_unless (has_one_end d) _ h

pub places_joined : (top : Data) → IsGraph top → list_all has_one_end (array_at key.Place top) ≡ true
places_joined top graph = all_passed not_event_graph has_one_end place_joined (array_at key.Place top) graph.ends

one_of : (a : ℕ) → (a == 1) ≡ true → a ≡ 1
one_of a h = grind (arith, nat_tests)

first_known : (names texts : List (List ℕ)) → list_all (is_among names) texts ≡ true → length texts ≡ 1 → is_among names (first_text texts) ≡ true
first_known names [] h one = absurd (omega (arith, one))
first_known names (t ∷ ts) h one = (and_parts (is_among names t) _ h).0

-- both ends of the place are among the names
abbrev pub has_known_ends : List (List ℕ) → Data → Bool
has_known_ends names d = is_among names (end_at key.From d) && is_among names (end_at key.To d)

pub ends_known : (names : List (List ℕ)) (d : Data) → has_known_texts names d ≡ true → has_one_end d ≡ true → has_known_ends names d ≡ true
unfolding end_at
ends_known names d known one =
    let a = and_parts (list_all (is_among names) (texts_at key.From d)) _ known in
    let b = and_parts (length (texts_at key.From d) == 1) _ one in
    rw (first_known names (texts_at key.From d) a.0 (one_of _ b.0), first_known names (texts_at key.To d) a.1 (one_of _ b.1))

-- the place does not enter an input
abbrev pub enters_no_input : List Data → Data → Bool
enters_no_input ts d = not (is_input_named ts (end_at key.To d))

end_free : (ts : List Data) (d : Data) → input_has_upstream ts d ≡ None → enters_no_input ts d ≡ true
unfolding input_has_upstream
end_free ts d h = rw (none_where (is_input_named ts (end_at key.To d)) _ h)

pub places_free : (top : Data) → IsGraph top → list_all (enters_no_input (array_at key.Transition top)) (array_at key.Place top) ≡ true
places_free top graph = all_passed (input_has_upstream (array_at key.Transition top)) (enters_no_input (array_at key.Transition top))
    (end_free (array_at key.Transition top)) (array_at key.Place top) graph.inputs_free
