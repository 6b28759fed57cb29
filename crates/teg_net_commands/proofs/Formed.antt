-- The entries of a standard form lead between transitions of its net.
use Rattle.std.proofs.Common.{◌≢◌, ℕ, ◌<◌, List, [], ◌∷◌, length, sym, arith}
use Rattle.teg_form.specs.declared.stars.StarEntry.{StarEntry}
use Rattle.teg_form.specs.declared.entries.Entry.{Entry}
use Rattle.teg_form.specs.StandardForms.{FormLists, IsStandardFormOf, IsStarEntry, IsEntry}
use Rattle.teg_net.specs.declared.entries.PlaceId.{PlaceId}
use Rattle.teg_net.specs.Nets.{NetLists, IsNet}
use Rattle.teg_net.specs.Circuits.{IsPathBetween, place_at, no_place}
use Rattle.teg_report.specs.FormLines.{HasEndsIn}

-- a path that begins at a transition of the net ends at one
path_ends : (net : NetLists) → IsNet net → (ps : List PlaceId) (a b : ℕ) → a < length net.transitions → IsPathBetween net a ps b → b < length net.transitions
path_ends net ok [] a b h path = omega (arith, path)
path_ends net ok (p ∷ ps) a b h path = path_ends net ok ps (place_at net p).to.index b (ok.each_place p.index no_place path.0).to_in path.2

-- both ends of a path that is not empty are transitions of the net
path_within : (net : NetLists) → IsNet net → (p : PlaceId) (ps : List PlaceId) (a b : ℕ) → IsPathBetween net a (p ∷ ps) b →
    (a < length net.transitions) × (b < length net.transitions)
path_within net ok p ps a b path =
    let place = ok.each_place p.index no_place path.0 in
    (omega (arith, path.1, place.from_in), path_ends net ok ps (place_at net p).to.index b place.to_in path.2)

star_path_within : (net : NetLists) → IsNet net → (places : List PlaceId) (a b : ℕ) → b ≢ a → IsPathBetween net a places b →
    (a < length net.transitions) × (b < length net.transitions)
star_path_within net ok [] a b other path = absurd (other (sym path))
star_path_within net ok (p ∷ ps) a b other path = path_within net ok p ps a b path

star_within : (net : NetLists) → IsNet net → (e : StarEntry) → IsStarEntry net e → (e.from.index < length net.transitions) × (e.to.index < length net.transitions)
star_within net ok e h = star_path_within net ok h.time.reached.places e.from.index e.to.index h.different h.time.reached.path

entry_within : (net : NetLists) → IsNet net → (e : Entry) → IsEntry net e → (e.from.index < length net.transitions) × (e.to.index < length net.transitions)
entry_within net ok e h = path_within net ok h.time.reached.first h.time.reached.others e.from.index e.to.index h.time.reached.path

pub form_within : (net : NetLists) → IsNet net → (form : FormLists) → IsStandardFormOf net form → HasEndsIn net form
form_within net ok form h =
    record {
      stars_to = λ k d lt. (star_within net ok _ (h.stars.known k d lt)).1;
      stars_from = λ k d lt. (star_within net ok _ (h.stars.known k d lt)).0;
      entries_to = λ k d lt. (entry_within net ok _ (h.entries.known k d lt)).1;
      entries_from = λ k d lt. (entry_within net ok _ (h.entries.known k d lt)).0;
    }
