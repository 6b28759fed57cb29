-- A net has one shortest settled form, whichever least dating tells it.
use Rattle.std.proofs.Common.{length}
use Rattle.teg_model.specs.teg_net.Nets.{NetLists}
use Rattle.teg_model.specs.Datings.{IsLeastDating, listed_releases}
use Rattle.teg_model.proofs.Tokens.{dates_climb}
use Rattle.teg_model.proofs.OfNet.{only_least}
use Rattle.teg_model.proofs.DateFunctions.{Dating}
use Rattle.settled_laws.specs.OneSettledForm.{SettledFormsAreOne, LimitsAreTold}
use Rattle.settled_laws.proofs.Shortest.{shortest_is_one}
use Rattle.settled_laws.proofs.Alike.{AreAlike, shortest_alike, past_alike}

-- two least datings of a net agree at its firings
datings_alike : (net : NetLists) (x y : Dating) → IsLeastDating net x → IsLeastDating net y → AreAlike (length net.transitions) x y
datings_alike net x y a b = record { same = λ i k l o. only_least net (listed_releases net) x y a b i k l o }

pub settled_forms_are_one : SettledFormsAreOne
settled_forms_are_one net f g a b =
    shortest_is_one (length net.transitions) a.0 (λ t k l o. dates_climb net (listed_releases net) a.0 a.1.feasible t k l o) f g a.2
    (shortest_alike (length net.transitions) g b.0 a.0 (datings_alike net b.0 a.0 b.1 a.1) b.2)

pub limits_are_told : LimitsAreTold
limits_are_told net limit f a h =
    past_alike (length net.transitions) h.0 a.0 limit (datings_alike net h.0 a.0 h.1 a.1) h.2 f a.2.stands
