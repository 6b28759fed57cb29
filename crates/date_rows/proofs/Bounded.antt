-- What a system's bound says of each initial date and each release.
use Rattle.std.proofs.Common.{ℕ, ◌≤◌, ◌<◌, length, arith}
use Rattle.teg_net.specs.Nets.{NetLists}
use Rattle.teg_net.specs.Circuits.{no_place, place_at}
use Rattle.teg_net.specs.declared.entries.PlaceId.{PlaceId}
use Rattle.teg_model.specs.Datings.{implicit_place, system_with}
use Rattle.teg_model.specs.DateBounds.{IsDateWithin}
use Rattle.teg_model.proofs.OfNet.{extended_has, implicit_is}
use Rattle.teg_model.proofs.Within.{within_more}
use Rattle.teg_model.proofs.DateFunctions.{Dating, InitialDates}
use Rattle.date_rows.specs.KeptRows.{StaysWithin}

pub implicit_within : (net : NetLists) (init : InitialDates) (rel : Dating) (most n t : ℕ) → StaysWithin most n (system_with net init rel)
    → t < length net.transitions → 1 ≤ n → IsDateWithin most (init (implicit_place t) 1)
implicit_within net init rel most n t b l o =
    let i = implicit_is net t l in
    within_more (b.0 1) most (init (implicit_place t) 1) (omega (arith, b.1.grows 1 n o, b.2)) (rw i.2 at (b.1.initial i.0 no_place i.1) 1 (omega arith) (omega arith))

pub initial_within : (net : NetLists) (init : InitialDates) (rel : Dating) (most n : ℕ) (id : PlaceId) → StaysWithin most n (system_with net init rel)
    → id.index < length net.places → 1 ≤ n → n ≤ (place_at net id).tokens → IsDateWithin most (init (place_at net id) n)
initial_within net init rel most n id b l o few =
    let within = extended_has net (λ p. (k : ℕ) → 1 ≤ k → k ≤ p.tokens → IsDateWithin (b.0 k) (init p k)) (λ j m. b.1.initial j no_place m) id.index l in
    within_more (b.0 n) most (init (place_at net id) n) (omega (arith, b.2)) (within n o few)

pub release_within : (net : NetLists) (init : InitialDates) (rel : Dating) (most n t : ℕ) → StaysWithin most n (system_with net init rel) → 1 ≤ n → IsDateWithin most (rel t n)
release_within net init rel most n t b o = within_more (b.0 n) most (rel t n) (omega (arith, b.2)) (b.1.release t n o)
