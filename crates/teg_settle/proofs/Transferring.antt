-- The least dating where one input alone is released has the greatest times of walks from its first firing.
use Rattle.std.proofs.Common.{ℕ, ◌<◌, ◌≤◌, ◌≡◌, List, true, false, eqb, length, None, refl, ap, subst, ◌∙◌, arith, ⊎_elim}
use Rattle.std.specs.Prelude.{slice_get}
use Rattle.std.proofs.lemmas.Bool.{cases_lt, cases_Bool}
use Rattle.std.proofs.lemmas.Bool.Decides.{nat_tests}
use Rattle.std.proofs.lemmas.List.{get_or_past}
use Rattle.std.proofs.lemmas.Option.{slice_get_past}
use Rattle.teg_net.specs.Nets.{NetLists, IsNet, IsInput}
use Rattle.teg_net.specs.Inputs.{date_by_list}
use Rattle.teg_check.specs.Ranks.{IsRanking}
use Rattle.periodic_laws.specs.teg_model.Systems.{IsLeastIn}
use Rattle.periodic_laws.specs.teg_model.Datings.{as_date, system_with}
use Rattle.periodic_laws.proofs.teg_model_proofs.OfNet.{net_ends}
use Rattle.periodic_laws.proofs.teg_model_proofs.SystemWalks.{least_in_is_walk}
use Rattle.periodic_laws.proofs.teg_model_proofs.DateFunctions.{Dating}
use Rattle.date_rows.proofs.Ranking.{rank_of, ranks_of}
use Rattle.walk_times.specs.Alone.{alone, no_tokens, released_alone}
use Rattle.walk_times.specs.Transfers.{AreWalkTimes}
use Rattle.walk_times.proofs.Walking.{input_within, times_from}
use Rattle.teg_settle.specs.declared.releases.Tokens.TheVariants.{Absent}
use Rattle.teg_settle.specs.declared.releases.Wait.TheVariants.{Nothing, Dates}
use Rattle.teg_settle.specs.declared.releases.Releases.{Releases}
use Rattle.teg_settle.specs.InitialReleases.{initial_by, release_as, wait_in, release_by, system_for, AreWaits, wait_from, OnlyInputsWait}
use Rattle.teg_settle.proofs.Owning.{least_same, waits_within}

alone_release : (net : NetLists) (r : Releases) (input : ℕ) → IsInput net input → AreWaits net (wait_from net input) r.waits.items
    → (t k : ℕ) → release_by r.waits.items net t k ≡ released_alone input t k
alone_release net r input h w t k =
    let in' = input_within net input h in
    let none : slice_get net.inputs (length net.inputs) ≡ None = slice_get_past net.inputs (length net.inputs) (omega arith) in
    ⊎_elim
    (λ (l : t < length net.transitions).
    ap (λ z. release_as net z k) (w.each t l)
    ∙ ⊎_elim
    (λ (b : eqb input t ≡ true). rw b (ap (λ o. as_date (date_by_list o k)) none))
    (λ (b : eqb input t ≡ false). rw b refl)
    (cases_Bool (eqb input t)))
    (λ (l : length net.transitions ≤ t).
    let past : wait_in r.waits.items t ≡ Nothing = get_or_past r.waits.items t Nothing (omega (arith, w.count)) in
    let b : eqb input t ≡ false = grind (arith, nat_tests) in
    ap (λ z. release_as net z k) past ∙ rw b refl)
    (cases_lt t (length net.transitions))

-- the system of these releases has the same least dating
pub alone_here : (net : NetLists) (r : Releases) (input : ℕ) → IsInput net input → r.tokens ≡ Absent → AreWaits net (wait_from net input) r.waits.items
    → (x : Dating) → IsLeastIn (system_for r net) x → IsLeastIn (alone net input) x
alone_here net r input h absent w x least =
    let rel : Dating = release_by r.waits.items net in
    let here : IsLeastIn (system_with net (initial_by Absent) rel) x = subst (λ t. IsLeastIn (system_with net (initial_by t) rel) x) absent least in
    least_same net (initial_by Absent) rel (released_alone input) x (alone_release net r input h w) here

pub alone_times : (net : NetLists) (input : ℕ) (ranks : List ℕ) → IsNet net → IsRanking net ranks → IsInput net input
    → (x : Dating) → IsLeastIn (alone net input) x → AreWalkTimes net input x
alone_times net input ranks ok ranking h x least t k l o =
    times_from net input t k (x t k) (input_within net input h)
    (least_in_is_walk net no_tokens (released_alone input) 400 (rank_of ranks) (net_ends net ok) (ranks_of net ranks ok ranking) x least t k l o)

waits_at : (net : NetLists) (input t list : ℕ) → IsInput net input → wait_from net input t ≡ Dates list → IsInput net t
waits_at net input t list h e =
    ⊎_elim
    (λ (b : eqb input t ≡ true). let is : input ≡ t = grind (arith, nat_tests) in subst (IsInput net) is h)
    (λ (b : eqb input t ≡ false). let no : Nothing ≡ Dates list = rw b at e in absurd (cc))
    (cases_Bool (eqb input t))

pub alone_waits : (net : NetLists) (r : Releases) (input : ℕ) → IsInput net input → AreWaits net (wait_from net input) r.waits.items → OnlyInputsWait net r.waits.items
alone_waits net r input h w = waits_within net (wait_from net input) r w (λ t list e. waits_at net input t list h e)
