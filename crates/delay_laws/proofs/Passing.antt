-- The greatest delay past some number comes to a transition from another that has it, over a place without spare time.
use Rattle.std.proofs.Common.{ℕ, zero, suc, ◌+◌, ◌-◌, ◌*◌, ◌<◌, ◌≤◌, ◌≡◌, List, [], ◌∷◌, length, get_or, refl, sym, ap, subst, ◌∙◌, arith, ⊎_elim, inl, inr}
use Rattle.std.specs.Prelude.{All, ◌⊎◌}
use Rattle.std.proofs.lemmas.Bool.{cases_lt}
use Rattle.std.proofs.lemmas.List.Elements.{All-cons}
use Rattle.teg_net.specs.declared.entries.Place.{Place}
use Rattle.teg_net.specs.Nets.{NetLists}
use Rattle.teg_net.specs.Circuits.{no_place}
use Rattle.periodic_laws.specs.teg_model.Systems.{System, available, IsLeastIn}
use Rattle.periodic_laws.specs.teg_model.LiveRanks.{IsRanked}
use Rattle.periodic_laws.specs.teg_model.Datings.{initial_date, system_with}
use Rattle.periodic_laws.proofs.teg_model_proofs.OfNet.{ranks_extended}
use Rattle.periodic_laws.proofs.teg_model_proofs.Tokens.{available_same}
use Rattle.periodic_laws.proofs.teg_model_proofs.LeastOver.{least_over, least_over_is_least, least_is_attained, only_least_in}
use Rattle.periodic_laws.proofs.teg_model_proofs.DateFunctions.{Dating}
use Rattle.delay_laws.specs.declared.table.Timetable.{Timetable}
use Rattle.delay_laws.specs.DelayOutcomes.{HasDelayPast, IsGreatestPast}
use Rattle.delay_laws.specs.SettlingLaws.{AreSettledDelays}

-- ---- delays that come again

module _ (net : NetLists) (period : ℕ) (t : Timetable) (delay : ℕ → ℕ → ℕ) (after again : ℕ) (settled : AreSettledDelays net period t delay after again) where
  -- so many periods on
  pub comes_on : (i k r : ℕ) → i < length net.transitions → after < k → delay i (k + r * again) ≡ delay i k
  comes_on i k zero l m = let e : k + 0 * again ≡ k = omega arith in ap (delay i) e
  comes_on i k (suc r) l m =
      let e : k + suc r * again ≡ (k + r * again) + again = grind arith in
      ap (delay i) e ∙ settled.comes_again i (k + r * again) l (omega arith) ∙ comes_on i k r l m

  -- and back in the first period
  comes_back : (n i k : ℕ) → k ≤ n → i < length net.transitions → after < k → HasDelayPast delay after again (delay i k) i
  comes_back zero i k few l m = absurd (omega arith)
  comes_back (suc n) i k few l m =
      let some = settled.some in
      ⊎_elim
      (λ (far : after + again < k).
      let e : (k - again) + again ≡ k = omega arith in
      let same : delay i (k - again) ≡ delay i k = sym (settled.comes_again i (k - again) l (omega arith)) ∙ ap (delay i) e in
      subst (λ (z : ℕ). HasDelayPast delay after again z i) same (comes_back n i (k - again) (omega arith) l (omega arith)))
      (λ (near : k ≤ after + again). record { number = k; past = m; within = near; is = refl })
      (cases_lt (after + again) k)

  pub has_past : (i k most : ℕ) → i < length net.transitions → after < k → delay i k ≡ most → HasDelayPast delay after again most i
  has_past i k most l m e = subst (λ (z : ℕ). HasDelayPast delay after again z i) e (comes_back k i k (omega arith) l m)

  -- none past `after` is above the greatest of the first period
  pub most_past : (most : ℕ) → IsGreatestPast net delay after again most → (i k : ℕ) → i < length net.transitions → after < k → delay i k ≤ most
  most_past most greatest i k l m =
      let back : HasDelayPast delay after again (delay i k) i = has_past i k (delay i k) l m refl in
      let low = greatest i back.number l back.past back.within in
      let is = back.is in
      omega arith

-- ---- what a firing waits for

-- no place has more tokens than this
pub tokens_bound : (ps : List Place) → (most : ℕ) × All (λ p. p.tokens ≤ most) ps
tokens_bound [] = (0, λ i d l. absurd (omega arith))
tokens_bound (p ∷ ps) =
    let rest = tokens_bound ps in
    (p.tokens + rest.0, All-cons (λ q. q.tokens ≤ p.tokens + rest.0) p ps (omega arith) (λ i d l. let low = rest.1 i d l in omega arith))

-- the place that a least date waits for
pub record WaitsFor (s : System) (x : Dating) (i k : ℕ) : Type 0 where
  pub index : ℕ
  pub within : index < length s.places
  pub to : (get_or s.places index no_place).to.index ≡ i
  pub is : x i k ≡ available s x (get_or s.places index no_place) k

pub waits_for : (net : NetLists) (w x : Dating) → IsRanked net → IsLeastIn (system_with net initial_date w) x → (i k : ℕ) → 1 ≤ k
    → (x i k ≡ w i k) ⊎ WaitsFor (system_with net initial_date w) x i k
waits_for net w x ranked h i k o =
    let s : System = system_with net initial_date w in
    let re = ranks_extended net ranked.0 ranked.1 ranked.2 in
    let lo : Dating = least_over s ranked.0 ranked.1 in
    let same : (j m : ℕ) → 1 ≤ m → x j m ≡ lo j m = λ j m p. only_least_in s x lo h (least_over_is_least s ranked.0 ranked.1 re) j m p in
    ⊎_elim
    (λ (e : lo i k ≡ w i k). inl (same i k o ∙ e))
    (λ (a : (j : ℕ) × (j < length s.places) × ((get_or s.places j no_place).to.index ≡ i) × (lo i k ≡ available s lo (get_or s.places j no_place) k)).
    let p : Place = get_or s.places a.0 no_place in
    inr (record {
      index = a.0;
      within = a.1;
      to = a.2;
      is = same i k o ∙ a.3 ∙ available_same initial_date lo x p k (λ m. sym (same p.from.index (k - p.tokens) (omega arith)));
    }))
    (least_is_attained s ranked.0 ranked.1 re i k)
