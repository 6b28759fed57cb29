-- Places told their slack one by one, and group by group.
use Rattle.std.proofs.Common.{ℕ, ◌+◌, ◌<◌, ◌≡◌, ◌≢◌, List, length, get_or, set, take, drop, Option, Some, None, refl, sym, ap, subst, ◌∙◌, arith, ⊎_elim, ◌⊎◌, inl, inr}
use Rattle.std.specs.Prelude.{All, Contains, IsSome}
use Rattle.std.proofs.lemmas.Bool.{cases_eq}
use Rattle.std.proofs.lemmas.List.{take-append-drop, length-set, get_or-set_same, get_or-set_other, get_or-replicate, length-replicate}
use Rattle.std.proofs.lemmas.List.Elements.{All-more, All-weaker, All-drop, All-contains, Contains-append_cases}
use Rattle.teg_net.specs.declared.entries.PlaceId.{PlaceId}
use Rattle.teg_net.specs.declared.answers.CycleAnswer.{CycleAnswer}
use Rattle.teg_net.specs.declared.answers.PartAnswer.{PartAnswer}
use Rattle.teg_net.specs.Nets.{NetLists, IsNet}
use Rattle.teg_net.specs.Ratios.{Fraction}
use Rattle.teg_net.specs.Circuits.{from_of, IsLive, tokens_of}
use Rattle.teg_net.specs.Parts.{to_of}
use Rattle.teg_net.specs.GreatestRatios.{IsGreatestRatio, IsAnyPlace, HasNoCircuit, IsFirstGreatest, ratio_at}
use Rattle.teg_net.specs.Certificates.{IsCertificate}
use Rattle.teg_certificates.proofs.number_laws_proofs.Numbers.{some_of}
use Rattle.teg_certificates.specs.BestRatios.{named_ratio, best_ratio_of}
use Rattle.teg_critical.specs.declared.endings.Ending.{Ending}
use Rattle.teg_critical.specs.declared.losses.Loss.{Loss}
use Rattle.teg_critical.specs.LossEndings.{ending_at, IsEnding, AreEndings}
use Rattle.teg_critical.specs.declared.slacks.Slack.{Slack}
use Rattle.teg_critical.specs.declared.slacks.Slack.TheVariants.{NoCircuit}
use Rattle.teg_critical.specs.Slacks.{IsOnCircuit, IsSlackOf, AreSlacks}
use Rattle.teg_critical.specs.Losses.{loss_at, AreLosses}
use Rattle.teg_critical.specs.LeastLosses.{IsLeastLoss, told_at, IsToldBack}
use Rattle.teg_critical.specs.Told.{CanTellSlack, slack_at, AreToldMore, AreUntold}
use Rattle.teg_critical.proofs.Certified.{no_circuit}
use Rattle.teg_critical.proofs.LossFacts.{IsToldBy, best_told}
use Rattle.teg_critical.proofs.Rounds.{greatest}
use Rattle.teg_critical.proofs.SameRatio.{of_the_net}
use Rattle.teg_net.proofs.Reading.{same_id}
use Rattle.teg_critical.proofs.Telling.{none_of, none_back}

-- ---- places told one after another

-- what is told of a place stays right where a place is told rightly
kept_by : (net : NetLists) (r : Fraction) (mid : List Slack) (q : PlaceId) (s : Slack) → q.index < length mid → IsSlackOf net r q s
    → (p : PlaceId) → IsSlackOf net r p (slack_at mid p) → IsSlackOf net r p (slack_at (set mid q.index s) p)
kept_by net r mid q s in' is p old = ⊎_elim
    (λ (same : p.index ≡ q.index).
    let read : slack_at (set mid q.index s) p ≡ s = ap (λ (z : ℕ). get_or (set mid q.index s) z NoCircuit) same ∙ get_or-set_same mid q.index s NoCircuit in' in
    subst (IsSlackOf net r p) (sym read) (subst (λ (z : PlaceId). IsSlackOf net r z s) (sym (same_id p q same)) is))
    (λ (ne : p.index ≢ q.index). subst (IsSlackOf net r p) (sym (get_or-set_other mid q.index p.index s NoCircuit ne)) old)
    (cases_eq p.index q.index)

-- one place more
pub told_one : (net : NetLists) (r : Fraction) (endings : List Ending) (k : ℕ) (e : Ending) (old mid : List Slack) (s : Slack)
    → AreToldMore net r (take k endings) old mid → k < length endings → e ≡ get_or endings k e
    → e.place.index < length old → IsSlackOf net r e.place s → AreToldMore net r (take (k + 1) endings) old (set mid e.place.index s)
told_one net r endings k e old mid s h l is in' right =
    let count = h.count in
    let low : e.place.index < length mid = omega arith in
    let stays = kept_by net r mid e.place s low right in
    let new : List Slack = set mid e.place.index s in
    let here : IsSlackOf net r e.place (slack_at new e.place) = subst (IsSlackOf net r e.place) (sym (get_or-set_same mid e.place.index s NoCircuit low)) right in
    record {
      count = length-set mid e.place.index s ∙ count;
      told = All-more (λ z. IsSlackOf net r z.place (slack_at new z.place)) endings k e l
          (All-weaker (λ z. IsSlackOf net r z.place (slack_at mid z.place)) (λ z. IsSlackOf net r z.place (slack_at new z.place)) (λ z. stays z.place) (take k endings) h.told)
          (subst (λ (z : Ending). IsSlackOf net r z.place (slack_at new z.place)) is here);
      kept = λ p m. stays p (h.kept p m);
    }

-- ---- all places

-- the places that are left are among these, and the others are told their slack
pub record ToldOrLeft (net : NetLists) (r : Fraction) (slacks : List Slack) (rest : List Ending) : Type 0 where
  pub count : length slacks ≡ length net.places
  pub known : All (IsEnding net) rest
  pub each : (p : PlaceId) → p.index < length net.places → IsSlackOf net r p (slack_at slacks p) ⊎ Contains rest (ending_at net p)

-- places that are told no loss are on no circuit, and the others are listed
pub told_begin : (net : NetLists) (r : Fraction) (losses : List (Option Loss)) → CanTellSlack net r losses → (slacks : List Slack)
    → AreUntold net slacks → (order : List Ending) → AreEndings net losses order → ToldOrLeft net r slacks order
told_begin net r losses can slacks none order h = record {
  count = ap length none ∙ length-replicate {A = Slack} (length net.places) NoCircuit;
  known = h.known;
  each = λ p l. by_loss p l (loss_at losses p) refl;
} where
  untold : (p : PlaceId) → p.index < length net.places → slack_at slacks p ≡ NoCircuit
  untold p l = ap (λ (z : List Slack). get_or z p.index NoCircuit) none ∙ get_or-replicate (length net.places) p.index NoCircuit NoCircuit l

  by_loss : (p : PlaceId) → p.index < length net.places → (o : Option Loss) → loss_at losses p ≡ o → IsSlackOf net r p (slack_at slacks p) ⊎ Contains order (ending_at net p)
  by_loss p l None e = inl (subst (IsSlackOf net r p) (sym (untold p l)) (λ c. none_of net can.rules r losses can p l e c))
  by_loss p l (Some loss) e = inr (h.all p l (subst IsSome (sym e) refl))

-- a group is told
pub told_group : (net : NetLists) (r : Fraction) (old new : List Slack) (rest : List Ending) (k : ℕ) → ToldOrLeft net r old rest
    → AreToldMore net r (take k rest) old new → ToldOrLeft net r new (drop k rest)
told_group net r old new rest k h more = record {
  count = more.count ∙ h.count;
  known = All-drop (IsEnding net) k rest h.known;
  each = λ p l. ⊎_elim
      (λ (q : IsSlackOf net r p (slack_at old p)). inl (more.kept p q))
      (λ (q : Contains rest (ending_at net p)). ⊎_elim
      (λ (here : Contains (take k rest) (ending_at net p)). inl (All-contains (λ z. IsSlackOf net r z.place (slack_at new z.place)) (take k rest) (ending_at net p) more.told here))
      (λ (later : Contains (drop k rest) (ending_at net p)). inr later)
      (Contains-append_cases (take k rest) (drop k rest) (ending_at net p) (subst (λ z. Contains z (ending_at net p)) (sym (take-append-drop k rest)) q)))
      (h.each p l);
}

-- no place is left
pub told_end : (net : NetLists) (r : Fraction) (slacks : List Slack) (rest : List Ending) → ToldOrLeft net r slacks rest → length rest ≡ 0 → AreSlacks net r slacks
told_end net r slacks rest h none = record {
  each = h.count;
  told = λ p l. ⊎_elim (λ q. q) (λ (q : Contains rest (ending_at net p)). let low = q.1 in absurd (omega arith)) (h.each p l);
}

-- ---- what the losses tell of a place

module _ (net : NetLists) (r : Fraction) (losses : List (Option Loss)) (can : CanTellSlack net r losses) (e : Ending) (is : IsEnding net e) where
  -- no loss is told: no circuit passes it
  pub no_loss : loss_at losses e.place ≡ None → IsOnCircuit net e.place → ⊥
  no_loss f c = none_of net can.rules r losses can e.place is.in_range f c

  module _ (back : List (Option ℕ)) (told : IsToldBack net losses back e) (o : Option ℕ) (f : told_at back e.start ≡ o) where
    pub back_is : IsLeastLoss net losses (to_of net e.place) (from_of net e.place) o
    back_is = subst (λ (z : Ending). IsLeastLoss net losses z.end z.start o) is.is (subst (λ (z : Option ℕ). IsLeastLoss net losses e.end e.start z) f told.least)

  -- no path leads back
  pub no_back : (back : List (Option ℕ)) → IsToldBack net losses back e → told_at back e.start ≡ None → IsOnCircuit net e.place → ⊥
  no_back back told f c = none_back net can.rules r losses can e.place is.in_range (back_is back told None f) c

-- ---- the losses of a certified answer

pub can_tell : (net : NetLists) → IsNet net → (answer : CycleAnswer) → (h : IsCertificate net answer) → IsLive net → (best : Fraction)
    → best_ratio_of answer ≡ Some best → (losses : List (Option Loss)) → AreLosses net answer best losses → CanTellSlack net best losses
can_tell net ok answer h live best b losses lost =
    let told : IsToldBy net best = best_told net answer h best b in
    record {
      answer = answer;
      certificate = h;
      lost = lost;
      live = live;
      rules = ok;
      greatest = greatest net ok answer h best losses lost told.some told.places told.circuit (some_of (tokens_of net told.places) (live told.places told.circuit)) told.attains;
      small = told.small;
    }

-- ---- the slacks of the net, for each way to write its ratio

pub each_way : (net : NetLists) (best : Fraction) → IsGreatestRatio net IsAnyPlace best → (slacks : List Slack) → AreSlacks net best slacks
    → (r : Fraction) → IsGreatestRatio net IsAnyPlace r → AreSlacks net r slacks
each_way net best top slacks h r other = record { each = h.each; told = λ p l. of_the_net net best r top other p l (slack_at slacks p) (h.told p l) }

pub no_ratio : {P : Type 0} (net : NetLists) (r : Fraction) → IsGreatestRatio net IsAnyPlace r → HasNoCircuit net IsAnyPlace → P
no_ratio net r top none = absurd (none top.attained.0 top.attained.1 top.attained.2)

-- an answer that tells no ratio is that of a net without circuits
no_ratios : (answers : List PartAnswer) (best : Option ℕ) → IsFirstGreatest answers best → named_ratio answers best ≡ None → (j : ℕ) → ratio_at answers j ≡ None
no_ratios answers None h e = h
no_ratios answers (Some k) h e = let here = h.1.here in let f : ⊥ = cc in absurd f

pub unnamed : (net : NetLists) → IsNet net → (answer : CycleAnswer) → IsCertificate net answer → best_ratio_of answer ≡ None → HasNoCircuit net IsAnyPlace
unnamed net ok answer h e = no_circuit net ok answer h (no_ratios answer.parts.items answer.best h.best e)
