-- Runs depend on what is told of them alone, so a text that tells other rounds is not shown.
use Rattle.std.proofs.Common.{ℕ, ◌+◌, ◌-◌, ◌<◌, ◌≡◌, List, [], ◌∷◌, Option, Some, None, Any, drop, map, length, get_or, refl, sym, ap, subst, ◌∙◌, arith, inl, inr, ⊎_elim}
use Rattle.std.specs.Prelude.{ℤ, ⊤}
use Rattle.std.proofs.lemmas.List.{get_or-map, length-map}
use Rattle.teg_net.specs.declared.answers.CycleAnswer.{CycleAnswer}
use Rattle.teg_net.specs.declared.answers.PartAnswer.{PartAnswer}
use Rattle.teg_net.specs.declared.answers.PartAnswer.TheVariants.{NoCircuit, Best}
use Rattle.teg_net.specs.declared.entries.PlaceId.{PlaceId}
use Rattle.teg_net.specs.declared.rounds.Round.{Round}
use Rattle.teg_net.specs.Circuits.{BeginsLowest, time_of, tokens_of}
use Rattle.teg_net.specs.Nets.{NetLists, IsNet}
use Rattle.teg_net.specs.Parts.{IsMember, ListsMembers, to_of}
use Rattle.teg_net.specs.PartAnswers.{first_transition_of}
use Rattle.teg_net.specs.Ratios.{Fraction, IsRatioOf}
use Rattle.policy_rounds.specs.Policies.{Policy, AreSums, Improves, IsBestCircuit, IsChanged, IsImprovement, IsPolicy, IsPolicyCircuit, IsRouting}
use Rattle.policy_rounds.specs.PolicyRounds.{FollowsRound, IsFirstRound, IsPolicyRun, IsRound, IsRoundOf, KeepsCircuit, choice_of_member, chosen, chosen_for, chosen_place, value_in}
use Rattle.policy_rounds.specs.RunAnswers.{potential_of}
use Rattle.policy_rounds.specs.LastRounds.{AreRunsFrom}
use Rattle.teg_text.specs.WordReading.{lines_in}
use Rattle.teg_lines.specs.CycleLines.{BestOf, CycleLists, NoCircuitIn, ToldPart, cycle_in}
use Rattle.teg_lines.specs.CycleMeanings.{cycle_lists, part_lists, round_lists}
use Rattle.teg_lines.specs.LinesTellBack.{CertificatesCanBeTold, CycleTimesAreRead}
use Rattle.teg_lines.specs.RoundLines.{RoundLists, no_round, rounds_in_lines}
use Rattle.pace_check.proofs.Paces.{part_is_named}
use Rattle.round_check.specs.OtherRounds.{IsOtherText}
use Rattle.round_check.specs.ShownRounds.{IsShownRounds}
use Rattle.round_check.proofs.Telling.{other_runs, told_from}

-- the place and the potential that a round gives to a member, as told
abbrev place_told : RoundLists → Policy
place_told l t = chosen_place (choice_of_member l.choices t)

abbrev value_told : RoundLists → ℕ → ℤ
value_told l t = value_in (choice_of_member l.choices t)

-- what is told of a part is the ratio, the circuit and the potentials of the round
abbrev TellsOf : RoundLists → ToldPart → Type 0
TellsOf l NoCircuitIn = ⊥
TellsOf l (BestOf ratio circuit potentials) = (ratio ≡ l.ratio) × (circuit ≡ l.circuit) × (potentials ≡ map potential_of l.choices)

abbrev HasNone : ToldPart → Type 0
HasNone NoCircuitIn = ⊤
HasNone (BestOf ratio circuit potentials) = ⊥

module _ (net : NetLists) (parts : List ℕ) (part : ℕ) where
  round_as : (r q : Round) → round_lists r ≡ round_lists q → IsRound net parts part r → IsRound net parts part q
  round_as r q e h = record {
    members = subst (λ (l : RoundLists). ListsMembers parts part (chosen_for l.choices)) e h.members;
    policy = subst (λ (l : RoundLists). IsPolicy net parts part (place_told l)) e h.policy;
    circuit = subst (λ (l : RoundLists). IsPolicyCircuit net parts part (place_told l) l.circuit) e h.circuit;
    lowest_first = subst (λ (l : RoundLists). BeginsLowest net l.circuit) e h.lowest_first;
    ratio = subst (λ (l : RoundLists). IsRatioOf (time_of net l.circuit) (tokens_of net l.circuit) l.ratio) e h.ratio;
    sums = subst (λ (l : RoundLists). AreSums net parts part l.ratio.time l.ratio.tokens (place_told l) (first_transition_of net l.circuit) (value_told l)) e h.sums;
  }

  made_as : (π : Policy) (Kind : ℕ → Type 0) (r q : Round) → round_lists r ≡ round_lists q → IsRoundOf net parts part π Kind r → IsRoundOf net parts part π Kind q
  made_as π Kind r q e h = record {
    best = subst (λ (l : RoundLists). IsBestCircuit net parts part π Kind l.circuit) e h.best;
    routing = (h.routing.0, subst (λ (l : RoundLists). IsRouting net parts part π (first_transition_of net l.circuit) h.routing.0 (place_told l)) e h.routing.1);
  }

  first_as : (r q : Round) → round_lists r ≡ round_lists q → IsFirstRound net parts part r → IsFirstRound net parts part q
  first_as r q e h = record { round = round_as r q e h.round; begins = (h.begins.0, h.begins.1, made_as h.begins.0 (IsMember parts part) r q e h.begins.2) }

  kept_as : (r q s u : Round) (better : Policy) → round_lists r ≡ round_lists q → round_lists s ≡ round_lists u → KeepsCircuit net parts part r s better → KeepsCircuit net parts part q u better
  kept_as r q s u better e f h = record {
    none_new = subst (λ (l : RoundLists). (d : List PlaceId) → IsPolicyCircuit net parts part better d → Any (λ p. IsChanged parts part (place_told l) better (to_of net p)) d → ⊥) e h.none_new;
    same_circuit = sym (ap (λ (l : RoundLists). l.circuit) f) ∙ (h.same_circuit ∙ ap (λ (l : RoundLists). l.circuit) e);
    same_ratio = sym (ap (λ (l : RoundLists). l.ratio) f) ∙ (h.same_ratio ∙ ap (λ (l : RoundLists). l.ratio) e);
    same_places = λ t i. subst (λ (l : RoundLists). place_told l t ≡ better t) f (h.same_places t i);
  }

  follows_as : (r q s u : Round) → round_lists r ≡ round_lists q → round_lists s ≡ round_lists u → FollowsRound net parts part r s → FollowsRound net parts part q u
  follows_as r q s u e f h = record {
    round = round_as s u f h.round;
    improvable = subst (λ (l : RoundLists). (t : ℕ) × (p : PlaceId) × Improves net parts part l.ratio.time l.ratio.tokens (value_told l) t p) e h.improvable;
    better = h.better;
    improves = subst (λ (l : RoundLists). IsImprovement net parts part l.ratio.time l.ratio.tokens (place_told l) (value_told l) h.better) e h.improves;
    next = ⊎_elim
        (λ (x : IsRoundOf net parts part h.better (IsChanged parts part (chosen r) h.better) s).
        inl (subst (λ (l : RoundLists). IsRoundOf net parts part h.better (IsChanged parts part (place_told l) h.better) u) e
        (made_as h.better (IsChanged parts part (chosen r) h.better) s u f x)))
        (λ (y : KeepsCircuit net parts part r s h.better). inr (kept_as r q s u h.better e f y))
        h.next;
  }

  module _ (rs qs : List Round) (e : map round_lists rs ≡ map round_lists qs) where
    as_many : length rs ≡ length qs
    as_many = sym (length-map rs round_lists) ∙ (ap length e ∙ length-map qs round_lists)

    at_told : (k : ℕ) (d : Round) → k < length rs → round_lists (get_or rs k d) ≡ round_lists (get_or qs k d)
    at_told k d l =
        sym (get_or-map round_lists rs k d no_round l) ∙ (ap (λ (ls : List RoundLists). get_or ls k no_round) e ∙ get_or-map round_lists qs k d no_round (omega (arith, l, as_many)))

    last_told : (d : Round) → 0 < length rs → round_lists (get_or rs (length rs - 1) d) ≡ round_lists (get_or qs (length qs - 1) d)
    last_told d l = at_told (length rs - 1) d (omega (arith, l)) ∙ ap (λ (n : ℕ). round_lists (get_or qs (n - 1) d)) as_many

    run_as : IsPolicyRun net parts part rs → IsPolicyRun net parts part qs
    run_as h = record {
      run = record {
        some = omega (arith, h.run.some, as_many);
        first = λ d. first_as (get_or rs 0 d) (get_or qs 0 d) (at_told 0 d h.run.some) (h.run.first d);
        next = λ k d l.
            follows_as (get_or rs k d) (get_or qs k d) (get_or rs (k + 1) d) (get_or qs (k + 1) d) (at_told k d (omega (arith, l, as_many))) (at_told (k + 1) d (omega (arith, l, as_many)))
            (h.run.next k d (omega (arith, l, as_many)));
      };
      last = λ d t p w.
          h.last d t p (subst (λ (l : RoundLists). Improves net parts part l.ratio.time l.ratio.tokens (value_told l) t p) (sym (last_told d h.run.some)) w);
    }

    told_as : 0 < length rs → (a b : ToldPart) → a ≡ b → ((d : Round) → TellsOf (round_lists (get_or rs (length rs - 1) d)) a) → (d : Round)
        → TellsOf (round_lists (get_or qs (length qs - 1) d)) b
    told_as l a b same h d = subst (TellsOf (round_lists (get_or qs (length qs - 1) d))) same (subst (λ (r : RoundLists). TellsOf r a) (last_told d l) (h d))

nothing_left : (qs : List (List Round)) → length qs ≡ 0 → qs ≡ []
nothing_left [] e = refl
nothing_left (q ∷ qs) e = absurd (omega (arith, e))

abbrev runs_or_none : Option (List (List RoundLists)) → List (List RoundLists)
runs_or_none None = []
runs_or_none (Some ls) = ls

abbrev first_told : ToldPart → List ToldPart → ToldPart
first_told d [] = d
first_told d (x ∷ xs) = x

module _ (net : NetLists) (part_of : List ℕ) where
  -- where answers and runs tell the same, the ones are the runs of the parts where the others are
  runs_as : (k : ℕ) (xs ys : List PartAnswer) (rs qs : List (List Round)) → map part_lists xs ≡ map part_lists ys → map (map round_lists) rs ≡ map (map round_lists) qs
      → AreRunsFrom net part_of k xs rs → AreRunsFrom net part_of k ys qs
  runs_as k [] [] rs qs e f h = nothing_left qs (sym (length-map qs (map round_lists)) ∙ (sym (ap length f) ∙ (length-map rs (map round_lists) ∙ ap length h)))
  runs_as k [] (y ∷ ys) rs qs e f h = absurd (omega (arith, ap length e))
  runs_as k (x ∷ xs) [] rs qs e f h = absurd (omega (arith, ap length e))
  runs_as k (NoCircuit ∷ xs) (NoCircuit ∷ ys) rs qs e f h = runs_as (k + 1) xs ys rs qs (ap (drop 1) e) f h
  runs_as k (NoCircuit ∷ xs) (Best ratio circuit potentials ∷ ys) rs qs e f h = absurd (subst HasNone (ap (first_told NoCircuitIn) e) tt)
  runs_as k (Best ratio circuit potentials ∷ xs) (NoCircuit ∷ ys) rs qs e f h = absurd (subst HasNone (sym (ap (first_told NoCircuitIn) e)) tt)
  runs_as k (Best ratio circuit potentials ∷ xs) (Best other ring values ∷ ys) [] qs e f h = absurd h
  runs_as k (Best ratio circuit potentials ∷ xs) (Best other ring values ∷ ys) (r ∷ rs) [] e f h = absurd (omega (arith, ap length f))
  runs_as k (Best ratio circuit potentials ∷ xs) (Best other ring values ∷ ys) (r ∷ rs) (q ∷ qs) e f h =
      let same : map round_lists r ≡ map round_lists q = ap (λ (ls : List (List RoundLists)). get_or ls 0 []) f in (
        run_as net part_of k r q same h.0,
        told_as net part_of k r q same h.0.run.some (part_lists (Best ratio circuit potentials)) (part_lists (Best other ring values)) (ap (first_told NoCircuitIn) e) h.1,
        runs_as (k + 1) xs ys rs qs (ap (drop 1) e) (ap (drop 1) f) h.2,
      )

-- a text that tells other rounds is not shown
pub other_is_not_shown : CycleTimesAreRead → CertificatesCanBeTold → (net : NetLists) (text : List ℕ) (answer : CycleAnswer) (runs : List (List Round)) (part k : ℕ) → IsNet net
    → IsOtherText net answer runs text part k → (ratio : Fraction) → IsShownRounds net text ratio → ⊥
other_is_not_shown read told net text answer runs part k ok o ratio h =
    let shown : CycleAnswer = h.rounds.0 in
    let shown_runs : List (List Round) = h.rounds.1 in
    let t = h.rounds.3 in
    let named = part_is_named shown.parts.items shown.best ratio h.rounds.2 in
    let w = o.whole in
    let own = part_is_named answer.parts.items answer.best w.named.0 w.named.1 in
    let lists : List (List RoundLists) = map (map round_lists) runs in
    let shown_lists : List (List RoundLists) = map (map round_lists) shown_runs in
    let one = read net (cycle_lists answer) (Some lists) ok (told net answer own.0 w.certificate own.1) w.rounds w.kept in
    let two = read net (cycle_lists shown) (Some shown_lists) ok (told net shown named.0 t.certificate named.1)
    (told_from net shown.part_of.items 0 shown.parts.items shown_runs t.certificate.count t.runs_told) t.kept in
    let texts = sym t.told ∙ w.told in
    let times : cycle_lists shown ≡ cycle_lists answer = sym two.0 ∙ (ap (λ (x : List ℕ). cycle_in net (lines_in x)) texts ∙ one.0) in
    let rounds : Some shown_lists ≡ Some lists = sym two.1 ∙ (ap (λ (x : List ℕ). rounds_in_lines net (lines_in x)) texts ∙ one.1) in
    let same_runs : shown_lists ≡ lists = ap runs_or_none rounds in
    other_runs net answer.part_of.items answer.parts.items runs part k o.at (runs_as net answer.part_of.items 0 shown.parts.items answer.parts.items shown_runs runs (ap (λ (l : CycleLists). l.parts) times) same_runs
    (subst (λ (ps : List ℕ). AreRunsFrom net ps 0 shown.parts.items shown_runs) (ap (λ (l : CycleLists). l.part_of) times) t.runs_told))
