-- The text of the cycle times is the first part of that with the rounds: a live net has one list of strong parts, and each part one policy run.
use Rattle.std.proofs.Common.{◌≡◌, ℕ, zero, suc, ◌+◌, ◌-◌, ◌<◌, ◌≤◌, ⊎_elim, List, [], ◌∷◌, ◌++◌, Option, Some, None, map, length, slice_index_or, append-nil, refl, sym, subst, ap, ap₂, ◌∙◌, arith}
use Rattle.std.proofs.lemmas.Bool.{cases_lt}
use Rattle.teg_net.specs.declared.answers.CycleAnswer.{CycleAnswer}
use Rattle.teg_net.specs.declared.answers.PartAnswer.{PartAnswer}
use Rattle.teg_net.specs.declared.answers.PartAnswer.TheVariants.{NoCircuit, Best}
use Rattle.teg_net.specs.declared.answers.Potential.{Potential}
use Rattle.teg_net.specs.declared.circuits.Circuit.{Circuit}
use Rattle.teg_net.specs.declared.rounds.Round.{Round}
use Rattle.std.specs.Global.{Vec}
use Rattle.teg_net.specs.Circuits.{IsLive}
use Rattle.teg_net.specs.GreatestRatios.{IsFirstGreatest, ratio_at}
use Rattle.teg_net.specs.Nets.{NetLists, IsNet}
use Rattle.teg_net.specs.PartAnswers.{ArePartAnswers, IsPartAnswer}
use Rattle.teg_net.specs.Ratios.{Fraction}
use Rattle.teg_parts.specs.Partitions.{PartsAreOne, PartLists as Partition}
use Rattle.policy_rounds.specs.OnePolicyRun.{PolicyRunsAreOne, AreSameRounds, AreSameRuns}
use Rattle.policy_rounds.specs.RunAnswers.{IsAnswerOf, IsAnswerOfLast, potential_of}
use Rattle.policy_rounds.specs.PolicyRounds.{last_policy_round}
use Rattle.policy_rounds.specs.LastRounds.{AreLastOfRuns, AreRunsFrom, IsLastOfRun}
use Rattle.teg_report.specs.teg_lines.CycleLines.{CycleLists, ToldPart, NoCircuitIn, BestOf, cycle_lines}
use Rattle.teg_report.specs.teg_lines.CycleMeanings.{cycle_lists, part_lists, round_lists}
use Rattle.teg_report.specs.ShortAnswers.{no_circuit_line}
use Rattle.teg_report.specs.teg_lines.RoundLines.{RoundLists, runs_lines, told_runs}
use Rattle.teg_report.specs.teg_text.Lines.{written}
use Rattle.teg_report.proofs.teg_text_proofs.Joining.{written_append}
use Rattle.teg_pace_commands.specs.SpecialCases.{RoundsFollowTimes}
use Rattle.teg_pace_commands.specs.CycleTexts.{cycle_text, times_lines}

-- one answer of a part

last_alike : (rs qs : List Round) (r q : Fraction) (c d : Circuit) (v w : Vec Potential) → 0 < length rs → AreSameRuns rs qs → IsAnswerOfLast rs (Best r c v) → IsAnswerOfLast qs (Best q d w) →
    part_lists (Best r c v) ≡ part_lists (Best q d w)
last_alike [] qs r q c d v w some same ends last = absurd (omega (arith, some))
last_alike (x ∷ xs) qs r q c d v w some same ends last =
    let k = length (x ∷ xs) - 1 in
    let round : AreSameRounds (slice_index_or (x ∷ xs) k x) (slice_index_or qs k x) = same.rounds k x (omega (arith, some)) in
    let at : last_policy_round qs x ≡ slice_index_or qs k x = ap (λ (n : ℕ). slice_index_or qs (n - 1) x) (sym same.count) in
    let this = ends x in
    let that = subst (λ (z : Round). IsAnswerOf z (Best q d w)) at (last x) in
    let ratios : r ≡ q = this.0 ∙ (round.ratio ∙ sym that.0) in
    let circuits : c.places.items ≡ d.places.items = this.1 ∙ (round.circuit ∙ sym that.1) in
    let potentials : v.items ≡ w.items = this.2 ∙ (ap (map potential_of) round.choices ∙ sym that.2) in
    cc (ratios, circuits, potentials)

alike : PolicyRunsAreOne → (net : NetLists) (part_of : List ℕ) (part : ℕ) (a b : PartAnswer) → IsNet net → IsLive net → IsPartAnswer net part_of part a → IsPartAnswer net part_of part b →
    IsLastOfRun net part_of part a → IsLastOfRun net part_of part b → part_lists a ≡ part_lists b
alike one net part_of part NoCircuit NoCircuit kept live tells says ends last = refl
alike one net part_of part NoCircuit (Best q d w) kept live none best ends last = absurd (none d.places.items best.circuit best.inside)
alike one net part_of part (Best r c v) NoCircuit kept live best none ends last = absurd (none c.places.items best.circuit best.inside)
alike one net part_of part (Best r c v) (Best q d w) kept live tells says ends last =
    last_alike ends.0 last.0 r q c d v w ends.1.run.some (one net part_of part ends.0 last.0 live ends.1 last.1) ends.2 last.2

-- the answers of all parts

all_alike : (xs ys : List PartAnswer) → length xs ≡ length ys → ((k : ℕ) → k < length xs → part_lists (slice_index_or xs k NoCircuit) ≡ part_lists (slice_index_or ys k NoCircuit)) →
    map part_lists xs ≡ map part_lists ys
all_alike [] [] same each = refl
all_alike [] (b ∷ ys) same each = absurd (omega (arith, same))
all_alike (a ∷ xs) [] same each = absurd (omega (arith, same))
all_alike (a ∷ xs) (b ∷ ys) same each = cc (each 0 (omega arith), all_alike xs ys (omega (arith, same)) (λ k l. each (suc k) (omega (arith, l))))

-- each answer is that of the run that is told
ends_in : (net : NetLists) (part_of : List ℕ) (n : ℕ) (answers : List PartAnswer) (runs : List (List Round)) → AreRunsFrom net part_of n answers runs →
    (k : ℕ) → k < length answers → IsLastOfRun net part_of (n + k) (slice_index_or answers k NoCircuit)
ends_in net part_of n [] runs h k l = absurd (omega (arith, l))
ends_in net part_of n (NoCircuit ∷ answers) runs h zero l = tt
ends_in net part_of n (NoCircuit ∷ answers) runs h (suc k) l =
    let on : n + 1 + k ≡ n + suc k = omega arith in
    subst (λ (m : ℕ). IsLastOfRun net part_of m (slice_index_or answers k NoCircuit)) on (ends_in net part_of (n + 1) answers runs h k (omega (arith, l)))
ends_in net part_of n (Best r c v ∷ answers) [] h k l = absurd h
ends_in net part_of n (Best r c v ∷ answers) (rounds ∷ runs) h zero l =
    let at : n ≡ n + 0 = omega arith in subst (λ (m : ℕ). IsLastOfRun net part_of m (Best r c v)) at (rounds, h.0, h.1)
ends_in net part_of n (Best r c v ∷ answers) (rounds ∷ runs) h (suc k) l =
    let on : n + 1 + k ≡ n + suc k = omega arith in
    subst (λ (m : ℕ). IsLastOfRun net part_of m (slice_index_or answers k NoCircuit)) on (ends_in net part_of (n + 1) answers runs h.2 k (omega (arith, l)))

-- the first part of greatest ratio

abbrev told_ratio : ToldPart → Option Fraction
told_ratio NoCircuitIn = None
told_ratio (BestOf ratio circuit potentials) = Some ratio

ratio_told : (answers : List PartAnswer) (k : ℕ) → ratio_at answers k ≡ told_ratio (slice_index_or (map part_lists answers) k NoCircuitIn)
ratio_told [] k = refl
ratio_told (NoCircuit ∷ answers) zero = refl
ratio_told (Best ratio circuit potentials ∷ answers) zero = refl
ratio_told (x ∷ answers) (suc k) = ratio_told answers k

one_best : (xs ys : List PartAnswer) (a b : Option ℕ) → ((k : ℕ) → ratio_at xs k ≡ ratio_at ys k) → IsFirstGreatest xs a → IsFirstGreatest ys b → a ≡ b
one_best xs ys None None same f g = refl
one_best xs ys None (Some j) same f g = absurd (let none = f j in let some = g.1.here in let at = same j in let bad : ⊥ = cc (none, some, at) in bad)
one_best xs ys (Some k) None same f g = absurd (let none = g k in let some = f.1.here in let at = same k in let bad : ⊥ = cc (none, some, at) in bad)
one_best xs ys (Some k) (Some j) same f g =
    ⊎_elim
    (λ (less : k < j). absurd (let below = g.1.first k f.0 less (sym (same k) ∙ f.1.here) in let most = f.1.greatest j g.0 (same j ∙ g.1.here) in omega (arith, below, most)))
    (λ (more : j ≤ k).
    ⊎_elim
    (λ (less : j < k). absurd (let below = f.1.first j g.0 less (same j ∙ g.1.here) in let most = g.1.greatest k f.0 (sym (same k) ∙ f.1.here) in omega (arith, below, most)))
    (λ (least : k ≤ j). ap Some (omega (arith, more, least))) (cases_lt j k)) (cases_lt k j)

-- two answers with the same lists have one text

same_times : (net : NetLists) (a b : CycleAnswer) → a.best ≡ b.best → cycle_lists a ≡ cycle_lists b → cycle_text net a None ≡ cycle_text net b None
same_times net a b best lists = ap₂ (λ (k : Option ℕ) (l : CycleLists). written (times_lines net k l None)) best lists

-- the rounds come after the cycle times
then_rounds : (net : NetLists) (best : Option ℕ) (times : CycleLists) (runs : List (List RoundLists)) →
    (rounds : List ℕ) × (written (times_lines net best times (Some runs)) ≡ written (times_lines net best times None) ++ rounds)
then_rounds net None times runs = ([], sym (append-nil (written (no_circuit_line ∷ []))))
then_rounds net (Some k) times runs =
    let lines = cycle_lines net times in
    let more = runs_lines net (told_runs times.parts (Some runs)) in
    (written more, written_append lines more ∙ ap (λ (t : List (List (List ℕ))). written t ++ written more) (sym (append-nil lines)))

pub rounds_said : PartsAreOne → PolicyRunsAreOne → RoundsFollowTimes
rounds_said one_parts one_runs net one other times text kept live says told =
    let s = says.1 in
    let t = told.1 in
    let a = s.0 in
    let b = t.0 in
    let parts = one_parts net (record { part_of = a.part_of.items; inner = s.1.strong.0 }) (record { part_of = b.part_of.items; inner = t.2.strong.0 }) s.1.strong.1 t.2.strong.1 in
    let part_of : a.part_of.items ≡ b.part_of.items = ap (λ (p : Partition). p.part_of) parts in
    let count : length a.parts.items ≡ length b.parts.items = s.1.strong.2 ∙ (ap (λ (p : Partition). length p.inner) parts ∙ sym t.2.strong.2) in
    let tells : ArePartAnswers net b.part_of.items a.parts.items = subst (λ (ps : List ℕ). ArePartAnswers net ps a.parts.items) part_of s.1.parts in
    let lasts : AreLastOfRuns net b.part_of.items a.parts.items = subst (λ (ps : List ℕ). AreLastOfRuns net ps a.parts.items) part_of s.2 in
    let lists : map part_lists a.parts.items ≡ map part_lists b.parts.items =
    all_alike a.parts.items b.parts.items count
    (λ k l.
    let there : k < length b.parts.items = omega (arith, l, count) in
    let at : 0 + k ≡ k = omega arith in
    let ends = subst (λ (m : ℕ). IsLastOfRun net b.part_of.items m (slice_index_or b.parts.items k NoCircuit)) at (ends_in net b.part_of.items 0 b.parts.items t.1 t.3 k there) in
    alike one_runs net b.part_of.items k (slice_index_or a.parts.items k NoCircuit) (slice_index_or b.parts.items k NoCircuit) kept live (tells k l) (t.2.parts k there) (lasts k l) ends) in
    let ratios = λ (k : ℕ). ratio_told a.parts.items k ∙ (ap (λ (l : List ToldPart). told_ratio (slice_index_or l k NoCircuitIn)) lists ∙ sym (ratio_told b.parts.items k)) in
    let best : a.best ≡ b.best = one_best a.parts.items b.parts.items a.best b.best ratios s.1.first t.2.first in
    let all : cycle_lists a ≡ cycle_lists b = cc (part_of, lists, best) in
    let after = then_rounds net b.best (cycle_lists b) (map (map round_lists) t.1) in
    let first : times ≡ cycle_text net b None = s.3 ∙ same_times net a b best all in
    (after.0, t.5 ∙ (after.1 ∙ ap (λ (text : List ℕ). text ++ after.0) (sym first)))
