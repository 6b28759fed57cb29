-- The rounds of parts, part by part.
use Rattle.std.proofs.Common.{◌≡◌, ℕ, zero, suc, ◌+◌, ◌<◌, ◌≤◌, List, [], ◌∷◌, ◌++◌, take, drop, length, get_or, append-nil, map, refl, sym, ap, ◌∙◌, arith}
use Rattle.std.proofs.lemmas.List.{get_or-map, length-map, length-take-le, take-append-drop}
use Rattle.std.specs.Global.{Vec}
use Rattle.std.proofs.Math.Seq.{take-suc}
use native.Mathlib.Numerals.{unary_clauses}
use Rattle.teg_net.specs.declared.answers.PartAnswer.{PartAnswer}
use Rattle.teg_net.specs.declared.answers.PartAnswer.TheVariants.{Best}
use Rattle.teg_net.specs.declared.answers.Potential.{Potential}
use Rattle.teg_net.specs.declared.circuits.Circuit.{Circuit}
use Rattle.teg_net.specs.declared.rounds.Round.{Round}
use Rattle.teg_net.specs.declared.entries.PlaceId.{PlaceId}
use Rattle.teg_net.specs.Ratios.{Fraction}
use Rattle.teg_lines.specs.CycleLines.{ToldPart, NoCircuitIn, BestOf}
use Rattle.teg_lines.specs.CycleMeanings.{part_lists, round_lists, runs_lists}
use Rattle.teg_lines.specs.RoundLines.{RoundLists, Run, circuits_in, runs_from}

-- how many have a circuit

circuits_append : (ps qs : List ToldPart) → circuits_in (ps ++ qs) ≡ circuits_in ps + circuits_in qs
circuits_append [] qs = omega arith
circuits_append (NoCircuitIn ∷ ps) qs = circuits_append ps qs
circuits_append (BestOf ratio circuit potentials ∷ ps) qs = let rest = circuits_append ps qs in omega (arith, rest)

take_more : (ps : List ToldPart) (i : ℕ) → i < length ps → take (i + 1) ps ≡ take i ps ++ get_or ps i NoCircuitIn ∷ []
take_more ps i lt = simp unary_clauses (take-suc ps i NoCircuitIn lt)

pub circuits_more : (ps : List ToldPart) (i : ℕ) → i < length ps → circuits_in (take (i + 1) ps) ≡ circuits_in (take i ps) + circuits_in (get_or ps i NoCircuitIn ∷ [])
circuits_more ps i lt = ap circuits_in (take_more ps i lt) ∙ circuits_append (take i ps) (get_or ps i NoCircuitIn ∷ [])

pub circuits_within : (ps : List ToldPart) (i : ℕ) → circuits_in (take i ps) ≤ circuits_in ps
circuits_within ps i = omega (arith, circuits_append (take i ps) (drop i ps), ap circuits_in (take-append-drop i ps))

-- the rounds of the parts before and those of the parts after

no_runs : (n : ℕ) (ps : List ToldPart) → runs_from n ps [] ≡ []
no_runs n [] = refl
no_runs n (NoCircuitIn ∷ ps) = no_runs (n + 1) ps
no_runs n (BestOf ratio circuit potentials ∷ ps) = refl

runs_append : (n : ℕ) (ps qs : List ToldPart) (runs : List (List RoundLists)) →
    runs_from n (ps ++ qs) runs ≡ runs_from n ps runs ++ runs_from (n + length ps) qs (drop (circuits_in ps) runs)
runs_append n [] qs runs = let same : n ≡ n + 0 = omega arith in ap (λ (m : ℕ). runs_from m qs runs) same
runs_append n (NoCircuitIn ∷ ps) qs runs =
    let here : n + 1 + length ps ≡ n + suc (length ps) = omega arith in
    runs_append (n + 1) ps qs runs ∙ ap (λ (m : ℕ). runs_from (n + 1) ps runs ++ runs_from m qs (drop (circuits_in ps) runs)) here
runs_append n (BestOf ratio circuit potentials ∷ ps) qs [] = sym (no_runs (n + suc (length ps)) qs)
runs_append n (BestOf ratio circuit potentials ∷ ps) qs (rounds ∷ runs) =
    let here : n + 1 + length ps ≡ n + suc (length ps) = omega arith in
    ap (λ (l : List Run). record { part = n; rounds = rounds } ∷ l)
    (runs_append (n + 1) ps qs runs ∙ ap (λ (m : ℕ). runs_from (n + 1) ps runs ++ runs_from m qs (drop (circuits_in ps) runs)) here)

runs_more : (ps : List ToldPart) (i : ℕ) (runs : List (List RoundLists)) → i < length ps →
    runs_from 0 (take (i + 1) ps) runs ≡ runs_from 0 (take i ps) runs ++ runs_from i (get_or ps i NoCircuitIn ∷ []) (drop (circuits_in (take i ps)) runs)
runs_more ps i runs lt =
    let here : 0 + length (take i ps) ≡ i = omega (arith, length-take-le i ps (omega (arith, lt))) in
    ap (λ (qs : List ToldPart). runs_from 0 qs runs) (take_more ps i lt)
    ∙ (runs_append 0 (take i ps) (get_or ps i NoCircuitIn ∷ []) runs
    ∙ ap (λ (m : ℕ). runs_from 0 (take i ps) runs ++ runs_from m (get_or ps i NoCircuitIn ∷ []) (drop (circuits_in (take i ps)) runs)) here)

first_run : (n : ℕ) (ratio : Fraction) (circuit : List PlaceId) (potentials : List Potential) (runs : List (List RoundLists)) (j : ℕ) → j < length runs →
    runs_from n (BestOf ratio circuit potentials ∷ []) (drop j runs) ≡ record { part = n; rounds = get_or runs j [] } ∷ []
first_run n ratio circuit potentials [] j lt = absurd (omega (arith, lt))
first_run n ratio circuit potentials (rounds ∷ runs) zero lt = refl
first_run n ratio circuit potentials (rounds ∷ runs) (suc j) lt = first_run n ratio circuit potentials runs j (omega (arith, lt))

-- a part with a circuit
pub one_run_more : (ps : List ToldPart) (i : ℕ) (runs : List (List RoundLists)) (ratio : Fraction) (circuit : List PlaceId) (potentials : List Potential) → i < length ps →
    get_or ps i NoCircuitIn ≡ BestOf ratio circuit potentials → circuits_in (take i ps) < length runs →
    runs_from 0 (take (i + 1) ps) runs ≡ runs_from 0 (take i ps) runs ++ record { part = i; rounds = get_or runs (circuits_in (take i ps)) [] } ∷ []
one_run_more ps i runs ratio circuit potentials lt e few =
    runs_more ps i runs lt
    ∙ ap (λ (l : List Run). runs_from 0 (take i ps) runs ++ l)
    (ap (λ (p : ToldPart). runs_from i (p ∷ []) (drop (circuits_in (take i ps)) runs)) e ∙ first_run i ratio circuit potentials runs (circuits_in (take i ps)) few)

-- a part without one
pub no_run_more : (ps : List ToldPart) (i : ℕ) (runs : List (List RoundLists)) → i < length ps → get_or ps i NoCircuitIn ≡ NoCircuitIn →
    runs_from 0 (take (i + 1) ps) runs ≡ runs_from 0 (take i ps) runs
no_run_more ps i runs lt e =
    runs_more ps i runs lt
    ∙ (ap (λ (p : ToldPart). runs_from 0 (take i ps) runs ++ runs_from i (p ∷ []) (drop (circuits_in (take i ps)) runs)) e ∙ append-nil (runs_from 0 (take i ps) runs))

-- before a part with a circuit fewer have one than in all
pub fewer_before : (ps : List ToldPart) (i : ℕ) (ratio : Fraction) (circuit : List PlaceId) (potentials : List Potential) → i < length ps →
    get_or ps i NoCircuitIn ≡ BestOf ratio circuit potentials → circuits_in (take i ps) < circuits_in ps
fewer_before ps i ratio circuit potentials lt e =
    let more : circuits_in (take (i + 1) ps) ≡ circuits_in (take i ps) + 1 = circuits_more ps i lt ∙ ap (λ (p : ToldPart). circuits_in (take i ps) + circuits_in (p ∷ [])) e in
    omega (arith, more, circuits_within ps (i + 1))

-- the code's parts and lists of rounds

pub best_at : (answers : List PartAnswer) (n : ℕ) (d : PartAnswer) (ratio : Fraction) (circuit : Circuit) (potentials : Vec Potential) → n < length answers →
    get_or answers n d ≡ Best ratio circuit potentials → get_or (map part_lists answers) n NoCircuitIn ≡ BestOf ratio circuit.places.items potentials.items
best_at answers n d ratio circuit potentials l e = get_or-map part_lists answers n d NoCircuitIn l ∙ ap part_lists e

-- the next list of rounds is there
pub next_list : (answers : List PartAnswer) (runs : List (Vec Round)) (n told : ℕ) (d : PartAnswer) (ratio : Fraction) (circuit : Circuit) (potentials : Vec Potential) → n < length answers →
    get_or answers n d ≡ Best ratio circuit potentials → told ≡ circuits_in (take n (map part_lists answers)) → length (runs_lists runs) ≡ circuits_in (map part_lists answers) →
    told < length runs
next_list answers runs n told d ratio circuit potentials l e t full =
    let n_in : n < length (map part_lists answers) = omega (arith, l, length-map answers part_lists) in
    let fewer = fewer_before (map part_lists answers) n ratio circuit.places.items potentials.items n_in (best_at answers n d ratio circuit potentials l e) in
    omega (arith, fewer, t, full, length-map runs (λ (run : Vec Round). map round_lists run.items))
