use Rattle.std.proofs.Common.{rules, ◌≡◌, ◌<◌, ◌+◌, ◌*◌, ◌^◌, [], ◌∷◌, ◌++◌, List, ℕ, All, length, map, take, get_or, ap, sym, subst, ◌∙◌, string_bytes, arith}
use Rattle.std.proofs.lemmas.List.{flat_map_more, get_or-map, length-map, take_all}
use Rattle.std.proofs.lemmas.List.Elements.{All-more}
use Rattle.std.specs.Global.{Vec}
use Rattle.std.specs.List.{flat_map}
use Rattle.teg_net.specs.declared.rounds.Round.{Round}
use Rattle.teg_lines.specs.CycleLines.{ToldPart, NoCircuitIn}
use Rattle.teg_lines.specs.RoundLines.{IsRunKept, RoundLists, Run, IsRunIn, circuits_in, run_lines, runs_from}
use Rattle.teg_lines.specs.CycleMeanings.{part_lists, round_lists, runs_lists}
use Rattle.teg_text.specs.Lines.{written}
use Rattle.teg_text.proofs.Joining.{written_flat_map}
use Rattle.teg_lines.proofs.Runs.{best_at, circuits_more, next_list, no_run_more, one_run_more}
use Rattle.teg_lines.proofs.rounds.push_runs.Goals.{in-Best+in_ok-push_run-in-Best, in-NoCircuit}
use Rattle.teg_lines.proofs.rounds.push_runs.Goals as goal

pub bounds-runs-told : goal.bounds-runs-told
bounds-runs-told c =
    next_list c.args.parts.now c.args.runs.now c.loop-number.number c.loop-number.told c.index-parts-number.result _ _ _ c.loop-number-test.true
    (sym c.index-parts-number.is ∙ c.in-Best.is) c.loop-number.invariant.told c.requires.full

pub offset_bounds-runs-told : goal.offset_bounds-runs-told
offset_bounds-runs-told c =
    let few = next_list c.args.parts.now c.args.runs.now c.loop-number.number c.loop-number.told c.index-parts-number.result _ _ _ c.loop-number-test.true
    (sym c.index-parts-number.is ∙ c.in-Best.is) c.loop-number.invariant.told c.requires.full in
    let bytes : length c.args.runs.now * 24 < 2 ^ 64 = search rules in
    omega (arith, few, bytes)

pub push_run-requires-clause-rounds : goal.push_run-requires-clause-rounds
push_run-requires-clause-rounds c =
    let net = c.args.net.now in
    let runs = c.args.runs.now in
    let k = c.loop-number.told in
    let within = next_list c.args.parts.now runs c.loop-number.number k c.index-parts-number.result _ _ _ c.loop-number-test.true
    (sym c.index-parts-number.is ∙ c.in-Best.is) c.loop-number.invariant.told c.requires.full in
    let same : get_or (runs_lists runs) k [] ≡ map round_lists c.deref.result.now =
    get_or-map (λ run. map round_lists run.items) runs k c.index-runs-told.result [] within
    ∙ (ap (λ (run : Vec Round). map round_lists run.items) (sym c.index-runs-told.is) ∙ ap (map round_lists) (sym c.deref.ensures.value)) in
    subst (IsRunIn net) same (c.requires.each k [] (omega (arith, within, length-map runs (λ run. map round_lists run.items))))

pub overflow_add-told : goal.overflow_add-told
overflow_add-told c =
    let few = next_list c.args.parts.now c.args.runs.now c.loop-number.number c.loop-number.told c.index-parts-number.result _ _ _ c.loop-number-test.true
    (sym c.index-parts-number.is ∙ c.in-Best.is) c.loop-number.invariant.told c.requires.full in
    let small : length c.args.runs.now < 2 ^ 63 = search rules in
    omega (arith, few, small)

pub loop-number-preserved : goal.loop-number-preserved
loop-number-preserved c =
    let net = c.args.net.now in
    let before = string_bytes c.args.text.now in
    let answers = c.args.parts.now in
    let parts = map part_lists answers in
    let lists = c.args.runs.now in
    let runs = runs_lists lists in
    let n = c.loop-number.number in
    let told = c.loop-number.told in
    let within = c.loop-number-test.true in
    let n_in : n < length parts = omega (arith, within, length-map answers part_lists) in
    let lines : Run → List ℕ = λ run. written (run_lines net run) in
    elim c.match-parts-number.branch [
      | in-Best+in_ok-push_run-in-Best w ↦
          let is = sym c.index-parts-number.is ∙ w.in-Best.is in
          let best = best_at answers n c.index-parts-number.result w.in-Best.ratio w.in-Best.circuit w.in-Best.potentials within is in
          let few = next_list answers lists n told c.index-parts-number.result w.in-Best.ratio w.in-Best.circuit w.in-Best.potentials within is c.loop-number.invariant.told c.requires.full in
          let told_in : told < length runs = omega (arith, few, length-map lists (λ run. map round_lists run.items)) in
          let same : get_or runs told [] ≡ map round_lists w.deref.result.now =
          get_or-map (λ run. map round_lists run.items) lists told w.index-runs-told.result [] few
          ∙ (ap (λ (run : Vec Round). map round_lists run.items) (sym w.index-runs-told.is) ∙ ap (map round_lists) (sym w.deref.ensures.value)) in
          let next : get_or runs (circuits_in (take n parts)) [] ≡ map round_lists w.deref.result.now = ap (λ (j : ℕ). get_or runs j []) (sym c.loop-number.invariant.told) ∙ same in
          let more : circuits_in (take (n + 1) parts) ≡ circuits_in (take n parts) + 1 = circuits_more parts n n_in ∙ ap (λ (p : ToldPart). circuits_in (take n parts) + circuits_in (p ∷ [])) best in
          let run : Run = (record { part = n; rounds = map round_lists w.deref.result.now }) in
          let one : runs_from 0 (take (n + 1) parts) runs ≡ runs_from 0 (take n parts) runs ++ run ∷ [] =
          one_run_more parts n runs _ _ _ n_in best (omega (arith, told_in, c.loop-number.invariant.told))
          ∙ ap (λ (rounds : List RoundLists). runs_from 0 (take n parts) runs ++ record { part = n; rounds = rounds } ∷ []) next in
          record {
            told = omega (arith, w.told-is, c.loop-number.invariant.told, more);
            text = ap string_bytes w.text-is ∙ (w.in_ok-push_run-in-Best.ensures.text
                ∙ (ap (λ (l : List ℕ). l ++ lines run) c.loop-number.invariant.text
                ∙ (flat_map_more lines before (runs_from 0 (take n parts) runs) run
                ∙ ap (λ (rs : List Run). before ++ flat_map lines rs) (sym one))));
            kept = subst (λ (j : ℕ). All IsRunKept (take j runs)) (sym w.told-is)
                (All-more IsRunKept runs told [] told_in c.loop-number.invariant.kept (subst IsRunKept (sym same) w.in_ok-push_run-in-Best.ensures.kept));
          }
      | in-NoCircuit w ↦
          let none : get_or parts n NoCircuitIn ≡ NoCircuitIn =
          get_or-map part_lists answers n c.index-parts-number.result NoCircuitIn within ∙ ap part_lists (sym c.index-parts-number.is ∙ w.in-NoCircuit.is) in
          let more : circuits_in (take (n + 1) parts) ≡ circuits_in (take n parts) + 0 = circuits_more parts n n_in ∙ ap (λ (p : ToldPart). circuits_in (take n parts) + circuits_in (p ∷ [])) none in
          record {
            told = omega (arith, w.told-is, c.loop-number.invariant.told, more);
            text = ap string_bytes w.text-is ∙ (c.loop-number.invariant.text
                ∙ ap (λ (rs : List Run). before ++ flat_map lines rs) (sym (no_run_more parts n runs n_in none)));
            kept = subst (λ (j : ℕ). All IsRunKept (take j runs)) (sym w.told-is) c.loop-number.invariant.kept;
          }
    ]

pub returns-clause-text : goal.returns-clause-text
returns-clause-text c =
    let net = c.args.net.now in
    let parts = map part_lists c.args.parts.now in
    let runs = runs_lists c.args.runs.now in
    let all = take_all c.loop-number.number parts (omega (arith, c.loop-number-test.false, length-map c.args.parts.now part_lists)) in
    rw all at c.loop-number.invariant.text ∙ ap (λ (l : List ℕ). string_bytes c.args.text.now ++ l) (sym (written_flat_map (run_lines net) (runs_from 0 parts runs)))

pub returns-clause-kept : goal.returns-clause-kept
returns-clause-kept c =
    let parts = map part_lists c.args.parts.now in
    let runs = runs_lists c.args.runs.now in
    let every = take_all c.loop-number.number parts (omega (arith, c.loop-number-test.false, length-map c.args.parts.now part_lists)) in
    let told : c.loop-number.told ≡ circuits_in parts = rw every at c.loop-number.invariant.told in
    let all = take_all c.loop-number.told runs (omega (arith, told, c.requires.full)) in
    rw all at c.loop-number.invariant.kept
