-- A game after one more firing.
use Rattle.std.proofs.Common.{ℕ, ◌+◌, ◌^◌, ◌<◌, ◌≤◌, ◌≡◌, List, [], ◌∷◌, ◌++◌, length, get_or, ap, ◌∙◌, arith}
use Rattle.std.specs.Prelude.{count_by, ◌==◌}
use Rattle.std.proofs.lemmas.List.Sums.{count_by-le-length}
use Rattle.teg_net.specs.declared.entries.PlaceId.{PlaceId}
use Rattle.teg_net.specs.Nets.{NetLists}
use Rattle.run_laws.specs.declared.fired.Fired.{Fired}
use Rattle.run_laws.specs.Runs.{IsLegalAfter}
use Rattle.run_laws.specs.Earliest.{tokens_after}
use Rattle.teg_replay.specs.Games.{GameState, IsGameOf}
use Rattle.teg_replay.proofs.Entering.{length_into}
use Rattle.run_laws.proofs.Prefixes.{legal_push}
use Rattle.run_laws.proofs.Counting.{tokens_moved, tokens_few}

-- the tokens that a firing brings and takes, by the lists of ends that a game keeps
pub record IsStep (net : NetLists) (game kept : GameState) (f : Fired) (brought taken : ℕ) : Type 0 where
  pub balance : tokens_after net (game.run ++ f ∷ []) + taken ≡ kept.tokens + brought
  pub few : kept.tokens ≤ 2 ^ 60
  pub few_brought : brought ≤ 4000

pub step_of : {net : NetLists} {game kept : GameState} {f : Fired} {brought leaving : ℕ} {ids : List PlaceId} → IsGameOf net game → length game.run < 2 ^ 40 → IsLegalAfter net game.run f → kept ≡ game
    → brought ≡ leaving → leaving ≡ get_or kept.ends.leaving f.transition.index 0 → ids ≡ get_or kept.ends.into f.transition.index [] → IsStep net game kept f brought (length ids)
step_of {net} {game} {kept} {f} {brought} {leaving} {ids} h few g same b out in' =
    let t : ℕ = f.transition.index in
    let moved = tokens_moved net game.run f h.legal (legal_push net game.run f h.legal g) in
    let into : length ids ≡ count_by (λ p. p.to.index == t) net.places = ap length in' ∙
    (ap (λ k. length (get_or k.ends.into t [])) same ∙ length_into net t (get_or game.ends.into t []) (h.ends.into.each t g.transition_in)) in
    let from : leaving ≡ count_by (λ p. p.from.index == t) net.places = out ∙ (ap (λ k. get_or k.ends.leaving t 0) same ∙ h.ends.leaving t g.transition_in) in
    let low = count_by-le-length (λ p. p.from.index == t) net.places in
    let small = tokens_few net game.run h.rules few in
    let tokens : kept.tokens ≡ tokens_after net game.run = ap (λ k. k.tokens) same ∙ h.tokens in
    record {
      balance = omega (arith, moved, into, from, b, tokens);
      few = omega (arith, small, tokens);
      few_brought = omega (arith, b, from, low, h.rules.few_places);
    }

pub game_more : (net : NetLists) (game : GameState) (f : Fired) (tokens : ℕ) → IsGameOf net game → IsLegalAfter net game.run f → tokens ≡ tokens_after net (game.run ++ f ∷ [])
    → IsGameOf net (record { run = game.run ++ f ∷ []; width = game.width; ends = game.ends; tokens = tokens })
game_more net game f tokens h g e = record {
  rules = h.rules;
  legal = legal_push net game.run f h.legal g;
  width = h.width;
  ends = h.ends;
  tokens = e;
}
