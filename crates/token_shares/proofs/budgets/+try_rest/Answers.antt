use Rattle.std.proofs.Common.{◌≡◌, ◌-◌, ◌∷◌, ◌++◌, [], false, arith, rules, ap, subst, ◌∙◌, ℕ, List}
use Rattle.token_shares.specs.KeptCuts.{NoneGoesOn}
use Rattle.token_shares.proofs.Searching.{all_numbers, further_number, taken_back}
use Rattle.token_shares.proofs.budgets.+try_rest.Goals as goal

pub loop-next-preserved : goal.loop-next-preserved
loop-next-preserved t c =
    let net = c.args.asked.now.plain.now in
    let r = c.args.asked.now.target in
    let places = c.args.asked.now.places.now in
    let begun = c.args.numbers.now.items in
    let next = c.loop-next.next in
    let h = c.loop-next.invariant in
    let no : c.in_ok-try_rest.field-0 ≡ false = search rules in
    let pushed : c.push.new.self.items ≡ begun ++ next ∷ [] = ◌∙◌ {A = List ℕ} c.in_ok-push.ensures.items (ap (λ (xs : List ℕ). xs ++ next ∷ []) h.same) in
    let all : c.try_rest.new.numbers.items ≡ begun ++ next ∷ [] = ◌∙◌ {A = List ℕ} (c.in_ok-try_rest.ensures.back no) pushed in
    let here : NoneGoesOn net r places (begun ++ next ∷ []) (c.args.rest - next) =
    subst (λ (xs : List ℕ). NoneGoesOn net r places xs (c.args.rest - next)) pushed (c.in_ok-try_rest.ensures.no no) in
    record {
      same = taken_back begun c.try_rest.new.numbers.items c.pop.new.self.items next c.try_rest.new.numbers.len all (omega (arith, c.try_rest.new.numbers.ok.0)) c.pop.ensures.rest;
      none = further_number net r places begun c.args.rest next h.none here;
      cuts = c.in_ok-try_rest.ensures.cuts;
    }

pub returns-clause-no : goal.returns-clause-no
returns-clause-no t c =
    λ _. all_numbers c.args.asked.now.plain.now c.args.asked.now.target c.args.asked.now.places.now c.args.numbers.now.items c.args.rest c.loop-next.next
    (omega (arith, c.len.ensures, c.args.numbers.now.ok.0, c.requires.begun)) (omega (arith, c.loop-next-test.false)) c.loop-next.invariant.none
