use Rattle.std.proofs.Common.{ℕ, ℤ, List, ◌≡◌, ◌+◌, length, sym, ap, subst, ◌∙◌}
use Rattle.std.specs.List.{range_with_len}
use Rattle.dioid.specs.declared.dates.Date.{Date}
use Rattle.settled_laws.specs.SettledForms.{IsSettledFormOf}
use Rattle.settled_forms.specs.Stored.{IsStored, stored_form}
use Rattle.forever_check.proofs.StoredForms.{told_rows, stored_is, is_stored}
use Rattle.forever_check.proofs.stored.stored.Goals as goal

pub stored-requires : goal.stored-requires
stored-requires c =
    let net = c.args.net.now in
    let n : ℕ = length net.transitions in
    let count : ℕ = c.args.after + c.args.period in
    let width : length c.transitions-width.result.now ≡ n = ap length c.transitions-width.ensures.value in
    let all = is_stored net c.args.dates.now c.args.after c.args.period c.args.steps.now c.rules.ensures c.requires.live c.requires.few c.requires.steps c.requires.form in
    let rows = c.in_ok-rows.ensures ∙ ap (λ (w : ℕ). told_rows w c.args.dates.now count) width in
    let own = c.in_ok-own.ensures ∙ ap (range_with_len 0) width in
    record {
      stored = subst (λ (rs : List (List Date)). IsStored c.args.after c.args.period rs c.in_ok-steps.steps.items c.in_ok-own.own.items) (sym rows)
          (subst (λ (ss : List ℤ). IsStored c.args.after c.args.period (told_rows n c.args.dates.now count) ss c.in_ok-own.own.items) (sym c.in_ok-steps.ensures.items)
          (subst (λ (is : List ℕ). IsStored c.args.after c.args.period (told_rows n c.args.dates.now count) c.args.steps.now is) (sym own) all));
    }

pub returns : goal.returns
returns c =
    let net = c.args.net.now in
    let n : ℕ = length net.transitions in
    let count : ℕ = c.args.after + c.args.period in
    let width : length c.transitions-width.result.now ≡ n = ap length c.transitions-width.ensures.value in
    let rows = c.in_ok-rows.ensures ∙ ap (λ (w : ℕ). told_rows w c.args.dates.now count) width in
    let own = c.in_ok-own.ensures ∙ ap (range_with_len 0) width in
    let same = c.stored.ensures
    ∙ (ap (λ (rs : List (List Date)). stored_form c.args.after c.args.period rs c.in_ok-steps.steps.items c.in_ok-own.own.items) rows
    ∙ (ap (λ (ss : List ℤ). stored_form c.args.after c.args.period (told_rows n c.args.dates.now count) ss c.in_ok-own.own.items) c.in_ok-steps.ensures.items
    ∙ (ap (λ (is : List ℕ). stored_form c.args.after c.args.period (told_rows n c.args.dates.now count) c.args.steps.now is) own
    ∙ stored_is n c.args.dates.now c.args.after c.args.period c.args.steps.now c.requires.steps))) in
    subst (IsSettledFormOf net) (sym same) c.requires.form
