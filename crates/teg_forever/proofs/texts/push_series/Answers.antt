use Rattle.std.proofs.Common.{◌≡◌, ◌++◌, [], ◌∷◌, ◌∙◌, ℕ, ℤ, List, codes, decimal, string_bytes, ap}
use Rattle.std.specs.Int.{w128}
use Rattle.std.proofs.lemmas.Int.{to_z-of_z}
use Rattle.std.specs.Fmt.{signed_decimal}
use Rattle.std.specs.List.{flat_map}
use Rattle.dioid.specs.declared.dates.Date.{Date}
use Rattle.teg_text.specs.ValueWords.{date_word}
use Rattle.teg_text.proofs.Joining.{line_goes_on}
use Rattle.teg_forever.proofs.Written.{told_on}
use Rattle.teg_forever.proofs.texts.push_series.Goals as goal

pub returns-clause-text : goal.returns-clause-text
returns-clause-text c =
    let s = c.args.series.now in
    let dates : string_bytes c.push_dates.new.text ≡ string_bytes c.args.text.now ++ flat_map (λ d. 32 ∷ date_word d) s.values =
    c.in_ok-push_dates.ensures.text ∙ ap (λ (l : List Date). string_bytes c.args.text.now ++ flat_map (λ (d : Date). 32 ∷ date_word d) l) c.values.ensures.value in
    told_on c.write.result _ _ c.write.ensures.bytes
    (λ e. line_goes_on date_word s.values (codes "period" ∷ decimal s.period ∷ codes "step" ∷ signed_decimal s.step ∷ [])
    (string_bytes c.args.text.now) (string_bytes c.push_dates.new.text) (string_bytes c.write.new.self) dates
    (e
    ∙ ap (λ (z : ℤ). string_bytes c.push_dates.new.text ++ (codes
    " period " ++ (decimal c.period-period.result ++ (codes " step " ++ (signed_decimal z ++ codes "\n")))))
    (to_z-of_z w128 c.step-step.result (record { sfits = c.step-step.type_inv }))
    ∙ ap (λ (n : ℕ). string_bytes c.push_dates.new.text ++ (codes " period " ++ (decimal n ++ (codes " step " ++ (signed_decimal c.step-step.result ++ codes "\n"))))) c.period-period.ensures.value
    ∙ ap (λ (z : ℤ). string_bytes c.push_dates.new.text ++ (codes " period " ++ (decimal s.period ++ (codes " step " ++ (signed_decimal z ++ codes "\n"))))) c.step-step.ensures.value))
