use Rattle.std.proofs.Common.{rules, ◌≡◌, ◌+◌, ◌++◌, ◌∷◌, [], ◌∙◌, ℕ, List, length, ap, arith}
use Rattle.std.specs.Prelude.{take}
use Rattle.std.proofs.lemmas.List.{length-append}
use Rattle.teg_forever.specs.declared.divisions.Divided.{Divided}
use Rattle.teg_forever.proofs.divisions.Divisions.keep.Goals as goal

pub returns-clause-kept : goal.returns-clause-kept
returns-clause-kept c =
    let old = c.args.self.now.list.items in
    let x = c.args.divided in
    let part : (count : ℕ) × (c.truncate.new.self.items ≡ take count old) = (_, c.truncate.ensures.items) in
    let added : c.push.new.self.items ≡ c.truncate.new.self.items ++ c.args.divided ∷ [] = search rules in
    let list_is : c.push.new.self.items ≡ take part.0 old ++ x ∷ [] = added ∙ ap (λ (l : List Divided). l ++ x ∷ []) part.1 in
    let long : length c.push.new.self.items ≡ length (take part.0 old) + 1 = ap (λ (l : List Divided). length l) list_is ∙ length-append (take part.0 old) (x ∷ []) in
    let len : c.len.result ≡ length c.push.new.self.items = search rules in
    record { count = part.0; list_is = list_is; place_is = omega (arith, long, len) }
