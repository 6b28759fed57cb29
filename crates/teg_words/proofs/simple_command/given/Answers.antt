use Rattle.std.proofs.Common.{ap, refl, Bor, List, Option, Some, None, [], Bool, codes, option_map, ◌≡◌, ◌∙◌}
use Rattle.std.specs.Prelude.{unwrap_or}
use Rattle.clap.specs.Walk.{texts}
use Rattle.clap.specs.Words.{Row, Text, all_of, first_of, found_of, rows_of}
use Rattle.clap.proofs.WalkLemmas.{first_value-rows, raw_values-rows}
use Rattle.teg_words.specs.CommandLineWords.{flag_of, given_from, rest_of}
use Rattle.teg_words.proofs.simple_command.given.Goals as goal

-- what rows give, where their parts are known
given_is : (rows : List Row) (command : Text) (rest : List Text) (limit : Option Text) (rounds : Bool) → Some command ≡ first_of (codes "command") rows → rest ≡ rest_of rows
    → limit ≡ first_of (codes "limit") rows → rounds ≡ flag_of rows → given_from rows ≡ Some (record { command = command; rest = rest; limit = limit; rounds = rounds })
given_is rows command rest limit rounds e r l f = cc

-- the words behind a slice, or none
words_or_none : (o : Option (Bor (List (Bor Text)))) (d : Bor (List (Bor Text))) → d.now ≡ [] → texts (unwrap_or o d).now ≡ unwrap_or (option_map (λ s. texts s.now) o) []
words_or_none None d h = ap texts h
words_or_none (Some x) d h = refl

-- rows without a command give nothing
given_none : (rows : List Row) → None ≡ first_of (codes "command") rows → given_from rows ≡ None
given_none rows e = cc

pub returns-in_default-clause-refused : goal.returns-in_default-clause-refused
returns-in_default-clause-refused c =
    let found = found_of c.args.matches.now in
    λ (_ : _). given_none (rows_of found) (c.in_default.ensures ∙ first_value-rows found (codes "command"))

pub returns-clause-ok : goal.returns-clause-ok
returns-clause-ok c =
    let found = found_of c.args.matches.now in
    let rows = rows_of found in
    let command_is : Some c.in-Some.command.now ≡ first_of (codes "command") rows = c.in-Some.ensures ∙ first_value-rows found (codes "command") in
    let limit_is = c.get_str-limit.ensures ∙ first_value-rows found (codes "limit") in
    let given : option_map (λ s. texts s.now) c.get_strs.result ≡ all_of (codes "rest") rows = c.get_strs.ensures ∙ raw_values-rows found (codes "rest") in
    let rest_is : texts c.in_ok-rest.rest.items ≡ rest_of rows =
    ap texts c.in_ok-rest.ensures.items
    ∙ ap (λ (s : Bor (List (Bor Text))). texts s.now) c.unwrap_or-rest.ensures
    ∙ words_or_none c.get_strs.result _ refl
    ∙ ap (λ (o : Option (List Text)). unwrap_or o []) given in
    given_is rows c.in-Some.command.now (texts c.in_ok-rest.rest.items) _ c.has_rounds-rounds.result command_is rest_is limit_is c.has_rounds-rounds.ensures
