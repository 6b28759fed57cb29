use Rattle.std.proofs.Common.{[], rules, ◌≡◌, ◌<◌, ◌≤◌, ◌+◌, ◌^◌, ◌∷◌, ◌++◌, List, ℕ, map, codes, ap, sym, subst, ◌∙◌, append_assoc, string_bytes, arith, ⊎_elim}
use Rattle.std.specs.Fmt.{decimal}
use Rattle.std.specs.List.{range_with_len}
use Rattle.std.proofs.lemmas.Bool.{cases_lt}
use Rattle.std.proofs.lemmas.Simd.{map-map}
use Rattle.teg_text.specs.Lines.{further_then}
use Rattle.teg_text.specs.WordsOfNames.{name_of_transition}
use Rattle.teg_text.proofs.Joining.{line_ends}
use Rattle.teg_text.proofs.Listing.{more_after}
use Rattle.teg_timetable.specs.Spreads.{delay_by_spread}
use Rattle.teg_timetable.proofs.texts.push_line.Goals as goal

pub loop-done-preserved : goal.loop-done-preserved
loop-done-preserved c =
    let s = c.args.delayed.now in
    let i = c.args.index in
    let k = c.loop-done.done in
    let is : c.delay-delay.result ≡ delay_by_spread s i (k + 1) = c.delay-delay.ensures.value in
    let small = c.delay-delay.ensures.small in
    let pushed : string_bytes c.write.new.self ≡ string_bytes c.loop-done.text ++ (codes " " ++ decimal c.delay-delay.result) = search rules in (
      more_after (λ n. 32 ∷ decimal (delay_by_spread s i n)) _ _ _ _ 1 k (k + 1) (omega arith) pushed (ap (λ (n : ℕ). 32 ∷ decimal n) is) c.loop-done.invariant.0,
      λ n o l. ⊎_elim
          (λ (q : n < k + 1). c.loop-done.invariant.1 n o (omega arith))
          (λ (q : k + 1 ≤ n). let e : k + 1 ≡ n = omega arith in let P : ℕ → Type 0 = λ z. delay_by_spread s i z < 2 ^ 64 in subst P e (omega arith))
          (cases_lt n (k + 1)),
    )

pub returns-clause-text : goal.returns-clause-text
unfolding lib.Utf8.encode
returns-clause-text c =
    let s = c.args.delayed.now in
    let i = c.args.index in
    let f : ℕ → List ℕ = λ k. decimal (delay_by_spread s i k) in
    let xs = range_with_len 1 c.args.count in
    let name = name_of_transition c.args.net.now (record { index = i }) in
    let before = string_bytes c.args.text.now in
    let all : c.loop-done.done ≡ c.args.count = omega (arith, c.loop-done-test.false, c.loop-done.auto.done-end) in
    line_ends f xs (string_bytes c.begin_line.new.text) (string_bytes c.loop-done.text) _ (rw all at c.loop-done.invariant.0) c.in_ok-push.ensures.bytes
    ∙ ap (λ (l : List ℕ). l ++ further_then (map f xs) []) c.in_ok-begin_line.ensures
    ∙ append_assoc before (codes "delays " ++ name) (further_then (map f xs) [])
    ∙ ap (λ (ws : List (List ℕ)). before ++ (codes "delays" ++ further_then (name ∷ ws) [])) (sym (map-map decimal (delay_by_spread s i) xs))

pub returns-clause-small : goal.returns-clause-small
returns-clause-small c =
    let all : c.loop-done.done ≡ c.args.count = omega (arith, c.loop-done-test.false, c.loop-done.auto.done-end) in
    rw all at c.loop-done.invariant.1
