use Rattle.std.proofs.Common.{◌≡◌, ◌<◌, ◌≤◌, ◌++◌, [], ◌∙◌, ℕ, List, All, length, map, get_or, refl, sym, subst, ap, arith, string_bytes}
use Rattle.std.proofs.lemmas.List.{get_or-map, length-map, take_all}
use Rattle.teg_net.specs.declared.entries.TransitionId.{TransitionId}
use Rattle.teg_text.specs.Lines.{line_then}
use Rattle.teg_text.proofs.Listing.{all_items}
use Rattle.teg_forever.specs.declared.releases.Release.{Release}
use Rattle.teg_forever.specs.EndlessTexts.{IsReleaseTold, release_line}
use Rattle.teg_forever.proofs.Written.{line_more}
use Rattle.teg_forever.proofs.texts.push_releases.Goals as goal

pub loop-index-preserved : goal.loop-index-preserved
loop-index-preserved c =
    let net = c.args.net.now in
    let ts : List ℕ = map (λ (t : TransitionId). t.index) c.args.inputs.now in
    let releases : List Release = c.args.releases.now in
    let i = c.loop-index.index in
    let r : Release = c.index-releases-index.result in
    let lt : c.loop-index.index < length c.args.inputs.now = c.loop-index-test.true in
    let each : length c.args.releases.now ≡ length c.args.inputs.now = c.requires.each_input in
    let text = string_bytes c.loop-index.text in
    let pushed : string_bytes c.push_release.new.text ≡ text ++ line_then (release_line net (get_or ts i 0) (get_or releases i r)) [] =
    c.in_ok-push_release.ensures.text
    ∙ ap (λ (n : ℕ). text ++ line_then (release_line net n r) []) (sym (get_or-map (λ (u : TransitionId). u.index) c.args.inputs.now i _ 0 lt))
    ∙ ap (λ (x : Release). text ++ line_then (release_line net (get_or ts i 0) x) []) c.index-releases-index.is in
    record {
      text = line_more net ts releases i 0 r text (string_bytes c.push_release.new.text) _
          (omega (arith, lt, length-map c.args.inputs.now (λ (t : TransitionId). t.index))) (omega arith) pushed c.loop-index.invariant.text;
      told = all_items IsReleaseTold releases releases i r refl (omega arith) (subst IsReleaseTold c.index-releases-index.is c.in_ok-push_release.ensures.told) c.loop-index.invariant.told;
    }

pub returns-clause-told : goal.returns-clause-told
returns-clause-told c =
    let low : length c.args.inputs.now ≤ c.loop-index.index = c.loop-index-test.false in
    let each : length c.args.releases.now ≡ length c.args.inputs.now = c.requires.each_input in
    subst (All IsReleaseTold) (take_all c.loop-index.index c.args.releases.now (omega arith)) c.loop-index.invariant.told
