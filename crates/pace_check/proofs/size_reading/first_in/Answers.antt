use Rattle.std.proofs.Common.{Bor, ◌≡◌, List, ℕ, length, map, sym, subst, ◌∙◌}
use Rattle.std.proofs.lemmas.List.{length-map}
use Rattle.witness_check.specs.NamedPlaces.{ReadsRatio}
use Rattle.witness_check.proofs.NamedPlaces.{place_found}
use Rattle.pace_check.specs.SizeReading.{ReadsFirst}
use Rattle.pace_check.proofs.SizeTexts.{first_read}
use Rattle.pace_check.proofs.size_reading.first_in.Goals as goal

pub returns : goal.returns
returns c =
    let net = c.args.net.now in
    let words : List (List ℕ) = map (λ x. x.now) c.args.words.now in
    let long : length words ≡ length c.args.words.now = length-map c.args.words.now (λ (x : Bor (List ℕ)). x.now) in
    subst (ReadsFirst net words) (sym c.first_of.ensures)
    (first_read net words c.extra_in.result c.find_place-place.result c.ratio_in-target.result
    (record {
      impossible = λ four. c.extra_in.ensures.impossible (sym long ∙ four);
      enough = λ n small five is. c.extra_in.ensures.enough n small (sym long ∙ five) is;
      place = λ q l is. place_found net q c.text_at.result.now c.find_place-place.result c.rules.ensures l (c.text_at.ensures ∙ is) c.find_place-place.ensures.none c.find_place-place.ensures.found;
      target = subst (λ (w : List ℕ). ReadsRatio w c.ratio_in-target.result) c.text_at-2.ensures c.ratio_in-target.ensures;
    }))
