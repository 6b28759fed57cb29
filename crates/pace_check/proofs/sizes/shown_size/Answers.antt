use Rattle.std.proofs.Common.{Some}
use Rattle.std.proofs.lemmas.Bool.{iff_false}
use Rattle.pace_check.specs.SizeReading.{ReadsSize, SizeWords}
use Rattle.pace_check.proofs.SizeTexts.{not_asked, nothing_shown}
use Rattle.pace_check.proofs.sizes.shown_size.Goals as goal

pub returns-in_default : goal.returns-in_default
returns-in_default c = nothing_shown c.args.net.now c.args.text.now c.rules.ensures (rw c.in_default.is at c.in_ok-told.ensures)

pub returns-then-not-is_asked : goal.returns-then-not-is_asked
returns-then-not-is_asked c =
    let told = c.in-Some.told in
    let words : SizeWords = record { place = told.place; target = told.target; extra = told.extra; circuit = told.circuit.places.items } in
    let read : ReadsSize c.args.net.now c.args.text.now (Some words) = rw c.in-Some.is at c.in_ok-told.ensures in
    not_asked c.args.net.now c.args.text.now words c.rules.ensures read (iff_false c.is_asked.ensures c.if-not-is_asked.true)
