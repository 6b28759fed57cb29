use Rattle.pace_check.specs.SizeReading.{SizeWords}
use Rattle.pace_check.proofs.SizeTexts.{enough_only, impossible_only}
use Rattle.pace_check.proofs.sizes.shown_told.Goals as goal

pub returns-in_ok-shown-in-Some : goal.returns-in_ok-shown-in-Some
returns-in_ok-shown-in-Some c =
    let told = c.args.told.now in
    let words : SizeWords = record { place = told.place; target = told.target; extra = told.extra; circuit = told.circuit.places.items } in
    enough_only c.args.net.now c.args.text.now words c.in-Some.extra _ c.rules.ensures c.requires.read c.in-Some.is c.in_ok-shown-in-Some.ensures

pub returns-in_ok-shown-in-None : goal.returns-in_ok-shown-in-None
returns-in_ok-shown-in-None c =
    let told = c.args.told.now in
    let words : SizeWords = record { place = told.place; target = told.target; extra = told.extra; circuit = told.circuit.places.items } in
    impossible_only c.args.net.now c.args.text.now words _ c.rules.ensures c.requires.read c.in-None.is c.in_ok-shown-in-None.ensures
