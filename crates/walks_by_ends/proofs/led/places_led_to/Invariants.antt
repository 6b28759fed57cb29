use Rattle.std.proofs.Common.{◌≡◌, map, take}
use Rattle.end_laws.specs.Ends.{led_to}
use Rattle.walks_by_ends.proofs.led.places_led_to.Given as goal

abbrev pub invariant-loop-place : goal.invariant-loop-place
invariant-loop-place l = l.led.items ≡ map (led_to l.input.index l.end.index) (take l.place-index l.places)
