-- A line of machines: each works on one piece at a time and hands it on, and cards hold down how far it may be ahead of the next.
use Rattle.std.specs.Prelude.{ℕ, ◌+◌, ◌-◌, ◌*◌, ◌%◌, List, [], ◌++◌, map, codes}
use Rattle.std.specs.Fmt.{decimal}
use Rattle.std.specs.List.{range_with_len}
use Rattle.teg_net.specs.declared.entries.Role.TheVariants.{Internal}
use Rattle.teg_net.specs.declared.entries.Transition.{Transition}
use Rattle.teg_net.specs.declared.entries.Place.{Place}
use Rattle.teg_net.specs.Nets.{NetLists}

-- a letter and a number, as a name
abbrev pub numbered : List ℕ → ℕ → List ℕ
numbered letter i = letter ++ decimal i

-- machine i
abbrev pub machine : ℕ → Transition
machine i = record { name = numbered (codes "m") i; role = Internal }

-- the place of this name from one machine to another, counted from 1, whose tokens are ready at 0
abbrev pub trial_place : List ℕ → ℕ → ℕ → ℕ → ℕ → Place
trial_place name from to hold tokens = record {
  name = name;
  from = record { index = from - 1 };
  to = record { index = to - 1 };
  hold = hold;
  tokens = tokens;
  ready = [];
}

-- for how long machine i works on a piece, and the piece stays with it
abbrev pub machine_hold : ℕ → ℕ
machine_hold i = 10 + (37 * i) % 23

-- how many pieces machine i may be ahead of the next
abbrev pub cards_of : ℕ → ℕ
cards_of i = 2 + i % 2

-- machine i works on one piece at a time
abbrev pub own_place : ℕ → Place
own_place i = trial_place (numbered (codes "s") i) i i (machine_hold i) 1

-- machine i hands its pieces on
abbrev pub feed_place : ℕ → Place
feed_place i = trial_place (numbered (codes "f") i) i (i + 1) (machine_hold i) 0

-- the cards come back to machine i
abbrev pub card_place : ℕ → Place
card_place i = trial_place (numbered (codes "c") i) (i + 1) i 0 (cards_of i)

-- the line of so many machines: the machines in order; their own places, those that hand on, those of the cards, each in order
abbrev pub trial : ℕ → NetLists
trial machines = record {
  transitions = map machine (range_with_len 1 machines);
  places =
      map own_place (range_with_len 1 machines)
      ++ (map feed_place (range_with_len 1 (machines - 1))
      ++ map card_place (range_with_len 1 (machines - 1)));
  inputs = [];
}
