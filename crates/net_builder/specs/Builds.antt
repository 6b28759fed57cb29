-- Nets that grow by an entry at a time, and why an entry is refused.
use Rattle.std.specs.Prelude.{ℕ, List, [], ◌∷◌, ◌++◌, ◌⊎◌, ⊤, IsTrue, IsFalse}
use Rattle.teg_net.specs.declared.entries.InputList.{InputList}
use Rattle.teg_net.specs.declared.entries.Place.{Place}
use Rattle.teg_net.specs.declared.entries.Role.{Role}
use Rattle.teg_net.specs.declared.entries.Transition.{Transition}
use Rattle.teg_net.specs.declared.entries.TransitionId.{TransitionId}
use Rattle.teg_net.specs.Names.{is_name}
use Rattle.teg_net.specs.NetFaults.{IsNetFault}
use Rattle.teg_net.specs.Nets.{NetLists, lists_of}
use Rattle.net_builder.specs.declared.refusal.BuildRefusal.{BuildRefusal}
use Rattle.net_builder.specs.declared.refusal.BuildRefusal.TheVariants.{BadName, Breaks, OutOfMemory}

-- the lists with one more transition behind the others
abbrev pub adding_transition : NetLists → Transition → NetLists
adding_transition net t = lists_of (net.transitions ++ t ∷ []) net.places net.inputs

-- the lists with one more place behind the others
abbrev pub adding_place : NetLists → Place → NetLists
adding_place net p = lists_of net.transitions (net.places ++ p ∷ []) net.inputs

-- the lists with one more input list behind the others
abbrev pub adding_input : NetLists → InputList → NetLists
adding_input net l = lists_of net.transitions net.places (net.inputs ++ l ∷ [])

-- the transition of this name and role
abbrev pub named_transition : List ℕ → Role → Transition
named_transition name role = record { name = name; role = role }

-- the place of this name between these ends, whose tokens are ready at 0
abbrev pub named_place : List ℕ → TransitionId → TransitionId → ℕ → ℕ → Place
named_place name from to hold tokens = record { name = name; from = from; to = to; hold = hold; tokens = tokens; ready = [] }

-- an entry that makes these lists is refused: they break this rule of nets, and none of those before it, or no memory was found
abbrev pub IsEntryRefusal : NetLists → BuildRefusal → Type 0
IsEntryRefusal more BadName = ⊥
IsEntryRefusal more (Breaks fault) = IsNetFault more fault
IsEntryRefusal more OutOfMemory = ⊤

-- a text gives no name: it is none, or no memory was found for one that is
abbrev pub IsNameRefusal : List ℕ → BuildRefusal → Type 0
IsNameRefusal text BadName = IsFalse (is_name text)
IsNameRefusal text (Breaks fault) = ⊥
IsNameRefusal text OutOfMemory = IsTrue (is_name text)

-- an entry of this name that makes these lists is refused: the text gives no name, or it is one and the entry is refused
abbrev pub IsNamedRefusal : List ℕ → NetLists → BuildRefusal → Type 0
IsNamedRefusal text more why = IsNameRefusal text why ⊎ (IsTrue (is_name text) × IsEntryRefusal more why)
