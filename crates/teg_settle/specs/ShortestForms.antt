-- Working definitions of what the search for the shortest form finds.
use Rattle.std.specs.Prelude.{ℕ, ◌<◌, ◌≤◌, MatchOption}
use Rattle.teg_net.specs.Nets.{NetLists}
use Rattle.teg_settle.specs.declared.releases.Releases.{Releases}
use Rattle.teg_settle.specs.declared.search.Found.{Found}
use Rattle.teg_settle.specs.declared.search.Searched.{Searched}
use Rattle.teg_settle.specs.ComparedRows.{AreRowsOf, IsReady, IsRefuted, IsSeen}

-- rows of the least dating, which show its shortest form
pub record IsFound (net : NetLists) (r : Releases) (f : Found) : Type 0 where
  pub ready : (most : ℕ) × IsReady net r most
  pub rows : AreRowsOf net r f.rows
  pub seen : IsSeen net r f.rows f.form

-- from `start` rows on at least `last`, and no more, which show no form where they are more than at the start
pub record IsUnseen (net : NetLists) (r : Releases) (most start last count : ℕ) : Type 0 where
  pub all : last ≤ count
  pub within : start ≤ last → count ≤ last
  pub refuted : start < count → (period : ℕ) → IsRefuted net r most count period

-- rows of the least dating, which show its shortest form, or as many as asked
pub record IsSearched (net : NetLists) (r : Releases) (most start last : ℕ) (s : Searched) : Type 0 where
  pub ready : IsReady net r most
  pub rows : AreRowsOf net r s.rows
  pub shown : MatchOption s.form (IsUnseen net r most start last s.rows.count) (IsSeen net r s.rows)
