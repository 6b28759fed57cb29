-- Standard forms are read back from their lines.
use Rattle.std.proofs.Common.{◌<◌, All, refl, length, map}
use Rattle.teg_form.specs.declared.entries.Entry.{Entry}
use Rattle.teg_form.specs.declared.stars.StarEntry.{StarEntry}
use Rattle.teg_form.specs.StandardForms.{FormLists}
use Rattle.teg_net.specs.Nets.{NetLists, IsNet}
use Rattle.teg_report.specs.FormLines.{star_in, entry_in, is_star, HasEndsIn, form_lines, star_line, entry_line, IsStarKept, IsEntryKept}
use Rattle.teg_report.specs.AnswerValues.{Form}
use Rattle.teg_report.proofs.IsRead.{IsRead}
use Rattle.teg_text.proofs.NamesRead.{transition_back, transition_is_word}
use Rattle.teg_text.specs.Lines.{is_line}
use Rattle.teg_text.proofs.Back.{word32_back, word64_back}
use Rattle.teg_text.proofs.LineBlocks.{IsReadBack, rows, joined_back}
use Rattle.teg_text.proofs.Words.{all_append, decimal_is_word}

-- what an entry keeps is that its ends are transitions of the net, and that its numbers have their bits

record IsStarOf (net : NetLists) (e : StarEntry) : Type 0 where
  to_in : e.to.index < length net.transitions
  from_in : e.from.index < length net.transitions
  numbers : IsStarKept e

record IsEntryOf (net : NetLists) (e : Entry) : Type 0 where
  to_in : e.to.index < length net.transitions
  from_in : e.from.index < length net.transitions
  numbers : IsEntryKept e

star_read : (net : NetLists) → IsNet net → IsReadBack (IsStarOf net) is_line (star_line net) (star_in net)
star_read net rules = record {
  passes = λ e h. rw (transition_is_word net e.to rules h.to_in, transition_is_word net e.from rules h.from_in, decimal_is_word e.time) refl;
  back = λ e h. rw (transition_back net e.to rules h.to_in, transition_back net e.from rules h.from_in, word64_back e.time h.numbers) refl;
}

entry_read : (net : NetLists) → IsNet net → IsReadBack (IsEntryOf net) is_line (entry_line net) (entry_in net)
entry_read net rules = record {
  passes = λ e h. rw (transition_is_word net e.to rules h.to_in, transition_is_word net e.from rules h.from_in, decimal_is_word e.tokens, decimal_is_word e.time) refl;
  back = λ e h. rw (transition_back net e.to rules h.to_in, transition_back net e.from rules h.from_in, word32_back e.tokens h.numbers.0, word64_back e.time h.numbers.1) refl;
}

pub form_read : (form : FormLists) → All IsStarKept form.stars × All IsEntryKept form.entries → (net : NetLists) → IsNet net → HasEndsIn net form → IsRead net (form_lines net form) (Form form)
form_read form kept net rules h =
    let stars = rows _ _ _ _ (star_read net rules) in
    let entries = rows _ _ _ _ (entry_read net rules) in
    let stars_of : All (IsStarOf net) form.stars = λ i d l. record { to_in = h.stars_to i d l; from_in = h.stars_from i d l; numbers = kept.0 i d l } in
    let entries_of : All (IsEntryOf net) form.entries = λ i d l. record { to_in = h.entries_to i d l; from_in = h.entries_from i d l; numbers = kept.1 i d l } in
    let apart = joined_back is_star (star_line net) (entry_line net) (λ e. refl) (λ e. refl) form.stars form.entries in
    record {
      words = rw (decimal_is_word (length form.stars), decimal_is_word (length form.entries))
          (all_append is_line (map (star_line net) form.stars) (map (entry_line net) form.entries) (stars.passes form.stars stars_of)
          (entries.passes form.entries entries_of));
      back = rw (apart.0, apart.1, stars.back form.stars stars_of, entries.back form.entries entries_of) refl;
    }
