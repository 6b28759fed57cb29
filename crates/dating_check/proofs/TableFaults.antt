-- What is false in a table, beside the latest dates.
use Rattle.std.proofs.Common.{ℕ, ◌+◌, ◌-◌, ◌*◌, ◌<◌, ◌≤◌, ◌≡◌, ◌≢◌, List, [], Option, Some, None, length, get_or, slice_index_or, refl, sym, ap, subst, ◌∙◌, arith, ⊎_elim}
use Rattle.std.proofs.lemmas.Bool.{cases_eq}
use Rattle.std.proofs.lemmas.List.{get_or-drop}
use Rattle.dioid.specs.declared.dates.Date.{Date}
use Rattle.dioid.specs.declared.dates.Date.TheVariants.{Early, At, Never}
use Rattle.dioid.specs.Dates.{IsAtMostDate}
use Rattle.dioid.proofs.DateOrder.{never_last, same_by_at_most}
use Rattle.teg_net.specs.declared.entries.TransitionId.{TransitionId}
use Rattle.teg_net.specs.declared.walks.Step.{Step}
use Rattle.teg_net.specs.Circuits.{IsLive}
use Rattle.teg_net.specs.Nets.{NetLists, IsNet}
use Rattle.teg_due.specs.declared.rows.DueRow.{DueRow}
use Rattle.teg_due.specs.RowRules.{IsDueOf}
use Rattle.due_laws.specs.LatestDates.{IsLatestDate}
use Rattle.due_laws.proofs.LatestDates.{never_or_not}
use Rattle.dating_certificates.specs.CheckedRows.{date_in_rows}
use Rattle.latest_certificates.specs.LatestRows.{AreLatestRows, ListsDues}
use Rattle.latest_certificates.specs.PlanRows.{ArePlanRows}
use Rattle.latest_certificates.proofs.ListedDues.{dues_are_listed}
use Rattle.dating_certificates.proofs.DatesUpTo.{told_in}
use Rattle.word_lines.specs.WordLines.{IsTextOf}
use Rattle.dating_check.specs.declared.table_faults.TableFault.{TableFault}
use Rattle.dating_check.specs.declared.table_faults.TableFault.TheVariants.{OtherNumbers, Line, Late}
use Rattle.dating_check.specs.DueNumbers.{IsGreatestNumber}
use Rattle.dating_check.specs.ShownTables.{IsShownTable, IsTableTold, latest_date_words}
use Rattle.dating_check.specs.TableReading.{FirstOther, TellsDate, line_words, words_behind}
use Rattle.dating_check.specs.TableTexts.{AreRightLines, IsFaultOf, IsFirstWrongLine, IsFalseTable, IsRightIfTable, IsRightLine, IsRightTable, IsTableText, latest_word, table_of_words}
use Rattle.dating_check.proofs.TableLines.{same_tables, table_are_lines, table_is_text}
use Rattle.dating_check.proofs.TableWords.{date_is_words}

-- a firing has one latest date
one_latest : (net : NetLists) (due : ℕ → ℕ → Option ℕ) (t k : ℕ) (d e : Date) → IsLatestDate net due t k d → IsLatestDate net due t k e → d ≡ e
one_latest net due t k d e h l = same_by_at_most d e (below d e h l) (below e d l h) where
  below : (a b : Date) → IsLatestDate net due t k a → IsLatestDate net due t k b → IsAtMostDate a b
  below a b h l = ⊎_elim (λ (q : b ≡ Never). rw q (never_last a)) (λ (q : b ≢ Never). h.least b (l.attained q)) (never_or_not b)

-- the rows name one greatest number
pub one_greatest : (rows : List DueRow) (a b : ℕ) → IsGreatestNumber rows a → IsGreatestNumber rows b → a ≡ b
one_greatest rows a b h l = (let x = low a b h l in let y = low b a l h in omega (arith, x, y)) where
  low : (m n : ℕ) → IsGreatestNumber rows m → IsGreatestNumber rows n → m ≤ n
  low m n h l = ⊎_elim
      (λ (e : m ≡ 0). omega (arith, e))
      (λ (ne : m ≢ 0). let one = h.named ne in let most = l.most one.0 one.1 one.2 in let at = one.3 in let is = one.4 in
      let same : (get_or rows one.0 one.1).number ≡ m = ap (λ (r : DueRow). r.number) at ∙ is in omega (arith, most, same))
      (cases_eq m 0)

module _ (net : NetLists) (due : ℕ → ℕ → Option ℕ) (numbers : ℕ) (dates : List Date) (latest : AreLatestRows net due numbers dates) where
  -- the latest date of a row
  row_latest : (t k : ℕ) → t < length net.transitions → 1 ≤ k → k ≤ numbers → IsLatestDate net due t k (date_in_rows (length net.transitions) dates t k)
  row_latest t k l o m = subst (IsLatestDate net due t k) (told_in numbers (length net.transitions) dates t k m) (latest.latest t k l o)

  -- a line that tells it is right
  pub told_right : (lines : List (List ℕ)) (t k : ℕ) → t < length net.transitions → 1 ≤ k → k ≤ numbers → TellsDate lines numbers (length net.transitions) dates t k
      → IsRightLine net due (words_behind lines numbers) t k
  told_right lines t k l o m told date is =
      get_or-drop 3 (line_words lines numbers t k) 0 [] ∙ (told ∙ ap latest_word (one_latest net due t k (date_in_rows (length net.transitions) dates t k) date (row_latest t k l o m) is))

  -- and no other is
  pub right_told : (lines : List (List ℕ)) (t k : ℕ) → t < length net.transitions → 1 ≤ k → k ≤ numbers → IsRightLine net due (words_behind lines numbers) t k
      → TellsDate lines numbers (length net.transitions) dates t k
  right_told lines t k l o m right = sym (get_or-drop 3 (line_words lines numbers t k) 0 []) ∙ right (date_in_rows (length net.transitions) dates t k) (row_latest t k l o m)

  -- where each line tells its date, each is right
  pub all_right : (lines : List (List ℕ)) → FirstOther lines numbers (length net.transitions) dates None → AreRightLines net due (words_behind lines numbers) numbers
  all_right lines h t k l o m = told_right lines t k l o m (h t l k o m)

  -- the first line that tells another is the first that is wrong
  pub first_wrong : (lines : List (List ℕ)) (id : TransitionId) (k : ℕ) → FirstOther lines numbers (length net.transitions) dates (Some (id, k))
      → IsFirstWrongLine net due (words_behind lines numbers) numbers id.index k
  first_wrong lines id k h =
      let t_in : id.index < length net.transitions = h.0 in
      let some : 1 ≤ k = h.2.0 in
      let within : k ≤ numbers = h.2.1 in
      record {
        transition = t_in;
        some = some;
        within = within;
        above = λ s j l o m. told_right lines s j (omega (arith, l, t_in)) o m (h.1 s l j o m);
        before = λ j o l. told_right lines id.index j t_in o (omega (arith, l, within)) (h.2.2 j o l);
        wrong = λ right. h.2.3 (right_told lines id.index k t_in some within right);
      }

-- ---- tables that are shown

-- the words behind the numbers of a table of dates and steps
abbrev pub words_told : NetLists → List Date → List (Option Step) → ℕ → ℕ → List (List ℕ)
words_told net dates ways t k = latest_date_words net (date_in_rows (length net.transitions) dates t k) (slice_index_or ways ((k - 1) * length net.transitions + t) None)

-- the lines of such a table
told_lines_are : (net : NetLists) (text : List ℕ) (rows : List DueRow) (numbers : ℕ) (dates : List Date) (ways : List (Option Step)) → IsNet net → IsTableTold net rows text numbers dates ways
    → IsTextOf text (table_of_words net numbers (words_told net dates ways))
told_lines_are net text rows numbers dates ways ok h = record {
  are = table_are_lines net numbers (words_told net dates ways) ok (λ t k l o m. date_is_words net (date_in_rows (length net.transitions) dates t k) (slice_index_or ways ((k - 1) * length net.transitions + t) None) ok);
  told = h.told;
}

-- the first of its words tells the date
first_word : (net : NetLists) (date : Date) (way : Option Step) → slice_index_or (latest_date_words net date way) 0 [] ≡ latest_word date
first_word net Early way = refl
first_word net (At z) way = refl
first_word net Never way = refl

-- what is refuted is not shown
pub fault_not_shown : (net : NetLists) (rows : List DueRow) (text : List ℕ) (fault : TableFault) → IsNet net → IsFalseTable net rows text fault → (n : ℕ) → IsShownTable net rows text n → ⊥
fault_not_shown net rows text fault ok h n shown =
    let numbers : ℕ = h.table.0 in
    let words = h.table.1 in
    let table = h.table.2 in
    let dates : List Date = shown.table.0 in
    let ways : List (Option Step) = shown.table.1 in
    let listed = dues_are_listed net rows h.due in
    let plan : ArePlanRows net listed.0 n dates = (shown.table.2.plan listed.0 listed.1).rows in
    let few = table.few in
    let same = same_tables net text numbers n words (words_told net dates ways) (omega (arith, few)) (omega (arith, plan.latest.whole.few)) (table_is_text net text numbers words ok table)
    (told_lines_are net text rows n dates ways ok shown.table.2) in
    let greatest : IsGreatestNumber rows numbers = subst (IsGreatestNumber rows) (sym same.0) shown.greatest in
    refuted fault h.table.3 same greatest listed plan where
      refuted : (fault : TableFault) → IsFaultOf net rows h.table.0 h.table.1 fault
          → (h.table.0 ≡ n) × ((t k : ℕ) → t < length net.transitions → 1 ≤ k → k ≤ h.table.0 → h.table.1 t k ≡ words_told net shown.table.0 shown.table.1 t k)
          → IsGreatestNumber rows h.table.0 → (listed : (due : ℕ → ℕ → Option ℕ) × ListsDues rows due) → ArePlanRows net listed.0 n shown.table.0 → ⊥
      refuted OtherNumbers wrong same greatest listed plan = wrong greatest
      refuted (Line id k line) wrong same greatest listed plan =
          let first = wrong.2 listed.0 listed.1 in
          let t_in = first.transition in
          let some = first.some in
          let within = first.within in
          let width : ℕ = length net.transitions in
          let own : Date = date_in_rows width shown.table.0 id.index k in
          let latest : IsLatestDate net listed.0 id.index k own = row_latest net listed.0 n shown.table.0 plan.latest id.index k t_in some (omega (arith, within, same.0)) in
          first.wrong (λ date is.
          ap (λ (ws : List (List ℕ)). slice_index_or ws 0 []) (same.1 id.index k t_in some within)
          ∙ (first_word net own (slice_index_or shown.table.1 ((k - 1) * width + id.index) None) ∙ ap latest_word (one_latest net listed.0 id.index k own date latest is)))
      refuted Late wrong same greatest listed plan = (wrong.1 listed.0 listed.1).1 plan.in_time

-- where the table that is read is right, each table that the text is is
pub right_if_table : (net : NetLists) (rows : List DueRow) (text : List ℕ) (numbers : ℕ) (words : ℕ → ℕ → List (List ℕ)) → IsNet net → IsTableText net text numbers words → IsRightTable net rows numbers words
    → IsRightIfTable net rows text
right_if_table net rows text numbers words ok table right list live n others told =
    let few = table.few in
    let many = told.few in
    let same = same_tables net text numbers n words others (omega (arith, few)) (omega (arith, many)) (table_is_text net text numbers words ok table) (table_is_text net text n others ok told) in
    record {
      greatest = subst (IsGreatestNumber rows) same.0 right.greatest;
      lines = λ due listed t k l o m date is.
          let within : k ≤ numbers = omega (arith, m, same.0) in
          ap (λ (ws : List (List ℕ)). slice_index_or ws 0 []) (sym (same.1 t k l o within)) ∙ right.lines due listed t k l o within date is;
      in_time = right.in_time;
    }

-- ---- what is found

module _ (net : NetLists) (rows : List DueRow) (text : List ℕ) (numbers : ℕ) (lines : List (List ℕ)) (list : IsDueOf net rows) (live : IsLive net)
    (table : IsTableText net text numbers (words_behind lines numbers)) where
  -- the greatest number that is due is another one
  pub numbers_false : (n : ℕ) → IsGreatestNumber rows n → (numbers ≡ n → ⊥) → IsFalseTable net rows text OtherNumbers
  numbers_false n greatest other = record {
    due = list;
    live = live;
    table = (numbers, words_behind lines numbers, table, λ h. other (one_greatest rows numbers n h greatest));
  }

  module _ (dates : List Date) (greatest : IsGreatestNumber rows numbers) (latest : (due : ℕ → ℕ → Option ℕ) → ListsDues rows due → AreLatestRows net due numbers dates) where
    -- a line tells another date
    pub line_false : (first : TransitionId × ℕ) (line : ℕ) → line ≡ 1 + (first.0.index * numbers + (first.1 - 1)) → FirstOther lines numbers (length net.transitions) dates (Some first)
        → IsFalseTable net rows text (Line first.0 first.1 line)
    line_false first line at h = record {
      due = list;
      live = live;
      table = (numbers, words_behind lines numbers, table, (at, greatest, λ due listed. first_wrong net due numbers dates (latest due listed) lines first.0 first.1 h));
    }

    -- there is no plan
    pub late_false : FirstOther lines numbers (length net.transitions) dates None → ((due : ℕ → ℕ → Option ℕ) → ListsDues rows due → ArePlanRows net due numbers dates → ⊥)
        → IsFalseTable net rows text Late
    late_false each none =
        let all = λ (due : ℕ → ℕ → Option ℕ) (listed : ListsDues rows due). all_right net due numbers dates (latest due listed) lines each in
        record {
          due = list;
          live = live;
          table = (numbers, words_behind lines numbers, table, (greatest, λ due listed. (all due listed, λ in_time. none due listed (record { latest = latest due listed; in_time = in_time }))));
        }

    -- nothing is false
    pub table_right : IsNet net → FirstOther lines numbers (length net.transitions) dates None → ((due : ℕ → ℕ → Option ℕ) → ListsDues rows due → ArePlanRows net due numbers dates)
        → IsRightIfTable net rows text
    table_right ok each plan = right_if_table net rows text numbers (words_behind lines numbers) ok table (record {
      greatest = greatest;
      lines = λ due listed. all_right net due numbers dates (latest due listed) lines each;
      in_time = λ due listed. (plan due listed).in_time;
    })
