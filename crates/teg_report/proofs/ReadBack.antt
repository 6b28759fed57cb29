-- Each answer that is told is read back from its text.
use Rattle.std.proofs.Common.{IsSomeAnd, IfSome, ◌≡◌, refl, Option, None, Some}
use Rattle.teg_net.specs.Nets.{NetLists, IsNet}
use Rattle.teg_report.specs.Answering.{answer_of, answer_in, AreOfOneNet, IsNamedBy}
use Rattle.teg_report.specs.AnswerValues.{Answer, Usage, Live, Listed, Form, NoCircuit, Cycle, Dates, Date, Jit, Late, Slack, Transfer, Replayed}
use Rattle.teg_report.specs.AnswerValues.{Refused, Calc, Trial, Read, TooLarge, TokenFree, NoTransition, Due, Log, TooLong, Parse, Series, Fault}
use Rattle.teg_report.specs.KeptAnswers.{IsAnswerTold}
use Rattle.teg_report.specs.Reports.{lines_of, names_from, text_of}
use Rattle.teg_report.proofs.IsRead.{IsRead, with_net}
use Rattle.teg_report.proofs.CyclesRead.{cycle_read}
use Rattle.teg_report.proofs.FormsRead.{form_read}
use Rattle.teg_report.proofs.ListsRead.{list_read}
use Rattle.teg_report.proofs.TextsRead.{circuit_read, date_read, fault_read, live_read, no_transition_read, too_large_read, too_long_read}
use Rattle.teg_report.proofs.PlansRead.{late_read, plan_read}
use Rattle.teg_report.proofs.RefusalsRead.{refusal_read}
use Rattle.teg_report.proofs.FileRowsRead.{due_read, log_read, refused_read, replayed_read}
use Rattle.teg_report.proofs.SeriesRead.{series_read, parse_read, series_refused_read}
use Rattle.teg_report.proofs.SettledRead.{settled_read, transfer_read}
use Rattle.teg_report.proofs.SlacksRead.{slack_read, trial_read}
use Rattle.teg_text.proofs.Telling.{text_back}

-- an answer that names things of the net, which is then given
by_net : (P : NetLists → Type 0) (answer : Answer) (net : Option NetLists) (names : NetLists) → IsNamedBy net names → IfSome net IsNet → IsSomeAnd net P →
    ((n : NetLists) → IsNet n → P n → IsRead n (lines_of n answer) answer) → IsRead names (lines_of (names_from net) answer) answer
by_net P answer net names e rules about read = with_net P (λ names n. IsRead names (lines_of n answer) answer) net names e rules about read

lines_read : (net : Option NetLists) (names : NetLists) → IsNamedBy net names → (answer : Answer) → IsAnswerTold net answer → IsRead names (lines_of (names_from net) answer) answer
lines_read net names e Usage h = record { words = refl; back = refl }
lines_read net names e (Live transitions places) h = live_read names transitions places h.kept
lines_read net names e (Listed table) h = by_net _ (Listed table) net names e h.keeps_rules h.about (list_read table h.kept.0 h.kept.1)
lines_read net names e (Form form) h = by_net _ (Form form) net names e h.keeps_rules h.about (form_read form h.kept)
lines_read net names e NoCircuit h = record { words = refl; back = refl }
lines_read net names e (Cycle answer rounds) h = by_net _ (Cycle answer rounds) net names e h.keeps_rules h.about (cycle_read answer rounds h.kept)
lines_read net names e (Dates settled) h = by_net _ (Dates settled) net names e h.keeps_rules h.about (settled_read settled h.kept)
lines_read net names e (Date transition number date) h = by_net _ (Date transition number date) net names e h.keeps_rules h.about (date_read transition number date h.kept)
lines_read net names e (Jit plan) h = by_net _ (Jit plan) net names e h.keeps_rules h.about (plan_read plan h.kept)
lines_read net names e (Late late) h = by_net _ (Late late) net names e h.keeps_rules h.about (late_read late h.kept)
lines_read net names e (Slack ratio slacks) h = by_net _ (Slack ratio slacks) net names e h.keeps_rules h.about (slack_read ratio slacks h.kept)
lines_read net names e (Transfer inputs) h = by_net _ (Transfer inputs) net names e h.keeps_rules h.about (transfer_read inputs h.kept)
lines_read net names e (Replayed accepted lines) h = replayed_read names accepted lines h.kept h.about
lines_read net names e (Refused row failure lines) h = refused_read net names e h.keeps_rules row failure lines h.kept h.about.0 h.about.1
lines_read net names e (Calc series) h = series_read names series h.kept
lines_read net names e (Trial machines places ratio critical last) h = trial_read names machines places ratio critical last h.kept
lines_read net names e (Read refusal) h = refusal_read names refusal h.kept
lines_read net names e (TooLarge file) h = too_large_read names file
lines_read net names e (TokenFree circuit) h = by_net _ (TokenFree circuit) net names e h.keeps_rules h.about (circuit_read circuit)
lines_read net names e (NoTransition word) h = no_transition_read names word h.kept
lines_read net names e (Due refusal) h = due_read names refusal h.kept
lines_read net names e (Log refusal) h = log_read names refusal h.kept
lines_read net names e (TooLong limit) h = too_long_read names limit h.kept
lines_read net names e (Parse refusal) h = parse_read names refusal h.kept
lines_read net names e (Series refusal) h = series_refused_read names refusal h.kept
lines_read net names e (Fault file) h = fault_read names file

pub told_read : (net : Option NetLists) (names : NetLists) → IsNamedBy net names → (answer : Answer) → IsAnswerTold net answer → answer_in names (text_of net answer) ≡ answer
told_read net names e answer h = text_back (answer_of names) (lines_of (names_from net) answer) answer (lines_read net names e answer h)

-- the one net of two answers
pub one_net : (one two : Option NetLists) → AreOfOneNet one two → (names : NetLists) × IsNamedBy one names × IsNamedBy two names
one_net None None h = (names_from None, tt, tt)
one_net None (Some net) h = (net, tt, refl)
one_net (Some net) None h = (net, refl, tt)
one_net (Some net) (Some other) h = (net, refl, h)
