-- What a refusal of a call is told as: itself, or want of memory, which is one whichever call met it.
use Rattle.std.specs.Prelude.{if◌then◌else◌}
use Rattle.teg_net.specs.declared.names.NameRefused.{NameRefused}
use Rattle.teg_net.specs.declared.names.NameRefused.TheVariants.{Bad, OutOfMemory as name_memory}
use Rattle.teg_reader.specs.PassWalks.{is_memory}
use Rattle.net_builder.specs.declared.refusal.BuildRefusal.{BuildRefusal}
use Rattle.net_builder.specs.declared.refusal.BuildRefusal.TheVariants.{BadName as build_bad, Breaks, OutOfMemory as build_memory}
use Rattle.teg_reader.specs.declared.refusals.ReadRefusal.{ReadRefusal}
use Rattle.teg_check.specs.declared.refusal.CheckRefusal.{CheckRefusal}
use Rattle.teg_check.specs.declared.refusal.CheckRefusal.TheVariants.{OutOfMemory as check_memory}
use Rattle.teg_due.specs.declared.rows.DueRefusal.{DueRefusal}
use Rattle.teg_due.specs.declared.rows.DueRefusal.TheVariants.{OutOfMemory as due_memory}
use Rattle.endless_due.specs.declared.refusal.EndlessRefusal.{EndlessRefusal}
use Rattle.endless_due.specs.declared.refusal.EndlessRefusal.TheVariants.{OutOfMemory as endless_memory}
use Rattle.teg_due.specs.declared.rows.LogRefusal.{LogRefusal}
use Rattle.teg_due.specs.declared.rows.LogRefusal.TheVariants.{OutOfMemory as log_memory}
use Rattle.timetable_files.specs.declared.refusals.TableRefusal.{TableRefusal}
use Rattle.timetable_files.specs.declared.refusals.TableRefusal.TheVariants.{OutOfMemory as table_memory}
use Rattle.teg_jit.specs.declared.answers.JitRefusal.{JitRefusal}
use Rattle.teg_jit.specs.declared.answers.JitRefusal.TheVariants.{OutOfMemory as jit_memory}
use Rattle.teg_forever.specs.declared.releases.ForeverRefusal.{ForeverRefusal}
use Rattle.teg_forever.specs.declared.releases.ForeverRefusal.TheVariants.{OutOfMemory as forever_memory}
use Rattle.teg_settle.specs.declared.refusals.SettleRefusal.{SettleRefusal}
use Rattle.teg_settle.specs.declared.refusals.SettleRefusal.TheVariants.{OutOfMemory as settle_memory}
use Rattle.teg_replay.specs.declared.refusal.FireRefusal.{FireRefusal}
use Rattle.teg_replay.specs.declared.refusal.FireRefusal.TheVariants.{OutOfMemory as fire_memory}
use Rattle.teg_state.specs.declared.refusal.NotLeft.{NotLeft}
use Rattle.teg_state.specs.declared.refusal.NotLeft.TheVariants.{OutOfMemory as left_memory}
use Rattle.teg_timetable.specs.declared.refusals.DelayRefusal.{DelayRefusal}
use Rattle.teg_timetable.specs.declared.refusals.DelayRefusal.TheVariants.{OutOfMemory as delay_memory}
use Rattle.timetable_calls.specs.declared.refusal.PeriodRefused.{PeriodRefused}
use Rattle.timetable_calls.specs.declared.refusal.PeriodRefused.TheVariants.{OutOfMemory as period_memory}
use Rattle.teg_refusals.specs.declared.refusal.Refusal.{Refusal}
use Rattle.teg_refusals.specs.declared.refusal.Refusal.TheVariants.{BadName, NoNet, Read, NotLive, Due, EndlessDue, Log, Table, Late, Forever, Settle, Fire, State, Delays, Period, OutOfMemory}

-- of a text that is no name
abbrev pub refusal_of_name : NameRefused → Refusal
refusal_of_name Bad = BadName
refusal_of_name name_memory = OutOfMemory

-- of an entry that a builder does not add
abbrev pub refusal_of_build : BuildRefusal → Refusal
refusal_of_build build_bad = BadName
refusal_of_build (Breaks fault) = NoNet fault
refusal_of_build build_memory = OutOfMemory

-- of a net file
abbrev pub refusal_of_read : ReadRefusal → Refusal
refusal_of_read refusal = if is_memory refusal then OutOfMemory else Read refusal

-- of a net that is not live
abbrev pub refusal_of_check : CheckRefusal → Refusal
refusal_of_check check_memory = OutOfMemory
refusal_of_check refusal = NotLive refusal

-- of a due file
abbrev pub refusal_of_due : DueRefusal → Refusal
refusal_of_due due_memory = OutOfMemory
refusal_of_due refusal = Due refusal

-- of a due file without end
abbrev pub refusal_of_endless : EndlessRefusal → Refusal
refusal_of_endless endless_memory = OutOfMemory
refusal_of_endless refusal = EndlessDue refusal

-- of a log
abbrev pub refusal_of_log : LogRefusal → Refusal
refusal_of_log log_memory = OutOfMemory
refusal_of_log refusal = Log refusal

-- of a timetable file
abbrev pub refusal_of_table : TableRefusal → Refusal
refusal_of_table table_memory = OutOfMemory
refusal_of_table refusal = Table refusal

-- of due dates that are not met
abbrev pub refusal_of_jit : JitRefusal → Refusal
refusal_of_jit jit_memory = OutOfMemory
refusal_of_jit refusal = Late refusal

-- of due dates without end that are not met
abbrev pub refusal_of_forever : ForeverRefusal → Refusal
refusal_of_forever forever_memory = OutOfMemory
refusal_of_forever refusal = Forever refusal

-- of a form that does not settle
abbrev pub refusal_of_settle : SettleRefusal → Refusal
refusal_of_settle settle_memory = OutOfMemory
refusal_of_settle refusal = Settle refusal

-- of a firing
abbrev pub refusal_of_fire : FireRefusal → Refusal
refusal_of_fire fire_memory = OutOfMemory
refusal_of_fire refusal = Fire refusal

-- of a run that leaves no net
abbrev pub refusal_of_left : NotLeft → Refusal
refusal_of_left left_memory = OutOfMemory
refusal_of_left refusal = State refusal

-- of delays that are not spread
abbrev pub refusal_of_delay : DelayRefusal → Refusal
refusal_of_delay delay_memory = OutOfMemory
refusal_of_delay refusal = Delays refusal

-- of a period
abbrev pub refusal_of_period : PeriodRefused → Refusal
refusal_of_period period_memory = OutOfMemory
refusal_of_period refusal = Period refusal
