-- What is told of a second file that gives no bytes.
use Rattle.std.specs.Prelude.{◌≡◌}
use Rattle.teg_files.specs.RefusalTexts.{fault_text, too_large_text}
use Rattle.teg_forever.specs.EndlessTexts.{LongFile, UnreadFile, answer_lines}
use Rattle.teg_net.specs.Nets.{NetLists}
use Rattle.teg_report.specs.declared.answer.Which.TheVariants.{Due as DueFile, Timetable as TimetableFile}
use Rattle.teg_report.specs.teg_text.Lines.{written}
use Rattle.teg_timetable.specs.TimetableTexts.{LongFileTold, UnreadFileTold, told_lines}

-- that a file is too long or could not be read is told as the laws on the texts of its commands say
pub record UnreadFilesAreTold : Type 0 where
  pub long_dues : (net : NetLists) → too_large_text DueFile ≡ written (answer_lines net LongFile)
  pub unread_dues : (net : NetLists) → fault_text DueFile ≡ written (answer_lines net UnreadFile)
  pub long_timetable : (net : NetLists) → too_large_text TimetableFile ≡ written (told_lines net LongFileTold)
  pub unread_timetable : (net : NetLists) → fault_text TimetableFile ≡ written (told_lines net UnreadFileTold)
