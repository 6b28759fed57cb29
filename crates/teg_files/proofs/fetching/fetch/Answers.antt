use Rattle.teg_files.proofs.fetching.fetch.Goals as goal

pub returns : goal.returns
returns g c = record {
  files = c.read.ensures.files;
  faults = c.read.ensures.faults;
  overlong = c.read.ensures.overlong;
  answer = c.read.ensures.answer;
}
