use Rattle.teg_certificates.proofs.RisingRanks.{ranks_live, listed_live}
use Rattle.teg_certificates.proofs.laws.rising_ranks_show_live.Goals as goal

pub returns : goal.returns
returns c = record { function = ranks_live; list = listed_live }
