use Rattle.teg_certificates.proofs.Certified.{tell_of_nets, tell_of_parts}
use Rattle.teg_certificates.proofs.laws.certificates_tell.Goals as goal

pub returns : goal.returns
returns c = record { nets = tell_of_nets; parts = tell_of_parts }
