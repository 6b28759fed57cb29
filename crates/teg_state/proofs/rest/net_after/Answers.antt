use Rattle.teg_state.proofs.rest.net_after.Goals as goal

pub returns-clause-net : goal.returns-clause-net
returns-clause-net c = rw c.in_ok-history.ensures at c.net_left.ensures.net

pub returns-clause-paid : goal.returns-clause-paid
returns-clause-paid c = rw c.in_ok-history.ensures at c.net_left.ensures.paid

pub returns-clause-refusal : goal.returns-clause-refusal
returns-clause-refusal c = rw c.in_ok-history.ensures at c.net_left.ensures.refusal

pub returns-clause-near : goal.returns-clause-near
returns-clause-near c = rw c.in_ok-history.ensures at c.net_left.ensures.near
