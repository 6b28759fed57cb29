use Rattle.std.proofs.Common.{◌≡◌, ◌∙◌, sym}
use Rattle.teg_net.specs.NameOrders.{id_named}
use Rattle.teg_net.proofs.NameOrderLaws.{found_by_name, none_by_name}
use Rattle.teg_net.proofs.name_order.NameOrder.find.Goals as goal

copied : (c : goal.After-copied) → c.copied.result ≡ id_named c.self.inside.ids c.args.name.now
copied c = c.copied.ensures ∙ c.get.ensures.value

pub returns-clause-none : goal.returns-clause-none
returns-clause-none c = rw (sym c.self.view_is) (none_by_name c.self.inside.net.now.transitions c.self.inside.ids c.args.name.now c.copied.result c.self.invariant (copied c))

pub returns-clause-found : goal.returns-clause-found
returns-clause-found c = rw (sym c.self.view_is) (found_by_name c.self.inside.net.now.transitions c.self.inside.ids c.args.name.now c.copied.result c.self.invariant (copied c))
