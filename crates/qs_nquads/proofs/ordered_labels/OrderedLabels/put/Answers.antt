-- A new label goes last by number.
use Rattle.qs_nquads.proofs.ByNumber.{puts_last}
use Rattle.qs_nquads.proofs.ordered_labels.OrderedLabels.put.Goals as goal

pub invariant_of-self-2 : goal.invariant_of-self-2
invariant_of-self-2 c =
    (puts_last c.self.inside.map c.insert.new.self c.args.self.now c.args.label c.args.number c.self.view_is c.self.invariant c.requires.new c.requires.last c.in_ok-insert.ensures.entries c.in_ok-insert.ensures.updates).finds

pub returns-clause-put : goal.returns-clause-put
returns-clause-put c =
    (puts_last c.self.inside.map c.insert.new.self c.args.self.now c.args.label c.args.number c.self.view_is c.self.invariant c.requires.new c.requires.last c.in_ok-insert.ensures.entries c.in_ok-insert.ensures.updates).is
