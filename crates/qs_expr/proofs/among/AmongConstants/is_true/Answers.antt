use Rattle.std.proofs.Common.{sym, ◌∙◌, ap}
use Rattle.qs_expr.specs.inner.Members.{decided}
use Rattle.qs_expr.proofs.among.AmongConstants.is_true.Goals as goal

pub returns-then-self : goal.returns-then-self
returns-then-self c m at =
    c.args.self.now.sound m c.args.term.now at c.show_proper.ensures ∙ (ap (λ d. decided d c.args.self.now.members c.args.term.now) c.if-self.true ∙ sym c.is_apart.ensures)

pub returns-else-self : goal.returns-else-self
returns-else-self c m at =
    c.args.self.now.sound m c.args.term.now at c.show_proper.ensures ∙ (ap (λ d. decided d c.args.self.now.members c.args.term.now) c.if-self.false ∙ sym c.is_in.ensures)
