use Rattle.std.proofs.Common.{◌∙◌, ap, sym}
use Rattle.qs_syntax_ast.specs.declared.term.BlankNode.TheVariants.{Label}
use Rattle.qs_query_template.specs.Blanks.{number_in}
use Rattle.qs_query_template.specs.inner.Lent.{lent}
use Rattle.qs_query_template.proofs.blanks.Blanks.number.Goals as goal

pub returns-in-Label : goal.returns-in-Label
returns-in-Label c =
    c.copied.ensures ∙ (c.get.ensures.value ∙ (c.self.invariant.labelled (record { ref_ptr = (0, 0); now = c.get-text.result.now })
    ∙ (ap (λ n. number_in (lent c.self.inside.nodes.items) (Label n)) c.get-text.ensures
    ∙ (ap (λ l. number_in l (Label c.in-Label.label)) c.self.view_is ∙ ap (number_in c.args.self.now) (sym c.in-Label.is)))))
