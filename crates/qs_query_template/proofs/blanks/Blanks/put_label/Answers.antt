use Rattle.std.proofs.Common.{◌≡◌, List, ◌++◌, ◌∷◌, [], length, None, ap, sym, ◌∙◌}
use Rattle.std.specs.BTreeMap.{get}
use Rattle.std.specs.Ordering.{nat_cmp}
use Rattle.qs_syntax_ast.specs.declared.term.BlankNode.{BlankNode}
use Rattle.qs_syntax_ast.specs.declared.term.BlankNode.TheVariants.{Label}
use Rattle.qs_query_template.specs.Blanks.{number_in}
use Rattle.qs_query_template.specs.inner.Lent.{lent}
use Rattle.qs_query_template.specs.inner.Numbered.{by_text}
use Rattle.qs_query_template.proofs.Numbered.{lent_more, with_label}
use Rattle.qs_query_template.proofs.blanks.Blanks.put_label.Goals as goal

pub invariant_of-self-in-Ok : goal.invariant_of-self-in-Ok
invariant_of-self-in-Ok c =
    let nodes : List BlankNode = lent c.self.inside.nodes.items in
    let put : lent c.push.new.self.items ≡ nodes ++ Label c.args.label.now ∷ [] =
    lent_more c.push.new.self.items c.self.inside.nodes.items c.args.blank c.in_ok-push.ensures.items ∙ ap (λ b. nodes ++ b ∷ []) c.requires.label in
    let new : number_in nodes (Label c.args.label.now) ≡ None =
    ap (λ l. number_in l (Label c.args.label.now)) c.self.view_is ∙ (ap (number_in c.args.self.now) (sym c.requires.label) ∙ c.requires.new) in
    let last : c.args.number ≡ length nodes = c.requires.number ∙ ap length (sym c.self.view_is) in
    rw put (with_label nodes (get by_text c.self.inside.labels) (get nat_cmp c.self.inside.anonymous) c.args.number c.self.invariant last (get by_text c.insert.new.self) c.args.label new c.in-Ok.ensures.updates.0)
