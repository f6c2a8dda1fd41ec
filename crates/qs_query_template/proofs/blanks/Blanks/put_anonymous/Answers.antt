use Rattle.std.proofs.Common.{◌≡◌, List, ◌++◌, ◌∷◌, [], length, None, ap, sym, ◌∙◌}
use Rattle.std.specs.BTreeMap.{get}
use Rattle.std.specs.Ordering.{nat_cmp}
use Rattle.qs_syntax_ast.specs.declared.term.BlankNode.{BlankNode}
use Rattle.qs_syntax_ast.specs.declared.term.BlankNode.TheVariants.{Anonymous}
use Rattle.qs_query_template.specs.Blanks.{number_in}
use Rattle.qs_query_template.specs.inner.Lent.{lent}
use Rattle.qs_query_template.specs.inner.Numbered.{by_text}
use Rattle.qs_query_template.proofs.Numbered.{lent_more, with_place}
use Rattle.qs_query_template.proofs.blanks.Blanks.put_anonymous.Goals as goal

pub invariant_of-self-in-Ok : goal.invariant_of-self-in-Ok
invariant_of-self-in-Ok c =
    let nodes : List BlankNode = lent c.self.inside.nodes.items in
    let put : lent c.push.new.self.items ≡ nodes ++ Anonymous c.args.place ∷ [] =
    lent_more c.push.new.self.items c.self.inside.nodes.items c.args.blank c.in_ok-push.ensures.items ∙ ap (λ b. nodes ++ b ∷ []) c.requires.place in
    let new : number_in nodes (Anonymous c.args.place) ≡ None =
    ap (λ l. number_in l (Anonymous c.args.place)) c.self.view_is ∙ (ap (number_in c.args.self.now) (sym c.requires.place) ∙ c.requires.new) in
    let last : c.args.number ≡ length nodes = c.requires.number ∙ ap length (sym c.self.view_is) in
    rw put (with_place nodes (get by_text c.self.inside.labels) (get nat_cmp c.self.inside.anonymous) c.args.number c.self.invariant last (get nat_cmp c.insert.new.self) c.args.place new c.in-Ok.ensures.updates.0)
