use Rattle.std.proofs.Common.{◌≡◌, ◌≤◌, ◌∙◌, ap, sym, subst, length, arith}
use Rattle.qs_base.specs.inner.Lent.{lent}
use Rattle.qs_query_template.specs.Instances.{made}
use Rattle.qs_query_forms.proofs.AnyOrder.{built_rest}
use Rattle.qs_query_forms.proofs.answer.graph_of_rows.Goals as goal

pub returns : goal.returns
returns c =
    let rows = c.limit.new.rows.items in
    let part : lent c.in_ok-part.part.items ≡ rows = c.in_ok-part.ensures ∙ c.as_slice.ensures.value in
    let few : length rows ≤ c.args.max_rows = omega (arith, c.if-len-max_rows.false, c.len.ensures) in
    built_rest c.args.asked.now c.args.next_blank c.args.max_rows c.args.rows.items (lent c.in_ok-part.part.items) c.in_ok-quads.quads.items c.graph.result (part ∙ c.limit.ensures) (subst (λ l. length l ≤ c.args.max_rows) (sym part) few)
    (ap (λ l. made c.args.asked.now.template c.args.next_blank (lent l)) (sym c.as_slice-2.ensures.value) ∙ c.in_ok-quads.ensures.outcome) c.graph.ensures
