use Rattle.std.proofs.Common.{◌++◌, ◌∷◌, [], ◌∙◌, ap, if◌then◌else◌}
use Rattle.qs_terms.specs.Term.{same_term}
use Rattle.qs_paths_meaning.specs.inner.Links.{rows_of}
use Rattle.qs_paths.proofs.LinkLaws.{link_leads, link_web}
use Rattle.qs_paths.proofs.links.Links.link.Goals as goal

pub returns-clause-web : goal.returns-clause-web
returns-clause-web c =
    link_web c.place-2.new.self.nodes.keys (rows_of c.place-2.new.self.next.items) (rows_of c.push_at.new.rows.items) c.in_ok-from.from c.in_ok-to.to c.args.pair.left c.args.pair.right
    c.in_ok-to.ensures.web (c.in_ok-to.ensures.kept c.in_ok-from.from c.args.pair.left c.in_ok-from.ensures.at) c.in_ok-to.ensures.at c.in_ok-push_at.ensures

pub returns-clause-leads : goal.returns-clause-leads
returns-clause-leads c name apart x =
    link_leads c.place-2.new.self.nodes.keys (rows_of c.place-2.new.self.next.items) (rows_of c.push_at.new.rows.items) c.in_ok-from.from c.in_ok-to.to c.args.pair.left c.args.pair.right
    c.in_ok-to.ensures.web (c.in_ok-to.ensures.kept c.in_ok-from.from c.args.pair.left c.in_ok-from.ensures.at) c.in_ok-to.ensures.at c.in_ok-push_at.ensures name apart x
    ∙ ap (λ l. l ++ (if same_term x (name c.args.pair.left) then name c.args.pair.right ∷ [] else [])) (c.in_ok-to.ensures.leads name apart x ∙ c.in_ok-from.ensures.leads name apart x)
