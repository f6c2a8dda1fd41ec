use Rattle.std.proofs.Common.{Option, sym, ap, subst}
use Rattle.std.specs.Option.{option_copied}
use Rattle.qs_terms.specs.declared.term.Term.{Term}
use Rattle.qs_store.specs.declared.active.Active.TheVariants.{Default, Graph, Empty}
use Rattle.qs_query_solutions.proofs.SeenQuads.{IsActiveFor, active_default, active_named, active_none}
use Rattle.qs_query_solutions.proofs.active.active_of.Goals as goal

pub returns-in_default : goal.returns-in_default
returns-in_default g c =
    subst (λ (o : Option Term). IsActiveFor (g.V.View.content c.args.view.now) (g.V.View.default_seen c.args.view.now) o Default) (sym (ap option_copied c.in_default.is))
    (active_default (g.V.View.content c.args.view.now) c.count-count.ensures.lawful (g.V.View.default_seen c.args.view.now))

pub returns-in-Some-find : goal.returns-in-Some-find
returns-in-Some-find g c =
    subst (λ (o : Option Term). IsActiveFor (g.V.View.content c.args.view.now) (g.V.View.default_seen c.args.view.now) o (Graph c.in-Some-find.number)) (sym (ap option_copied c.in-Some.is))
    (active_named (g.V.View.content c.args.view.now) c.count-count.ensures.lawful (g.V.View.default_seen c.args.view.now) c.in-Some.name.now c.in-Some-find.number c.in-Some-find.ensures)

pub returns-in-None : goal.returns-in-None
returns-in-None g c =
    subst (λ (o : Option Term). IsActiveFor (g.V.View.content c.args.view.now) (g.V.View.default_seen c.args.view.now) o Empty) (sym (ap option_copied c.in-Some.is))
    (active_none (g.V.View.content c.args.view.now) c.count-count.ensures.lawful c.terms-terms.ensures.known (g.V.View.default_seen c.args.view.now) c.in-Some.name.now c.in-None.ensures)
