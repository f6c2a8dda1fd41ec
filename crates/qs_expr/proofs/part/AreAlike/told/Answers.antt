use Rattle.std.proofs.Common.{Some, not, sym, ◌∙◌, ap}
use Rattle.std.proofs.lemmas.Option.{none-some, same_Some}
use Rattle.qs_terms.proofs.SameTerm.{same_term-Decides}
use Rattle.qs_expr.proofs.part.AreAlike.told.Goals as goal

pub returns-then-is_same : goal.returns-then-is_same
returns-then-is_same c known table x y m b t p q f s e =
    let same = (same_term-Decides x y).0 (sym (c.is_same.ensures.terms known table x y t p q) ∙ c.if-is_same.true) in
    c.args.self.now.alike m x f (s ∙ ap Some (sym same)) ∙ same_Some c.args.self.now.truth b e

pub returns-then-self : goal.returns-then-self
returns-then-self c known table x y m b t p q f s e =
    c.args.self.now.unlike c.if-self.true m x y f s (sym (c.is_same.ensures.terms known table x y t p q) ∙ c.if-is_same.false)
    ∙ same_Some (not c.args.self.now.truth) b e

pub returns-else-self : goal.returns-else-self
returns-else-self c known table x y m b t p q f s e = absurd (none-some b e)
