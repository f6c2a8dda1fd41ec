use Rattle.std.proofs.Common.{◌≡◌, ◌∙◌}
use Rattle.std.proofs.lemmas.Bool.Decides.{Decides-at}
use Rattle.qs_terms.specs.Statement.{same_statement}
use Rattle.qs_terms.proofs.SameStatement.{same_statement-Decides, eq_is}
use Rattle.qs_terms.proofs.quad.Quad.is_same.Goals as goal

pub returns : goal.returns
returns c =
    let test : c.eq.result ≡ same_statement c.args.self.now c.args.other.now = c.eq.ensures ∙ eq_is c.args.self.now c.args.other.now in
    record { same = Decides-at _ _ test (same_statement-Decides _ _); test = test }
