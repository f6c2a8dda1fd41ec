use Rattle.std.proofs.Common.{◌≡◌, subst}
use Rattle.qs_algebra_patterns.specs.declared.pattern.TriplePattern.{TriplePattern}
use Rattle.qs_plan_meaning.specs.inner.Scans.{extensions}
use Rattle.qs_plan_meaning.specs.inner.Stages.{looked}
use Rattle.qs_plan_meaning.specs.declared.stage.Look.{Look}
use Rattle.qs_ops_scans.specs.inner.Makes.{Makes}
use Rattle.qs_ops_scans.specs.inner.Prepared.{prepared_look, prepared_triple}
use Rattle.qs_ops_walk.specs.inner.Setting.{Setting, known_of, graph_in}
use Rattle.qs_ops_walk.proofs.reader.Reader.open_triple.Goals as goal

pub returns : goal.returns
returns g c =
    subst
    (λ (s : Setting). (place : Look) (p : TriplePattern) → c.args.look ≡ prepared_look (known_of s) place → c.args.pattern.now ≡ prepared_triple (known_of s) p
    → Makes (known_of s) (λ m. extensions p (looked s.content.quads (graph_in s) place m) m) c.args.row c.open_triple.result)
    c.self.view_is c.open_triple.ensures
