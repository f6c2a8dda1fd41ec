use Rattle.std.proofs.Common.{◌≡◌, subst}
use Rattle.qs_algebra_patterns.specs.declared.pattern.TriplePattern.{TriplePattern}
use Rattle.qs_ops_scans.specs.inner.Each.{each_joined}
use Rattle.qs_ops_scans.specs.inner.Makes.{Makes}
use Rattle.qs_ops_scans.specs.inner.Prepared.{prepared_triple}
use Rattle.qs_ops_walk.specs.inner.Setting.{Setting, known_of}
use Rattle.qs_ops_walk.proofs.reader.Reader.joined_quad_rows.Goals as goal

pub returns : goal.returns
returns g c =
    subst
    (λ (s : Setting). (p : TriplePattern) → c.args.pattern.now ≡ prepared_triple (known_of s) p
    → Makes (known_of s) (each_joined s.content.quads s.width c.args.variable c.args.register p) c.args.row c.joined_quad_rows.result)
    c.self.view_is c.joined_quad_rows.ensures
