use Rattle.std.proofs.Common.{◌≡◌, subst}
use Rattle.qs_algebra_patterns.specs.declared.pattern.TriplePattern.{TriplePattern}
use Rattle.qs_ops_scans.specs.inner.Each.{each_extension}
use Rattle.qs_ops_scans.specs.inner.Makes.{Makes}
use Rattle.qs_ops_scans.specs.inner.Prepared.{prepared_triple}
use Rattle.qs_ops_walk.specs.inner.Setting.{Setting, known_of}
use Rattle.qs_ops_walk.proofs.reader.Reader.quad_rows.Goals as goal

pub returns : goal.returns
returns g c =
    subst
    (λ (s : Setting). (p : TriplePattern) → c.args.pattern.now ≡ prepared_triple (known_of s) p
    → Makes (known_of s) (each_extension s.content.quads c.args.register p) c.args.row c.quad_rows.result)
    c.self.view_is c.quad_rows.ensures
