use Rattle.std.proofs.Common.{◌≡◌, true, false, Option, subst}
use Rattle.qs_expr.specs.inner.Row.{TellsCompatible, BindsTermIf, FitsWithIf}
use Rattle.qs_expr.specs.declared.cell.Cell.{Cell}
use Rattle.qs_ops_walk.proofs.OpensName.{IsNameRow, name_excluded, name_merged}
use Rattle.qs_ops_walk.proofs.walk.open_name.Goals as goal

pub returns-then-not-is_compatible : goal.returns-then-not-is_compatible
returns-then-not-is_compatible c s i table w t h e =
    let n : IsNameRow c.args.width c.args.variable c.args.register c.args.row c.set.new.self = record {
      row = c.in_ok-name.name;
      bare = c.in_ok-name.ensures.terms;
      fit = c.in_ok-name.ensures.fits;
      binds = subst (λ (x : Option Cell). BindsTermIf c.in_ok-name.name c.args.variable x c.set.new.self) c.cell.ensures c.set.ensures.terms;
      fits = subst (λ (x : Option Cell). FitsWithIf c.in_ok-name.name x c.set.new.self) c.cell.ensures c.set.ensures.fits;
    } in
    let b : c.is_compatible.result ≡ false = c.if-not-is_compatible.true in
    name_excluded c.args.width c.args.variable c.args.register c.args.row c.set.new.self n s i table w t h e
    (subst (TellsCompatible c.args.row c.set.new.self) b c.is_compatible.ensures.terms)

pub returns : goal.returns
returns c s i table w t h e =
    let n : IsNameRow c.args.width c.args.variable c.args.register c.args.row c.set.new.self = record {
      row = c.in_ok-name.name;
      bare = c.in_ok-name.ensures.terms;
      fit = c.in_ok-name.ensures.fits;
      binds = subst (λ (x : Option Cell). BindsTermIf c.in_ok-name.name c.args.variable x c.set.new.self) c.cell.ensures c.set.ensures.terms;
      fits = subst (λ (x : Option Cell). FitsWithIf c.in_ok-name.name x c.set.new.self) c.cell.ensures c.set.ensures.fits;
    } in
    let b : c.is_compatible.result ≡ true = c.if-not-is_compatible.false in
    name_merged c.args.width c.args.variable c.args.register c.args.row c.set.new.self n s i table w t h e c.in_ok-merged.merged
    (subst (TellsCompatible c.args.row c.set.new.self) b c.is_compatible.ensures.terms) c.in_ok-merged.ensures.terms c.in_ok-merged.ensures.fits
