use Rattle.std.proofs.Common.{◌≡◌, true, ◌∷◌, drop, map, take, ap, sym, ◌∙◌, subst}
use Rattle.qs_index.specs.inner.Agreeing.{agrees_anywhere}
use Rattle.qs_index.specs.inner.Entries.{HaveFour}
use Rattle.qs_index.specs.inner.Entry.{skip_before, IsAscending}
use Rattle.qs_index.specs.inner.Permutation.{restored}
use Rattle.qs_index.specs.inner.Skipped.{SkipsAgreeing}
use Rattle.qs_index.specs.inner.Depth.{depth}
use Rattle.qs_index.specs.inner.Prefix.{IsAfter}
use Rattle.qs_index.proofs.Skipping.{skipped_front, starts_before}
use Rattle.qs_index.proofs.scan.Scan.skip_agreeing.Goals as goal

pub seek-requires : goal.seek-requires
seek-requires c =
    record { next = starts_before c.depth-front.result c.in-Some.next c.in-Some-after.to (drop 1 c.self.inside.inner.rest) c.peek.new.self.rest (c.peek.ensures.rest ∙ c.in-Some.ensures.next) c.in-Some-after.ensures.after }

pub returns-clause-skipped : goal.returns-clause-skipped
returns-clause-skipped c =
    let a = c.args in
    let s = c.self.inside in
    let order = s.permutation in
    let next = c.in-Some.next in
    let rest = drop 1 s.inner.rest in
    let to = c.in-Some-after.to in
    let left = c.seek.new.self.rest in
    let e = c.in-Some.ensures.next in
    let same : agrees_anywhere a.subject a.predicate a.object (restored order next) ≡ true = ap (agrees_anywhere a.subject a.predicate a.object) (sym c.restore.ensures) ∙ sym c.if-not-agrees.ensures in
    let f : IsAfter (take (depth order a.subject a.predicate a.object) next) to = subst (λ k. IsAfter (take k next) to) c.depth-front.ensures c.in-Some-after.ensures.after in
    let is : left ≡ skip_before to (next ∷ rest) = c.seek.ensures.rest ∙ ap (skip_before to) (c.peek.ensures.rest ∙ e) in
    let skipped = skipped_front order a.subject a.predicate a.object next to rest left (subst IsAscending e c.in-Some.ensures.ascending) (subst HaveFour e c.in-Some.ensures.entries) same f is in
    subst (λ v. SkipsAgreeing a.subject a.predicate a.object v.rest (map (restored order) left)) c.self.view_is
    (subst (λ r. SkipsAgreeing a.subject a.predicate a.object (map (restored order) r) (map (restored order) left)) (sym e) skipped)
