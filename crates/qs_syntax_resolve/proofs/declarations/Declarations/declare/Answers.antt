-- The index is one of the declarations and the new one.
use Rattle.std.proofs.Common.{◌∙◌, sym, ap, subst, List, ℕ, Bor, Some, if◌then◌else◌}
use Rattle.std.specs.Str.{bytes_eq}
use Rattle.qs_syntax_resolve.specs.inner.Declarations.{place_of, IsIndex}
use Rattle.qs_syntax_resolve.proofs.Declared.{index_more}
use Rattle.qs_syntax_resolve.proofs.declarations.Declarations.declare.Goals as goal

pub invariant_of-self-in-Ok : goal.invariant_of-self-in-Ok
invariant_of-self-in-Ok c =
    let old = c.self.inside in
    let new = c.put_place.new.index.entries in
    subst (λ (all : List (Bor (List ℕ) × List ℕ)). IsIndex all new) (sym c.in_ok-push.ensures.items)
    (index_more old.all.items (c.args.prefix, c.args.iri) old.last.entries new c.self.invariant
    (λ p. c.in-Ok.ensures.put p ∙ ap (λ n. if bytes_eq p c.args.prefix.now then Some n else place_of old.last.entries p) (c.len-place.ensures ∙ old.all.ok.0)))
