-- DELETE and INSERT with a WHERE: the templates together, and then the pattern and the variables.
use Rattle.std.proofs.Common.{◌≡◌, length, Ok, Err, refl}
use Rattle.qs_syntax_tree.specs.declared.update.Modify.{Modify as WrittenModify}
use Rattle.qs_syntax_resolve.specs.Leaves.{variables_since}
use Rattle.qs_syntax_resolve.specs.Pattern.{group_of}
use Rattle.qs_syntax_resolve.specs.Update.{modify, template}
use Rattle.qs_syntax_resolve.specs.inner.Update.{with_graph}
use Rattle.qs_syntax_resolve.specs.inner.Templates.{templates}
use Rattle.qs_syntax_resolve.specs.declared.resolver.Resolver.{Resolver}
use Rattle.qs_terms.specs.Outcome.{Outcome, and_then}

-- a step is put into the steps before it
into : {A B C : Type 0} (o : Outcome A) (f : A → Outcome C) (h : A → Outcome B) (k : B → Outcome C) → ((a : A) → f a ≡ and_then (h a) k) → and_then o f ≡ and_then (and_then o h) k
into (Ok a) f h k e = e a
into (Err fault) f h k e = refl

pub modify_is : (m : WrittenModify) (s : Resolver) → modify m s ≡ and_then (templates m.with m.delete m.insert s) (λ r. and_then (group_of m.pattern r.1) (λ g. and_then (variables_since (length s.variables) g.1) (λ v.
    Ok (record { with = r.0.0.0; delete = r.0.0.1; insert = r.0.1; pattern = g.0; variables = v.0 }, v.1))))
unfolding modify templates
modify_is m s = into (with_graph m.with s) _ _ _ (λ w. into (template m.delete w.1) _ _ _ (λ d. into (template m.insert d.1) _ _ _ (λ i. refl)))
