-- The equations of the walks over groups.
use Rattle.std.proofs.Common.{rules, ◌≡◌, List, Ok, ap}
use Rattle.qs_syntax_tree.specs.declared.expression.Expression.{Expression}
use Rattle.qs_syntax_tree.specs.declared.pattern.Group.{Group, out-Group, the_lemmas as group_lemmas}
use Rattle.qs_syntax_tree.specs.declared.pattern.Element.{Element, the_lemmas as element_lemmas}
use Rattle.qs_syntax_tree.specs.declared.pattern.GraphPattern.{the_lemmas as pattern_lemmas}
use Rattle.qs_syntax_tree.specs.declared.pattern.GraphPattern.TheVariants as written
use Rattle.qs_syntax_tree.specs.declared.pattern.InlineData.{InlineData}
use Rattle.qs_syntax_tree.specs.declared.term.VarOrIri.{VarOrIri}
use Rattle.qs_syntax_tree.specs.declared.token.Span.{Span}
use Rattle.qs_syntax_tree.specs.declared.triples.TriplesSameSubject.{TriplesSameSubject}
use Rattle.qs_syntax_ast.specs.declared.pattern.Group as resolved
use Rattle.qs_syntax_ast.specs.declared.pattern.GraphPattern.TheVariants as pattern
use Rattle.qs_syntax_resolve.specs.declared.open_group.OpenGroup.{OpenGroup}
use Rattle.qs_syntax_resolve.specs.declared.resolver.Resolver.{Resolver}
use Rattle.qs_syntax_resolve.specs.Leaves.{var_or_iri}
use Rattle.qs_syntax_resolve.specs.Pattern.{Put, group_of, put, finished}
use Rattle.qs_syntax_resolve.specs.inner.Pattern.{empty_group}
use Rattle.qs_syntax_resolve.specs.inner.Pattern.{pattern_of, element_of, groups, elements, triples_pattern, filter_pattern, bind_pattern, values_pattern}
use Rattle.qs_terms.specs.Outcome.{and_then}
use Rattle.qs_syntax_resolve.specs.Resolving.{Resolving, ◌>>=◌, pure}

triples_bound : (ts : List TriplesSameSubject) → pattern_of (written.Triples ts) ≡ triples_pattern ts
unfolding pattern_of element_of group_of
triples_bound ts = search (rules, pattern_lemmas)

pub triples_is : (ts : List TriplesSameSubject) (g : OpenGroup) (s : Resolver) → pattern_of (written.Triples ts) g s ≡ triples_pattern ts g s
triples_is ts g s = ap (λ (f : Put). f g s) (triples_bound ts)

union_bound : (gs : List Group) → pattern_of (written.Union gs) ≡ (λ g. groups gs >>= (λ xs. pure (put (pattern.Union xs) g)))
unfolding pattern_of element_of group_of
union_bound gs = search (rules, pattern_lemmas)

pub union_is : (gs : List Group) (g : OpenGroup) (s : Resolver) → pattern_of (written.Union gs) g s ≡ and_then (groups gs s) (λ r. Ok (put (pattern.Union r.0) g, r.1))
union_is gs g s = ap (λ (f : Put). f g s) (union_bound gs)

optional_bound : (inner : Group) → pattern_of (written.Optional inner) ≡ (λ g. group_of inner >>= (λ x. pure (put (pattern.Optional x) g)))
unfolding pattern_of element_of group_of
optional_bound inner = search (rules, pattern_lemmas)

pub optional_is : (inner : Group) (g : OpenGroup) (s : Resolver) → pattern_of (written.Optional inner) g s ≡ and_then (group_of inner s) (λ r. Ok (put (pattern.Optional r.0) g, r.1))
optional_is inner g s = ap (λ (f : Put). f g s) (optional_bound inner)

minus_bound : (inner : Group) → pattern_of (written.Minus inner) ≡ (λ g. group_of inner >>= (λ x. pure (put (pattern.Minus x) g)))
unfolding pattern_of element_of group_of
minus_bound inner = search (rules, pattern_lemmas)

pub minus_is : (inner : Group) (g : OpenGroup) (s : Resolver) → pattern_of (written.Minus inner) g s ≡ and_then (group_of inner s) (λ r. Ok (put (pattern.Minus r.0) g, r.1))
minus_is inner g s = ap (λ (f : Put). f g s) (minus_bound inner)

graph_bound : (n : VarOrIri) (inner : Group) → pattern_of (written.Graph n inner) ≡ (λ g. var_or_iri n >>= (λ x. group_of inner >>= (λ y. pure (put (pattern.Graph x y) g))))
unfolding pattern_of element_of group_of
graph_bound n inner = search (rules, pattern_lemmas)

pub graph_is : (n : VarOrIri) (inner : Group) (g : OpenGroup) (s : Resolver) → pattern_of (written.Graph n inner) g s ≡ and_then (var_or_iri n s) (λ r. and_then (group_of inner r.1) (λ q. Ok (put (pattern.Graph r.0 q.0) g, q.1)))
graph_is n inner g s = ap (λ (f : Put). f g s) (graph_bound n inner)

filter_bound : (e : Expression) → pattern_of (written.Filter e) ≡ filter_pattern e
unfolding pattern_of element_of group_of
filter_bound e = search (rules, pattern_lemmas)

pub filter_is : (e : Expression) (g : OpenGroup) (s : Resolver) → pattern_of (written.Filter e) g s ≡ filter_pattern e g s
filter_is e g s = ap (λ (f : Put). f g s) (filter_bound e)

bind_bound : (e : Expression) (v : Span) → pattern_of (written.Bind e v) ≡ bind_pattern e v
unfolding pattern_of element_of group_of
bind_bound e v = search (rules, pattern_lemmas)

pub bind_is : (e : Expression) (v : Span) (g : OpenGroup) (s : Resolver) → pattern_of (written.Bind e v) g s ≡ bind_pattern e v g s
bind_is e v g s = ap (λ (f : Put). f g s) (bind_bound e v)

values_bound : (d : InlineData) → pattern_of (written.Values d) ≡ values_pattern d
unfolding pattern_of element_of group_of
values_bound d = search (rules, pattern_lemmas)

pub values_is : (d : InlineData) (g : OpenGroup) (s : Resolver) → pattern_of (written.Values d) g s ≡ values_pattern d g s
values_is d g s = ap (λ (f : Put). f g s) (values_bound d)

element_bound : (e : Element) → element_of e ≡ pattern_of e.pattern
unfolding pattern_of element_of group_of
element_bound e = search (rules, element_lemmas)

pub element_is : (e : Element) (g : OpenGroup) (s : Resolver) → element_of e g s ≡ pattern_of e.pattern g s
element_is e g s = ap (λ (f : Put). f g s) (element_bound e)

group_bound : (g : Group) → group_of g ≡ (elements empty_group (out-Group g).elements >>= (λ h. pure (finished h)))
unfolding pattern_of element_of group_of
group_bound g = search (rules, group_lemmas)

pub group_is : (g : Group) (s : Resolver) → group_of g s ≡ and_then (elements empty_group (out-Group g).elements s) (λ r. Ok (finished r.0, r.1))
group_is g s = ap (λ (f : Resolving resolved.Group). f s) (group_bound g)
