-- Queries.
use Rattle.std.proofs.Common.{◌≡◌, ℕ, List, [], ◌∷◌, Option, Some, None, Ok, Err, refl, sym, subst}
use Rattle.qs_syntax_ast.specs.declared.pattern.Triple.{Triple}
use Rattle.qs_syntax_ast.specs.declared.pattern.InlineData.{InlineData}
use Rattle.qs_syntax_ast.specs.declared.query.Query.{Query}
use Rattle.qs_syntax_ast.specs.declared.query.QueryForm.TheVariants as form
use Rattle.qs_syntax_ast.specs.declared.query.Projection.TheVariants as projection
use Rattle.qs_syntax_ast.specs.declared.query.SelectItem.TheVariants as item
use Rattle.qs_syntax_ast.specs.declared.query.SolutionModifiers.{SolutionModifiers}
use Rattle.qs_syntax_ast.specs.declared.expression.Expression.TheVariants as expression
use Rattle.qs_terms.specs.Outcome.{Outcome, and_then}
use Rattle.qs_syntax_grammar.specs.Notation.{opt}
use Rattle.qs_syntax_tree.specs.Rules as rule
use Rattle.qs_syntax_tree.specs.inner.Procedures as procedures
use Rattle.qs_syntax_tree.specs.Sparql.{Name, Tree, Rule}
use Rattle.qs_syntax_tree.specs.declared.kind.Kind.TheVariants as k
use Rattle.qs_syntax_tree.specs.declared.expression.Expression.TheVariants as written_expression
use Rattle.qs_syntax_tree.specs.declared.expression.Expression.{Expression}
use Rattle.qs_syntax_tree.specs.declared.query.PrefixDeclaration.{PrefixDeclaration}
use Rattle.qs_syntax_tree.specs.declared.query.Direction.{Direction}
use Rattle.qs_syntax_ast.specs.declared.query.QueryForm.{QueryForm as ResolvedForm}
use Rattle.qs_syntax_tree.specs.declared.query.QueryForm.{QueryForm}
use Rattle.qs_syntax_tree.specs.declared.query.Duplicates.{Duplicates}
use Rattle.qs_syntax_tree.specs.declared.query.Projection.{Projection}
use Rattle.qs_syntax_tree.specs.declared.token.Span.{Span}
use Rattle.qs_syntax_tree.specs.declared.token.Token.{Token}
use Rattle.qs_syntax_tree.specs.declared.triples.Form.{Form}
use Rattle.qs_syntax_tree.specs.declared.triples.Form.TheVariants as tree_form
use Rattle.qs_syntax_resolve.specs.Names as of
use Rattle.qs_syntax_resolve.specs.Names.{Names}
use Rattle.qs_syntax_resolve.specs.Expression.{expression_of}
use Rattle.qs_syntax_resolve.specs.Leaves.{variable, variables_since}
use Rattle.qs_syntax_resolve.specs.Pattern.{group_of}
use Rattle.qs_syntax_resolve.specs.Query.{declaration, prologue, order_of, modifiers, item_of, projection_of, select, construct, ask, form_of, query}
use Rattle.qs_syntax_resolve.specs.inner.Query.{orders, count_of, items, pattern_of, trailing}
use Rattle.qs_syntax_resolve.specs.Resolving.{Resolving, ◌>>=◌, ◌<$>◌, pure}
use Rattle.qs_syntax_resolve.specs.Triples.{triples_after}
use Rattle.qs_syntax_resolve.specs.declared.resolver.Resolver.{Resolver}
use Rattle.qs_syntax_laws.proofs.Expressions.{variable_is, constraint_meets, parenthesized_meets}
use Rattle.qs_syntax_laws.proofs.Groups.{values_meet, named_meets}
use Rattle.qs_syntax_laws.proofs.Terms.{variable_meets}
use Rattle.qs_syntax_laws.proofs.Walks.{associative, Comes, Meets, nothing, unread, unchanged}
use Rattle.qs_syntax_laws.proofs.Ways.{Resolves, by_other, by_same, by_mute, by_either, by_made, by_mapped, by_opt, by_or, by_both, by_second, by_many, behind_mute, before_mute, in_turn, before_still}

-- ---- prefixes

one_declared : (a p i : Token) (s : Resolver) (o : Outcome Names) → a.kind ≡ k.Prefix → p.kind ≡ k.PnameNs → i.kind ≡ k.IriRef → of.declare s.names (record { prefix = p.span; iri = i.span }) ≡ o
    → Comes s (a ∷ p ∷ i ∷ []) (and_then o (λ names. Ok (tt {0}, record s { names = names })))
one_declared a p i s (Ok names) e f g h = (rw (e, f, g, h) refl, rw (e, f, g, h) refl, unchanged s (a ∷ p ∷ i ∷ []) (rw (e, f, g) refl))
one_declared a p i s (Err fault) e f g h = ([], rw (e, f, g, h) refl)

module _ {refs : (n : Name) → List Token → Tree n → Type 0} where
  declaration_meets : Resolves refs procedures.prefix_declaration declaration
  unfolding procedures.prefix_declaration
  declaration_meets = record {
    meets = λ ts d h s.
        let word = h.1.3 in
        let name = word.1.4 in
        let iri = h.1.4 in
        let tokens : ts ≡ word.0.0 ∷ name.0 ∷ iri.0 ∷ [] = rw (h.1.2, word.1.2, word.1.3.0, name.1.0, iri.1.0) refl in
        let is : d ≡ record { prefix = name.0.span; iri = iri.0.span } = rw (h.2, word.2, name.2, iri.2) refl in
        subst (λ us. Comes s us (declaration d s)) (sym tokens)
        (subst (λ (c : PrefixDeclaration). Comes s (word.0.0 ∷ name.0 ∷ iri.0 ∷ []) (declaration c s)) (sym is)
        (one_declared word.0.0 name.0 iri.0 s (of.declare s.names (record { prefix = name.0.span; iri = iri.0.span })) word.1.3.1 name.1.1 iri.1.1 refl));
  }

  pub prologue_meets : Resolves refs procedures.prologue prologue
  unfolding procedures.prologue
  prologue_meets = in_turn (λ _ ds. prologue ds) (λ _ d. declaration d) (λ _. refl) (λ _ d ds s. refl) (λ _. declaration_meets) tt

  limit_meets : Resolves refs rule.limit (λ v. count_of (Some v))
  unfolding rule.limit
  limit_meets = by_mute refl (λ _. unread)

  pub trailing_meets : Resolves refs (opt procedures.values) trailing
  trailing_meets = by_opt (by_mapped (λ _ x. Some x) values_meet) unread

  module _ (expression_meets : Resolves refs rule.expression expression_of) (group_meets : Resolves refs rule.group group_of)
      (triples_meet : (f : Form) (found : List Triple) → Resolves refs (rule.triples f) (triples_after found)) where
    -- ---- modifiers

    ordered : {r : Rule Expression} (d : Direction) → Resolves refs r expression_of → Resolves refs r (λ x. order_of (record { direction = d; key = x }))
    ordered d h = by_mapped (λ _ key. record { direction = d; key = key }) h

    variable_key : Resolves refs rule.var (λ v. expression_of (written_expression.Var v))
    variable_key = by_other (λ v. expression.Variable <$> variable v) variable_is (by_mapped (λ _ v. expression.Variable v) variable_meets)

    order_meets : Resolves refs procedures.order order_of
    unfolding procedures.order
    order_meets =
        by_either (by_made (behind_mute refl (ordered _ (parenthesized_meets expression_meets))))
        (by_either (by_made (behind_mute refl (ordered _ (parenthesized_meets expression_meets)))) (by_made (ordered _ (by_either (constraint_meets expression_meets) (by_made variable_key)))))

    orders_meet : Resolves refs procedures.order_clause orders
    unfolding procedures.order_clause procedures.order_list procedures.orders
    orders_meet = by_or (behind_mute refl (by_made (by_both {p = order_of} order_meets (λ _ x. by_many order_meets)))) unread

    counts : (l o : Option Span) (f : Option ℕ → Option ℕ → Resolving SolutionModifiers) → ((a b : Option ℕ) → Meets (f a b) []) → Meets (count_of l >>= (λ a. count_of o >>= (λ b. f a b))) []
    counts None None f h s = h None None s
    counts None (Some o) f h s = h None (Some (of.count s.names o)) s
    counts (Some l) None f h s = h (Some (of.count s.names l)) None s
    counts (Some l) (Some o) f h s = h (Some (of.count s.names l)) (Some (of.count s.names o)) s

    modifiers_meet : Resolves refs procedures.modifiers modifiers
    unfolding procedures.modifiers rule.slice rule.limit rule.offset modifiers
    modifiers_meet =
        by_made (by_both {p = orders} orders_meet (λ _ o. by_mute refl (λ x. counts x.0 x.1 (λ l k. pure (record { order = o; limit = l; offset = k })) (λ _ _. unread))))

    -- ---- forms

    item_meets : Resolves refs procedures.item item_of
    unfolding procedures.item
    item_meets = by_either (by_made (by_mapped (λ _ v. item.Variable v) variable_meets)) (by_made (named_meets (λ e v. item.As e v) expression_meets))

    projection_meets : Resolves refs procedures.projection projection_of
    unfolding procedures.projection procedures.items projection_of
    projection_meets =
        by_either (by_made (by_mapped (λ _ x. projection.Items x) (by_made {p = items} (by_both {p = item_of} item_meets (λ _ x. by_many item_meets))))) (by_made (by_mute refl (λ _. unread)))

    where_meets : Resolves refs rule.where_clause group_of
    unfolding rule.where_clause
    where_meets = behind_mute refl group_meets

    select_meets : Resolves refs procedures.select select
    unfolding procedures.select procedures.select_clause procedures.duplicates procedures.where_modifiers select
    select_meets =
        by_made (by_both {p = λ (x : Duplicates × Projection). projection_of x.1} (by_second refl (λ d. projection_meets))
        (λ x p. by_both {p = group_of} where_meets (λ _ g. by_mapped (λ _ m. record { duplicates = x.0; projection = p; pattern = g; modifiers = m }) modifiers_meet)))

    pub template_meets : (found : List Triple) → Resolves refs rule.template_braces (λ ts. triples_after found ts)
    unfolding rule.template_braces
    template_meets found = behind_mute refl (before_mute refl (by_or (triples_meet tree_form.Template found) (nothing found)))

    long_meets : Resolves refs procedures.long_construct construct
    unfolding procedures.long_construct procedures.where_modifiers construct
    long_meets =
        by_made (by_both {p = triples_after []} (template_meets []) (λ x t.
        by_both {p = λ g. pattern_of (Some g)} (by_mapped (λ _ g. Some g) where_meets) (λ _ g. by_mapped (λ _ m. record { template = t; pattern = g; modifiers = m }) modifiers_meet)))

    short_meets : Resolves refs procedures.short_construct construct
    unfolding procedures.short_construct construct
    short_meets = by_made (by_both {p = triples_after []} (behind_mute refl (template_meets [])) (λ x t. by_mapped (λ _ m. record { template = t; pattern = None; modifiers = m }) modifiers_meet))

    construct_meets : Resolves refs procedures.construct construct
    unfolding procedures.construct
    construct_meets = behind_mute refl (by_either long_meets short_meets)

    ask_meets : Resolves refs procedures.ask ask
    unfolding procedures.ask procedures.where_modifiers ask
    ask_meets = by_made (behind_mute refl (by_both {p = group_of} where_meets (λ _ g. by_mapped (λ _ m. record { pattern = g; modifiers = m }) modifiers_meet)))

    form_meets : Resolves refs procedures.query_form form_of
    unfolding procedures.query_form form_of
    form_meets =
        by_either (by_made (by_mapped (λ _ x. form.Select x) select_meets))
        (by_either (by_made (by_mapped (λ _ x. form.Construct x) construct_meets)) (by_made (by_mapped (λ _ x. form.Ask x) ask_meets)))

    abbrev prologue_and_form : List PrefixDeclaration × QueryForm → Resolving ResolvedForm
    prologue_and_form x = prologue x.0 >>= (λ _. form_of x.1)

    abbrev listed : ResolvedForm → Option InlineData → Resolving Query
    listed f v = variables_since 0 >>= (λ variables. pure (record { form = f; values = v; variables = variables }))

    pub query_meets : Resolves refs procedures.query query
    unfolding procedures.query query
    query_meets =
        by_made (by_same (λ x. prologue_and_form x.0 >>= (λ f. trailing x.1 >>= listed f)) (λ x s. associative (prologue x.0.0) (λ _. form_of x.0.1) (λ f. trailing x.1 >>= listed f) s)
        (by_both {p = prologue_and_form} (by_both {p = prologue} prologue_meets (λ _ _. form_meets)) (λ _ f. before_still (λ _ v. listed f v) (λ _ _. unread) trailing_meets)))
