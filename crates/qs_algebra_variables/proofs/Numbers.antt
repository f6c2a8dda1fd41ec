-- A variable's number among the variables of a text: no other name has it.
use Rattle.std.proofs.Common.{◌≡◌, ◌<◌, ◌≤◌, zero, suc, Bool, true, false, ◌||◌, ◌&&◌, ◌==◌, nat_eq, nat_lt, List, [], ◌∷◌, ◌++◌, length, map, Some, slice_get, option_map, if◌then◌else◌, refl, sym, ap, ◌∙◌, arith}
use Rattle.std.proofs.lemmas.Bool.{lt-ltb}
use Rattle.std.proofs.lemmas.Bool.Decides.{Decides-eqb}
use Rattle.std.proofs.lemmas.List.Folds.{list_any-append}
use Rattle.std.specs.Cmp.Lexicographic.{pointwise, bytes_decides}
use Rattle.std.specs.List.{list_any, flat_map, filter_map, cons_option}
use Rattle.qs_syntax_ast.specs.declared.pattern.Triple.{Triple}
use Rattle.qs_syntax_ast.specs.declared.pattern.Verb.{Verb}
use Rattle.qs_syntax_ast.specs.declared.pattern.Verb.TheVariants as verb
use Rattle.qs_syntax_ast.specs.declared.term.BlankNode.{BlankNode}
use Rattle.qs_syntax_ast.specs.declared.term.BlankNode.TheVariants as blank
use Rattle.qs_syntax_ast.specs.declared.term.TermPattern.{TermPattern}
use Rattle.qs_syntax_ast.specs.declared.term.TermPattern.TheVariants as term
use Rattle.qs_syntax_ast.specs.declared.term.Variable.{Variable}
use Rattle.qs_syntax_scope.specs.Names.{Name, contains}
use Rattle.qs_syntax_scope.specs.Places.{place_of}
use Rattle.qs_syntax_scope.specs.Variables.{term_variables, verb_variables, triple_variables}
use Rattle.qs_algebra_patterns.specs.Basic.{is_variable, mentions}
use Rattle.qs_algebra_patterns.specs.inner.Basic.{is_end, occurs}
use Rattle.qs_algebra.specs.Basic.{term_slot, verb_slot, path_of, triple_pattern, path_pattern}
use Rattle.qs_algebra.specs.inner.Basic.{triple_between, path_between, basic_of}
use Rattle.qs_algebra.specs.Numbers.{hidden_number}
use Rattle.qs_algebra.specs.inner.Translation.{number_of}
use Rattle.qs_algebra.specs.declared.hidden.Hidden.{Hidden}

pub or_false : (b : Bool) → (b || false) ≡ b
or_false true = refl
or_false false = refl

at_any : (names : List Name) (b : Name) → place_of names b < length names → slice_get names (place_of names b) ≡ Some b
at_any [] b h = absurd (omega (arith, h))
at_any (x ∷ xs) b h = by (pointwise nat_eq x b) refl h (at_any xs b)
  where
    by : (t : Bool) → pointwise nat_eq x b ≡ t → (if t then zero else suc (place_of xs b)) < length (x ∷ xs) → (place_of xs b < length xs → slice_get xs (place_of xs b) ≡ Some b)
        → slice_get (x ∷ xs) (if t then zero else suc (place_of xs b)) ≡ Some b
    by true e lt later = ap Some ((bytes_decides x b).0 e)
    by false e lt later = later (omega (arith, lt))

one_more : (s p o m e : Bool) → ((s || (p || (o || m))) || e) ≡ (((s || p) || o) || (m || e))
one_more true p o m e = refl
one_more false true o m e = refl
one_more false false true m e = refl
one_more false false false m e = refl

one_more_end : (s o m e : Bool) → (m || (s || (o || e))) ≡ (((s || false) || o) || (m || e))
one_more_end true o true e = refl
one_more_end true o false e = refl
one_more_end false true true e = refl
one_more_end false true false e = refl
one_more_end false false m e = refl

module _ (names : List Name) (name : Name) (within : place_of names name < length names) (at : slice_get names (place_of names name) ≡ Some name) where
  -- the number of another name is another
  pub same_number : (b : Name) → (place_of names b == place_of names name) ≡ pointwise nat_eq b name
  same_number b = by (pointwise nat_eq b name) (place_of names b == place_of names name) refl refl
    where
      by : (t r : Bool) → pointwise nat_eq b name ≡ t → (place_of names b == place_of names name) ≡ r → r ≡ t
      by true true e f = refl
      by false false e f = refl
      by true false e f =
          let same : b ≡ name = (bytes_decides b name).0 e in
          sym f ∙ (Decides-eqb (place_of names b) (place_of names name)).1 (ap (place_of names) same)
      by false true e f =
          let one : place_of names b ≡ place_of names name = (Decides-eqb (place_of names b) (place_of names name)).0 f in
          let two : slice_get names (place_of names b) ≡ Some b = at_any names b (omega (arith, one, within)) in
          let three : Some b ≡ Some name = sym two ∙ (ap (slice_get names) one ∙ at) in
          let same : b ≡ name = cc in
          sym ((bytes_decides b name).1 same) ∙ e

  pub number_is : (v : Variable) → (number_of names v == place_of names name) ≡ contains (v.name ∷ []) name
  number_is v = same_number v.name ∙ sym (or_false (pointwise nat_eq v.name name))

  -- hidden variables have later numbers
  hidden_is : (hidden : Hidden) (b : BlankNode) → (hidden_number names hidden b == place_of names name) ≡ false
  hidden_is hidden b = by (hidden_number names hidden b == place_of names name) refl (behind b)
    where
      behind : (b : BlankNode) → length names ≤ hidden_number names hidden b
      behind (blank.Label label) = omega arith
      behind (blank.Anonymous n) = omega arith

      by : (r : Bool) → (hidden_number names hidden b == place_of names name) ≡ r → length names ≤ hidden_number names hidden b → r ≡ false
      by false e le = refl
      by true e le = let same : hidden_number names hidden b ≡ place_of names name = (Decides-eqb (hidden_number names hidden b) (place_of names name)).0 e in absurd (omega (arith, same, le, within))

  -- ---- triples

  module _ (hidden : Hidden) where
    term_is : (t : TermPattern) → is_variable (term_slot names hidden t) (place_of names name) ≡ contains (term_variables t) name
    term_is (term.Variable v) = number_is v
    term_is (term.Iri i) = refl
    term_is (term.Literal l) = refl
    term_is (term.Blank b) = hidden_is hidden b

    abbrev Agrees : List Triple → Type 0
    Agrees ts = (mentions (filter_map (triple_pattern names hidden) ts) (place_of names name) || is_end (filter_map (path_pattern names hidden) ts) (place_of names name)) ≡ contains (flat_map triple_variables ts) name

    triples_are : (ts : List Triple) → Agrees ts
    triples_are [] = refl
    triples_are (t ∷ ts) = by t.verb (triples_are ts)
      where
        here : (v : Verb) → contains (term_variables t.subject ++ verb_variables v ++ term_variables t.object ++ flat_map triple_variables ts) name
            ≡ (((contains (term_variables t.subject) name || contains (verb_variables v) name) || contains (term_variables t.object) name) || contains (flat_map triple_variables ts) name)
        here v =
            list_any-append (λ one. pointwise nat_eq one name) (term_variables t.subject ++ verb_variables v ++ term_variables t.object) (flat_map triple_variables ts)
            ∙ ap (λ b. b || contains (flat_map triple_variables ts) name)
            (list_any-append (λ one. pointwise nat_eq one name) (term_variables t.subject ++ verb_variables v) (term_variables t.object)
            ∙ ap (λ b. b || contains (term_variables t.object) name) (list_any-append (λ one. pointwise nat_eq one name) (term_variables t.subject) (verb_variables v)))

        by : (v : Verb) → Agrees ts
            → (mentions (cons_option (option_map (triple_between (term_slot names hidden t.subject) (term_slot names hidden t.object)) (verb_slot names v)) (filter_map (triple_pattern names hidden) ts)) (place_of names name)
            || is_end (cons_option (option_map (path_between (term_slot names hidden t.subject) (term_slot names hidden t.object)) (path_of v)) (filter_map (path_pattern names hidden) ts)) (place_of names name))
            ≡ contains (term_variables t.subject ++ verb_variables v ++ term_variables t.object ++ flat_map triple_variables ts) name
        by (verb.Variable v) h =
            one_more (is_variable (term_slot names hidden t.subject) (place_of names name)) (number_of names v == place_of names name) (is_variable (term_slot names hidden t.object) (place_of names name)) _ _
            ∙ (rw (term_is t.subject, number_is v, term_is t.object, h) refl ∙ sym (here (verb.Variable v)))
        by (verb.Iri i) h =
            one_more (is_variable (term_slot names hidden t.subject) (place_of names name)) false (is_variable (term_slot names hidden t.object) (place_of names name)) _ _
            ∙ (rw (term_is t.subject, term_is t.object, h) refl ∙ sym (here (verb.Iri i)))
        by (verb.Path p) h =
            one_more_end (is_variable (term_slot names hidden t.subject) (place_of names name)) (is_variable (term_slot names hidden t.object) (place_of names name)) _ _
            ∙ (rw (term_is t.subject, term_is t.object, h) refl ∙ sym (here (verb.Path p)))

    pub basic_is : (ts : List Triple) → (nat_lt (place_of names name) (length names) && occurs (basic_of names hidden ts) (place_of names name)) ≡ contains (flat_map triple_variables ts) name
    basic_is ts = ap (λ b. b && occurs (basic_of names hidden ts) (place_of names name)) (lt-ltb (place_of names name) (length names) within) ∙ triples_are ts

  pub columns_are : (vs : List Variable) → list_any (λ w. w == place_of names name) (map (number_of names) vs) ≡ contains (map (λ (v : Variable). v.name) vs) name
  columns_are [] = refl
  columns_are (v ∷ vs) = rw (same_number v.name, columns_are vs) refl
