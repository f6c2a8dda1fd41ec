-- What stands after tokens: faults, names and variables of tokens one after the other.
use Rattle.std.proofs.Common.{◌≡◌, ℕ, List, [], ◌∷◌, ◌++◌, map, Ok, Err, refl, sym, ap, ◌∙◌, append_assoc}
use Rattle.std.proofs.lemmas.List.{map-append}
use Rattle.std.proofs.lemmas.List.Elements.{filter-append}
use Rattle.std.specs.List.{filter}
use Rattle.qs_terms.specs.Outcome.{Outcome}
use Rattle.qs_syntax_ast.specs.declared.term.Variable.{Variable}
use Rattle.qs_syntax_tree.specs.declared.token.Span.{Span}
use Rattle.qs_syntax_tree.specs.declared.token.Token.{Token}
use Rattle.qs_syntax_resolve.specs.Names.{Names, declare, full, variable, nothing_declared}
use Rattle.qs_syntax_resolve.specs.inner.Names.{with_prefix}
use Rattle.qs_syntax_laws.specs.inner.NameFaults.{Role, iri, name, prefix, keyword, nothing, role, Before, anything, declares, declared, at_token, kept, names_of, Place, look, behind, fault_of, faults_from}
use Rattle.qs_syntax_laws.specs.inner.TextVariables.{is_variable, variables_of}

-- after all of the tokens
abbrev pub behind_all : Place → List Token → Place
behind_all p [] = p
behind_all p (t ∷ ts) = behind_all (behind p t) ts

pub append_faults : (p : Place) (us vs : List Token) → faults_from p (us ++ vs) ≡ faults_from p us ++ faults_from (behind_all p us) vs
append_faults p [] vs = refl
append_faults p (t ∷ us) vs =
    ap (λ fs. fault_of (look p t) ++ fs) (append_faults (behind p t) us vs)
    ∙ sym (append_assoc (fault_of (look p t)) (faults_from (behind p t) us) (faults_from (behind_all (behind p t) us) vs))

pub append_behind : (p : Place) (us vs : List Token) → behind_all p (us ++ vs) ≡ behind_all (behind_all p us) vs
append_behind p [] vs = refl
append_behind p (t ∷ us) vs = append_behind (behind p t) us vs

-- ---- no token changes the text

abbrev HasText : List ℕ → Outcome Names → Type 0
HasText text (Ok names) = names.text ≡ text
HasText text (Err f) = Unit {0}

prefix_has : (names : Names) (p : List ℕ) (i : Outcome (List ℕ)) → HasText names.text (with_prefix names p i)
prefix_has names p (Ok i) = refl
prefix_has names p (Err f) = tt

kept_has : {A : Type 0} (names : Names) (o : Outcome A) → HasText names.text (kept names o)
kept_has names (Ok a) = refl
kept_has names (Err f) = tt

look_has : (names : Names) (before : Before) (r : Role) (span : Span) → HasText names.text (at_token names before r span)
unfolding declare
look_has names (declared p) iri span = prefix_has names _ (full names.text span)
look_has names anything iri span = kept_has names (full names.text span)
look_has names declares iri span = kept_has names (full names.text span)
look_has names before name span = kept_has names _
look_has names anything prefix span = kept_has names _
look_has names declares prefix span = refl
look_has names (declared p) prefix span = kept_has names _
look_has names before keyword span = refl
look_has names before nothing span = refl

has_text : (names : Names) (o : Outcome Names) → HasText names.text o → (names_of names o).text ≡ names.text
has_text names (Ok more) h = h
has_text names (Err f) h = refl

pub text_stays : (p : Place) (ts : List Token) → (behind_all p ts).names.text ≡ p.names.text
text_stays p [] = refl
text_stays p (t ∷ ts) = text_stays (behind p t) ts ∙ has_text p.names (look p t) (look_has p.names p.before (role t.kind) t.span)

-- ---- variables

pub append_variables : (text : List ℕ) (us vs : List Token) → variables_of text (us ++ vs) ≡ variables_of text us ++ variables_of text vs
append_variables text us vs =
    let named : Token → Variable = λ t. record { name = variable (nothing_declared text) t.span } in
    let is_one = λ (t : Token). is_variable t.kind in
    ap (map named) (filter-append is_one us vs) ∙ map-append named (filter is_one us) (filter is_one vs)
