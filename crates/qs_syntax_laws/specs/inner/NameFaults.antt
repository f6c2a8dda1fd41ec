-- All faults of the names of a text, token by token and each at its token, by the prefixes that are
-- declared before it (SPARQL 1.1 Query,
-- 4.1.1). An IRI that is written out needs a scheme. A name needs a declared prefix, and what that
--     denotes with the local name after it
-- must be an IRI.
-- The faults are defined over tokens, not trees: a name is a token, and so is what is declared
-- before it. So the definition knows nothing of the resolver. That the resolver meets them in the
-- order of the text is proved here, and no crate waits for it.
use Rattle.std.specs.Prelude.{ℕ, List, [], ◌∷◌, ◌++◌, Ok, Err}
use Rattle.qs_terms.specs.Outcome.{Outcome}
use Rattle.qs_terms.specs.declared.fault.QFault.{QFault}
use Rattle.qs_syntax_tree.specs.declared.kind.Kind.{Kind}
use Rattle.qs_syntax_tree.specs.declared.kind.Kind.TheVariants as k
use Rattle.qs_syntax_tree.specs.declared.token.Span.{Span}
use Rattle.qs_syntax_tree.specs.declared.token.Token.{Token}
use Rattle.qs_syntax_resolve.specs.Names.{Names, nothing_declared, full, prefixed, declare}

-- what a token is to names: `<..>`, `prefix:local`, `prefix:`, `PREFIX`, or nothing
pub data Role : Type 0 where
  iri : Role
  name : Role
  prefix : Role
  keyword : Role
  nothing : Role

abbrev pub role : Kind → Role
role k.IriRef = iri
role k.PnameLn = name
role k.PnameNs = prefix
role k.Prefix = keyword
role other = nothing

-- what stands directly before a token: `PREFIX`, or `PREFIX` and the prefix that is declared, or
-- anything else
pub data Before : Type 0 where
  anything : Before
  declares : Before
  declared : Span → Before

abbrev pub behind_token : Before → Role → Span → Before
behind_token before keyword span = declares
behind_token declares prefix span = declared span
behind_token before role span = anything

-- the names as they are, unless the token's name can't be resolved
abbrev pub kept : {A : Type 0} → Names → Outcome A → Outcome Names
kept names (Ok i) = Ok names
kept names (Err f) = Err f

-- `<..>` after `PREFIX` and a prefix declares that prefix, and is an IRI else
abbrev pub at_iri : Names → Before → Span → Outcome Names
at_iri names (declared p) span = declare names (record { prefix = p; iri = span })
at_iri names before span = kept names (full names.text span)

-- `prefix:` after `PREFIX` is no name
abbrev pub at_prefix : Names → Before → Span → Outcome Names
at_prefix names declares span = Ok names
at_prefix names before span = kept names (prefixed names span)

-- the names after a token, or the fault of its name
abbrev pub at_token : Names → Before → Role → Span → Outcome Names
at_token names before iri span = at_iri names before span
at_token names before name span = kept names (prefixed names span)
at_token names before prefix span = at_prefix names before span
at_token names before role span = Ok names

abbrev pub fault_of : Outcome Names → List QFault
fault_of (Ok names) = []
fault_of (Err f) = f ∷ []

abbrev pub names_of : Names → Outcome Names → Names
names_of names (Ok more) = more
names_of names (Err f) = names

-- the names before a token, and what stands before it
pub record Place : Type 0 where
  pub names : Names
  pub before : Before

abbrev pub look : Place → Token → Outcome Names
look p t = at_token p.names p.before (role t.kind) t.span

abbrev pub behind : Place → Token → Place
behind p t =
    record {
      names = names_of p.names (look p t);
      before = behind_token p.before (role t.kind)
          t.span;
    }

-- the faults of the tokens from a place on
abbrev pub faults_from : Place → List Token → List QFault
faults_from p [] = []
faults_from p (t ∷ ts) = fault_of (look p t) ++ faults_from (behind p t) ts

abbrev pub at : Names → Place
at names = record { names = names; before = anything }

-- the faults of the names of a text with these tokens
abbrev pub name_faults : List ℕ → List Token → List QFault
name_faults text tokens = faults_from (at (nothing_declared text)) tokens
