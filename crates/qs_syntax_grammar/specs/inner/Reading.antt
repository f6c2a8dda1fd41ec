-- How a rule is read from the left, by one token ahead, and when that is sure to work.
use Rattle.std.specs.Prelude.{◌≡◌, ◌≢◌, ℕ, zero, suc, Bool, true, false, ◌&&◌, ◌||◌, not}
use Rattle.std.specs.Prelude.{if◌then◌else◌, List, [], ◌∷◌, ◌++◌, length, Result, Ok, Err}
use Rattle.std.specs.List.{list_all, list_any}
use Rattle.qs_syntax_grammar.specs.declared.fault.Fault.{Fault}
use Rattle.qs_syntax_grammar.specs.declared.fault.Fault.TheVariants.{Memory, Deep, Syntax}
use Rattle.qs_syntax_grammar.specs.Rule.{Language, Rule, token, empty, both, either, many, made}
use Rattle.qs_syntax_grammar.specs.Rule.{placed, ref, place_of}

-- a tree and the tokens after it, or a fault
abbrev pub Outcome : Type 0 → Type 0 → Type 0
Outcome T A = Result (A × List T) Fault

abbrev pub Reader : Type 0 → Type 0 → Type 0
Reader T A = List T → Outcome T A

abbrev pub and_then : {T A B : Type 0} → Outcome T A → (A → Reader T B) → Outcome T B
and_then (Ok p) f = f p.0 p.1
and_then (Err e) f = Err e

abbrev pub refuse : {T A : Type 0} → Reader T A
refuse ts = Err (Syntax (length ts))

-- the kind is one of these
abbrev pub has : (L : Language) → List L.Kind → L.Kind → Bool
has L ks j = list_any (λ k. L.same j k) ks

-- the next token is of these kinds
abbrev pub starts : (L : Language) → List L.Kind → List L.Token → Bool
starts L ks [] = false
starts L ks (t ∷ ts) = has L ks (L.kind t)

abbrev pub first_token : {T : Type 0} → Reader T T
first_token [] = refuse []
first_token (t ∷ ts) = Ok (t, ts)

abbrev pub take_kind : (L : Language) → L.Kind → Reader L.Token L.Token
take_kind L k ts = if starts L (k ∷ []) ts then first_token ts else refuse ts

abbrev pub loop : (L : Language) → {A : Type 0} → ℕ → List L.Kind → Reader L.Token A
    → Reader L.Token (List A)
loop L zero ks p ts = Err Deep
loop L (suc n) ks p ts =
    if starts L ks ts
    then and_then (p ts) (λ x s. and_then (loop L n ks p s) (λ xs s'. Ok (x ∷ xs, s')))
    else Ok ([], ts)

-- ---- what a rule begins with

-- the rule may take no token
abbrev pub nullable : {L : Language} {A : Type 0} → Rule L A → Bool
nullable (token k) = false
nullable (empty a) = true
nullable (both p q) = nullable p && nullable q
nullable (either p q) = nullable p || nullable q
nullable (many p) = true
nullable (made f p) = nullable p
nullable (placed p) = nullable p
nullable (ref n) = false

-- the first kinds, and with a yes the others
abbrev pub join : {K : Type 0} → Bool → List K → List K → List K
join true a b = a ++ b
join false a b = a

-- with the kinds that named rules begin with
abbrev pub first : {L : Language} → (L.Name → List L.Kind) → {A : Type 0} → Rule L A → List L.Kind
first fs (token k) = k ∷ []
first fs (empty a) = []
first fs (both p q) = join (nullable p) (first fs p) (first fs q)
first fs (either p q) = first fs p ++ first fs q
first fs (many p) = first fs p
first fs (made f p) = first fs p
first fs (placed p) = first fs p
first fs (ref n) = fs n

-- what the rule takes from the front of the tokens by one token ahead: its tree and the tokens
-- after it, or a fault
abbrev pub reading : {L : Language} → (L.Name → List L.Kind)
    → ((n : L.Name) → Reader L.Token (L.Tree n)) → {A : Type 0} → Rule L A → Reader L.Token A
reading {L} fs env (token k) ts = take_kind L k ts
reading fs env (empty a) ts = Ok (a, ts)
reading fs env (both p q) ts =
    and_then (reading fs env p ts) (λ x s. and_then (reading fs env q s) (λ y s'. Ok ((x, y), s')))
reading {L} fs env (either p q) ts =
    if starts L (first fs p) ts then reading fs env p ts else reading fs env q ts
reading {L} fs env (many p) ts = loop L (suc (length ts)) (first fs p) (reading fs env p) ts
reading fs env (made f p) ts = and_then (reading fs env p ts) (λ x s. Ok (f x, s))
reading {L} fs env (placed p) ts =
    and_then (reading fs env p ts) (λ x s. Ok ((place_of L ts, x), s))
reading fs env (ref n) ts = env n ts

-- ---- when one token ahead is enough

-- the kinds that go on with a rule where it could also be over
abbrev pub more : {L : Language} → (L.Name → List L.Kind) → (L.Name → List L.Kind) → {A : Type 0}
    → Rule L A → List L.Kind
more fs ms (token k) = []
more fs ms (empty a) = []
more fs ms (both p q) = join (nullable q) (more fs ms q) (more fs ms p)
more fs ms (either p q) = more fs ms p ++ join (nullable q) (more fs ms q) (first fs p)
more fs ms (many p) = first fs p ++ more fs ms p
more fs ms (made f p) = more fs ms p
more fs ms (placed p) = more fs ms p
more fs ms (ref n) = ms n

abbrev pub apart : (L : Language) → List L.Kind → List L.Kind → Bool
apart L a b = list_all (λ k. not (has L b k)) a

abbrev pub within : (L : Language) → List L.Kind → List L.Kind → Bool
within L a b = list_all (has L b) a

-- one token ahead is enough for the rule, where it is for the named rules in it
abbrev pub is_sure : {L : Language} → (L.Name → List L.Kind) → (L.Name → List L.Kind) → {A : Type 0}
    → Rule L A → Bool
is_sure fs ms (token k) = true
is_sure fs ms (empty a) = true
is_sure {L} fs ms (both p q) =
    is_sure fs ms p && is_sure fs ms q && apart L (more fs ms p) (first fs q)
is_sure {L} fs ms (either p q) =
    is_sure fs ms p && is_sure fs ms q && apart L (first fs p) (first fs q) && not (nullable p)
is_sure {L} fs ms (many p) =
    is_sure fs ms p && apart L (more fs ms p) (first fs p) && not (nullable p)
is_sure fs ms (made f p) = is_sure fs ms p
is_sure fs ms (placed p) = is_sure fs ms p && not (nullable p)
is_sure fs ms (ref n) = true

-- a named rule may be read before any token was taken
abbrev pub opens : {L : Language} {A : Type 0} → Rule L A → Bool
opens (token k) = false
opens (empty a) = false
opens (both p q) = opens p || (nullable p && opens q)
opens (either p q) = opens p || opens q
opens (many p) = opens p
opens (made f p) = opens p
opens (placed p) = opens p
opens (ref n) = true

-- ---- what a function that reads ensures: the outcome, unless memory fails

abbrev pub Reads : {T A : Type 0} → Outcome T A → Result A Fault → List T → Type 0
Reads o (Ok a) new = o ≡ Ok (a, new)
Reads o (Err e) new = e ≢ Memory → o ≡ Err e
