-- What a step of the resolver results in over the tokens that its tree was read of: the names after them and their variables, or the first fault.
use Rattle.std.proofs.Common.{◌≡◌, List, [], ◌∷◌, ◌++◌, Ok, Err, refl, sym, ap, ◌∙◌, subst, append_assoc, append-nil}
use Rattle.qs_terms.specs.Outcome.{Outcome, and_then}
use Rattle.qs_terms.specs.declared.fault.QFault.{QFault}
use Rattle.qs_syntax_ast.specs.declared.term.Variable.{Variable}
use Rattle.qs_syntax_tree.specs.declared.token.Token.{Token}
use Rattle.qs_syntax_resolve.specs.Names.{Names}
use Rattle.qs_syntax_resolve.specs.declared.resolver.Resolver.{Resolver}
use Rattle.qs_syntax_resolve.specs.Resolving.{Resolving, ◌>>=◌, pure}
use Rattle.qs_syntax_laws.specs.inner.NameFaults.{Place, faults_from, at}
use Rattle.qs_syntax_laws.specs.inner.TextVariables.{variables_of}
use Rattle.qs_syntax_laws.proofs.Places.{behind_all, append_faults, append_behind, text_stays, append_variables}

-- no fault, the names of the resolver, and the variables after those that it had; or the first of the faults
abbrev pub Comes : {A : Type 0} → Resolver → List Token → Outcome (A × Resolver) → Type 0
Comes s ts (Ok r) =
    (faults_from (at s.names) ts ≡ []) × (behind_all (at s.names) ts ≡ at r.1.names) × (r.1.variables ≡ s.variables ++ variables_of s.names.text ts)
Comes s ts (Err f) = (rest : List QFault) × (faults_from (at s.names) ts ≡ f ∷ rest)

abbrev pub Meets : {A : Type 0} → Resolving A → List Token → Type 0
Meets p ts = (s : Resolver) → Comes s ts (p s)

-- tokens that say nothing of names, and none is a variable
abbrev pub IsQuiet : List Token → Type 0
IsQuiet ts = (names : Names) → (faults_from (at names) ts ≡ []) × (behind_all (at names) ts ≡ at names) × (variables_of names.text ts ≡ [])

-- tokens that were passed over, with the names and the variables as they were
abbrev pub Passes : Resolver → List Token → Type 0
Passes s ts = (faults_from (at s.names) ts ≡ []) × (behind_all (at s.names) ts ≡ at s.names) × (s.variables ≡ s.variables ++ variables_of s.names.text ts)

pub unchanged : (s : Resolver) (ts : List Token) → variables_of s.names.text ts ≡ [] → s.variables ≡ s.variables ++ variables_of s.names.text ts
unchanged s ts e = sym (ap (λ vs. s.variables ++ vs) e ∙ append-nil s.variables)

-- no token is read
pub unread : (s : Resolver) → Passes s []
unread s = (refl, refl, sym (append-nil s.variables))

quiet_passes : (s : Resolver) (ts : List Token) → IsQuiet ts → Passes s ts
quiet_passes s ts q = let e = q s.names in (e.0, e.1, unchanged s ts e.2)

-- ---- one after the other

module _ (s : Resolver) (us vs : List Token) where
  -- after the first tokens, with the resolver between
  pub joined : {B : Type 0} (between : Resolver) (o : Outcome (B × Resolver)) → faults_from (at s.names) us ≡ [] → behind_all (at s.names) us ≡ at between.names
      → between.variables ≡ s.variables ++ variables_of s.names.text us → Comes between vs o → Comes s (us ++ vs) o
  joined between (Ok r) e g v h =
      let same : between.names.text ≡ s.names.text = sym (ap (λ (p : Place). p.names.text) g) ∙ text_stays (at s.names) us in
      let both : between.variables ++ variables_of between.names.text vs ≡ (s.variables ++ variables_of s.names.text us) ++ variables_of s.names.text vs = rw (v, same) refl in
      let whole : (s.variables ++ variables_of s.names.text us) ++ variables_of s.names.text vs ≡ s.variables ++ variables_of s.names.text (us ++ vs) =
      append_assoc s.variables (variables_of s.names.text us) (variables_of s.names.text vs) ∙ ap (λ (more : List Variable). s.variables ++ more) (sym (append_variables s.names.text us vs)) in
      (append_faults (at s.names) us vs ∙ rw (e, g) h.0, append_behind (at s.names) us vs ∙ rw g h.1, h.2 ∙ both ∙ whole)
  joined between (Err f) e g v h = (h.0, append_faults (at s.names) us vs ∙ rw (e, g) h.1)

  pub fails : (f : QFault) → (rest : List QFault) × (faults_from (at s.names) us ≡ f ∷ rest) → (rest : List QFault) × (faults_from (at s.names) (us ++ vs) ≡ f ∷ rest)
  fails f h = (h.0 ++ faults_from (behind_all (at s.names) us) vs, append_faults (at s.names) us vs ∙ ap (λ fs. fs ++ faults_from (behind_all (at s.names) us) vs) h.1)

module _ {A B : Type 0} where
  after : (s : Resolver) (us vs : List Token) (o : Outcome (A × Resolver)) (f : A → Resolving B) → Comes s us o → ((a : A) → Meets (f a) vs) → Comes s (us ++ vs) (and_then o (λ r. f r.0 r.1))
  after s us vs (Ok r) f h k = joined s us vs r.1 (f r.0 r.1) h.0 h.1 h.2 (k r.0 r.1)
  after s us vs (Err e) f h k = fails s us vs e h

  pub then : (us vs : List Token) (p : Resolving A) (f : A → Resolving B) → Meets p us → ((a : A) → Meets (f a) vs) → Meets (p >>= f) (us ++ vs)
  then us vs p f h k s = after s us vs (p s) f (h s) k

  -- a step that reads no tokens after
  pub still_behind : (ts : List Token) (p : Resolving A) (f : A → Resolving B) → Meets p ts → ((a : A) → Meets (f a) []) → Meets (p >>= f) ts
  still_behind ts p f h k = subst (Meets (p >>= f)) (append-nil ts) (then ts [] p f h k)

  made_of : (s : Resolver) (ts : List Token) (o : Outcome (A × Resolver)) (g : A → B) → Comes s ts o → Comes s ts (and_then o (λ r. Ok (g r.0, r.1)))
  made_of s ts (Ok r) g h = h
  made_of s ts (Err f) g h = h

  pub mapped : (ts : List Token) (p : Resolving A) (g : A → B) → Meets p ts → Meets (p >>= (λ x. pure (g x))) ts
  mapped ts p g h s = made_of s ts (p s) g (h s)

  of_made : (s : Resolver) (ts : List Token) (o : Outcome (A × Resolver)) (g : A → B) → Comes s ts (and_then o (λ r. Ok (g r.0, r.1))) → Comes s ts o
  of_made s ts (Ok r) g h = h
  of_made s ts (Err f) g h = h

  pub unmapped : (ts : List Token) (p : Resolving A) (g : A → B) → Meets (p >>= (λ x. pure (g x))) ts → Meets p ts
  unmapped ts p g h s = of_made s ts (p s) g (h s)

-- ---- steps in another order of brackets

module _ {A B : Type 0} where
  pub under : (o : Outcome (A × Resolver)) (f g : A → Resolving B) → ((a : A) (s : Resolver) → f a s ≡ g a s) → and_then o (λ r. f r.0 r.1) ≡ and_then o (λ r. g r.0 r.1)
  under (Ok r) f g h = h r.0 r.1
  under (Err e) f g h = refl

in_brackets : {A B C : Type 0} (o : Outcome (A × Resolver)) (f : A → Resolving B) (g : B → Resolving C) → and_then o (λ r. (f r.0 >>= g) r.1) ≡ and_then (and_then o (λ r. f r.0 r.1)) (λ r. g r.0 r.1)
in_brackets (Ok r) f g = refl
in_brackets (Err e) f g = refl

module _ {A B C : Type 0} where
  pub associative : (p : Resolving A) (f : A → Resolving B) (g : B → Resolving C) (s : Resolver) → (p >>= (λ a. f a >>= g)) s ≡ ((p >>= f) >>= g) s
  associative p f g s = in_brackets (p s) f g

  -- a pair that is read, and what is made of it, are three steps
  pub paired : (p : Resolving A) (q : Resolving B) (g : A × B → Resolving C) (s : Resolver) → (p >>= (λ a. q >>= (λ b. g (a, b)))) s ≡ ((p >>= (λ a. q >>= (λ b. pure (a, b)))) >>= g) s
  paired p q g s =
      under (p s) (λ a. q >>= (λ b. g (a, b))) (λ a. (q >>= (λ b. pure (a, b))) >>= g) (λ a t. in_brackets (q t) (λ b. pure (a, b)) g)
      ∙ in_brackets (p s) (λ a. q >>= (λ b. pure (a, b))) g

module _ {A : Type 0} where
  pub nothing : (a : A) → Meets (pure a) []
  nothing a = unread

  pub quiet_before : (us vs : List Token) (p : Resolving A) → IsQuiet us → Meets p vs → Meets p (us ++ vs)
  quiet_before us vs p q h s = let e = quiet_passes s us q in joined s us vs s (p s) e.0 e.1 e.2 (h s)

  ends_quiet : (s : Resolver) (us vs : List Token) (o : Outcome (A × Resolver)) → Comes s us o → IsQuiet vs → Comes s (us ++ vs) o
  ends_quiet s us vs (Ok r) h q = joined s us vs r.1 (Ok r) h.0 h.1 h.2 (quiet_passes r.1 vs q)
  ends_quiet s us vs (Err f) h q = fails s us vs f h

  pub quiet_behind : (us vs : List Token) (p : Resolving A) → Meets p us → IsQuiet vs → Meets p (us ++ vs)
  quiet_behind us vs p h q s = ends_quiet s us vs (p s) (h s) q

  pub quiet : (ts : List Token) (p : Resolving A) → IsQuiet ts → Meets p [] → Meets p ts
  quiet ts p q h = subst (Meets p) (append-nil ts) (quiet_before ts [] p q h)

pub quiet_append : (us vs : List Token) → IsQuiet us → IsQuiet vs → IsQuiet (us ++ vs)
quiet_append us vs h k names = (
  append_faults (at names) us vs ∙ rw ((h names).0, (h names).1) (k names).0,
  append_behind (at names) us vs ∙ rw (h names).1 (k names).1,
  append_variables names.text us vs ∙ rw ((h names).2, (k names).2) refl,
)
