-- What holds of each value that a step of reading a tree finds.
use Rattle.std.proofs.Common.{List, [], ◌∷◌, ◌++◌, Ok, Err}
use Rattle.std.specs.List.{AllByRecursion}
use Rattle.qs_terms.specs.Outcome.{Outcome, and_then}
use Rattle.qs_syntax_resolve.specs.declared.resolver.Resolver.{Resolver}
use Rattle.qs_syntax_resolve.specs.Resolving.{Resolving, ◌>>=◌, all_after}
use Rattle.qs_update_laws.proofs.Lists.{each_append}

-- of the value, where there is one
abbrev pub Found : {A : Type 0} → (A → Type 0) → Outcome (A × Resolver) → Type 0
Found Q (Ok r) = Q r.0
Found Q (Err e) = Unit {0}

abbrev pub Finds : {A : Type 0} → (A → Type 0) → Resolving A → Type 0
Finds Q p = (s : Resolver) → Found Q (p s)

abbrev pub Any : {A : Type 0} → A → Type 0
Any a = Unit {0}

module _ {A : Type 0} where
  anything : (o : Outcome (A × Resolver)) → Found Any o
  anything (Ok r) = tt
  anything (Err e) = tt

  pub any : (p : Resolving A) → Finds Any p
  any p s = anything (p s)

module _ {A B : Type 0} (Q : A → Type 0) (P : B → Type 0) where
  after : (o : Outcome (A × Resolver)) (f : A → Resolving B) → Found Q o → ((a : A) → Q a → Finds P (f a)) → Found P (and_then o (λ r. f r.0 r.1))
  after (Ok r) f h k = k r.0 h r.1
  after (Err e) f h k = tt

  pub behind : (p : Resolving A) (f : A → Resolving B) → Finds Q p → ((a : A) → Q a → Finds P (f a)) → Finds P (p >>= f)
  behind p f h k s = after (p s) f (h s) k

module _ {A : Type 0} (Q P : A → Type 0) (weaker : (a : A) → Q a → P a) where
  found_too : (o : Outcome (A × Resolver)) → Found Q o → Found P o
  found_too (Ok r) h = weaker r.0 h
  found_too (Err e) h = tt

  pub finds_too : (p : Resolving A) → Finds Q p → Finds P p
  finds_too p h s = found_too (p s) (h s)

module _ {A : Type 0} (Q : A → Type 0) where
  pub finds_all : (found : List A) (ps : List (Resolving A)) → AllByRecursion Q found → AllByRecursion (Finds Q) ps → Finds (AllByRecursion Q) (all_after found ps)
  finds_all found [] h k = λ s. h
  finds_all found (p ∷ ps) h k =
      behind Q (AllByRecursion Q) p (λ x. all_after (found ++ x ∷ []) ps) k.0 (λ x l. finds_all (found ++ x ∷ []) ps (each_append Q found (x ∷ []) h (l, tt)) k.1)
