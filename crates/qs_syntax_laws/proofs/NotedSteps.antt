-- What the steps of the resolver note: the variables of what a step gives are among those that were read.
use Rattle.std.proofs.Common.{◌≡◌, Bool, true, false, ◌||◌, nat_eq, List, [], ◌∷◌, ◌++◌, map, Option, Some, None, Ok, Err, refl, sym, ap, subst, ◌∙◌, append-nil, length, drop}
use Rattle.std.proofs.lemmas.Grind.{flat_map-append}
use Rattle.std.proofs.Math.Seq.{drop-append_seam}
use Rattle.std.proofs.lemmas.List.Folds.{list_any-append}
use Rattle.std.specs.Cmp.Lexicographic.{pointwise}
use Rattle.std.specs.List.{AllByRecursion, flat_map}
use Rattle.std.specs.Prelude.{unwrap_or, option_map}
use Rattle.qs_terms.specs.Outcome.{Outcome, and_then}
use Rattle.qs_syntax_ast.specs.declared.term.Variable.{Variable}
use Rattle.qs_syntax_resolve.specs.declared.resolver.Resolver.{Resolver}
use Rattle.qs_syntax_resolve.specs.Leaves.{variables_since}
use Rattle.qs_syntax_resolve.specs.Resolving.{Resolving, ◌>>=◌, pure, all_after, in_turn, optional}
use Rattle.qs_syntax_scope.specs.Firsts.{names_of}
use Rattle.qs_syntax_scope.specs.Names.{Name, contains, joined}

-- ---- names among names

-- each of the names is among the others
pub record Among (xs ys : List Name) : Type 0 where
  pub each : (name : Name) → contains xs name ≡ true → contains ys name ≡ true

by_cases : (a b c : Bool) → (a ≡ true → c ≡ true) → (b ≡ true → c ≡ true) → (a || b) ≡ true → c ≡ true
by_cases true b c h k e = h refl
by_cases false b c h k e = k e

or_left : (a b : Bool) → a ≡ true → (a || b) ≡ true
or_left true b e = refl
or_left false b e = absurd (cc e)

or_right : (a b : Bool) → b ≡ true → (a || b) ≡ true
or_right true b e = refl
or_right false b e = e

contains_both : (xs ys : List Name) (name : Name) → contains (xs ++ ys) name ≡ (contains xs name || contains ys name)
contains_both xs ys name = list_any-append (λ one. pointwise nat_eq one name) xs ys

pub same : (xs : List Name) → Among xs xs
same xs = record { each = λ name h. h }

pub equal : (xs ys : List Name) → xs ≡ ys → Among xs ys
equal xs ys e = subst (λ zs. Among xs zs) e (same xs)

pub through : {xs ys zs : List Name} → Among xs ys → Among ys zs → Among xs zs
through h k = record { each = λ name l. k.each name (h.each name l) }

pub none : (ys : List Name) → Among [] ys
none ys = record { each = λ name h. absurd (cc h) }

pub both : {xs ys zs : List Name} → Among xs zs → Among ys zs → Among (xs ++ ys) zs
both {xs} {ys} {zs} h k = record { each = λ name l. by_cases (contains xs name) (contains ys name) (contains zs name) (h.each name) (k.each name) (sym (contains_both xs ys name) ∙ l) }

pub left : (xs ys : List Name) → Among xs (xs ++ ys)
left xs ys = record { each = λ name h. contains_both xs ys name ∙ or_left (contains xs name) (contains ys name) h }

pub right : (xs ys : List Name) → Among ys (xs ++ ys)
right xs ys = record { each = λ name h. contains_both xs ys name ∙ or_right (contains xs name) (contains ys name) h }

pub in_left : {xs ys : List Name} (zs : List Name) → Among xs ys → Among xs (ys ++ zs)
in_left {ys = ys} zs h = through h (left ys zs)

pub in_right : {xs zs : List Name} (ys : List Name) → Among xs zs → Among xs (ys ++ zs)
in_right {zs = zs} ys h = through h (right ys zs)

-- by the parts of both, from the hypotheses
pub ruleset placing = (both, in_left, in_right, same, none)

-- ---- steps, one after another

-- of the value and of the resolver after it, where the step does not fail
abbrev pub Found : {A : Type 0} → (A → Resolver → Type 0) → Outcome (A × Resolver) → Type 0
Found Q (Ok r) = Q r.0 r.1
Found Q (Err e) = Unit {0}

-- from a resolver of the one kind, the step results in one of the other
pub record Takes {A : Type 0} (P : Resolver → Type 0) (Q : A → Resolver → Type 0) (p : Resolving A) : Type 0 where
  pub runs : (s : Resolver) → P s → Found Q (p s)

module _ {A B : Type 0} {Q : A → Resolver → Type 0} {R : B → Resolver → Type 0} where
  after : (o : Outcome (A × Resolver)) (f : A → Resolving B) → Found Q o → ((a : A) → Takes (Q a) R (f a)) → Found R (and_then o (λ r. f r.0 r.1))
  after (Ok r) f h k = (k r.0).runs r.1 h
  after (Err e) f h k = tt

  pub followed_by : {P : Resolver → Type 0} (p : Resolving A) (f : A → Resolving B) → Takes P Q p → ((a : A) → Takes (Q a) R (f a)) → Takes P R (p >>= f)
  followed_by p f h k = record { runs = λ s b. after (p s) f (h.runs s b) k }

module _ {A : Type 0} {Q : A → Resolver → Type 0} {R : A → Resolver → Type 0} where
  weaker_found : (o : Outcome (A × Resolver)) → Found Q o → ((a : A) (s : Resolver) → Q a s → R a s) → Found R o
  weaker_found (Ok r) h k = k r.0 r.1 h
  weaker_found (Err e) h k = tt

  pub weaker : {P : Resolver → Type 0} (p : Resolving A) → Takes P Q p → ((a : A) (s : Resolver) → Q a s → R a s) → Takes P R p
  weaker p h k = record { runs = λ s b. weaker_found (p s) (h.runs s b) k }

pub from_more : {A : Type 0} {P Q : Resolver → Type 0} {R : A → Resolver → Type 0} {p : Resolving A} → ((s : Resolver) → P s → Q s) → Takes Q R p → Takes P R p
from_more h k = record { runs = λ s i. k.runs s (h s i) }

-- ---- what is noted

-- the variables that were read since those of the start, with the names among theirs
pub record Since (start : List Variable) (names : List Name) (s : Resolver) : Type 0 where
  pub more : List Variable
  pub grown : s.variables ≡ start ++ more
  pub noted : Among names (names_of more)

pub fewer : {start : List Variable} {xs ys : List Name} → Among xs ys → (s : Resolver) → Since start ys s → Since start xs s
fewer h s i = record { more = i.more; grown = i.grown; noted = through h i.noted }

-- Where the names of `before` were noted, those of what the step gives are noted after it; so are all that were noted beside.
pub record Notes {A : Type 0} (before : List Name) (of : A → List Name) (p : Resolving A) : Type 0 where
  pub takes : (start : List Variable) (beside : List Name) → Takes (Since start (before ++ beside)) (λ a. Since start (of a ++ beside)) p

module _ {A : Type 0} {of : A → List Name} where
  pub ends : {before : List Name} (a : A) → Among (of a) before → Notes before of (pure a)
  ends a h = record { takes = λ start beside. record { runs = λ s i. fewer (search placing) s i } }

  pub from_fewer : {xs ys : List Name} {p : Resolving A} → Among xs ys → Notes xs of p → Notes ys of p
  from_fewer h k = record { takes = λ start beside. from_more (fewer (search placing)) (k.takes start beside) }

  pub of_fewer : {before : List Name} {less : A → List Name} {p : Resolving A} → ((a : A) → Among (less a) (of a)) → Notes before of p → Notes before less p
  of_fewer h k =
      record { takes = λ start beside. weaker _ (k.takes start beside) (λ a s i. fewer (both (through (h a) (left (of a) beside)) (right (of a) beside)) s i) }

  -- what was noted beside goes on to be noted
  pub beside_too : {before : List Name} (names : List Name) {p : Resolving A} → Notes before of p → Notes (names ++ before) (λ a. names ++ of a) p
  beside_too names h = record {
    takes = λ start beside.
        from_more (fewer (search placing)) (weaker _ (h.takes start (names ++ beside)) (λ a s i. fewer (search placing) s i));
  }

module _ {A B : Type 0} {of : A → List Name} {to : B → List Name} where
  -- a step that goes on from what was found
  pub goes_on : {before : List Name} (p : Resolving A) (f : A → Resolving B) → Notes before of p → ((a : A) → Notes (of a) to (f a)) → Notes before to (p >>= f)
  goes_on p f h k = record { takes = λ start beside. followed_by p f (h.takes start beside) (λ a. (k a).takes start beside) }

  -- a step by itself, after what was found
  pub reads : (before : List Name) (p : Resolving A) (f : A → Resolving B) → Notes [] of p → ((a : A) → Notes (before ++ of a) to (f a)) → Notes before to (p >>= f)
  reads before p f h k = record {
    takes = λ start beside.
        followed_by p f (h.takes start (before ++ beside))
        (λ a. from_more (fewer (search placing)) ((k a).takes start beside));
  }

  -- what is made of one step
  pub makes : (p : Resolving A) (g : A → B) → Notes [] of p → ((a : A) → Among (to (g a)) (of a)) → Notes [] to (p >>= (λ x. pure (g x)))
  makes p g h k = goes_on p (λ x. pure (g x)) h (λ a. ends (g a) (k a))

-- ---- lists

module _ {A : Type 0} (of : A → List Name) where
  pub one_more : (found : List A) (a : A) → Among (flat_map of (found ++ a ∷ [])) (flat_map of found ++ of a)
  one_more found a = equal _ _ (flat_map-append of found (a ∷ []) ∙ ap (λ xs. flat_map of found ++ xs) (append-nil (of a)))

  each_after : (found : List A) (ps : List (Resolving A)) → AllByRecursion (Notes [] of) ps → Notes (flat_map of found) (flat_map of) (all_after found ps)
  each_after found [] h = ends found (same (flat_map of found))
  each_after found (p ∷ ps) h = reads (flat_map of found) p (λ x. all_after (found ++ x ∷ []) ps) h.0 (λ x. from_fewer (one_more found x) (each_after (found ++ x ∷ []) ps h.1))

  pub each : (ps : List (Resolving A)) → AllByRecursion (Notes [] of) ps → Notes [] (flat_map of) (all_after [] ps)
  each ps h = each_after [] ps h

module _ {A B : Type 0} (of : A → List Name) (step : A → B → Resolving A) where
  pub turns : (found : A) (bs : List B) → AllByRecursion (λ b. (a : A) → Notes (of a) of (step a b)) bs → Notes (of found) of (in_turn step found bs)
  turns found [] h = ends found (same (of found))
  turns found (b ∷ bs) h = goes_on (step found b) (λ more. in_turn step more bs) (h.0 found) (λ more. turns more bs h.1)

abbrev pub in_option : {B : Type 0} → (B → List Name) → Option B → List Name
in_option of o = unwrap_or (option_map of o) []

pub maybe : {A B : Type 0} (of : B → List Name) (step : A → Resolving B) (o : Option A) → ((a : A) → Notes [] of (step a)) → Notes [] (in_option of) (optional step o)
maybe of step None h = ends None (none [])
maybe of step (Some a) h = makes (step a) Some (h a) (λ b. same (of b))

pub joined_flat : {A : Type 0} (of : A → List Name) (xs : List A) → joined (map of xs) ≡ flat_map of xs
joined_flat of [] = refl
joined_flat of (x ∷ xs) = ap (λ rest. of x ++ rest) (joined_flat of xs)

-- ---- what is listed

-- at the start no variable was read
pub since_here : (s : Resolver) → Since s.variables [] s
since_here s = record { more = []; grown = sym (append-nil s.variables); noted = none [] }

-- a list of the variables that were read since the start
pub lists : {B : Type 0} (start : List Variable) (names : List Name) (make : List Variable → B) (Q : B → Type 0)
    → ((vs : List Variable) → Among names (names_of vs) → Q (make vs)) → Takes (Since start names) (λ b s. Q b) (variables_since (length start) >>= (λ vs. pure (make vs)))
lists start names make Q h = record {
  runs = λ s i.
      subst (λ vs. Q (make (drop (length start) vs))) (sym i.grown) (subst (λ vs. Q (make vs)) (sym (drop-append_seam start i.more)) (h i.more i.noted));
}
