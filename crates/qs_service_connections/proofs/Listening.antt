-- What reads add up to.
use Rattle.std.proofs.Common.{◌∙◌, ap, sym, refl, ℕ, List, [], ◌++◌, Option, None, Some, append_assoc}
use Rattle.std.specs.Io.KnownBytes.{Keeps, Consumes, Appends}
use Rattle.qs_http.specs.Outcome.{More}
use Rattle.qs_http.specs.HeadEnd as heads
use Rattle.qs_http.specs.HeadEnd.{head_end}
use Rattle.qs_http.specs.RequestOf.{IsRequestOf}

pub consumes_more : (a b c : Option (List ℕ)) (xs ys : List ℕ) → Consumes a b xs → Consumes b c ys → Consumes a c (xs ++ ys)
consumes_more None b c xs ys h k = tt
consumes_more (Some a) None c xs ys h k = absurd h
consumes_more (Some a) (Some b) None xs ys h k = absurd k
consumes_more (Some a) (Some b) (Some c) xs ys h k = h ∙ ap (λ (l : List ℕ). xs ++ l) k ∙ sym (append_assoc xs ys c)

pub keeps_more : (a b c : Option (List ℕ)) → Keeps a b → Keeps b c → Keeps a c
keeps_more None b c h k = tt
keeps_more (Some a) None c h k = absurd h
keeps_more (Some a) (Some b) None h k = absurd k
keeps_more (Some a) (Some b) (Some c) h k = k ∙ h

pub keeps_same : (a : Option (List ℕ)) → Keeps a a
keeps_same None = tt
keeps_same (Some a) = refl

pub consumes_kept : (a b c : Option (List ℕ)) (xs : List ℕ) → Consumes a b xs → Keeps b c → Consumes a c xs
consumes_kept None b c xs h k = tt
consumes_kept (Some a) None c xs h k = absurd h
consumes_kept (Some a) (Some b) None xs h k = absurd k
consumes_kept (Some a) (Some b) (Some c) xs h k = h ∙ ap (λ (l : List ℕ). xs ++ l) (sym k)

pub keeps_appends : (a b c : Option (List ℕ)) (xs : List ℕ) → Keeps a b → Appends b c xs → Appends a c xs
keeps_appends None b c xs h k = tt
keeps_appends (Some a) None c xs h k = absurd h
keeps_appends (Some a) (Some b) None xs h k = absurd k
keeps_appends (Some a) (Some b) (Some c) xs h k = k ∙ ap (λ (l : List ℕ). l ++ xs) h

pub consumes_none : (a : Option (List ℕ)) → Consumes a a []
consumes_none None = tt
consumes_none (Some a) = refl

pub nothing_yet : IsRequestOf [] More
unfolding IsRequestOf head_end heads.end_of_head
nothing_yet = refl
