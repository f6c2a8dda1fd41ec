-- The search for the head's end goes on where it stopped.
use Rattle.std.proofs.Common.{suc, one-add, take, not, ◌||◌, ◌&&◌, ◌==◌, ◌≡◌, ℕ, ◌+◌, ◌<◌, Bool, true, false, List, [], ◌∷◌, ◌++◌, length, get_or, drop, refl, ap, sym, ◌∙◌, arith, if◌then◌else◌, Option, None, Some}
use Rattle.std.proofs.lemmas.List.{drop_more}
use Rattle.std.proofs.lemmas.Bool.{cond-true, cond-false, true≢false, eq-eqb, eqb-true}
use Rattle.std.specs.Prelude.{nat_eq}
use Rattle.std.specs.List.{starts_with}
use Rattle.std.proofs.Math.Dec.{eqb}
use Rattle.qs_http.specs.declared.head_end.HeadState.{HeadState}
use Rattle.qs_http.specs.declared.head_end.HeadState.TheVariants.{Leading, Line, Feed, FeedReturn}
use Rattle.qs_http.specs.HeadEnd.{leading, without_leading, end_of_head, head_limit, head_end}
use Rattle.qs_http.specs.inner.HeadEnd.{later, is_line_break, begins_with_feed, begins_with_return_feed}
use Rattle.qs_http.specs.inner.HeadState.{place_after, ends_head, end_from, place_from}

pub later-zero : (o : Option ℕ) → later 0 o ≡ o
later-zero None = refl
later-zero (Some n) = ap (λ (k : ℕ). Some k) (omega arith)

pub later-later : (i j : ℕ) (o : Option ℕ) → later i (later j o) ≡ later (i + j) o
later-later i j None = refl
later-later i j (Some n) = ap (λ (k : ℕ). Some k) (omega arith)

pub Some-None : {A : Type 0} {x : A} → Some x ≡ None → ⊥
Some-None same = cc

pub later-None : (i : ℕ) (o : Option ℕ) → later i o ≡ None → o ≡ None
later-None i None none = refl
later-None i (Some n) none = absurd (Some-None none)

pub end_from-nil : (place : HeadState) → end_from place [] ≡ None
unfolding end_from
end_from-nil place = refl

pub place_from-nil : (place : HeadState) → place_from place [] ≡ place
unfolding place_from
place_from-nil place = refl

pub end_from-found : (place : HeadState) (b : ℕ) (bytes : List ℕ) → ends_head place b ≡ true → end_from place (b ∷ bytes) ≡ Some 1
unfolding end_from
end_from-found place b bytes ends = rw ends refl

pub end_from-on : (place : HeadState) (b : ℕ) (bytes : List ℕ) → ends_head place b ≡ false
    → end_from place (b ∷ bytes) ≡ later 1 (end_from (place_after place b) bytes)
unfolding end_from
end_from-on place b bytes ends = rw ends refl

pub place_from-on : (place : HeadState) (b : ℕ) (bytes : List ℕ) → place_from place (b ∷ bytes) ≡ place_from (place_after place b) bytes
unfolding place_from
place_from-on place b bytes = refl

-- one byte on in a list
pub end_found_at : (place : HeadState) (xs : List ℕ) (i : ℕ) → i < length xs → ends_head place (get_or xs i 0) ≡ true
    → later i (end_from place (drop i xs)) ≡ Some (i + 1)
end_found_at place xs i below ends =
    ap (λ (l : List ℕ). later i (end_from place l)) (drop_more xs i 0 below)
    ∙ ap (later i) (end_from-found place (get_or xs i 0) (drop (i + 1) xs) ends)

pub end_on_at : (place : HeadState) (xs : List ℕ) (i : ℕ) → i < length xs → ends_head place (get_or xs i 0) ≡ false
    → later i (end_from place (drop i xs)) ≡ later (i + 1) (end_from (place_after place (get_or xs i 0)) (drop (i + 1) xs))
end_on_at place xs i below ends =
    ap (λ (l : List ℕ). later i (end_from place l)) (drop_more xs i 0 below)
    ∙ ap (later i) (end_from-on place (get_or xs i 0) (drop (i + 1) xs) ends) ∙ later-later i 1 _

pub place_on_at : (place : HeadState) (xs : List ℕ) (i : ℕ) → i < length xs
    → place_from place (drop i xs) ≡ place_from (place_after place (get_or xs i 0)) (drop (i + 1) xs)
place_on_at place xs i below =
    ap (place_from place) (drop_more xs i 0 below) ∙ place_from-on place (get_or xs i 0) (drop (i + 1) xs)

-- two pieces
append_case : (place : HeadState) (x : ℕ) (xs ys : List ℕ) (ends : Bool) → ends_head place x ≡ ends
    → (end_from (place_after place x) xs ≡ None
    → end_from (place_after place x) (xs ++ ys) ≡ later (length xs) (end_from (place_from (place_after place x) xs) ys))
    → end_from place (x ∷ xs) ≡ None
    → end_from place (x ∷ (xs ++ ys)) ≡ later (suc (length xs)) (end_from (place_from (place_after place x) xs) ys)
append_case place x xs ys true is rest none = absurd (Some-None (sym (end_from-found place x xs is) ∙ none))
append_case place x xs ys false is rest none =
    end_from-on place x (xs ++ ys) is ∙ ap (later 1) (rest (later-None 1 _ (sym (end_from-on place x xs is) ∙ none)))
    ∙ later-later 1 (length xs) _
    ∙ ap (λ (k : ℕ). later k (end_from (place_from (place_after place x) xs) ys)) (omega arith)

pub end_from-append : (place : HeadState) (xs ys : List ℕ) → end_from place xs ≡ None
    → end_from place (xs ++ ys) ≡ later (length xs) (end_from (place_from place xs) ys)
unfolding end_from place_from
end_from-append place [] ys none = sym (later-zero _)
end_from-append place (x ∷ xs) ys none =
    append_case place x xs ys (ends_head place x) refl (end_from-append (place_after place x) xs ys) none

kept_later : (o p : Option ℕ) (n : ℕ) → ((m : ℕ) → o ≡ Some m → p ≡ Some m) → later 1 o ≡ Some n → later 1 p ≡ Some n
kept_later None p n same is = absurd (Some-None (sym is))
kept_later (Some m) p n same is = ap (later 1) (same m refl) ∙ is

kept_case : (place : HeadState) (x : ℕ) (xs ys : List ℕ) (n : ℕ) (ends : Bool) → ends_head place x ≡ ends
    → ((m : ℕ) → end_from (place_after place x) xs ≡ Some m → end_from (place_after place x) (xs ++ ys) ≡ Some m)
    → end_from place (x ∷ xs) ≡ Some n → end_from place (x ∷ (xs ++ ys)) ≡ Some n
kept_case place x xs ys n true ends rest is =
    end_from-found place x (xs ++ ys) ends ∙ sym (end_from-found place x xs ends) ∙ is
kept_case place x xs ys n false ends rest is =
    end_from-on place x (xs ++ ys) ends
    ∙ kept_later (end_from (place_after place x) xs) _ n rest (sym (end_from-on place x xs ends) ∙ is)

-- an end stays, whatever comes
pub end_from-kept : (place : HeadState) (xs ys : List ℕ) (n : ℕ) → end_from place xs ≡ Some n → end_from place (xs ++ ys) ≡ Some n
unfolding end_from place_from
end_from-kept place [] ys n is = absurd (Some-None (sym is))
end_from-kept place (x ∷ xs) ys n is =
    kept_case place x xs ys n (ends_head place x) refl (λ m. end_from-kept (place_after place x) xs ys m) is

pub place_from-append : (place : HeadState) (xs ys : List ℕ) → place_from place (xs ++ ys) ≡ place_from (place_from place xs) ys
unfolding place_from
place_from-append place [] ys = refl
place_from-append place (x ∷ xs) ys = place_from-append (place_after place x) xs ys

-- up to the end nothing more is looked at
front_case : (place : HeadState) (x : ℕ) (xs : List ℕ) (n : ℕ) (ends : Bool) → ends_head place x ≡ ends
    → ((m : ℕ) → end_from (place_after place x) xs ≡ Some m → end_from (place_after place x) (take m xs) ≡ Some m)
    → end_from place (x ∷ xs) ≡ Some n → end_from place (take n (x ∷ xs)) ≡ Some n
front_case place x xs n true ends rest is =
    let one : Some 1 ≡ Some n = sym (end_from-found place x xs ends) ∙ is in
    let same : 1 ≡ n = cc in
    ap (λ (k : ℕ). end_from place (take k (x ∷ xs))) (sym same) ∙ end_from-found place x [] ends ∙ one
front_case place x xs n false ends rest is =
    front_later place x xs n (end_from (place_after place x) xs) refl ends rest (sym (end_from-on place x xs ends) ∙ is)
  where
    front_later : (place : HeadState) (x : ℕ) (xs : List ℕ) (n : ℕ) (o : Option ℕ) → end_from (place_after place x) xs ≡ o → ends_head place x ≡ false
        → ((m : ℕ) → end_from (place_after place x) xs ≡ Some m → end_from (place_after place x) (take m xs) ≡ Some m)
        → later 1 (end_from (place_after place x) xs) ≡ Some n → end_from place (take n (x ∷ xs)) ≡ Some n
    front_later place x xs n None o_is ends rest is = absurd (Some-None (sym is ∙ ap (later 1) o_is))
    front_later place x xs n (Some m) o_is ends rest is =
        let sum : Some (1 + m) ≡ Some n = sym (ap (later 1) o_is) ∙ is in
        let next : 1 + m ≡ n = cc in
        let same : suc m ≡ n = omega (arith, next) in
        ap (λ (k : ℕ). end_from place (take k (x ∷ xs))) (sym same) ∙ end_from-on place x (take m xs) ends ∙ ap (later 1) (rest m o_is) ∙ sum

pub end_from-front : (place : HeadState) (xs : List ℕ) (n : ℕ) → end_from place xs ≡ Some n → end_from place (take n xs) ≡ Some n
unfolding end_from
end_from-front place [] n is = absurd (Some-None (sym is))
end_from-front place (x ∷ xs) n is = front_case place x xs n (ends_head place x) refl (λ m. end_from-front (place_after place x) xs m) is

-- the search finds the first LF that directly follows an LF or an LF CR
after_feed : List ℕ → Option ℕ
after_feed bytes = if begins_with_feed bytes then Some 1 else (if begins_with_return_feed bytes then Some 2 else end_of_head bytes)

after_return : List ℕ → Option ℕ
after_return bytes = if begins_with_feed bytes then Some 1 else end_of_head bytes

record Finds (bytes : List ℕ) : Type 0 where
  line : end_from Line bytes ≡ end_of_head bytes
  feed : end_from Feed bytes ≡ after_feed bytes
  feed_return : end_from FeedReturn bytes ≡ after_return bytes

-- the first bytes, compared in one go or byte by byte
swapped : (a b : ℕ) (x y : Bool) → eqb a b ≡ x → eqb b a ≡ y → eqb a b ≡ eqb b a
swapped a b true true p q = p ∙ sym q
swapped a b false false p q = p ∙ sym q
swapped a b true false p q = absurd (true≢false (sym (eq-eqb b a (sym (eqb-true a b p))) ∙ q))
swapped a b false true p q = absurd (true≢false (sym (eq-eqb a b (sym (eqb-true b a q))) ∙ p))

is_byte : (n b : ℕ) → eqb n b ≡ (b == n)
is_byte n b = swapped n b (eqb n b) (eqb b n) refl refl

and_true : (b : Bool) → (b && true) ≡ b
and_true true = refl
and_true false = refl

begins_feed : (bytes : List ℕ) → starts_with nat_eq bytes (10 ∷ []) ≡ begins_with_feed bytes
begins_feed [] = refl
begins_feed (b ∷ bytes) = and_true (eqb 10 b) ∙ is_byte 10 b

begins_return_feed : (bytes : List ℕ) → starts_with nat_eq bytes (13 ∷ 10 ∷ []) ≡ begins_with_return_feed bytes
begins_return_feed [] = refl
begins_return_feed (b ∷ bytes) = ap (λ (x : Bool). x && starts_with nat_eq bytes (10 ∷ [])) (is_byte 13 b) ∙ ap (λ (x : Bool). (b == 13) && x) (begins_feed bytes)

end_of_head-on : (b : ℕ) (bytes : List ℕ)
    → end_of_head (b ∷ bytes)
    ≡ (if b == 10 && begins_with_feed bytes then Some 2 else (if b == 10 && begins_with_return_feed bytes then Some 3 else later 1 (end_of_head bytes)))
unfolding end_of_head
end_of_head-on b bytes =
    ap (λ (x : Bool). if x && starts_with nat_eq bytes (10 ∷ []) then Some 2 else (if x && starts_with nat_eq bytes (13 ∷ 10 ∷ []) then Some 3 else later 1 (end_of_head bytes))) (is_byte 10 b)
    ∙ ap (λ (x : Bool). if b == 10 && x then Some 2 else (if b == 10 && starts_with nat_eq bytes (13 ∷ 10 ∷ []) then Some 3 else later 1 (end_of_head bytes))) (begins_feed bytes)
    ∙ ap (λ (x : Bool). if b == 10 && begins_with_feed bytes then Some 2 else (if b == 10 && x then Some 3 else later 1 (end_of_head bytes))) (begins_return_feed bytes)

end_of_head-other : (b : ℕ) (bytes : List ℕ) → (b == 10) ≡ false → end_of_head (b ∷ bytes) ≡ later 1 (end_of_head bytes)
end_of_head-other b bytes other = end_of_head-on b bytes ∙ (rw other refl)

end_of_head-feed : (b : ℕ) (bytes : List ℕ) → (b == 10) ≡ true → end_of_head (b ∷ bytes) ≡ later 1 (after_feed bytes)
unfolding after_feed
end_of_head-feed b bytes is = end_of_head-on b bytes ∙ (rw is (by_next (begins_with_feed bytes) (begins_with_return_feed bytes) (end_of_head bytes)))
  where
    by_next : (feed return_feed : Bool) (rest : Option ℕ)
        → (if feed then Some 2 else (if return_feed then Some 3 else later 1 rest)) ≡ later 1 (if feed then Some 1 else (if return_feed then Some 2 else rest))
    by_next true return_feed rest = refl
    by_next false true rest = refl
    by_next false false rest = refl

finds_line : (b : ℕ) (bytes : List ℕ) (is : Bool) → (b == 10) ≡ is → Finds bytes → end_from Line (b ∷ bytes) ≡ end_of_head (b ∷ bytes)
finds_line b bytes true is rest =
    end_from-on Line b bytes refl ∙ ap (λ (p : HeadState). later 1 (end_from p bytes)) (cond-true _ _ _ is)
    ∙ ap (later 1) rest.feed ∙ sym (end_of_head-feed b bytes is)
finds_line b bytes false is rest =
    end_from-on Line b bytes refl ∙ ap (λ (p : HeadState). later 1 (end_from p bytes)) (cond-false _ _ _ is)
    ∙ ap (later 1) rest.line ∙ sym (end_of_head-other b bytes is)

finds_return : (b : ℕ) (bytes : List ℕ) (is : Bool) → (b == 10) ≡ is → Finds bytes → end_from FeedReturn (b ∷ bytes) ≡ after_return (b ∷ bytes)
unfolding after_return
finds_return b bytes true is rest = end_from-found FeedReturn b bytes is ∙ sym (cond-true _ _ _ is)
finds_return b bytes false is rest =
    end_from-on FeedReturn b bytes is ∙ ap (λ (p : HeadState). later 1 (end_from p bytes)) (cond-false _ _ _ is)
    ∙ ap (later 1) rest.line ∙ sym (cond-false _ _ _ is ∙ end_of_head-other b bytes is)

finds_feed : (b : ℕ) (bytes : List ℕ) (is return : Bool) → (b == 10) ≡ is → (b == 13) ≡ return → Finds bytes
    → end_from Feed (b ∷ bytes) ≡ after_feed (b ∷ bytes)
unfolding after_feed after_return
finds_feed b bytes true return is is_return rest = end_from-found Feed b bytes is ∙ sym (cond-true _ _ _ is)
finds_feed b bytes false true is is_return rest =
    end_from-on Feed b bytes is ∙ ap (λ (p : HeadState). later 1 (end_from p bytes)) (cond-true _ _ _ is_return)
    ∙ ap (later 1) rest.feed_return ∙ by_next (begins_with_feed bytes) refl
    ∙ ap (λ (r : Bool). if r && begins_with_feed bytes then Some 2 else end_of_head (b ∷ bytes)) (sym is_return) ∙ sym (cond-false _ _ _ is)
  where
    by_next : (feed : Bool) → begins_with_feed bytes ≡ feed
        → later 1 (if begins_with_feed bytes then Some 1 else end_of_head bytes) ≡ (if begins_with_feed bytes then Some 2 else end_of_head (b ∷ bytes))
    by_next true feed = ap (later 1) (cond-true _ _ _ feed) ∙ sym (cond-true _ _ _ feed)
    by_next false feed = ap (later 1) (cond-false _ _ _ feed) ∙ sym (cond-false _ _ _ feed ∙ end_of_head-other b bytes is)
finds_feed b bytes false false is is_return rest =
    end_from-on Feed b bytes is ∙ ap (λ (p : HeadState). later 1 (end_from p bytes)) (cond-false _ _ _ is_return ∙ cond-false _ _ _ is)
    ∙ ap (later 1) rest.line ∙ sym (end_of_head-other b bytes is)
    ∙ ap (λ (r : Bool). if r && begins_with_feed bytes then Some 2 else end_of_head (b ∷ bytes)) (sym is_return) ∙ sym (cond-false _ _ _ is)

finds : (bytes : List ℕ) → Finds bytes
unfolding end_from end_of_head after_feed after_return
finds [] = record { line = refl; feed = refl; feed_return = refl }
finds (b ∷ bytes) =
    let rest = finds bytes in
    record { line = finds_line b bytes (b == 10) refl rest; feed = finds_feed b bytes (b == 10) (b == 13) refl refl rest; feed_return = finds_return b bytes (b == 10) refl rest }

second_false : (a b : Bool) → (a || b) ≡ false → b ≡ false
second_false true b none = absurd (true≢false none)
second_false false b none = none

-- past the leading CR and LF bytes
leading_case : (b : ℕ) (bytes : List ℕ) (breaks : Bool) → is_line_break b ≡ breaks
    → end_from Leading bytes ≡ later (leading bytes) (end_of_head (without_leading bytes))
    → end_from Leading (b ∷ bytes) ≡ later (leading (b ∷ bytes)) (end_of_head (without_leading (b ∷ bytes)))
leading_case b bytes true breaks rest =
    let count : leading (b ∷ bytes) ≡ suc (leading bytes) = ap (λ (r : Bool). if not (not r) then 1 + leading bytes else 0) breaks ∙ one-add (leading bytes) in
    end_from-on Leading b bytes refl ∙ ap (λ (p : HeadState). later 1 (end_from p bytes)) (cond-true _ _ _ breaks)
    ∙ ap (later 1) rest ∙ later-later 1 (leading bytes) _ ∙ ap (λ (k : ℕ). later k (end_of_head (without_leading bytes))) (omega arith)
    ∙ ap (λ (k : ℕ). later k (end_of_head (drop k (b ∷ bytes)))) (sym count)
leading_case b bytes false breaks rest =
    let count : leading (b ∷ bytes) ≡ 0 = ap (λ (r : Bool). if not (not r) then 1 + leading bytes else 0) breaks in
    end_from-on Leading b bytes refl ∙ ap (λ (p : HeadState). later 1 (end_from p bytes)) (cond-false _ _ _ breaks)
    ∙ ap (later 1) (finds bytes).line ∙ sym (end_of_head-other b bytes (second_false (b == 13) (b == 10) breaks))
    ∙ sym (later-zero _) ∙ ap (λ (k : ℕ). later k (end_of_head (drop k (b ∷ bytes)))) (sym count)

end_from-leading : (bytes : List ℕ) → end_from Leading bytes ≡ later (leading bytes) (end_of_head (without_leading bytes))
unfolding end_from end_of_head
end_from-leading [] = refl
end_from-leading (b ∷ bytes) = leading_case b bytes (is_line_break b) refl (end_from-leading bytes)

-- the head's end is what the search finds from the first byte on
pub head_end-searched : (bytes : List ℕ) → head_end bytes ≡ end_from Leading (take head_limit bytes)
unfolding head_end
head_end-searched bytes = sym (end_from-leading (take head_limit bytes))
