-- How the head's end, its reading and the body go on with more bytes.
use Rattle.std.proofs.Common.{◌≡◌, ◌∙◌, ap, sym, refl, subst, ℕ, suc, ◌+◌, ◌-◌, ◌<◌, ◌≤◌, Bool, true, false, ltb, leb, if◌then◌else◌, not, ◌&&◌, ◌||◌, List, [], ◌∷◌, ◌++◌, length, take, drop, Option, None, Some, arith, length-drop, length-append, inl, inr, take-take, append_assoc, take-append-drop, ◌⊎◌}
use Rattle.std.proofs.lemmas.List.{take_all, length-take, drop-append-le, take-append-le, append-nil}
use Rattle.std.proofs.lemmas.Bool.{cond-true, cond-false, ltb-true, ltb-false, true≢false, leb-true, leb-false, le-leb, lt-ltb}
use Rattle.std.proofs.Math.Seq.{take-append-add}
use Rattle.qs_http.specs.declared.head_end.HeadState.{HeadState}
use Rattle.qs_http.specs.declared.head_end.HeadState.TheVariants.{Leading}
use Rattle.qs_http.specs.declared.stage.Step.{Step}
use Rattle.qs_http.specs.declared.stage.Step.TheVariants as step
use Rattle.qs_http.specs.declared.fixed_reply.Fixed.{Fixed}
use Rattle.qs_http.specs.declared.fixed_reply.Fixed.TheVariants.{HeadTooLarge, BadRequest, Memory}
use Rattle.qs_http.specs.declared.request.Request.{Request}
use Rattle.qs_http.specs.Outcome.{Outcome, More, Ready, Refused}
use Rattle.qs_http.specs.HeadEnd.{head_end, head_limit, without_leading, leading}
use Rattle.qs_http.specs.inner.HeadEnd.{later}
use Rattle.qs_http.specs.inner.HeadState.{place_after, ends_head, end_from, place_from}
use Rattle.qs_http.specs.Head.{Head, is_get, is_post, at_query, at_update, at_data, body_length}
use Rattle.qs_http.specs.Checks.{first_due, head_checks}
use Rattle.qs_http.specs.inner.Checks.{lacks_host, is_unknown_path, query_method_not_allowed, update_method_not_allowed, data_method_not_allowed, lacks_length, has_bad_length, has_long_body}
use Rattle.qs_http.specs.RequestOf.{IsReading, of_reading, of_sound_head, of_body, IsRequestOf}
use Rattle.qs_http.specs.inner.RequestOf.{ReadsHead, outcome_at}
use Rattle.qs_http.specs.inner.RequestOf.{unless_due}
use Rattle.qs_http.specs.inner.Stage.{AwaitsBody, EndsAt, IsStep, IsHeadStep}
use Rattle.qs_http.specs.inner.Feeding.{Seen, Reading, Done, seen_at, StandsAt, Feeds, FeedsAll}
use Rattle.qs_http.specs.inner.Laws.{joined}
use Rattle.qs_http.proofs.RequestLaws.{reading_unique, parts_of, of_parts}
use Rattle.qs_http.proofs.Ends.{Some-None, end_from-nil, end_from-append, end_from-kept, end_from-on, end_from-found, place_from-append, end_from-front, head_end-searched}

take_append_case : (n : ℕ) (xs ys : List ℕ) (b : Bool) → leb n (length xs) ≡ b → take n (xs ++ ys) ≡ take n xs ++ take (n - length xs) ys
take_append_case n xs ys true is =
    let few = leb-true n (length xs) is in
    let none : n - length xs ≡ 0 = omega arith in
    take-append-le n xs ys few ∙ sym (append-nil (take n xs)) ∙ ap (λ (k : ℕ). take n xs ++ take k ys) (sym none)
take_append_case n xs ys false is =
    let many : length xs ≤ n = omega (arith, leb-false n (length xs) is) in
    let sum : n ≡ length xs + (n - length xs) = omega arith in
    ap (λ (k : ℕ). take k (xs ++ ys)) sum ∙ take-append-add xs ys (n - length xs)
    ∙ ap (λ (l : List ℕ). l ++ take (n - length xs) ys) (sym (take_all n xs many))

take-append : (n : ℕ) (xs ys : List ℕ) → take n (xs ++ ys) ≡ take n xs ++ take (n - length xs) ys
take-append n xs ys = take_append_case n xs ys (leb n (length xs)) refl

bound_later : (o : Option ℕ) (n k : ℕ) → ((m : ℕ) → o ≡ Some m → m ≤ k) → later 1 o ≡ Some n → n ≤ suc k
bound_later None n k below is = absurd (Some-None (sym is))
bound_later (Some m) n k below is = let same : 1 + m ≡ n = cc in omega (arith, below m refl, same)

bound_case : (place : HeadState) (x : ℕ) (xs : List ℕ) (n : ℕ) (ends : Bool) → ends_head place x ≡ ends
    → ((m : ℕ) → end_from (place_after place x) xs ≡ Some m → m ≤ length xs) → end_from place (x ∷ xs) ≡ Some n → n ≤ suc (length xs)
bound_case place x xs n true ends below is =
    let one : Some 1 ≡ Some n = sym (end_from-found place x xs ends) ∙ is in
    let same : 1 ≡ n = cc in omega arith
bound_case place x xs n false ends below is =
    bound_later (end_from (place_after place x) xs) n (length xs) below (sym (end_from-on place x xs ends) ∙ is)

pub end_from_within : (place : HeadState) (xs : List ℕ) (n : ℕ) → end_from place xs ≡ Some n → n ≤ length xs
unfolding end_from
end_from_within place [] n is = absurd (Some-None (sym is))
end_from_within place (x ∷ xs) n is = bound_case place x xs n (ends_head place x) refl (λ m. end_from_within (place_after place x) xs m) is

pub head_end_within : (bytes : List ℕ) (n : ℕ) → head_end bytes ≡ Some n → n ≤ length bytes
head_end_within bytes n is = omega (arith, end_from_within Leading (take head_limit bytes) n (sym (head_end-searched bytes) ∙ is), length-take head_limit bytes)

pub head_end_short : (bytes : List ℕ) (n : ℕ) → head_end bytes ≡ Some n → n ≤ head_limit
head_end_short bytes n is = omega (arith, end_from_within Leading (take head_limit bytes) n (sym (head_end-searched bytes) ∙ is), length-take head_limit bytes)

pub head_end-kept : (bytes more : List ℕ) (n : ℕ) → head_end bytes ≡ Some n → head_end (bytes ++ more) ≡ Some n
head_end-kept bytes more n is =
    head_end-searched (bytes ++ more) ∙ ap (end_from Leading) (take-append head_limit bytes more)
    ∙ end_from-kept Leading (take head_limit bytes) (take (head_limit - length bytes) more) n (sym (head_end-searched bytes) ∙ is)

pub head_end-on : (bytes piece : List ℕ) → head_end bytes ≡ None → length bytes < head_limit
    → head_end (bytes ++ piece) ≡ later (length bytes) (end_from (place_from Leading bytes) (take (head_limit - length bytes) piece))
head_end-on bytes piece none short =
    let whole = take_all head_limit bytes (omega arith) in
    head_end-searched (bytes ++ piece)
    ∙ ap (end_from Leading) (take-append head_limit bytes piece ∙ ap (λ (l : List ℕ). l ++ take (head_limit - length bytes) piece) whole)
    ∙ end_from-append Leading bytes _ (ap (end_from Leading) (sym whole) ∙ sym (head_end-searched bytes) ∙ none)

-- what the bytes result in, the head's end known
pub request_at : (bytes : List ℕ) (end : ℕ) (reading : Option Head) (outcome : Outcome) → head_end bytes ≡ Some end
    → IsReading (without_leading (take end bytes)) reading → outcome ≡ of_reading reading (drop end bytes) → IsRequestOf bytes outcome
request_at bytes end reading outcome ends reads is = of_parts bytes outcome record {
  reading = reading;
  reads = subst (λ (o : Option ℕ). ReadsHead bytes o reading) (sym ends) reads;
  is = is ∙ ap (λ (o : Option ℕ). outcome_at o reading bytes) (sym ends);
}

pub request_before : (bytes : List ℕ) → head_end bytes ≡ None → length bytes < head_limit → IsRequestOf bytes More
request_before bytes none short = of_parts bytes More record {
  reading = None;
  reads = subst (λ (o : Option ℕ). ReadsHead bytes o None) (sym none) refl;
  is = sym (cond-false _ _ _ (is_short (leb head_limit (length bytes)) refl)) ∙ ap (λ (o : Option ℕ). outcome_at o None bytes) (sym none);
}
  where
    is_short : (b : Bool) → leb head_limit (length bytes) ≡ b → leb head_limit (length bytes) ≡ false
    is_short false is = is
    is_short true is = absurd (omega (arith, leb-true head_limit (length bytes) is))

pub request_too_long : (bytes : List ℕ) → head_end bytes ≡ None → head_limit ≤ length bytes → IsRequestOf bytes (Refused HeadTooLarge)
request_too_long bytes none long = of_parts bytes (Refused HeadTooLarge) record {
  reading = None;
  reads = subst (λ (o : Option ℕ). ReadsHead bytes o None) (sym none) refl;
  is = sym (cond-true _ _ _ (le-leb head_limit (length bytes) long)) ∙ ap (λ (o : Option ℕ). outcome_at o None bytes) (sym none);
}

waiting : (h : Head) (behind : List ℕ) → first_due (head_checks h) ≡ None → is_get h ≡ false → length behind < body_length h
    → More ≡ of_reading (Some h) behind
waiting h behind sound posts short =
    sym (ap (λ (o : Option Fixed). unless_due o (of_sound_head h behind)) sound
    ∙ cond-false _ _ _ posts ∙ cond-true _ _ _ (lt-ltb (length behind) (body_length h) short))

pub request_waits : (bytes : List ℕ) (end size : ℕ) → AwaitsBody bytes end size → length bytes < end + size → IsRequestOf bytes More
request_waits bytes end size awaits short =
    let within = head_end_within bytes end awaits.ends in
    request_at bytes end (Some awaits.head) More awaits.ends awaits.reads
    (waiting awaits.head (drop end bytes) awaits.sound awaits.posts (omega (arith, length-drop end bytes, awaits.size_is)))

pub awaits-kept : (bytes more : List ℕ) (end size : ℕ) → AwaitsBody bytes end size → AwaitsBody (bytes ++ more) end size
awaits-kept bytes more end size awaits = record {
  ends = head_end-kept bytes more end awaits.ends;
  head = awaits.head;
  reads = subst (λ (l : List ℕ). IsReading (without_leading l) (Some awaits.head)) (sym (take-append-le end bytes more (head_end_within bytes end awaits.ends))) awaits.reads;
  sound = awaits.sound;
  posts = awaits.posts;
  size_is = awaits.size_is;
}

pub step_at : (bytes : List ℕ) (end : ℕ) (h : Head) (s : Step) → head_end bytes ≡ Some end
    → IsReading (without_leading (take end bytes)) (Some h) → IsHeadStep h (drop end bytes) s → IsStep bytes end s
step_at bytes end h (step.More size) ends reads is =
    let awaits : AwaitsBody bytes end size = record { ends = ends; head = h; reads = reads; sound = is.0; posts = is.1; size_is = is.2 } in
    let within = head_end_within bytes end ends in
    let short : length bytes < end + size = omega (arith, length-drop end bytes, is.3) in
    (awaits, short, is.4, head_end_short bytes end ends)
step_at bytes end h (step.Ready request) ends reads is = request_at bytes end (Some h) _ ends reads (sym is)
step_at bytes end h (step.Refused fixed) ends reads is =
    elim is [ inl due ↦ inl (request_at bytes end (Some h) _ ends reads (sym due)) | inr memory ↦ inr memory ]

-- a piece comes while the head is read
pub head_goes_on : (bytes piece joined front : List ℕ) (before : ℕ) (place : HeadState) (found : Option ℕ) → before ≡ length bytes
    → head_end bytes ≡ None → length bytes < head_limit → place ≡ place_from Leading bytes → joined ≡ bytes ++ piece
    → front ≡ take (head_limit - before) piece → found ≡ end_from place front → head_end joined ≡ later before found
head_goes_on bytes piece joined front before place found before_is none short place_is joined_is front_is found_is =
    let end_of : HeadState → Option ℕ = λ p. end_from p (take (head_limit - length bytes) piece) in
    let front_here : front ≡ take (head_limit - length bytes) piece = front_is ∙ ap (λ (k : ℕ). take (head_limit - k) piece) before_is in
    let found_here : end_from (place_from Leading bytes) (take (head_limit - length bytes) piece) ≡ found =
    ap end_of (sym place_is) ∙ ap (end_from place) (sym front_here) ∙ sym found_is in
    ap head_end joined_is ∙ head_end-on bytes piece none short ∙ ap (later (length bytes)) found_here
    ∙ ap (λ (k : ℕ). later k found) (sym before_is)

pub place_goes_on : (bytes piece joined front : List ℕ) (before : ℕ) (place next : HeadState) → before ≡ length bytes → length joined < head_limit
    → place ≡ place_from Leading bytes → joined ≡ bytes ++ piece → front ≡ take (head_limit - before) piece → next ≡ place_from place front
    → next ≡ place_from Leading joined
place_goes_on bytes piece joined front before place next before_is short place_is joined_is front_is next_is =
    let whole = front_is ∙ take_all (head_limit - before) piece (omega (arith, length-append bytes piece, ap length joined_is)) in
    next_is ∙ ap (place_from place) whole ∙ ap (λ (p : HeadState). place_from p piece) place_is
    ∙ sym (place_from-append Leading bytes piece) ∙ ap (place_from Leading) (sym joined_is)

pub drop_whole : (i : ℕ) (xs : List ℕ) → take (length xs - i) (drop i xs) ≡ drop i xs
drop_whole i xs = take_all (length xs - i) (drop i xs) (omega (arith, length-drop i xs))

pub step_from_parts : (bytes : List ℕ) (end start : ℕ) (h : Head) (s : Step) → head_end bytes ≡ Some end → start ≡ leading (take end bytes)
    → IsReading (take (length (take end bytes) - start) (drop start (take end bytes))) (Some h)
    → IsHeadStep h (take (length bytes - end) (drop end bytes)) s → IsStep bytes end s
step_from_parts bytes end start h s ends start_is reads is =
    step_at bytes end h s ends
    (subst (λ (l : List ℕ). IsReading l (Some h)) (drop_whole start (take end bytes) ∙ ap (λ (k : ℕ). drop k (take end bytes)) start_is) reads)
    (subst (λ (l : List ℕ). IsHeadStep h l s) (drop_whole end bytes) is)

pub step_from_no_head : (bytes : List ℕ) (end start : ℕ) → head_end bytes ≡ Some end → start ≡ leading (take end bytes)
    → IsReading (take (length (take end bytes) - start) (drop start (take end bytes))) None → IsRequestOf bytes (Refused BadRequest)
step_from_no_head bytes end start ends start_is reads =
    request_at bytes end None (Refused BadRequest) ends
    (subst (λ (l : List ℕ). IsReading l None) (drop_whole start (take end bytes) ∙ ap (λ (k : ℕ). drop k (take end bytes)) start_is) reads) refl

-- a head that passes the checks and isn't a GET has a body that isn't too long
pub none_due : (due : Bool) (fixed : Fixed) (rest : Option Fixed) → (if due then Some fixed else rest) ≡ None → (due ≡ false) × (rest ≡ None)
none_due true fixed rest none = absurd (Some-None none)
none_due false fixed rest none = (refl, none)

no_path : (query update data_path get : Bool) → get ≡ false → not (query || update || data_path) ≡ false
    → (query && not (get || false)) ≡ false → (update && not false) ≡ false → (data_path && not get) ≡ false → ⊥
no_path true u d false g e q v w = true≢false q
no_path false true d false g e q v w = true≢false v
no_path false false true false g e q v w = true≢false w
no_path false false false false g e q v w = true≢false e
no_path query u d true g e q v w = true≢false g

short_from : (h : Head) (query update data_path get post long : Bool) → get ≡ false → not (query || update || data_path) ≡ false
    → (query && not (get || post)) ≡ false → (update && not post) ≡ false → (data_path && not get) ≡ false
    → (post && long) ≡ false → ltb 4194304 (body_length h) ≡ long → body_length h ≤ 4194304
short_from h query update data_path get post false g e q u d l is = omega (arith, ltb-false 4194304 (body_length h) is)
short_from h query update data_path get false true g e q u d l is = absurd (no_path query update data_path get g e q u d)
short_from h query update data_path get true true g e q u d l is = absurd (true≢false l)

pub sound_length : (h : Head) → first_due (head_checks h) ≡ None → is_get h ≡ false → body_length h ≤ 4194304
unfolding lacks_host is_unknown_path query_method_not_allowed update_method_not_allowed data_method_not_allowed lacks_length has_bad_length has_long_body
sound_length h none posts =
    let r0 = none_due (lacks_host h) _ _ none in
    let r1 = none_due (is_unknown_path h) _ _ r0.1 in
    let r2 = none_due (query_method_not_allowed h) _ _ r1.1 in
    let r3 = none_due (update_method_not_allowed h) _ _ r2.1 in
    let r4 = none_due (data_method_not_allowed h) _ _ r3.1 in
    let r5 = none_due (lacks_length h) _ _ r4.1 in
    let r6 = none_due (has_bad_length h) _ _ r5.1 in
    let r7 = none_due (has_long_body h) _ _ r6.1 in
    short_from h (at_query h) (at_update h) (at_data h) (is_get h) (is_post h) (ltb 4194304 (body_length h)) posts r1.0 r2.0 r3.0 r4.0 r7.0 refl

-- once they result in something, further bytes don't change it
sound_kept : (h : Head) (behind more : List ℕ) (get short : Bool) → is_get h ≡ get → ltb (length behind) (body_length h) ≡ short
    → (of_sound_head h behind ≡ More → ⊥) → of_sound_head h (behind ++ more) ≡ of_sound_head h behind
sound_kept h behind more true short gets is done = cond-true _ _ _ gets ∙ sym (cond-true _ _ _ gets)
sound_kept h behind more false true posts is done = absurd (done (cond-false _ _ _ posts ∙ cond-true _ _ _ is))
sound_kept h behind more false false posts is done =
    let enough = ltb-false (length behind) (body_length h) is in
    let still : ltb (length (behind ++ more)) (body_length h) ≡ false = still_false (ltb (length (behind ++ more)) (body_length h)) refl enough in
    cond-false _ _ _ posts ∙ cond-false _ _ _ still ∙ ap (of_body h) (take-append-le (body_length h) behind more enough)
    ∙ sym (cond-false _ _ _ posts ∙ cond-false _ _ _ is)
  where
    still_false : (b : Bool) → ltb (length (behind ++ more)) (body_length h) ≡ b → body_length h ≤ length behind
        → ltb (length (behind ++ more)) (body_length h) ≡ false
    still_false false b_is enough = b_is
    still_false true b_is enough = absurd (omega (arith, ltb-true _ _ b_is, length-append behind more))

due_kept : (h : Head) (due : Option Fixed) (behind more : List ℕ) → (unless_due due (of_sound_head h behind) ≡ More → ⊥)
    → unless_due due (of_sound_head h (behind ++ more)) ≡ unless_due due (of_sound_head h behind)
due_kept h (Some fixed) behind more done = refl
due_kept h None behind more done = sound_kept h behind more (is_get h) (ltb (length behind) (body_length h)) refl refl done

reading_kept : (reading : Option Head) (behind more : List ℕ) → (of_reading reading behind ≡ More → ⊥)
    → of_reading reading (behind ++ more) ≡ of_reading reading behind
reading_kept None behind more done = refl
reading_kept (Some h) behind more done = due_kept h (first_due (head_checks h)) behind more done

kept_by_end : (bytes more : List ℕ) (outcome : Outcome) (end : Option ℕ) → head_end bytes ≡ end → (outcome ≡ More → ⊥)
    → (reading : Option Head) → ReadsHead bytes end reading → outcome ≡ outcome_at end reading bytes → IsRequestOf (bytes ++ more) outcome
kept_by_end bytes more outcome None none done reading reads is = by_length (leb head_limit (length bytes)) refl
  where
    by_length : (long : Bool) → leb head_limit (length bytes) ≡ long → IsRequestOf (bytes ++ more) outcome
    by_length false short = absurd (done (is ∙ cond-false _ _ _ short))
    by_length true long =
        let many = leb-true head_limit (length bytes) long in
        subst (λ (o : Outcome). IsRequestOf (bytes ++ more) o) (sym (is ∙ cond-true _ _ _ long))
        (request_too_long (bytes ++ more) (head_end-searched (bytes ++ more) ∙ ap (end_from Leading) (take-append-le head_limit bytes more many) ∙ sym (head_end-searched bytes) ∙ none) (omega (arith, length-append bytes more)))
kept_by_end bytes more outcome (Some end) ends done reading reads is =
    let within = head_end_within bytes end ends in
    request_at (bytes ++ more) end reading outcome (head_end-kept bytes more end ends)
    (subst (λ (l : List ℕ). IsReading (without_leading l) reading) (sym (take-append-le end bytes more within)) reads)
    (is ∙ sym (ap (of_reading reading) (drop-append-le end bytes more within) ∙ reading_kept reading (drop end bytes) more (λ e. done (is ∙ e))))

pub request_kept : (bytes more : List ℕ) (outcome : Outcome) → IsRequestOf bytes outcome → (outcome ≡ More → ⊥) → IsRequestOf (bytes ++ more) outcome
request_kept bytes more outcome h done =
    let x = parts_of bytes outcome h in
    kept_by_end bytes more outcome (head_end bytes) refl done x.reading x.reads x.is

-- a piece brings the head's end
pub head_ends : (bytes piece front last : List ℕ) (before room found : ℕ) (place : HeadState) → before ≡ length bytes
    → head_end bytes ≡ None → length bytes < head_limit → place ≡ place_from Leading bytes → room ≡ head_limit - before
    → front ≡ take room piece → Some found ≡ end_from place front → last ≡ take found piece
    → (head_end (bytes ++ last) ≡ Some (length (bytes ++ last))) × (found ≤ length piece)
head_ends bytes piece front last before room found place before_is none short place_is room_is front_is found_is last_is =
    let ends : end_from place (take room piece) ≡ Some found = ap (end_from place) (sym front_is) ∙ sym found_is in
    let within = end_from_within place (take room piece) found ends in
    let few : found ≤ room = omega (arith, within, length-take room piece) in
    let many : found ≤ length piece = omega (arith, within, length-take room piece) in
    let cut : take found (take room piece) ≡ take found piece = take-take found room piece few in
    let size : length (take found piece) ≡ found = omega (arith, length-take found piece) in
    let whole : take (head_limit - length bytes) last ≡ take found (take room piece) =
    ap (take (head_limit - length bytes)) last_is
    ∙ take_all (head_limit - length bytes) (take found piece) (omega (arith, size)) ∙ sym cut in
    let goes : head_end (bytes ++ last) ≡ later (length bytes) (Some found) =
    head_end-on bytes last none short
    ∙ ap (λ (p : HeadState). later (length bytes) (end_from p (take (head_limit - length bytes) last))) (sym place_is)
    ∙ ap (λ (l : List ℕ). later (length bytes) (end_from place l)) whole
    ∙ ap (later (length bytes)) (end_from-front place (take room piece) found ends) in
    let last_size : length last ≡ found = ap length last_is ∙ size in
    (goes ∙ ap (λ (k : ℕ). Some k) (omega (arith, length-append bytes last, last_size)), many)

-- what bytes resulted in isn't changed by more
pub ends_more : (bytes more whole : List ℕ) (seen : Seen) → bytes ++ more ≡ whole → EndsAt bytes seen → StandsAt whole seen
ends_more bytes more whole seen is x =
    elim x [
      | inl e ↦ inl (e.0, subst (λ (l : List ℕ). IsRequestOf l e.0) is (request_kept bytes more e.0 e.1 e.2), e.3 ∙ sym (seen_done whole e.0 e.2))
      | inr memory ↦ inr memory
    ]
  where
    seen_done : (whole : List ℕ) (outcome : Outcome) → (outcome ≡ More → ⊥) → seen_at whole outcome ≡ Done outcome
    seen_done whole More done = absurd (done refl)
    seen_done whole (Ready request) done = refl
    seen_done whole (Refused fixed) done = refl

pub ends_ready : (bytes : List ℕ) (request : Request) → IsRequestOf bytes (Ready request) → EndsAt bytes (Done (Ready request))
ends_ready bytes request is = inl (Ready request, is, (λ e. cc), refl)

pub ends_refused : (bytes : List ℕ) (fixed : Fixed) → IsRequestOf bytes (Refused fixed) ⊎ (fixed ≡ Memory) → EndsAt bytes (Done (Refused fixed))
ends_refused bytes fixed is =
    elim is [ inl due ↦ inl (Refused fixed, due, (λ e. cc), refl) | inr memory ↦ inr (ap (λ (f : Fixed). Done (Refused f)) memory) ]

-- one body's length
pub awaits-unique : (bytes : List ℕ) (end a b : ℕ) → AwaitsBody bytes end a → AwaitsBody bytes end b → a ≡ b
awaits-unique bytes end a b x y =
    let same : Some x.head ≡ Some y.head = reading_unique (without_leading (take end bytes)) (Some x.head) (Some y.head) x.reads y.reads in
    let heads : x.head ≡ y.head = cc in
    sym x.size_is ∙ ap body_length heads ∙ y.size_is

-- a front of the piece makes the body whole
pub front_and_rest : (bytes piece front joined : List ℕ) (room : ℕ) → front ≡ take room piece → joined ≡ bytes ++ front
    → joined ++ drop room piece ≡ bytes ++ piece
front_and_rest bytes piece front joined room front_is joined_is =
    ap (λ (l : List ℕ). l ++ drop room piece) (joined_is ∙ ap (λ (l : List ℕ). bytes ++ l) front_is)
    ∙ append_assoc bytes (take room piece) (drop room piece) ∙ ap (λ (l : List ℕ). bytes ++ l) (take-append-drop room piece)

-- pieces, one after another
stands_on : (bytes piece : List ℕ) (old new : Seen) (outcome : Outcome) → IsRequestOf bytes outcome → old ≡ seen_at bytes outcome
    → Feeds old piece new → StandsAt (bytes ++ piece) new
stands_on bytes piece old new More is old_is feeds = subst (λ (s : Seen). Feeds s piece new) old_is feeds
stands_on bytes piece old new (Ready request) is old_is feeds =
    inl (Ready request, request_kept bytes piece (Ready request) is (λ e. cc), subst (λ (s : Seen). Feeds s piece new) old_is feeds)
stands_on bytes piece old new (Refused fixed) is old_is feeds =
    inl (Refused fixed, request_kept bytes piece (Refused fixed) is (λ e. cc), subst (λ (s : Seen). Feeds s piece new) old_is feeds)

stands_feed : (bytes piece : List ℕ) (old new : Seen) → StandsAt bytes old → Feeds old piece new → StandsAt (bytes ++ piece) new
stands_feed bytes piece old new x feeds =
    elim x [
      | inl e ↦ stands_on bytes piece old new e.0 e.1 e.2 feeds
      | inr memory ↦ inr (subst (λ (s : Seen). Feeds s piece new) memory feeds)
    ]

stands_all : (pieces : List (List ℕ)) (bytes : List ℕ) (old new : Seen) → StandsAt bytes old → FeedsAll old pieces new → StandsAt (bytes ++ joined pieces) new
stands_all [] bytes old new x feeds =
    subst (λ (l : List ℕ). StandsAt l new) (sym (append-nil bytes)) (subst (StandsAt bytes) (sym feeds) x)
stands_all (piece ∷ pieces) bytes old new x feeds =
    subst (λ (l : List ℕ). StandsAt l new) (append_assoc bytes piece (joined pieces))
    (stands_all pieces (bytes ++ piece) feeds.0 new (stands_feed bytes piece old feeds.0 x feeds.1) feeds.2)

pub stands_joined : (pieces : List (List ℕ)) (seen : Seen) → FeedsAll (Reading []) pieces seen → StandsAt (joined pieces) seen
stands_joined pieces seen feeds =
    stands_all pieces [] (Reading []) seen (inl (More, request_before [] (head_end-searched [] ∙ end_from-nil Leading) (omega arith), refl)) feeds
