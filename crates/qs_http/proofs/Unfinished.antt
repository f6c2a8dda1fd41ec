-- How many bytes an unfinished request can have.
use Rattle.std.proofs.Common.{◌≡◌, ◌∙◌, sym, refl, ℕ, ◌<◌, Bool, true, false, ltb, leb, if◌then◌else◌, List, length, drop, Option, None, Some, arith, length-drop}
use Rattle.std.proofs.lemmas.Bool.{cond-true, cond-false, ltb-true, leb-false}
use Rattle.qs_http.specs.declared.fixed_reply.Fixed.{Fixed}
use Rattle.qs_http.specs.declared.fixed_reply.Fixed.TheVariants.{HeadTooLarge, BadRequest}
use Rattle.qs_http.specs.declared.request.Request.{Request}
use Rattle.qs_http.specs.declared.request.Request.TheVariants.{Dump}
use Rattle.qs_http.specs.Outcome.{Outcome, More, Ready, Refused}
use Rattle.qs_http.specs.HeadEnd.{head_end, head_limit}
use Rattle.qs_http.specs.Head.{Head, is_get, is_form, at_query, at_data, body_length}
use Rattle.qs_http.specs.Checks.{first_due, head_checks}
use Rattle.qs_http.specs.Parameters.{of_pairs, only_value}
use Rattle.qs_http.specs.inner.Parameters.{of_text}
use Rattle.qs_http.specs.RequestOf.{IsRequestOf, of_reading, of_sound_head, of_body, of_get}
use Rattle.qs_http.specs.inner.RequestOf.{outcome_at}
use Rattle.qs_http.specs.inner.RequestOf.{unless_due}
use Rattle.qs_http.proofs.RequestLaws.{parts_of}
use Rattle.qs_http.proofs.Steps.{sound_length, head_end_short}

refused_more : (fixed : Fixed) → Refused fixed ≡ More → ⊥
refused_more fixed same = cc

ready_more : (request : Request) → Ready request ≡ More → ⊥
ready_more request same = cc

if_more : (b : Bool) (o p : Outcome) → (o ≡ More → ⊥) → (p ≡ More → ⊥) → (if b then o else p) ≡ More → ⊥
if_more true o p x y = x
if_more false o p x y = y

text_more : (asks : List ℕ → Request) (o : Option (List ℕ)) → of_text asks o ≡ More → ⊥
text_more asks None = refused_more BadRequest
text_more asks (Some text) = ready_more (asks text)

pairs_more : (name : List ℕ) (asks : List ℕ → Request) (pairs target : List ℕ) → of_pairs name asks pairs target ≡ More → ⊥
unfolding of_pairs
pairs_more name asks pairs target = if_more _ _ _ (refused_more BadRequest) (text_more asks (only_value name pairs))

body_more : (h : Head) (body : List ℕ) → of_body h body ≡ More → ⊥
unfolding of_body
body_more h body =
    if_more (is_form h) _ _ (if_more (at_query h) _ _ (pairs_more _ _ _ _) (pairs_more _ _ _ _))
    (if_more _ _ _ (ready_more _) (refused_more BadRequest))

get_more : (h : Head) → of_get h ≡ More → ⊥
unfolding of_get
get_more h = if_more (at_data h) _ _ (ready_more Dump) (pairs_more _ _ _ _)

sound_short : (h : Head) (behind : List ℕ) (get short : Bool) → is_get h ≡ get → ltb (length behind) (body_length h) ≡ short
    → first_due (head_checks h) ≡ None → of_sound_head h behind ≡ More → length behind < 4194304
sound_short h behind true short gets is due more = absurd (get_more h (sym (cond-true _ _ _ gets) ∙ more))
sound_short h behind false true posts is due more = omega (arith, ltb-true (length behind) (body_length h) is, sound_length h due posts)
sound_short h behind false false posts is due more = absurd (body_more h _ (sym (cond-false _ _ _ posts ∙ cond-false _ _ _ is) ∙ more))

due_short : (h : Head) (due : Option Fixed) (behind : List ℕ) → first_due (head_checks h) ≡ due
    → unless_due due (of_sound_head h behind) ≡ More → length behind < 4194304
due_short h None behind is more = sound_short h behind (is_get h) (ltb (length behind) (body_length h)) refl refl is more
due_short h (Some fixed) behind is more = absurd (refused_more fixed more)

reading_short : (reading : Option Head) (behind : List ℕ) → of_reading reading behind ≡ More → length behind < 4194304
reading_short None behind more = absurd (refused_more BadRequest more)
reading_short (Some h) behind more = due_short h (first_due (head_checks h)) behind refl more

short_by_end : (bytes : List ℕ) (end : Option ℕ) → head_end bytes ≡ end → (reading : Option Head) → More ≡ outcome_at end reading bytes → length bytes < 4210688
short_by_end bytes None none reading is = by_length (leb head_limit (length bytes)) refl
  where
    by_length : (long : Bool) → leb head_limit (length bytes) ≡ long → length bytes < 4210688
    by_length true long = absurd (refused_more HeadTooLarge (sym (is ∙ cond-true _ _ _ long)))
    by_length false short = omega (arith, leb-false head_limit (length bytes) short)
short_by_end bytes (Some end) ends reading is =
    omega (arith, reading_short reading (drop end bytes) (sym is), head_end_short bytes end ends, length-drop end bytes)

pub more_is_short : (bytes : List ℕ) → IsRequestOf bytes More → length bytes < 4210688
more_is_short bytes h =
    let r = parts_of bytes More h in
    short_by_end bytes (head_end bytes) refl r.reading r.is
