-- What a reply is built of.
use Rattle.std.proofs.Common.{◌≡◌, ◌∙◌, ap, refl, ℕ, List, ◌++◌, length, append_assoc}
use Rattle.qs_http.specs.declared.media.Media.{Media}
use Rattle.qs_http.specs.Reply.{phrase_of, status_line, closing, with_body, reply_of}
use Rattle.qs_http.specs.inner.Reply.{body_fields, head_of}

-- three parts after what stands there
pub three_parts : (a w x y b c d : List ℕ) → b ≡ a ++ w → c ≡ b ++ x → d ≡ c ++ y → d ≡ a ++ (w ++ x ++ y)
three_parts a w x y b c d b_is c_is d_is = rw (d_is, c_is, b_is) (simp append_assoc)

body_is : (media : Media) (body : List ℕ) → body_fields media (length body) ++ body ≡ with_body media body
unfolding body_fields with_body
body_is media body = refl

-- a head and the body
pub head_and_body : (status : ℕ) (media : Media) (body : List ℕ) → head_of status media (length body) ++ body ≡ reply_of status media body
unfolding head_of reply_of
head_and_body status media body =
    append_assoc (status_line (status, phrase_of status) ++ closing) (body_fields media (length body)) body
    ∙ ap (λ (l : List ℕ). status_line (status, phrase_of status) ++ closing ++ l) (body_is media body)
