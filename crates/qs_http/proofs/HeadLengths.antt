-- The longest head has 142 bytes: 36 and 19 of the first lines, 47 and 38 of the fields of the body, and 2 of the empty line.
use Rattle.std.proofs.Common.{◌≡◌, ◌≤◌, ◌<◌, ◌+◌, ◌^◌, ℕ, List, [], ◌++◌, length, codes, sym, subst, inl, inr, lit≤, lit<, arith, length-append}
use Rattle.std.specs.Fmt.{decimal, digits}
use Rattle.std.proofs.lemmas.Fmt.{length-decimal-le}
use Rattle.qs_http.specs.Reply.{line, phrase_of, media_text, status_line, closing}
use Rattle.qs_http.specs.inner.Reply.{body_fields, head_of}
use Rattle.qs_http.specs.inner.Reply.{IsReplyStatus}
use Rattle.qs_http.specs.declared.media.Media.{Media}
use Rattle.qs_http.specs.declared.media.Media.TheVariants.{Results, NTriples, NQuads, Text}

status_length : (status : ℕ) → IsReplyStatus status → length (status_line (status, phrase_of status)) ≤ 36
unfolding status_line digits
status_length status (inl ok) = subst (λ (n : ℕ). length (status_line (n, phrase_of n)) ≤ 36) (sym ok) (lit≤ tt)
status_length status (inr (inl bad)) = subst (λ (n : ℕ). length (status_line (n, phrase_of n)) ≤ 36) (sym bad) (lit≤ tt)
status_length status (inr (inr error)) = subst (λ (n : ℕ). length (status_line (n, phrase_of n)) ≤ 36) (sym error) (lit≤ tt)

closing_length : length closing ≤ 19
unfolding closing
closing_length = lit≤ tt

type_length : (media : Media) → length (line (codes "Content-Type: " ++ media_text media)) ≤ 47
type_length Results = lit≤ tt
type_length NTriples = lit≤ tt
type_length NQuads = lit≤ tt
type_length Text = lit≤ tt

line_length : (name value : List ℕ) → length (line (name ++ value)) ≡ length name + length value + 2
line_length name value = simp length-append

size_length : (size : ℕ) → size < 2 ^ 64 → length (line (codes "Content-Length: " ++ decimal size)) ≤ 38
size_length size fits =
    let few : length (decimal size) ≤ 20 = length-decimal-le 20 size (lit< tt) (omega arith) fits in
    let parts : length (line (codes "Content-Length: " ++ decimal size)) ≡ 16 + length (decimal size) + 2 = line_length (codes "Content-Length: ") (decimal size) in
    omega arith

parts_length : (a b c d e : List ℕ) → length (a ++ b ++ (c ++ d ++ e)) ≡ length a + length b + (length c + length d + length e)
parts_length a b c d e = simp length-append

pub head_fits : (status : ℕ) (media : Media) (size : ℕ) → IsReplyStatus status → size < 2 ^ 64 → length (head_of status media size) ≤ 160
unfolding head_of body_fields
head_fits status media size is fits =
    let parts = parts_length (status_line (status, phrase_of status)) closing (line (codes "Content-Type: " ++ media_text media)) (line (codes "Content-Length: " ++ decimal size)) (line []) in
    let first = status_length status is in
    let second = closing_length in
    let third = type_length media in
    let fourth = size_length size fits in
    omega arith
