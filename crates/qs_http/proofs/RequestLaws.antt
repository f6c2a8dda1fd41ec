-- The bytes result in one thing, and it stays once it has come.
use Rattle.std.proofs.Common.{◌≡◌, ◌∙◌, ap, sym, refl, ℕ, List, [], take, Option, None, Some, arith}
use Rattle.httparse.proofs.GrammarLemmas.{request_unique}
use Rattle.qs_http.specs.Outcome.{Outcome, More, Refused}
use Rattle.qs_http.specs.HeadEnd.{head_end, head_limit, without_leading}
use Rattle.qs_http.specs.Head.{Head, plain_head}
use Rattle.qs_http.specs.RequestOf.{IsReading, IsRequestOf, of_reading}
use Rattle.qs_http.specs.inner.RequestOf.{ReadsHead, outcome_at, RequestParts}
use Rattle.std.specs.Prelude.{MatchOption, nat_le, if◌then◌else◌, length, drop}
use Rattle.qs_http.specs.declared.fixed_reply.Fixed.TheVariants.{HeadTooLarge}

pub reading_unique : (bytes : List ℕ) (a b : Option Head) → IsReading bytes a → IsReading bytes b → a ≡ b
reading_unique bytes None None x y = refl
reading_unique bytes None (Some b) x y = absurd (omega (arith, x y.0 y.1, y.2))
reading_unique bytes (Some a) None x y = absurd (omega (arith, y x.0 x.1, x.2))
reading_unique bytes (Some a) (Some b) x y =
    let same = request_unique bytes x.0 y.0 [] [] x.1 y.1 in
    ap (λ (h : Head). Some h) (x.3 ∙ ap plain_head same.0 ∙ sym y.3)

pub head_reading_unique : (bytes : List ℕ) (end : Option ℕ) (a b : Option Head) → ReadsHead bytes end a → ReadsHead bytes end b → a ≡ b
head_reading_unique bytes None a b x y = x ∙ sym y
head_reading_unique bytes (Some end) a b x y = reading_unique (without_leading (take end bytes)) a b x y

module _ (bytes : List ℕ) (outcome : Outcome) where
  pub parts_of : IsRequestOf bytes outcome → RequestParts bytes outcome
  unfolding IsRequestOf
  parts_of h = let parts = at (head_end bytes) h in record { reading = parts.0; reads = parts.1; is = parts.2 }
    where
      at : (end : Option ℕ)
          → MatchOption end (outcome ≡ (if nat_le head_limit (length bytes) then Refused HeadTooLarge else More)) (λ e. (reading : Option Head) × IsReading (without_leading (take e bytes)) reading × (outcome ≡ of_reading reading (drop e bytes)))
          → (reading : Option Head) × ReadsHead bytes end reading × (outcome ≡ outcome_at end reading bytes)
      at None h = (None, refl, h)
      at (Some e) h = h

  pub of_parts : RequestParts bytes outcome → IsRequestOf bytes outcome
  unfolding IsRequestOf
  of_parts parts = at (head_end bytes) parts.reading parts.reads parts.is
    where
      at : (end : Option ℕ) (reading : Option Head) → ReadsHead bytes end reading → outcome ≡ outcome_at end reading bytes
          → MatchOption end (outcome ≡ (if nat_le head_limit (length bytes) then Refused HeadTooLarge else More)) (λ e. (reading : Option Head) × IsReading (without_leading (take e bytes)) reading × (outcome ≡ of_reading reading (drop e bytes)))
      at None reading reads is = is
      at (Some e) reading reads is = (reading, reads, is)

pub request_of_unique : (bytes : List ℕ) (a b : Outcome) → IsRequestOf bytes a → IsRequestOf bytes b → a ≡ b
request_of_unique bytes a b h k =
    let x = parts_of bytes a h in
    let y = parts_of bytes b k in
    x.is ∙ ap (λ (r : Option Head). outcome_at (head_end bytes) r bytes) (head_reading_unique bytes (head_end bytes) x.reading y.reading x.reads y.reads)
    ∙ sym y.is
