use Rattle.std.proofs.Common.{◌∙◌, ap, sym, ℕ, inl, inr}
use Rattle.std.specs.Fmt.{digits}
use Rattle.qs_http.specs.Reply.{status_line, phrase_of}
use Rattle.qs_http.proofs.replies.status_text.Goals as goal

pub returns-then-code-eq200 : goal.returns-then-code-eq200
unfolding status_line digits
returns-then-code-eq200 c = ap (λ (n : ℕ). status_line (n, phrase_of n)) (sym c.if-code-eq200.true ∙ c.as_u16-code.ensures.value)

pub returns-then-code-eq400 : goal.returns-then-code-eq400
unfolding status_line digits
returns-then-code-eq400 c = ap (λ (n : ℕ). status_line (n, phrase_of n)) (sym c.if-code-eq400.true ∙ c.as_u16-code.ensures.value)

pub returns-else-code-eq400 : goal.returns-else-code-eq400
unfolding status_line digits
returns-else-code-eq400 c =
    elim c.requires [
      | inl ok ↦ absurd (c.if-code-eq200.false (c.as_u16-code.ensures.value ∙ ok))
      | inr other ↦ elim other [
        | inl bad ↦ absurd (c.if-code-eq400.false (c.as_u16-code.ensures.value ∙ bad))
        | inr error ↦ ap (λ (n : ℕ). status_line (n, phrase_of n)) (sym error)
      ]
    ]
