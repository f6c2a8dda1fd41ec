use Rattle.std.proofs.Common.{◌≡◌, ◌∙◌, refl, inl, true, false, Bool, List, ℕ}
use Rattle.std.specs.Str.{IsUtf8, is_utf8}
use Rattle.std.proofs.lemmas.Str.{IsUtf8-from_is_utf8, is_utf8-from_IsUtf8}
use Rattle.qs_http.proofs.conclude.text_of.Goals as goal

not_text : (bytes : List ℕ) → (IsUtf8 bytes → ⊥) → (b : Bool) → is_utf8 bytes ≡ b → is_utf8 bytes ≡ false
not_text bytes never true is = absurd (never (IsUtf8-from_is_utf8 bytes is))
not_text bytes never false is = is

pub returns-in_default : goal.returns-in_default
returns-in_default c = inl (not_text c.args.bytes.now c.in_default.ensures.cases.0 _ refl, refl)

pub returns-in-Ok-new : goal.returns-in-Ok-new
returns-in-Ok-new c = (is_utf8-from_IsUtf8 _ c.in-Ok.ensures.cases.1, c.in-Ok-new.ensures ∙ c.in-Ok.ensures.cases.0)
