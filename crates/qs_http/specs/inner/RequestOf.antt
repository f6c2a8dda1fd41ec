-- Words over those of `RequestOf`.
use Rattle.std.specs.Prelude.{◌≡◌, ℕ, List, length, take, drop, nat_le, if◌then◌else◌, Option, None}
use Rattle.std.specs.Prelude.{Some, option_map, unwrap_or}
use Rattle.qs_http.specs.declared.fixed_reply.Fixed.{Fixed}
use Rattle.qs_http.specs.declared.fixed_reply.Fixed.TheVariants.{HeadTooLarge}
use Rattle.qs_http.specs.Outcome.{Outcome, More, Refused}
use Rattle.qs_http.specs.Head.{Head}
use Rattle.qs_http.specs.HeadEnd.{head_end, head_limit, without_leading}
use Rattle.qs_http.specs.RequestOf.{IsReading, of_reading}

-- the refusal that is due, or else this
abbrev pub unless_due : Option Fixed → Outcome → Outcome
unless_due due outcome = unwrap_or (option_map Refused due) outcome

-- the first check: the head ends within its limit
abbrev pub outcome_at : Option ℕ → Option Head → List ℕ → Outcome
outcome_at None r bytes = if nat_le head_limit (length bytes) then Refused HeadTooLarge else More
outcome_at (Some end) r bytes = of_reading r (drop end bytes)

-- how the head reads, where it has ended
abbrev pub ReadsHead : List ℕ → Option ℕ → Option Head → Type 0
ReadsHead bytes None reading = reading ≡ None
ReadsHead bytes (Some end) reading = IsReading (without_leading (take end bytes)) reading

-- the bytes result in this, in parts
pub record RequestParts (bytes : List ℕ) (outcome : Outcome) : Type 0 where
  pub reading : Option Head
  pub reads : ReadsHead bytes (head_end bytes) reading
  pub is : outcome ≡ outcome_at (head_end bytes) reading bytes
