-- What a session holds, and what its callers see of it.
use Rattle.std.specs.Prelude.{◌≡◌, ◌≢◌, ◌<◌, ◌≤◌, ◌+◌, ◌⊎◌, ℕ, true, false, List, length, take}
use Rattle.std.specs.Prelude.{Option, None, Some, Result, Ok, Err, ⊤}
use Rattle.std.specs.Str.{is_utf8}
use Rattle.qs_terms.specs.declared.text.Text.{Text}
use Rattle.qs_http.specs.declared.fixed_reply.Fixed.{Fixed}
use Rattle.qs_http.specs.declared.fixed_reply.Fixed.TheVariants.{BadRequest, Memory}
use Rattle.qs_http.specs.declared.head_end.HeadState.TheVariants.{Leading}
use Rattle.qs_http.specs.declared.request.Request.{Request}
use Rattle.qs_http.specs.declared.stage.Step.{Step}
use Rattle.qs_http.specs.declared.stage.Step.TheVariants as step
use Rattle.qs_http.specs.declared.stage.Stage.{Stage}
use Rattle.qs_http.specs.declared.stage.Stage.TheVariants as stage
use Rattle.qs_http.specs.declared.session.Progress.{Progress}
use Rattle.qs_http.specs.declared.session.Progress.TheVariants as progress
use Rattle.qs_http.specs.Outcome.{Outcome, More, Ready, Refused}
use Rattle.qs_http.specs.HeadEnd.{head_end, head_limit, without_leading}
use Rattle.qs_http.specs.inner.HeadState.{place_from}
use Rattle.qs_http.specs.Head.{Head, is_get, body_length}
use Rattle.qs_http.specs.Checks.{first_due, head_checks}
use Rattle.qs_http.specs.RequestOf.{of_reading, IsReading, IsRequestOf}
use Rattle.qs_http.specs.inner.Feeding.{Seen, Reading, Done}

-- a request, a refusal, or no memory was found
abbrev pub IsAnswer : Outcome → Result Request Fixed → Type 0
IsAnswer outcome (Ok request) = outcome ≡ Ready request
IsAnswer outcome (Err fixed) = (outcome ≡ Refused fixed) ⊎ (fixed ≡ Memory)

-- the same of a text, however it is asked
abbrev pub IsText : (List ℕ → Request) → Outcome → Result Text Fixed → Type 0
IsText asks outcome (Ok text) = outcome ≡ Ready (asks text)
IsText asks outcome (Err fixed) = (outcome ≡ Refused fixed) ⊎ (fixed ≡ Memory)

-- the text of bytes that are UTF-8
abbrev pub IsUtf8Text : List ℕ → Result Text Fixed → Type 0
IsUtf8Text bytes (Ok text) = (is_utf8 bytes ≡ true) × (text ≡ bytes)
IsUtf8Text bytes (Err fixed) = ((is_utf8 bytes ≡ false) × (fixed ≡ BadRequest)) ⊎ (fixed ≡ Memory)

abbrev pub step_from : Result Request Fixed → Step
step_from (Ok request) = step.Ready request
step_from (Err fixed) = step.Refused fixed

-- what a head results in with those bytes after it, or no memory was found
abbrev pub IsHeadStep : Head → List ℕ → Step → Type 0
IsHeadStep h behind (step.More size) =
    (first_due (head_checks h) ≡ None) × (is_get h ≡ false) × (body_length h ≡ size)
    × (length behind < size) × (size ≤ 4194304)
IsHeadStep h behind (step.Ready request) = of_reading (Some h) behind ≡ Ready request
IsHeadStep h behind (step.Refused fixed) =
    (of_reading (Some h) behind ≡ Refused fixed) ⊎ (fixed ≡ Memory)

-- the head ends there, passes its checks, and announces a body of that length
pub record AwaitsBody (bytes : List ℕ) (end size : ℕ) : Type 0 where
  pub ends : head_end bytes ≡ Some end
  pub head : Head
  pub reads : IsReading (without_leading (take end bytes)) (Some head)
  pub sound : first_due (head_checks head) ≡ None
  pub posts : is_get head ≡ false
  pub size_is : body_length head ≡ size

-- what the bytes result in, or no memory was found for it
abbrev pub IsStep : List ℕ → ℕ → Step → Type 0
IsStep bytes end (step.More size) = AwaitsBody bytes end size × (length bytes < end + size)
    × (size ≤ 4194304) × (end ≤ head_limit)
IsStep bytes end (step.Ready request) = IsRequestOf bytes (Ready request)
IsStep bytes end (step.Refused fixed) = IsRequestOf bytes (Refused fixed) ⊎ (fixed ≡ Memory)

-- what the bytes resulted in, or no memory was found for it
abbrev pub EndsAt : List ℕ → Seen → Type 0
EndsAt bytes seen =
    ((outcome : Outcome) × IsRequestOf bytes outcome × (outcome ≢ More) × (seen ≡ Done outcome))
    ⊎ (seen ≡ Done (Refused Memory))

-- what a stage keeps true
abbrev pub IsStage : Stage → Type 0
IsStage (stage.Head bytes place) =
    (head_end bytes.items ≡ None) × (length bytes.items < head_limit)
    × (place ≡ place_from Leading bytes.items)
IsStage (stage.Body bytes end size) = AwaitsBody bytes.items end size
    × (length bytes.items < end + size) × (size ≤ 4194304) × (end ≤ head_limit)
IsStage (stage.Ready request) = ⊤
IsStage (stage.Refused fixed) = ⊤

abbrev pub seen_of : Stage → Seen
seen_of (stage.Head bytes place) = Reading bytes.items
seen_of (stage.Body bytes end size) = Reading bytes.items
seen_of (stage.Ready request) = Done (Ready request)
seen_of (stage.Refused fixed) = Done (Refused fixed)

-- how far the request has come
abbrev pub progress_of : Seen → Progress
progress_of (Reading bytes) = progress.More
progress_of (Done More) = progress.More
progress_of (Done (Ready request)) = progress.Ready
progress_of (Done (Refused fixed)) = progress.Refused fixed

-- the request, where it is ready
abbrev pub request_in : Seen → Option Request
request_in (Reading bytes) = None
request_in (Done More) = None
request_in (Done (Ready request)) = Some request
request_in (Done (Refused fixed)) = None
