-- A parsed head, as the code holds it: the bytes, and the places in them.
use Rattle.std.specs.Prelude.{◌≡◌, ◌≤◌, ℕ, List, length, map, filter, take, All, Option, None}
use Rattle.std.specs.Prelude.{Some}
use Rattle.std.specs.Str.{str_eq_ignore_ascii_case}
use Rattle.httparse.specs.declared.spans.HeaderSpan.{HeaderSpan}
use Rattle.httparse.specs.declared.spans.RequestSpans.{RequestSpans}
use Rattle.httparse.specs.Spans.{span_bytes, header_bytes, IsWithin, IsHeaderWithin}
use Rattle.qs_http.specs.declared.head.Head.{Head as View}
use Rattle.qs_http.specs.declared.head.Values.{Values}
use Rattle.qs_http.specs.Head.{Head, first_of}
use Rattle.qs_http.specs.RequestOf.{IsReading}

-- the head that the spans cover
abbrev pub plain : View → Head
plain h = record {
  method = span_bytes h.bytes.now h.spans.method;
  target = span_bytes h.bytes.now h.spans.path;
  minor = h.spans.version;
  fields = map (header_bytes h.bytes.now) h.fields.now;
}

-- the spans lie in the bytes
pub record IsSound (h : View) : Type 0 where
  pub method : IsWithin (length h.bytes.now) h.spans.method
  pub path : IsWithin (length h.bytes.now) h.spans.path
  pub fields : All (IsHeaderWithin (length h.bytes.now)) h.fields.now
  pub few : length h.fields.now ≤ 64

-- how many there are, and the first
pub record AreValues (found : Values) (values : List (List ℕ)) : Type 0 where
  pub count : found.count ≡ length values
  pub first : found.first.now ≡ first_of values

-- the head that the parser's answer covers
abbrev pub head_at : List ℕ → RequestSpans → List HeaderSpan → Head
head_at bytes spans fields = record {
  method = span_bytes bytes spans.method;
  target = span_bytes bytes spans.path;
  minor = spans.version;
  fields = map (header_bytes bytes) (take spans.headers fields);
}

-- how the bytes read, as the parser answers it
abbrev pub ReadsAs : List ℕ → List HeaderSpan → Option RequestSpans → Type 0
ReadsAs bytes fields None = IsReading bytes None
ReadsAs bytes fields (Some spans) = IsReading bytes (Some (head_at bytes spans fields))

-- the values of those of the fields that have that name, ASCII case aside
unfoldable pub values_in : List ℕ → List (List ℕ × List ℕ) → List (List ℕ)
values_in name fields = map (λ f. f.1) (filter (λ f. str_eq_ignore_ascii_case name f.0) fields)
