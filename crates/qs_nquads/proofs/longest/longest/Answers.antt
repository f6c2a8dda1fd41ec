use Rattle.std.proofs.Common.{sym, ◌∙◌, [], arith, add_assoc}
use Rattle.std.proofs.lemmas.Str.{IsUtf8-past_char}
use Rattle.qs_nquads.specs.inner.State.{left}
use Rattle.qs_nquads.proofs.Begin.{scan_empty, scan_nowhere, scan_first}
use Rattle.qs_nquads.proofs.Runs.{behind_utf8, behind_size, behind_best}
use Rattle.qs_lex_regular.proofs.Scan.{sizes_first, sizes_step, scan_dead, scan_step, scan_end}
use Rattle.qs_nquads.proofs.longest.longest.Goals as goal

pub returns-in_default : goal.returns-in_default
returns-in_default c = scan_empty _ _ c.chars-whole.ensures.rest c.in_default.ensures.steps.0.0

pub returns-in_default-start : goal.returns-in_default-start
returns-in_default-start c = scan_nowhere _ _ _ c.in-Some.first c.utf8.text c.chars-whole.ensures.rest c.in-Some.ensures.steps.0 c.in_default-start.ensures

pub chars-init : goal.chars-init
chars-init c =
    let front = c.in-Some.ensures.steps.0 in
    let run = c.behind_run-run.ensures in
    let utf8 = IsUtf8-past_char c.args.text.now _ c.in-Some.first c.utf8.text (sym c.chars-whole.ensures.rest ∙ front) in
    let first = sizes_first _ _ _ c.in-Some.first c.chars-whole.ensures.rest front in
    let size = behind_size _ _ _ _ _ _ run.run c.as_str.ensures run.rest c.chars-rest.ensures.rest in
    record {
      utf8 = behind_utf8 _ _ _ _ _ _ run.run c.as_str.ensures run.rest c.chars-rest.ensures.rest utf8;
      sizes = omega (arith, c.len_utf8.ensures.value, first, size);
      found = rw c.len_utf8.ensures.value (scan_first _ _ _ c.in-Some.first (left c.in-Some-start.begun) c.utf8.text c.chars-whole.ensures.rest front c.in-Some-start.ensures
          ∙ behind_best _ _ _ _ _ _ run.run c.as_str.ensures run.rest c.chars-rest.ensures.rest _ _);
    }

pub returns-in_default-step : goal.returns-in_default-step
returns-in_default-step c =
    c.kept-found.ensures ∙ scan_dead _ _ _ c.in-Some-next.c _ _ _ c.chars.invariant.found c.chars.invariant.utf8 c.in-Some-next.ensures.steps.0 c.in_default-step.ensures

pub chars-preserved : goal.chars-preserved
chars-preserved c =
    let front = c.in-Some-next.ensures.steps.0 in
    let run = c.behind_run-run-in-Some-next.ensures in
    let shown = c.as_str-in-Some-next.ensures in
    let rest = c.chars-rest-in-Some-next.ensures.rest in
    let step = sizes_step _ _ c.in-Some-next.c _ _ c.chars.invariant.sizes front in
    let size = behind_size _ _ _ _ _ _ run.run shown run.rest rest in
    record {
      utf8 = behind_utf8 _ _ _ _ _ _ run.run shown run.rest rest (IsUtf8-past_char _ _ c.in-Some-next.c c.chars.invariant.utf8 front);
      sizes = omega (arith, c.len_utf8-in-Some-next.ensures.value, step, size);
      found = rw (c.len_utf8-in-Some-next.ensures.value, c.kept-found.ensures, ← add_assoc)
          (scan_step _ _ _ c.in-Some-next.c (left c.chars.state) c.chars.len c.chars.found c.chars.invariant.found (left c.in-Some-step.next) c.chars.invariant.utf8 front c.in-Some-step.ensures
          ∙ behind_best _ _ _ _ _ _ run.run shown run.rest rest _ _);
    }

pub returns : goal.returns
returns c = c.kept.ensures ∙ scan_end _ _ [] 0 _ _ _ c.chars.invariant.found c.in_default-next.ensures.steps.0.0
