use Rattle.std.proofs.Common.{◌≡◌, ◌+◌, ◌-◌, ◌++◌, [], length, sym, ◌∙◌, ap, arith, None, List, ℕ, encode_utf8}
use Rattle.std.specs.Char.{len_utf8}
use Rattle.qs_lex_regular.proofs.Scan.{sizes_first, sizes_step, scan_dead, scan_step, scan_end}
use Rattle.qs_lex.specs.inner.State.{left}
use Rattle.qs_lex.proofs.Begin.{scan_empty, scan_nowhere}
use Rattle.qs_lex.proofs.Passing.{goes_on, one_less}
use Rattle.qs_lex.proofs.Prefix.{scan_begun}
use Rattle.qs_lex.proofs.longest.longest.Goals as goal
use Rattle.qs_lex.proofs.longest.longest.Goals.{After-past-left-in-states}

pub returns-in_default : goal.returns-in_default
returns-in_default c = scan_empty _ _ c.chars-rest.ensures.rest c.in_default.ensures.steps.0.0

pub returns-in_default-begin : goal.returns-in_default-begin
returns-in_default-begin c = scan_nowhere _ _ _ c.in-Some.first c.utf8.text c.chars-rest.ensures.rest c.in-Some.ensures.steps.0 c.in_default-begin.ensures

pub states-init : goal.states-init
states-init c =
    let front = c.in-Some.ensures.steps.0 ∙ ap (λ (z : List ℕ). encode_utf8 c.in-Some.first ++ z) (sym c.as_str.ensures) in
    let sizes : len_utf8 c.in-Some.first + length c.as_str.result.now ≡ length c.args.text.now = sizes_first _ _ _ c.in-Some.first c.chars-rest.ensures.rest front in
    record {
      text = c.past-left.utf8;
      utf8 = c.past-left.utf8;
      len = omega (arith, c.past-left.ensures.len, sizes);
      found = goes_on _ (left c.in-Some-begin.begun) c.as_str.result.now c.past-left.result.now (len_utf8 c.in-Some.first) (length c.args.text.now) None
          (scan_begun _ _ _ c.in-Some.first (left c.in-Some-begin.begun) c.args.no_prefix c.utf8.text c.chars-rest.ensures.rest front c.requires c.in-Some-begin.ensures)
          c.past-left.ensures.found sizes c.past-left.ensures.len;
    }

pub returns-in_default-next : goal.returns-in_default-next
returns-in_default-next c =
    c.kept-found.ensures ∙ scan_end _ _ [] 0 _ _ _ c.states.invariant.found (ap length (sym c.chars-ahead.ensures.rest) ∙ c.in_default-next.ensures.steps.0.0)

pub returns-in_default-step : goal.returns-in_default-step
returns-in_default-step c =
    c.kept-found.ensures ∙ scan_dead _ _ _ c.in-Some-next.c _ _ _ c.states.invariant.found c.states.invariant.utf8 (sym c.chars-ahead.ensures.rest ∙ c.in-Some-next.ensures.steps.0) c.in_default-step.ensures

front : (c : After-past-left-in-states) → c.states.left.now ≡ encode_utf8 c.in-Some-next.c ++ c.as_str-in-states.result.now
front c = sym c.chars-ahead.ensures.rest ∙ (c.in-Some-next.ensures.steps.0 ∙ ap (λ (z : List ℕ). encode_utf8 c.in-Some-next.c ++ z) (sym c.as_str-in-states.ensures))

pub states-preserved : goal.states-preserved
states-preserved c =
    let f = front c in
    let before : length c.args.text.now - length c.states.left.now + length c.states.left.now ≡ length c.args.text.now = omega (arith, c.states.invariant.len) in
    let sizes = sizes_step _ _ c.in-Some-next.c _ _ before f in
    record {
      text = c.past-left-in-states.utf8;
      utf8 = c.past-left-in-states.utf8;
      len = omega (arith, c.past-left-in-states.ensures.len, sizes);
      found = rw c.kept-found.ensures
          (goes_on _ (left c.in-Some-step.next) c.as_str-in-states.result.now c.past-left-in-states.result.now (length c.args.text.now - length c.states.left.now + len_utf8 c.in-Some-next.c) (length c.args.text.now) _
          (scan_step _ _ _ c.in-Some-next.c (left c.states.state) _ c.states.found c.states.invariant.found (left c.in-Some-step.next) c.states.invariant.utf8 f c.in-Some-step.ensures)
          c.past-left-in-states.ensures.found sizes c.past-left-in-states.ensures.len);
    }

pub states-smaller : goal.states-smaller
states-smaller c = one_less _ _ _ c.in-Some-next.c (front c) c.past-left-in-states.ensures.len
