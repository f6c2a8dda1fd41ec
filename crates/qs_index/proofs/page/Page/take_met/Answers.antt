use Rattle.std.proofs.Common.{◌≡◌, ◌+◌, ◌<◌, [], length, get_or, set, arith, sym, ap, ◌∙◌, subst}
use Rattle.std.specs.Str.{bytes_eq}
use Rattle.std.proofs.lemmas.List.{get_or_read}
use Rattle.qs_index.proofs.Leaving.{IsPassing, passing_end, passing_hit, passing_miss}
use Rattle.qs_index.proofs.page.Page.take_met.Goals.{then-met-entries+then-is_same, else-met-entries, else-met-entries-via-then-met-entries+else-is_same, else-met-entries-via-else-met-entries}
use Rattle.qs_index.proofs.page.Page.take_met.Goals as goal

pub loop-at-preserved : goal.loop-at-preserved
loop-at-preserved c =
    let u = c.loop-at.invariant.passing in
    let from = c.args.from in
    let old = c.args.self.now in
    let es = c.args.entries.now in
    let at = c.loop-at.at in
    let kept = c.loop-at.kept in
    let met = c.loop-at.met in
    let now = c.loop-at.self-inside.entries.items in
    let same = ap length c.self.view_is in
    let within : at < length now = omega (arith, c.loop-at-test.true, c.len-at-end.ensures, u.long) in
    let read : c.index.result.now ≡ get_or now at [] = get_or_read now at c.index.result.now within c.index.ensures [] in
    elim c.if-met-entries.branch [
      | then-met-entries+then-is_same w ↦ rw (w.met-is, w.kept-is, w.self-inside-is) record {
        passing = passing_hit from old es at kept met now u within w.if-met-entries.true (ap (λ r. bytes_eq r (get_or es met [])) (sym read) ∙ sym w.if-is_same.ensures);
      }
      | else-met-entries w ↦ rw (w.met-is, w.kept-is, w.self-inside-is) record {
        passing = subst (λ r. IsPassing from old es (at + 1) (kept + 1) met (set now kept r)) (sym read) (elim w.else-met-entries.branch [
          | else-met-entries-via-then-met-entries+else-is_same w' ↦ passing_miss from old es at kept met now u within w'.if-met-entries.true (ap (λ r. bytes_eq r (get_or es met [])) (sym read) ∙ sym w'.if-is_same.ensures)
          | else-met-entries-via-else-met-entries w' ↦ passing_end from old es at kept met now u within w'.if-met-entries.false
        ]);
      }
    ]
