use Rattle.std.proofs.Common.{◌≡◌, ◌∙◌, ◌++◌, ℕ, List, IsUtf8, ap, sym, subst}
use Rattle.qs_nquads.specs.Written.{nquads_of}
use Rattle.qs_nquads.proofs.WholeText.{written_utf8}
use Rattle.qs_nquads.proofs.output.text.Goals as goal

pub unreachable-requires : goal.unreachable-requires
unreachable-requires c =
    let same : c.in_ok-bytes.bytes.items ≡ nquads_of c.args.quads.now = c.in_ok-bytes.ensures ∙ ap (λ (l : List ℕ). l ++ nquads_of c.args.quads.now) c.new.ensures.items in
    let ok = c.from_utf8.ensures.succeeds (subst IsUtf8 (sym same) (written_utf8 c.args.quads.now c.lawful_quads.ensures)) in
    cc (rw c.in-Err.is at ok)

pub returns : goal.returns
returns c =
    ap (λ v. v.items) c.in-Ok.ensures.ok ∙ (c.in_ok-bytes.ensures ∙ ap (λ (l : List ℕ). l ++ nquads_of c.args.quads.now) c.new.ensures.items)
