use Rattle.std.proofs.Common.{rules, ◌≡◌, true}
use Rattle.std.specs.Str.{bytes_eq}
use Rattle.std.proofs.lemmas.Slice.Eq.{bytes_eq-Decides}
use Rattle.qs_terms.specs.Literal.{rdf_lang_string}
use Rattle.qs_terms.specs.Tag.{is_tag}
use Rattle.qs_terms.proofs.Lowered.{both_true, is_lower_tag-lowered}
use Rattle.qs_terms.proofs.literal.Lit.with_tag.Goals as goal

pub of_parts-requires : goal.of_parts-requires
of_parts-requires c =
    let is_datatype : bytes_eq c.from-datatype.result rdf_lang_string ≡ true = (bytes_eq-Decides _ _).1 c.from-datatype.ensures in
    let is_a_tag : is_tag c.args.tag ≡ true = search rules in
    rw c.make_ascii_lowercase.ensures (both_true _ _ is_datatype (is_lower_tag-lowered c.args.tag is_a_tag))
