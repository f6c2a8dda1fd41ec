use Rattle.std.proofs.Common.{◌≡◌, length, ap, sym, ◌∙◌, rules, ℕ, List}
use Rattle.std.specs.Ordering.{nat_cmp}
use Rattle.std.specs.Cmp.Lexicographic.{slice_cmp}
use Rattle.std.specs.BTreeMap.{get}
use Rattle.qs_syntax_scope.specs.Names.{Name}
use Rattle.qs_syntax_scope.specs.Places.{place_of}
use Rattle.qs_syntax_scope.specs.inner.Places.{first_with}
use Rattle.qs_syntax_scope.proofs.FirstPlace.{first_place}
use Rattle.qs_syntax_scope.proofs.name_list.NameList.place.Goals as goal

pub returns : goal.returns
returns c =
    let name = c.args.name.now in
    let names = c.self.inside.names.items in
    let places = get (slice_cmp nat_cmp) c.self.inside.index in
    let last : c.len-last.result ≡ length names = search (rules, c.len-last.ensures) in
    let is : c.first_place.result ≡ first_with (length names) (places name) =
    c.first_place.ensures ∙ ap (λ (l : ℕ). first_with l (places c.new.result)) last ∙ ap (λ (n : Name). first_with (length names) (places n)) c.new.ensures in
    let whole : c.first_place.result ≡ place_of names name = is ∙ sym (first_place names places c.self.invariant name) in
    whole ∙ ap (λ (l : List Name). place_of l name) c.self.view_is
