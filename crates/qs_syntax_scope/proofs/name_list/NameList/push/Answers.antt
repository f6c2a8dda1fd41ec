use Rattle.std.proofs.Common.{rules, ◌≡◌, [], ◌∷◌, ◌++◌, length, Some, cond, ap, refl, ◌∙◌}
use Rattle.std.specs.Ordering.{nat_cmp}
use Rattle.std.specs.Cmp.Lexicographic.{slice_cmp}
use Rattle.std.specs.BTreeMap.{get, is_at}
use Rattle.qs_syntax_scope.specs.Names.{Name}
use Rattle.qs_syntax_scope.specs.inner.Places.{first_with}
use Rattle.qs_syntax_scope.specs.declared.name_list.Places.{Places}
use Rattle.qs_syntax_scope.proofs.PlacesKept.{index_with, with_name}
use Rattle.qs_syntax_scope.proofs.name_list.NameList.push.Goals as goal

pub invariant_of-self-in-Ok : goal.invariant_of-self-in-Ok
invariant_of-self-in-Ok c =
    let name = c.args.name.now in
    let names = c.self.inside.names.items in
    let old = get (slice_cmp nat_cmp) c.self.inside.index in
    let place : c.len-place.result ≡ length names = search (rules, c.len-place.ensures) in
    let places : Places = record { first = first_with (length names) (old name); last = length names } in
    let items : c.push.new.self.items ≡ names ++ name ∷ [] = with_name names c.in_ok-push.ensures.items c.new.ensures in
    let updated : (q : Name) → get (slice_cmp nat_cmp) c.meet.new.index q ≡ cond (is_at (slice_cmp nat_cmp name) q) (Some places) (old q) =
    λ q. c.in-Ok.ensures.met.0 q
    ∙ ap (λ k. cond (is_at (slice_cmp nat_cmp k) q) (Some (record { first = first_with c.len-place.result (old k); last = c.len-place.result })) (old q)) c.key_of.ensures
    ∙ ap (λ n. cond (is_at (slice_cmp nat_cmp name) q) (Some (record { first = first_with n (old name); last = n })) (old q)) place in
    rw items (index_with names name old (get (slice_cmp nat_cmp) c.meet.new.index) c.self.invariant places refl refl updated)
