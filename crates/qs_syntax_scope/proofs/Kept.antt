-- The patterns of a group one after another keep the rules exactly where the group does: by induction on the group.
use Rattle.std.proofs.Common.{◌≡◌, Bool, true, false, ◌&&◌, ◌||◌, not, List, [], ◌∷◌, ◌++◌, map, refl, sym, ap, ◌∙◌, subst, append_assoc}
use Rattle.std.proofs.lemmas.List.{append-nil}
use Rattle.std.specs.List.{list_all, fold, flat_map}
use Rattle.qs_syntax_ast.specs.declared.pattern.Group.{Group, map-Group, roll-Group, fold-roll-Group, ind-Group}
use Rattle.qs_syntax_ast.specs.declared.pattern.GraphPattern.{GraphPattern, map-GraphPattern, roll-GraphPattern, fold-roll-GraphPattern}
use Rattle.qs_syntax_ast.specs.declared.pattern.GraphPattern.TheOpen as level
use Rattle.qs_syntax_scope.proofs.Plain.{and_true, and_assoc}
use Rattle.qs_syntax_scope.specs.declared.met.Met.{Met}
use Rattle.qs_syntax_scope.specs.Names.{Name, contains}
use Rattle.qs_syntax_scope.specs.Scope.{Scope, scope, in_scope, group_keeps, pattern_scope, group_scope, all_keep}
use Rattle.qs_syntax_scope.specs.Tables.{is_table}
use Rattle.qs_syntax_scope.specs.Variables.{graph_variables}
use Rattle.qs_syntax_scope.specs.inner.Met.{after}
use Rattle.qs_syntax_scope.specs.inner.Scope.{Part, fits, add_part, add_operand, pattern_part, group_parts, scope_of, part, scope_of_pattern}

not_or_false : (b : Bool) → not b ≡ not (b || false)
not_or_false true = refl
not_or_false false = refl

abbrev Same : Scope → Part → Type 0
Same s p = (s.names ≡ p.names) × ((before : List Name) → s.keeps before ≡ fits before p)

abbrev SameGroup : Scope → Met → Type 0
SameGroup s m = (s.names ≡ m.names) × ((before : List Name) → s.keeps before ≡ m.keeps)

abbrev Agrees : GraphPattern → Type 0
Agrees p = Same (scope_of_pattern p) (part p)

abbrev AgreesGroup : Group → Type 0
AgreesGroup g = SameGroup (scope g) (scope_of g)

abbrev Known : Type 0
Known = (p : GraphPattern) × Agrees p

abbrev KnownGroup : Type 0
KnownGroup = (g : Group) × AgreesGroup g

abbrev inner : level.GraphPattern-F Known KnownGroup → level.GraphPattern-F GraphPattern Group
inner y = map-GraphPattern Known KnownGroup GraphPattern Group (λ e. e.0) (λ e. e.0) y

abbrev inner_group : level.Group-F Known KnownGroup → level.Group-F GraphPattern Group
inner_group y = map-Group Known KnownGroup GraphPattern Group (λ e. e.0) (λ e. e.0) y

-- ---- the operands of UNION

operand_names : (m : Met) (es : List KnownGroup) → (fold add_operand m (map scope_of (map (λ e. e.0) es))).names ≡ m.names ++ flat_map (λ (s : Scope). s.names) (map scope (map (λ e. e.0) es))
operand_names m [] = sym (append-nil m.names)
operand_names m (e ∷ es) =
    operand_names (add_operand m (scope_of e.0)) es
    ∙ append_assoc m.names (scope_of e.0).names (flat_map (λ (s : Scope). s.names) (map scope (map (λ e. e.0) es)))
    ∙ ap (λ l. m.names ++ (l ++ flat_map (λ (s : Scope). s.names) (map scope (map (λ e. e.0) es)))) (sym e.1.0)

operands_keep : (m : Met) (es : List KnownGroup) → (fold add_operand m (map scope_of (map (λ e. e.0) es))).keeps ≡ (m.keeps && list_all (λ (s : Scope). s.keeps []) (map scope (map (λ e. e.0) es)))
operands_keep m [] = and_true m.keeps
operands_keep m (e ∷ es) =
    operands_keep (add_operand m (scope_of e.0)) es
    ∙ and_assoc m.keeps (scope_of e.0).keeps (list_all (λ (s : Scope). s.keeps []) (map scope (map (λ e. e.0) es)))
    ∙ ap (λ b. m.keeps && (b && list_all (λ (s : Scope). s.keeps []) (map scope (map (λ e. e.0) es)))) (sym (e.1.1 []))

-- ---- the patterns of a group

part_names : (m : Met) (es : List Known) → (fold add_part m (map part (map (λ e. e.0) es))).names ≡ m.names ++ flat_map (λ (s : Scope). s.names) (map scope_of_pattern (map (λ e. e.0) es))
part_names m [] = sym (append-nil m.names)
part_names m (e ∷ es) =
    part_names (add_part m (part e.0)) es
    ∙ append_assoc m.names (part e.0).names (flat_map (λ (s : Scope). s.names) (map scope_of_pattern (map (λ e. e.0) es)))
    ∙ ap (λ l. m.names ++ (l ++ flat_map (λ (s : Scope). s.names) (map scope_of_pattern (map (λ e. e.0) es)))) (sym e.1.0)

parts_keep : (m : Met) (es : List Known) → (fold add_part m (map part (map (λ e. e.0) es))).keeps ≡ (m.keeps && all_keep m.names (map scope_of_pattern (map (λ e. e.0) es)))
parts_keep m [] = and_true m.keeps
parts_keep m (e ∷ es) =
    parts_keep (add_part m (part e.0)) es
    ∙ and_assoc m.keeps (fits m.names (part e.0)) (all_keep (m.names ++ (part e.0).names) (map scope_of_pattern (map (λ e. e.0) es)))
    ∙ ap (λ b. m.keeps && (b && all_keep (m.names ++ (part e.0).names) (map scope_of_pattern (map (λ e. e.0) es)))) (sym (e.1.1 m.names))
    ∙ ap (λ l. m.keeps && ((scope_of_pattern e.0).keeps m.names && all_keep (m.names ++ l) (map scope_of_pattern (map (λ e. e.0) es)))) (sym e.1.0)

-- ---- one level

level_agrees : (y : level.GraphPattern-F Known KnownGroup)
    → Same (pattern_scope (map-GraphPattern GraphPattern Group Scope Scope scope_of_pattern scope (inner y))) (pattern_part (map-GraphPattern GraphPattern Group Part Met part scope_of (inner y)))
level_agrees (level.Triples ts) = (refl, λ before. refl)
level_agrees (level.Union es) = (sym (operand_names (after []) es), λ before. sym (operands_keep (after []) es) ∙ and_true _)
level_agrees (level.Optional e) = (e.1.0, λ before. e.1.1 before ∙ and_true (scope_of e.0).keeps)
level_agrees (level.Minus e) = (refl, λ before. e.1.1 [] ∙ and_true (scope_of e.0).keeps)
level_agrees (level.Graph n e) = (ap (λ l. graph_variables n ++ l) e.1.0, λ before. e.1.1 [] ∙ and_true (scope_of e.0).keeps)
level_agrees (level.Bind value v) = (refl, λ before. not_or_false (contains before v.name))
level_agrees (level.Values table) = (refl, λ before. and_true (is_table table))

rolled_agrees : (y : level.GraphPattern-F Known KnownGroup) → Agrees (roll-GraphPattern (inner y))
rolled_agrees y =
    let plain = fold-roll-GraphPattern Scope Scope pattern_scope group_scope (inner y) in
    let ordered = fold-roll-GraphPattern Part Met pattern_part group_parts (inner y) in (
      ap (λ (s : Scope). s.names) plain ∙ (level_agrees y).0 ∙ sym (ap (λ (p : Part). p.names) ordered),
      λ before. ap (λ (s : Scope). s.keeps before) plain ∙ (level_agrees y).1 before ∙ sym (ap (fits before) ordered),
    )

rolled_group_agrees : (y : level.Group-F Known KnownGroup) → AgreesGroup (roll-Group (inner_group y))
rolled_group_agrees y =
    let plain = fold-roll-Group Scope Scope pattern_scope group_scope (inner_group y) in
    let ordered = fold-roll-Group Part Met pattern_part group_parts (inner_group y) in (
      ap (λ (s : Scope). s.names) plain ∙ sym (part_names (after []) y.patterns) ∙ sym (ap (λ (m : Met). m.names) ordered),
      λ before. ap (λ (s : Scope). s.keeps before) plain ∙ sym (parts_keep (after []) y.patterns) ∙ sym (ap (λ (m : Met). m.keeps) ordered),
    )

each_agrees : (g : Group) → AgreesGroup g
each_agrees = ind-Group Agrees AgreesGroup (λ x y is. subst (λ z. Agrees (roll-GraphPattern z)) is (rolled_agrees y)) (λ x y is. subst (λ z. AgreesGroup (roll-Group z)) is (rolled_group_agrees y))

pub names_in_scope : (g : Group) → (scope_of g).names ≡ in_scope g
names_in_scope g = sym (each_agrees g).0

pub group_kept : (g : Group) → (scope_of g).keeps ≡ group_keeps g
group_kept g = sym ((each_agrees g).1 [])
