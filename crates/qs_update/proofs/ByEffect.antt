-- Operations over a draft, by what they do.
use Rattle.std.proofs.Common.{◌≡◌, ◌≢◌, ℕ, true, false, List, Option, Ok, Err, refl, sym, subst}
use Rattle.qs_terms.specs.Outcome.{Outcome}
use Rattle.qs_terms.specs.Statement.{Statement, same_graph}
use Rattle.qs_terms.specs.declared.fault.QFault.{QFault}
use Rattle.qs_terms.specs.declared.fault.QFault.TheVariants.{Memory}
use Rattle.qs_terms.specs.declared.term.Term.{Term}
use Rattle.qs_syntax_ast.specs.declared.term.Variable.{Variable}
use Rattle.qs_syntax_ast.specs.declared.update.DeleteWhere.{DeleteWhere}
use Rattle.qs_syntax_ast.specs.declared.update.Modify.{Modify}
use Rattle.qs_syntax_ast.specs.declared.update.Operation.{Operation}
use Rattle.qs_syntax_ast.specs.declared.update.Operation.TheVariants as operation
use Rattle.qs_syntax_ast.specs.declared.update.QuadBlock.{QuadBlock}
use Rattle.qs_syntax_ast.specs.declared.update.Transfer.{Transfer}
use Rattle.qs_syntax_scope.specs.Firsts.{firsts}
use Rattle.qs_store.specs.Content.{Content, Held}
use Rattle.qs_store.specs.Same.{SameSet}
use Rattle.qs_store.specs.declared.removal.Removal.{Removal}
use Rattle.qs_update.specs.inner.Carried.{BecomesOne}
use Rattle.qs_update.specs.Effect.{put_over, removed_by, transferred, IsEffect}
use Rattle.qs_update.specs.inner.Effect.{IsDeletedWhere, IsModifiedWhere}
use Rattle.qs_update.specs.Graphs.{copies, exists, graph_name}
use Rattle.qs_update.specs.Request.{bounds_of, IsCarriedOut, IsOperation}
use Rattle.qs_update.specs.declared.effect.Effect.{Effect}

-- a graph put into another one
pub put_over_other : (removed : List Statement) (from to : Option Term) (quads : List Statement) (next : ℕ) → same_graph from to ≡ false → put_over removed from to quads next ≡ record { removed = removed; added = copies from to quads; next = next }
put_over_other removed from to quads next e = rw e refl

-- a graph that is there, put over another one
pub transferred_there : (removal : Removal) (t : Transfer) (quads : List Statement) (next : ℕ) (from to : Option Term) → from ≡ graph_name t.from → to ≡ graph_name t.to → exists from quads ≡ true
    → Ok (put_over (removed_by removal from to quads) from to quads next) ≡ transferred removal t quads next
transferred_there removal t quads next from to f g h =
    let there : exists (graph_name t.from) quads ≡ true = subst (λ x. exists x quads ≡ true) f h in
    rw (there, f, g) refl

module _ (max_rows : ℕ) (held : Held) where
  abbrev Becomes : Operation → Outcome (Unit {0}) → Content → Type 0
  Becomes o result new = BecomesOne (IsOperation (bounds_of max_rows held) o held.draft) result new

  abbrev Does : Operation → Outcome Effect → Type 0
  Does o effect = IsEffect max_rows held.default_graph o held.draft.quads held.draft.next effect

  same : SameSet held.draft.quads held.draft.quads
  same q = (λ c. c, λ c. c)

  -- what an operation does over the content's own list of quads is carried out
  pub done : (o : Operation) (effect : Outcome Effect) (result : Outcome (Unit {0})) (new : Content) → Does o effect → BecomesOne (IsCarriedOut held.limit held.draft effect) result new → Becomes o result new
  done o effect (Ok u) new e k = (held.draft.quads, same, (effect, e, k))
  done o effect (Err f) new e k = λ n. (held.draft.quads, same, (effect, e, k n))

  -- what an operation with a WHERE does with its own variables
  pub deleted : (variables : List Variable) (blocks : List QuadBlock) (d : DeleteWhere) (outcome : Outcome Effect) → variables ≡ firsts d.variables → blocks ≡ d.quads
      → IsDeletedWhere max_rows variables held.default_graph blocks held.draft.quads held.draft.next outcome → Does (operation.DeleteWhere d) outcome
  deleted variables blocks d outcome e f h =
      subst (λ (v : List Variable). IsDeletedWhere max_rows v held.default_graph d.quads held.draft.quads held.draft.next outcome) e
      (subst (λ (b : List QuadBlock). IsDeletedWhere max_rows variables held.default_graph b held.draft.quads held.draft.next outcome) f h)

  pub changed : (variables : List Variable) (m : Modify) (outcome : Outcome Effect) → variables ≡ firsts m.variables
      → IsModifiedWhere max_rows variables held.default_graph m held.draft.quads held.draft.next outcome → Does (operation.Modify m) outcome
  changed variables m outcome e h = subst (λ (v : List Variable). IsModifiedWhere max_rows v held.default_graph m held.draft.quads held.draft.next outcome) e h

  -- or the fault that is due is told
  pub refused : (o : Operation) (f : QFault) (new : Content) → (f ≢ Memory → Does o (Err f)) → Becomes o (Err f) new
  refused o f new e = λ n. (held.draft.quads, same, (Err f, e n, refl))

  -- the same operation does the same
  pub operated : (o p : Operation) (result : Outcome (Unit {0})) (new : Content) → o ≡ p → Becomes p result new → Becomes o result new
  operated o p result new is h = subst (λ (x : Operation). Becomes x result new) (sym is) h

  pub operated_by : (o p : Operation) (effect : Outcome Effect) (result : Outcome (Unit {0})) (new : Content) → o ≡ p → Does p effect → BecomesOne (IsCarriedOut held.limit held.draft effect) result new → Becomes o result new
  operated_by o p effect result new is e h = operated o p result new is (done p effect result new e h)
