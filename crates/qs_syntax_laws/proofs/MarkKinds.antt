-- Each mark has a kind of its own.
use Rattle.std.proofs.Common.{◌≡◌, ℕ, Bool, true, false, ◌==◌, List, [], ◌∷◌, ◌++◌, inl, inr, refl, sym, ap, ap₂, subst, ◌∙◌, codes, eqb-true}
use Rattle.std.specs.Bool.{⊤}
use Rattle.std.specs.List.{list_all}
use Rattle.std.proofs.lemmas.Bool.{and_parts}
use Rattle.std.specs.Str.{encode_utf8_all}
use Rattle.qs_lex_regular.specs.Character.{is_one_of}
use Rattle.qs_lex_regular.specs.Form.{Spells, one, char, literal, ◌⨾◌, ◌∣◌}
use Rattle.qs_lex_regular.specs.Longest.{Table, IsFirst}
use Rattle.qs_lex.specs.Table.{table}
use Rattle.qs_lex.specs.inner.Table.{IsToken}
use Rattle.qs_lex.specs.declared.token.Class.{Class}
use Rattle.qs_lex.specs.declared.token.Class.TheVariants as class
use Rattle.qs_syntax_tree.specs.Words.{mark_kind}
use Rattle.qs_syntax_tree.specs.declared.kind.Kind.{Kind}
use Rattle.qs_syntax_tree.specs.declared.kind.Kind.TheVariants as k

is_no_word : Kind → Bool
is_no_word k.Word = false
is_no_word other = true

-- the characters are a mark with a kind of its own
abbrev IsOwn : List ℕ → Type 0
IsOwn x = is_no_word (mark_kind (encode_utf8_all x)) ≡ true

one_of : (p : ℕ → Bool) (cs : List ℕ) (c : ℕ) → list_all p cs ≡ true → is_one_of cs c ≡ true → p c ≡ true
one_of p [] c a h = absurd (cc)
one_of p (d ∷ ds) c a h = by (c == d) refl (λ m. one_of p ds c (and_parts _ _ a).1 m)
  where
    by : (b : Bool) → (c == d) ≡ b → (is_one_of ds c ≡ true → p c ≡ true) → p c ≡ true
    by true e rest = subst (λ z. p z ≡ true) (sym (eqb-true c d e)) (and_parts _ _ a).0
    by false e rest = rest (rw e at h)

single : (cs x : List ℕ) → list_all (λ c. is_no_word (mark_kind (encode_utf8_all (c ∷ [])))) cs ≡ true → Spells (one (is_one_of cs)) x → IsOwn x
single cs x a s = subst IsOwn (sym s.2) (one_of (λ c. is_no_word (mark_kind (encode_utf8_all (c ∷ [])))) cs s.0 a s.1)

this_char : (c : ℕ) (x : List ℕ) → Spells (char c) x → x ≡ c ∷ []
this_char c x s = s.2 ∙ ap (λ d. d ∷ []) (eqb-true s.0 c s.1)

two : (c d : ℕ) (x : List ℕ) → IsOwn (c ∷ d ∷ []) → Spells (char c ⨾ char d) x → IsOwn x
two c d x own s =
    let e : x ≡ c ∷ d ∷ [] = s.4 ∙ ap₂ (λ (a b : List ℕ). a ++ b) (this_char c s.0 s.2) (this_char d s.1 s.3) in
    subst IsOwn (sym e) own

-- whatever holds where a row of the class of marks spells the characters
abbrev Each : (List ℕ → Type 0) → List ℕ → Table Class → Type 0
Each P x [] = ⊤
Each P x (f ∷ fs) = (f.0 ≡ class.Mark → Spells f.1 x → P x) × Each P x fs

each : (P : List ℕ → Type 0) (x : List ℕ) (fs : Table Class) → Each P x fs → IsFirst fs class.Mark x → P x
each P x [] e h = absurd h
each P x (f ∷ fs) e (inl p) = e.0 p.0 p.1
each P x (f ∷ fs) e (inr p) = each P x fs e.1 p.1

marks : (x : List ℕ) → Each IsOwn x table
unfolding mark_kind is_no_word lib.Utf8.encode
marks x = (
  λ e s. absurd (cc),
  (
    λ e s. absurd (cc),
    (
      λ e s. absurd (cc),
      (
        λ e s. absurd (cc),
        (
          λ e s. absurd (cc),
          (
            λ e s. absurd (cc),
            (
              λ e s. absurd (cc),
              (
                λ e s. absurd (cc),
                (
                  λ e s. absurd (cc),
                  (
                    λ e s. absurd (cc),
                    (
                      λ e s. absurd (cc),
                      (
                        λ e s. absurd (cc),
                        (λ e s. mark s, tt),
                      ),
                    ),
                  ),
                ),
              ),
            ),
          ),
        ),
      ),
    ),
  ),
)
  where
    mark : Spells (one (is_one_of (codes "{}()[].,;*/+-|^?!=<>")) ∣ literal "||" ∣ literal "^^" ∣ literal "!=" ∣ literal "<=" ∣ literal ">=" ∣ literal "&&") x → IsOwn x
    mark (inl s) = single (codes "{}()[].,;*/+-|^?!=<>") x refl s
    mark (inr (inl s)) = two 124 124 x refl s
    mark (inr (inr (inl s))) = two 94 94 x refl s
    mark (inr (inr (inr (inl s)))) = two 33 61 x refl s
    mark (inr (inr (inr (inr (inl s))))) = two 60 61 x refl s
    mark (inr (inr (inr (inr (inr (inl s)))))) = two 62 61 x refl s
    mark (inr (inr (inr (inr (inr (inr s)))))) = two 38 38 x refl s

pub no_word : (x : List ℕ) → IsToken class.Mark x → mark_kind (encode_utf8_all x) ≡ k.Word → ⊥
unfolding is_no_word
no_word x t w = let own : IsOwn x = each IsOwn x table (marks x) t in let false_true : false ≡ true = rw w at own in absurd (cc)
