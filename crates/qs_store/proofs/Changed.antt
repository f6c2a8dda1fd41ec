-- What the quads of a draft are once its entries are changed.
use Rattle.std.proofs.Common.{◌≡◌, ℕ, List, [], ◌∷◌, map, Option, Some, None, refl, ap, sym, ◌∙◌, subst, inl, inr, ⊎_elim}
use Rattle.std.specs.List.{Contains, filter_map, cons_option}
use Rattle.std.proofs.lemmas.Option.{same_Some, none-some}
use Rattle.qs_terms.specs.Bag.{Distinct}
use Rattle.qs_terms.specs.Term.{same_term}
use Rattle.qs_terms.specs.Statement.{Statement}
use Rattle.qs_terms.specs.declared.term.Term.{Term}
use Rattle.qs_store.specs.inner.Entries.{entry_of, AreEntries, said}
use Rattle.qs_store.specs.Change.{IsChanged}
use Rattle.qs_store.specs.inner.Content.{AreLawful}
use Rattle.qs_store.specs.inner.Store.{IsFront}
use Rattle.qs_store.proofs.Members.{Entries, nothing, here, there, head_or_tail}
use Rattle.qs_store.proofs.Entries.{EntryFor, entry_is, entry_says, entry_found, member_of_said, said_has, still_said, still_entries}
use Rattle.qs_store.proofs.Terms.{front_keeps, front_length}

later : (terms : List Term) (x : List ℕ) (q : Statement) (qs : List Statement) → EntryFor terms qs x → EntryFor terms (q ∷ qs) x
later terms x q qs f = record { quad = f.quad; stands = there q f.quad qs f.stands; found = f.found }

-- the entries that were found for quads
pub found_for : (terms : List Term) (x : List ℕ) (qs : List Statement) → Contains (filter_map (entry_of terms) qs) x → EntryFor terms qs x
found_for terms x [] c = absurd (nothing x c)
found_for terms x (q ∷ qs) c = at_entry (entry_of terms q) refl (λ t. found_for terms x qs t) c
  where
    at_entry : (e : Option (List ℕ)) → entry_of terms q ≡ e → (Contains (filter_map (entry_of terms) qs) x → EntryFor terms qs x) → Contains (cons_option e (filter_map (entry_of terms) qs)) x → EntryFor terms (q ∷ qs) x
    at_entry None h i m = later terms x q qs (i m)
    at_entry (Some e) h i m =
        ⊎_elim (λ s. record { quad = q; stands = here q qs; found = h ∙ ap Some s }) (λ t. later terms x q qs (i t)) (head_or_tail e (filter_map (entry_of terms) qs) x m)

pub found_has : (terms : List Term) (x : List ℕ) (q : Statement) (qs : List Statement) → Contains qs q → entry_of terms q ≡ Some x → Contains (filter_map (entry_of terms) qs) x
found_has terms x q [] c h = absurd (nothing q c)
found_has terms x q (r ∷ qs) c h = at_entry (entry_of terms r) refl (λ t. found_has terms x q qs t h)
  where
    at_entry : (e : Option (List ℕ)) → entry_of terms r ≡ e → (Contains qs q → Contains (filter_map (entry_of terms) qs) x) → Contains (cons_option e (filter_map (entry_of terms) qs)) x
    at_entry None g i = ⊎_elim (λ s. absurd (none-some x (sym g ∙ ap (entry_of terms) s ∙ h))) i (head_or_tail r qs q c)
    at_entry (Some e) g i =
        ⊎_elim (λ s. subst (Contains (e ∷ filter_map (entry_of terms) qs)) (same_Some e x (sym g ∙ ap (entry_of terms) s ∙ h)) (here e (filter_map (entry_of terms) qs))) (λ t. there e x (filter_map (entry_of terms) qs) (i t)) (head_or_tail r qs q c)

heads : (x y : Option (List ℕ)) (xs ys : List (Option (List ℕ))) → x ∷ xs ≡ y ∷ ys → (x ≡ y) × (xs ≡ ys)
heads x y xs ys e = (cc, cc)

pub record HasEntry (terms : List Term) (q : Statement) : Type 0 where
  pub entry : List ℕ
  pub found : entry_of terms q ≡ Some entry

-- where each quad has an entry, the list says that it finds them all
pub all_found : (terms : List Term) (qs : List Statement) (es : Entries) → map (entry_of terms) qs ≡ map Some es → filter_map (entry_of terms) qs ≡ es
all_found terms [] [] h = refl
all_found terms [] (e ∷ es) h = absurd (let f = h in cc)
all_found terms (q ∷ qs) [] h = absurd (let f = h in cc)
all_found terms (q ∷ qs) (e ∷ es) h =
    let p : (entry_of terms q ≡ Some e) × (map (entry_of terms) qs ≡ map Some es) = heads (entry_of terms q) (Some e) (map (entry_of terms) qs) (map Some es) h in
    rw p.0 (ap (λ r. e ∷ r) (all_found terms qs es p.1))

pub has_entry : (terms : List Term) (q : Statement) (qs : List Statement) (es : Entries) → map (entry_of terms) qs ≡ map Some es → Contains qs q → HasEntry terms q
has_entry terms q [] es h c = absurd (nothing q c)
has_entry terms q (r ∷ qs) [] h c = absurd (let f = h in cc)
has_entry terms q (r ∷ qs) (e ∷ es) h c =
    let p : (entry_of terms r ≡ Some e) × (map (entry_of terms) qs ≡ map Some es) = heads (entry_of terms r) (Some e) (map (entry_of terms) qs) (map Some es) h in
    ⊎_elim (λ s. record { entry = e; found = sym (ap (entry_of terms) s) ∙ p.0 }) (λ t. has_entry terms q qs es p.1 t) (head_or_tail r qs q c)

-- the entries over the terms before and after, and the quads that they say
pub record Turn (terms more : List Term) (old new outs ins : Entries) (remove add : List Statement) : Type 0 where
  pub front : IsFront terms more
  pub distinct : Distinct same_term more
  pub known : AreEntries terms old
  pub lawful : AreLawful add
  pub outs_are : outs ≡ filter_map (entry_of more) remove
  pub ins_are : map (entry_of more) add ≡ map Some ins
  pub changed : IsChanged old outs ins new

ins_found : (terms : List Term) (add : List Statement) (ins : Entries) (x : List ℕ) → map (entry_of terms) add ≡ map Some ins → Contains ins x → EntryFor terms add x
ins_found terms add ins x h c = found_for terms x add (subst (λ l. Contains l x) (sym (all_found terms add ins h)) c)

pub entries_after : (terms more : List Term) (old new outs ins : Entries) (remove add : List Statement) → Turn terms more old new outs ins remove add → AreEntries more new
entries_after terms more old new outs ins remove add t x c =
    ⊎_elim (λ o. still_entries terms more old (front_length terms more t.front) (front_keeps terms more t.front) t.known x o.0)
    (λ i. let f = ins_found more add ins x t.ins_are i in entry_is more f.quad x t.distinct (t.lawful f.quad f.stands) f.found) ((t.changed x).0 c)

pub quads_after : (terms more : List Term) (old new outs ins : Entries) (remove add : List Statement) → Turn terms more old new outs ins remove add → IsChanged (said terms old) remove add (said more new)
quads_after terms more old new outs ins remove add t q =
    let same = still_said terms more old (front_length terms more t.front) (front_keeps terms more t.front) t.known in
    let kept = still_entries terms more old (front_length terms more t.front) (front_keeps terms more t.front) t.known in (
      λ c. let m = member_of_said more q new c in
          ⊎_elim
          (λ o. inl (
            subst (λ l. Contains l q) same (subst (Contains (said more old)) m.says (said_has more m.entry old o.0)),
            λ r. o.1 (subst (λ l. Contains l m.entry) (sym t.outs_are) (found_has more m.entry q remove r (ap (entry_of more) (sym m.says) ∙ entry_found more m.entry t.distinct (kept m.entry o.0)))),
          ))
          (λ i. let f = ins_found more add ins m.entry t.ins_are i in inr (subst (Contains add) (sym (entry_says more f.quad m.entry t.distinct f.found) ∙ m.says) f.stands))
          ((t.changed m.entry).0 m.stands),
      λ c. ⊎_elim
          (λ o. let m = member_of_said more q old (subst (λ l. Contains l q) (sym same) o.0) in
          subst (Contains (said more new)) m.says (said_has more m.entry new ((t.changed m.entry).1 (inl (m.stands, λ u. let f = found_for more m.entry remove (subst (λ l. Contains l m.entry) t.outs_are u) in o.1 (subst (Contains remove) (sym (entry_says more f.quad m.entry t.distinct f.found) ∙ m.says) f.stands))))))
          (λ i. let f = has_entry more q add ins t.ins_are i in
          subst (Contains (said more new)) (entry_says more q f.entry t.distinct f.found) (said_has more f.entry new ((t.changed f.entry).1 (inr (subst (λ l. Contains l f.entry) (all_found more add ins t.ins_are) (found_has more f.entry q add i f.found))))))
          c,
    )
