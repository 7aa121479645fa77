-- Whether a fact has a mark with a tuple, by number.
use Rattle.std.proofs.Common.{◌≡◌, refl, sym, ap, subst, ◌∙◌, ℕ, ◌<◌, nat_eq, not, Bool, true, false, ◌||◌, ◌&&◌, cond, List, [], ◌∷◌, ◌++◌, map, length, take, get_or, ◌+◌, arith}
use Rattle.std.specs.List.{list_any, AllByRecursion}
use Rattle.std.proofs.lemmas.Bool.{eqb-true, eqb-false, eq-eqb, ne_eqb}
use Rattle.logic_core.specs.Tree.{Tree, all}
use Rattle.logic_core.specs.View.{trees_of}
use Rattle.logic_core.proofs.Anywhere.{any_append}
use Rattle.logic_core.proofs.Booleans.{or_false}
use Rattle.term_bank.specs.Numbered.{at, Begins}
use Rattle.term_bank.proofs.Numbers.{begins_at, begins_length}
use Rattle.term_bank.proofs.Led.{listed_trees}
use Rattle.tableau_branch.specs.Branch.{Mark}
use Rattle.tableau_branch.proofs.Lists.{take_item}
use Rattle.logic_rules.specs.Instantiating.{same_mark}
use Rattle.numbered_terms.specs.At.{IsAt}
use Rattle.numbered_terms.specs.Lists.{terms_at}
use Rattle.numbered_terms.specs.Stored.{AreStored}
use Rattle.numbered_terms.proofs.Inserting.{inserted}
use Rattle.numbered_forms.proofs.LongerStores.{terms_stay}
use Rattle.numbered_branches.specs.Branches.{NumberedMark, IsMarkOver, IsTuple, mark_at, terms_in}
use Rattle.numbered_branches.proofs.Changing.{one_mark}
use Rattle.numbered_instances.specs.Instances.{is_new, is_marked}

pub other_way : (i j : ℕ) → nat_eq i j ≡ nat_eq j i
other_way i j = by (nat_eq i j) refl
  where
    by : (b : Bool) → nat_eq i j ≡ b → b ≡ nat_eq j i
    by true e = sym (eq-eqb j i (sym (eqb-true i j e)))
    by false e = sym (ne_eqb j i (λ q. eqb-false i j e (sym q)))

-- a mark of the fact, and one of another
pub mark_noted : (m : NumberedMark) (fact j : ℕ) (is js : List ℕ) → nat_eq m.fact fact ≡ true → js ≡ cond (list_any (nat_eq m.tuple) is) is (is ++ m.tuple ∷ []) → list_any (nat_eq j) js ≡ (list_any (nat_eq j) is || (nat_eq m.fact fact && nat_eq m.tuple j))
mark_noted m fact j is js h e = inserted m.tuple j is js e ∙ ap (λ b. list_any (nat_eq j) is || b) (other_way j m.tuple ∙ ap (λ b. b && nat_eq m.tuple j) (sym h))

pub mark_passed : (m : NumberedMark) (fact j : ℕ) (is : List ℕ) → nat_eq m.fact fact ≡ false → list_any (nat_eq j) is ≡ (list_any (nat_eq j) is || (nat_eq m.fact fact && nat_eq m.tuple j))
mark_passed m fact j is h = sym (or_false (list_any (nat_eq j) is)) ∙ ap (λ b. list_any (nat_eq j) is || (b && nat_eq m.tuple j)) (sym h)

pub marked_next : (ms : List NumberedMark) (i : ℕ) (m : NumberedMark) (fact j : ℕ) (is js : List ℕ) → i < length ms → m ≡ get_or ms i m → list_any (nat_eq j) is ≡ is_marked (take i ms) fact j
    → list_any (nat_eq j) js ≡ (list_any (nat_eq j) is || (nat_eq m.fact fact && nat_eq m.tuple j)) → list_any (nat_eq j) js ≡ is_marked (take (i + 1) ms) fact j
marked_next ms i m fact j is js l e so_far h = let P : NumberedMark → Bool = λ n. nat_eq n.fact fact && nat_eq n.tuple j in
    h ∙ ap (λ b. b || P m) so_far ∙ ap (λ b. list_any P (take i ms) || b) (sym (or_false (P m))) ∙ sym (any_append P (take i ms) (m ∷ [])) ∙ ap (list_any P) (sym (take_item ms i m l e))

-- the marks of numbers are those of terms
same_marks : (ts : List Tree) (stored : AreStored ts) (fact tuple : ℕ) → fact < length ts → tuple < length ts → IsTuple (at ts tuple) → (ms : List NumberedMark) → AllByRecursion (IsMarkOver ts) ms
    → is_marked ms fact tuple ≡ list_any (λ (m : Mark). same_mark m (record { fact = at ts fact; tuple = terms_in (at ts tuple) })) (map (mark_at ts) ms)
same_marks ts stored fact tuple f l t [] h = refl
same_marks ts stored fact tuple f l t (m ∷ ms) h = λ k. one_mark ts stored m (record { fact = fact; tuple = tuple }) h.0 (f, l, t) k || same_marks ts stored fact tuple f l t ms h.1 k

-- an And of terms in a store
pub and_is : (ts : List Tree) (i : ℕ) (us : List Tree) → at ts i ≡ all (trees_of us) → (terms_in (at ts i) ≡ us) × IsTuple (at ts i)
and_is ts i us e = (ap terms_in e ∙ listed_trees us, subst IsTuple (sym e) (ap (λ ws. all (trees_of ws)) (listed_trees us)))

pub marks_more : (ts us : List Tree) (b : Begins ts us) (ms : List NumberedMark) → AllByRecursion (IsMarkOver ts) ms → AllByRecursion (IsMarkOver us) ms × (map (mark_at us) ms ≡ map (mark_at ts) ms)
marks_more ts us b [] h = (tt, refl)
marks_more ts us b (m ∷ ms) h = let rest = marks_more ts us b ms h.1 in
    let same = begins_at ts us m.tuple b h.0.1 in (
      ((omega (arith, h.0.0, begins_length ts us b), omega (arith, h.0.1, begins_length ts us b), subst IsTuple (sym same) h.0.2), rest.0),
      λ k. record { fact = begins_at ts us m.fact b h.0.0 k; tuple = terms_in (same k) } ∷ rest.1 k,
    )

-- a tuple of terms of the first store that is made in a longer one
module _ (ts us vs : List Tree) (b : Begins ts us) (d : Begins ts vs) (stored : AreStored vs) (ms : List NumberedMark) (fact : ℕ) (is : List ℕ) (i : ℕ)
    (f : fact < length ts) (over : AllByRecursion (IsMarkOver ts) ms) (low : AllByRecursion (λ j. j < length ts) is) (made : IsAt vs i (all (trees_of (terms_at us is)))) where
  here : at vs i ≡ all (trees_of (terms_at ts is))
  here = made.1 ∙ ap (λ xs. all (trees_of xs)) (terms_stay ts us b is low)

  pub tuple_here : (terms_in (at vs i) ≡ terms_at ts is) × IsTuple (at vs i)
  tuple_here = and_is vs i (terms_at ts is) here

  pub new_here : (set : List ℕ) (there : Bool) → list_any (nat_eq i) set ≡ is_marked ms fact i → there ≡ list_any (nat_eq i) set → is_new (map (mark_at ts) ms) (at ts fact) (terms_at ts is) ≡ not there
  new_here set there listing e = ap not (
      (λ k. list_any (λ (m : Mark). same_mark m (record { fact = sym (begins_at ts vs fact d f) k; tuple = sym tuple_here.0 k })) (sym (marks_more ts vs d ms over).1 k))
      ∙ sym (same_marks vs stored fact i (omega (arith, f, begins_length ts vs d)) made.0 tuple_here.1 ms (marks_more ts vs d ms over).0)
      ∙ sym (e ∙ listing)
      )
