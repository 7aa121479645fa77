-- What a walk through the terms outside quantifiers has found, step by step.
use Rattle.std.proofs.Common.{◌≡◌, refl, sym, ap, subst, ◌∙◌, true≢false, ℕ, ℤ, ◌+◌, ◌<◌, ◌≤◌, nat_eq, Bool, true, false, cond, List, [], ◌∷◌, ◌++◌, map, flat_map, length, take, get_or}
use Rattle.std.specs.List.{list_any, AllByRecursion}
use Rattle.std.proofs.lemmas.Bool.{eqb-true}
use Rattle.std.proofs.lemmas.List.{append_assoc, append-nil, map-append, take_all}
use Rattle.std.proofs.lemmas.Grind.{flat_map-append}
use Rattle.indexmap.specs.IndexSet.{insert_key}
use Rattle.logic_core.specs.Tree.{Tree, num, for_all, exists}
use Rattle.logic_core.specs.View.{trees_of, parts_of}
use Rattle.logic_core.specs.Same.{same_term}
use Rattle.logic_core.specs.Subterm.{outside, outside_each, outside_parts, is_quantifier}
use Rattle.logic_core.proofs.EachOf.{every_append}
use Rattle.logic_rules.specs.Instantiating.{each_once}
use Rattle.tableau_branch.proofs.Lists.{take_item}
use Rattle.term_bank.specs.declared.node.Node.{Node}
use Rattle.term_bank.specs.declared.node.Node.TheVariants.{Num, Truth, Free, Bound, Sum, Mul, Read, Write, If, Call, Not, And, Or, Eq, Le, ForAll, Exists}
use Rattle.term_bank.specs.Numbered.{at}
use Rattle.term_bank.specs.Node.{tree_over, numbers_in}
use Rattle.numbered_terms.specs.Stored.{AreStored}
use Rattle.numbered_facts.specs.Inside.{inner, AreOutside}
use Rattle.numbered_facts.proofs.Occurrences.{either, any_more}
use Rattle.numbered_facts.proofs.EachOnce.{once_by, once_append, stays_seen, each_there, all_seen, among}

-- a term is the first that stands in it
pub outside_is : (t : Tree) → outside t ≡ t ∷ inner t
outside_is (num n) = refl
outside_is t = refl

-- in a quantifier nothing else does
pub quantifier_alone : (t : Tree) → is_quantifier t ≡ true → inner t ≡ []
quantifier_alone (for_all ss ps t) h = refl
quantifier_alone (exists ss ps t) h = refl
quantifier_alone t h = absurd (true≢false (sym h))

-- and else what stands in its parts
module _ (of : ℕ → Tree) where
  abbrev in_parts : List ℕ → List Tree
  in_parts is = flat_map (λ i. outside (of i)) is

  each_outside : (is : List ℕ) → outside_each (trees_of (map of is)) ≡ in_parts is
  each_outside [] = refl
  each_outside (i ∷ is) = ap (λ us. outside (of i) ++ us) (each_outside is)

  atoms_outside : (ps : List (ℤ × ℕ)) → outside_parts (parts_of (map {B = ℤ × Tree} (λ (q : ℤ × ℕ). (q.0, of q.1)) ps)) ≡ in_parts (map (λ (q : ℤ × ℕ). q.1) ps)
  atoms_outside [] = refl
  atoms_outside (q ∷ ps) = ap (λ us. outside (of q.1) ++ us) (atoms_outside ps)

  one_outside : (a : ℕ) → outside (of a) ≡ in_parts (a ∷ [])
  one_outside a = sym (append-nil (outside (of a)))

  two_outside : (a b : ℕ) → outside (of a) ++ outside (of b) ≡ in_parts (a ∷ b ∷ [])
  two_outside a b = ap (λ us. outside (of a) ++ us) (one_outside b)

  three_outside : (a b c : ℕ) → outside (of a) ++ outside (of b) ++ outside (of c) ≡ in_parts (a ∷ b ∷ c ∷ [])
  three_outside a b c = append_assoc (outside (of a)) (outside (of b)) (outside (of c)) ∙ ap (λ us. outside (of a) ++ us) (two_outside b c)

  pub parts_outside : (m : Node) → is_quantifier (tree_over of m) ≡ false → inner (tree_over of m) ≡ flat_map (λ i. outside (of i)) (numbers_in m)
  parts_outside (Num n) h = refl
  parts_outside (Truth b) h = refl
  parts_outside (Free v) h = refl
  parts_outside (Bound v) h = refl
  parts_outside (Sum ps c) h = atoms_outside ps.items
  parts_outside (Mul a b) h = two_outside a b
  parts_outside (Read a b) h = two_outside a b
  parts_outside (Write a b c) h = three_outside a b c
  parts_outside (If a b c) h = three_outside a b c
  parts_outside (Call f is) h = each_outside is.items
  parts_outside (Not a) h = one_outside a
  parts_outside (And is) h = each_outside is.items
  parts_outside (Or is) h = each_outside is.items
  parts_outside (Eq a b) h = two_outside a b
  parts_outside (Le a b) h = two_outside a b
  parts_outside (ForAll ss ps a) h = absurd (true≢false h)
  parts_outside (Exists ss ps a) h = absurd (true≢false h)

-- a number joins a set
pub joined_all : (P : ℕ → Type 0) (is js : List ℕ) (i : ℕ) → js ≡ insert_key nat_eq is i → AllByRecursion P is → P i → AllByRecursion P js
joined_all P is js i e h p = subst (AllByRecursion P) (sym e) (by (list_any (nat_eq i) is))
  where
    by : (b : Bool) → AllByRecursion P (cond b is (is ++ i ∷ []))
    by true = h
    by false = every_append P is (i ∷ []) h (p, tt)

every : {A : Type 0} (P Q : A → Type 0) → ((a : A) → P a → Q a) → (xs : List A) → AllByRecursion P xs → AllByRecursion Q xs
every P Q f [] h = tt
every P Q f (x ∷ xs) h = (f x h.0, every P Q f xs h.1)

module _ (ts : List Tree) where
  -- nothing is found at first
  pub none_within : (is : List ℕ) → is ≡ [] → AllByRecursion (λ j. j < length ts) is
  none_within is e = subst (AllByRecursion (λ j. j < length ts)) (sym e) tt

  pub none_done : (done found : List ℕ) → done ≡ [] → AreOutside ts done found
  none_done done found e = λ i h. absurd (true≢false (sym h ∙ ap (list_any (nat_eq i)) e))

  -- what is done stays done as more is found
  pub done_stays : (done found more : List ℕ) (us : List Tree) → map (at ts) more ≡ each_once (map (at ts) found) us → AreOutside ts done found → AreOutside ts done more
  done_stays done found more us e h = λ i k. let r = h i k in (
    r.0,
    every (λ t. list_any (same_term t) (map (at ts) found) ≡ true) (λ t. list_any (same_term t) (map (at ts) more) ≡ true)
        (λ t g. ap (list_any (same_term t)) e ∙ stays_seen (same_term t) (map (at ts) found) us g) (outside (at ts i)) r.1,
  )

  -- a term whose walk is over is not found again
  pub done_again : (done found : List ℕ) (i : ℕ) → AreOutside ts done found → list_any (nat_eq i) done ≡ true → map (at ts) found ≡ each_once (map (at ts) found) (outside (at ts i))
  done_again done found i h k = sym (all_seen (map (at ts) found) (outside (at ts i)) (h i k).1)

  -- a term joins the end, and then what stands in it
  module _ (stored : AreStored ts) (i : ℕ) (l : i < length ts) (found added : List ℕ) (within : AllByRecursion (λ j. j < length ts) found) (e : added ≡ insert_key nat_eq found i) where
    pub joined_once : map (at ts) added ≡ each_once (map (at ts) found) (at ts i ∷ [])
    joined_once = ap (map (at ts)) e ∙ by (list_any (nat_eq i) found) refl
      where
        seen : (b : Bool) → list_any (nat_eq i) found ≡ b → list_any (same_term (at ts i)) (map (at ts) found) ≡ b
        seen b k = sym (among ts stored.apart i found l within) ∙ k

        by : (b : Bool) → list_any (nat_eq i) found ≡ b → map (at ts) (cond b found (found ++ i ∷ [])) ≡ each_once (map (at ts) found) (at ts i ∷ [])
        by true k = sym (once_by true (map (at ts) found) [] (at ts i) (seen true k))
        by false k = map-append (at ts) found (i ∷ []) ∙ sym (once_by false (map (at ts) found) [] (at ts i) (seen false k))

    pub joined_within : AllByRecursion (λ j. j < length ts) added
    joined_within = joined_all (λ j. j < length ts) found added i e within l

    module _ (more : List ℕ) (w : map (at ts) more ≡ each_once (map (at ts) added) (inner (at ts i))) where
      pub walked_found : map (at ts) more ≡ each_once (map (at ts) found) (outside (at ts i))
      walked_found = w ∙ ap (λ us. each_once us (inner (at ts i))) joined_once ∙ sym (once_append (map (at ts) found) (at ts i ∷ []) (inner (at ts i)))
          ∙ ap (each_once (map (at ts) found)) (sym (outside_is (at ts i)))

      -- and its walk is over
      pub walked_done : (done over : List ℕ) → over ≡ insert_key nat_eq done i → AreOutside ts done more → AreOutside ts over more
      walked_done done over d h = λ j k. either (list_any (nat_eq j) done) (nat_eq j i) (h j)
          (λ q. subst (λ n. (n < length ts) × AllByRecursion (λ t. list_any (same_term t) (map (at ts) more) ≡ true) (outside (at ts n))) (sym (eqb-true j i q)) (l, here))
          (sym (ap (list_any (nat_eq j)) d ∙ any_more (nat_eq j) done i) ∙ k)
        where
          here : AllByRecursion (λ t. list_any (same_term t) (map (at ts) more) ≡ true) (outside (at ts i))
          here = subst (λ us. AllByRecursion (λ t. list_any (same_term t) us ≡ true) (outside (at ts i))) (sym walked_found) (each_there (map (at ts) found) (outside (at ts i)))

  -- what stands in a term's parts, where it is no quantifier
  pub inside_found : (i : ℕ) (m : Node) (is more found : List ℕ) → tree_over (at ts) m ≡ at ts i → is ≡ numbers_in m → is_quantifier (at ts i) ≡ false
      → map (at ts) more ≡ each_once (map (at ts) found) (flat_map (λ j. outside (at ts j)) is) → map (at ts) more ≡ each_once (map (at ts) found) (inner (at ts i))
  inside_found i m is more found e n q w = w ∙ ap (each_once (map (at ts) found))
      (ap (flat_map (λ j. outside (at ts j))) n ∙ sym (parts_outside (at ts) m (ap is_quantifier e ∙ q)) ∙ ap inner e)

  -- of one more of a list of terms
  pub found_next : (old found more ids : List ℕ) (i x : ℕ) → i < length ids → x ≡ get_or ids i x → map (at ts) found ≡ each_once (map (at ts) old) (flat_map (λ j. outside (at ts j)) (take i ids))
      → map (at ts) more ≡ each_once (map (at ts) found) (outside (at ts x)) → map (at ts) more ≡ each_once (map (at ts) old) (flat_map (λ j. outside (at ts j)) (take (i + 1) ids))
  found_next old found more ids i x l e so_far next = next ∙ ap (λ us. each_once us (outside (at ts x))) so_far
      ∙ sym (once_append (map (at ts) old) (flat_map (λ j. outside (at ts j)) (take i ids)) (outside (at ts x)))
      ∙ ap (each_once (map (at ts) old)) (sym (ap (flat_map (λ j. outside (at ts j))) (take_item ids i x l e) ∙ flat_map-append (λ j. outside (at ts j)) (take i ids) (x ∷ [])
      ∙ ap (λ us. flat_map (λ j. outside (at ts j)) (take i ids) ++ us) (append-nil (outside (at ts x)))))

  pub found_all : (old found ids : List ℕ) (i : ℕ) → length ids ≤ i → map (at ts) found ≡ each_once (map (at ts) old) (flat_map (λ j. outside (at ts j)) (take i ids)) → map (at ts) found ≡ each_once (map (at ts) old) (flat_map (λ j. outside (at ts j)) ids)
  found_all old found ids i l so_far = so_far ∙ ap (λ xs. each_once (map (at ts) old) (flat_map (λ j. outside (at ts j)) xs)) (take_all i ids l)
