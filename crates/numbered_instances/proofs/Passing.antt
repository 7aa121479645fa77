-- Lists of tuples in which the same new tuple is found first, where tuples of one passed term alone aren't new.
use Rattle.std.proofs.Common.{◌≡◌, refl, sym, ap, subst, ◌∙◌, ℕ, zero, suc, ◌+◌, ◌<◌, ◌≤◌, nat_eq, not, Bool, true, false, true≢false, ◌&&◌, ◌||◌, cond, Option, Some, None, option_map, option_to_list, Vec, List, [], ◌∷◌, ◌++◌, map, find, flat_map, length, take, drop, get_or, reverse, slice_get, arith}
use Rattle.std.specs.List.{list_any, AllByRecursion}
use Rattle.std.specs.Option.{option_or}
use Rattle.std.specs.declared.alloc.Global.{Global}
use Rattle.std.proofs.lemmas.Bool.{eqb-true}
use Rattle.std.proofs.lemmas.List.{append-nil, append_assoc, at_drop_all}
use mathlib.Core.List.{reverse-cons}
use Rattle.logic_core.specs.Tree.{Kind, Tree, free, bound, read, Trees, no_trees}
use Rattle.logic_core.specs.Def.{Def}
use Rattle.logic_core.specs.Same.{same_term, same_trees}
use Rattle.logic_core.specs.Sorts.{is, sort_of}
use Rattle.logic_core.specs.View.{trees_of}
use Rattle.logic_core.specs.Wide.{◌>>=◌, when}
use Rattle.logic_core.proofs.Anywhere.{any_append}
use Rattle.logic_core.proofs.Booleans.{both_true, and_true, and_false, or_false, or_second, not_not}
use Rattle.logic_core.proofs.SameTerm.{same_is_equal, same_as_itself}
use Rattle.term_bank.specs.Numbered.{at}
use Rattle.tableau_branch.specs.Oriented.{is_variable}
use Rattle.tableau_branch.proofs.Lists.{drop_item, take_item, find_append}
use Rattle.quantifier_triggers.specs.Match.{Found, root, as_read, matched, variable, tuple_of, tuples_from}
use Rattle.numbered_terms.proofs.Inserting.{inserted}
use Rattle.numbered_terms.proofs.Items.{all_lower}
use Rattle.numbered_terms.proofs.Replacing.{same_number}
use Rattle.numbered_terms.specs.Lists.{terms_at, lists_at}
use Rattle.numbered_terms.specs.Stored.{AreStored}
use Rattle.tableau_branch.specs.Branch.{Mark}
use Rattle.logic_rules.specs.Instantiating.{same_mark}
use Rattle.numbered_branches.specs.Branches.{NumberedMark, mark_at, terms_in}
use Rattle.numbered_instances.specs.Finding.{found_at}
use Rattle.numbered_instances.specs.Instances.{is_new}
use Rattle.numbered_instances.proofs.FactTuples.{any_map}
use Rattle.numbered_instances.proofs.NewTuples.{other_way}
use Rattle.numbered_instances.specs.Passed.{Tells, FindOne, FindSome, JoinsAlone, FindsAlone, IsPassed, mark_alone, is_bound, reads_bound}

-- the two are one, and so are what they stand before and after
option_or_none : {A : Type 0} (o : Option A) → option_or o None ≡ o
option_or_none None = refl
option_or_none (Some a) = refl

found_before : (new : List Tree → Bool) (xs ys : List (List Tree)) → list_any new xs ≡ true → find new xs ≡ find new (xs ++ ys)
found_before new [] ys h = absurd (true≢false (sym h))
found_before new (x ∷ xs) ys h = by (new x) h (λ k. found_before new xs ys k)
  where
    by : (b : Bool) → (b || list_any new xs) ≡ true → (list_any new xs ≡ true → find new xs ≡ find new (xs ++ ys)) → cond b (Some x) (find new xs) ≡ cond b (Some x) (find new (xs ++ ys))
    by true k r = refl
    by false k r = r k

module _ (ts : List Tree) (passed : List ℕ) where
  pub same_lists : (xs ys : List (List Tree)) → xs ≡ ys → FindOne ts passed xs ys
  same_lists xs ys e = λ new h. ap (find new) e

  pub then_same : (xs ys zs : List (List Tree)) → FindOne ts passed xs ys → FindOne ts passed ys zs → FindOne ts passed xs zs
  then_same xs ys zs p q = λ new h. p new h ∙ q new h

  pub same_before : (xs ys zs : List (List Tree)) → FindOne ts passed xs ys → FindOne ts passed (xs ++ zs) (ys ++ zs)
  same_before xs ys zs p = λ new h. find_append new xs zs ∙ ap (λ o. option_or o (find new zs)) (p new h) ∙ sym (find_append new ys zs)

  pub none_more : (xs zs : List (List Tree)) → FindOne ts passed [] zs → FindOne ts passed xs (xs ++ zs)
  none_more xs zs p = λ new h. sym (option_or_none (find new xs)) ∙ ap (λ o. option_or (find new xs) o) (p new h) ∙ sym (find_append new xs zs)

  -- what stands behind one that is found doesn't matter
  pub found_already : (xs zs : List (List Tree)) → FindSome ts passed xs → FindOne ts passed xs (xs ++ zs)
  found_already xs zs p = λ new h. found_before new xs zs (p new h)

  -- one term on
  pub term_next : (F : Tree → List (List Tree)) (is : List ℕ) (i x : ℕ) (old new whole : List (List Tree)) → i < length is → x ≡ get_or is i x → FindOne ts passed new (old ++ F (at ts x))
      → FindOne ts passed (old ++ flat_map F (map (at ts) (drop i is))) whole → FindOne ts passed (new ++ flat_map F (map (at ts) (drop (i + 1) is))) whole
  term_next F is i x old new whole l e made so_far = let rest = flat_map F (map (at ts) (drop (i + 1) is)) in
      then_same (new ++ rest) ((old ++ F (at ts x)) ++ rest) whole (same_before new (old ++ F (at ts x)) rest made)
      (then_same ((old ++ F (at ts x)) ++ rest) (old ++ flat_map F (map (at ts) (drop i is))) whole
      (same_lists ((old ++ F (at ts x)) ++ rest) (old ++ flat_map F (map (at ts) (drop i is))) (append_assoc old (F (at ts x)) rest ∙ ap (λ js. old ++ flat_map F (map (at ts) js)) (sym (drop_item is i x l e)))) so_far)

  pub terms_all : (F : Tree → List (List Tree)) (is : List ℕ) (i : ℕ) (made whole : List (List Tree)) → length is ≤ i → FindOne ts passed (made ++ flat_map F (map (at ts) (drop i is))) whole → FindOne ts passed made whole
  terms_all F is i made whole l so_far = then_same made (made ++ flat_map F (map (at ts) (drop i is))) whole
      (same_lists made (made ++ flat_map F (map (at ts) (drop i is))) (sym (append-nil made) ∙ sym (at_drop_all (λ js. made ++ flat_map F (map (at ts) js)) is i l))) so_far

pub same_found : (ts : List Tree) (passed : List ℕ) (xs ys : List (List Tree)) (new : List Tree → Bool) → FindOne ts passed xs ys → Tells ts passed new → find new xs ≡ find new ys
same_found ts passed xs ys new s h = s new h

-- a variable that is the only one
when_is : {A : Type 0} (q : Bool) (a c : A) → when q (Some a) ≡ Some c → (q ≡ true) × (c ≡ a)
when_is true a c e = (refl, cc)
when_is false a c e = absurd (cc)

module _ (vars : List Kind) (defs : List Def) (kinds : List Kind) where
  of_kind : (u : Tree) (c : Found) (o : Option Kind) → (o >>= λ k. when (is k (sort_of vars defs [] u)) (Some (Some u ∷ []))) ≡ Some c → c ≡ Some u ∷ []
  of_kind u c None e = absurd (cc)
  of_kind u c (Some k) e = (when_is (is k (sort_of vars defs [] u)) (Some u ∷ []) c e).1

  variable_alone : (v : ℕ) (u : Tree) (o : Option Tree) (c : Found) → variable vars defs kinds v u (o ∷ []) ≡ Some c → c ≡ Some u ∷ []
  variable_alone zero u (Some w) c e = let both = when_is (same_term w u) (Some w ∷ []) c e in both.1 ∙ ap (λ x. Some x ∷ []) (same_is_equal w u both.0)
  variable_alone zero u None c e = of_kind u c (slice_get kinds zero) e
  variable_alone (suc v) u o c e = absurd (cc)

  read_alone : (w v : ℕ) (t u : Tree) (o : Option Tree) (c : Found) → option_map (λ r. r.1) (as_read t) ≡ Some u → matched vars defs kinds false (read (free w) (bound v)) t (o ∷ []) ≡ Some c → c ≡ Some u ∷ []
  read_alone w v t u o c = by (as_read t)
    where
      test : (r : Tree × Tree) (q : Bool) → r.1 ≡ u → (when q (Some (o ∷ [])) >>= λ d. variable vars defs kinds v r.1 d) ≡ Some c → c ≡ Some u ∷ []
      test r true e h = variable_alone v r.1 o c h ∙ ap (λ x. Some x ∷ []) e
      test r false e h = absurd (cc)

      by : (a : Option (Tree × Tree)) → option_map (λ r. r.1) a ≡ Some u → (a >>= λ r. matched vars defs kinds true (free w) (root r.0) (o ∷ []) >>= λ d. matched vars defs kinds false (bound v) r.1 d) ≡ Some c → c ≡ Some u ∷ []
      by None e h = absurd (cc)
      by (Some r) e h = test r (same_term (free w) (root r.0)) (cc) h

  -- of what is found alone a passed term leaves nothing
  nothing_left : (new : List Tree → Bool) (u : Tree) (terms : List Tree) → new (u ∷ []) ≡ false → (o : Option Found) → ((c : Found) → o ≡ Some c → c ≡ Some u ∷ []) → find new [] ≡ find new (flat_map (λ c. tuples_from vars defs kinds terms no_trees c) (option_to_list o))
  nothing_left new u terms f None k = refl
  nothing_left new u terms f (Some c) k =
      ap (λ b. cond b (Some (u ∷ [])) None) (sym f) ∙ ap (λ us. find new (us ∷ [])) (sym (reverse-cons u []))
      ∙ ap (λ d. find new (flat_map (λ e. tuples_from vars defs kinds terms no_trees e) (d ∷ []))) (sym (k c refl))

-- what a test of patterns says
bound_is : (i : Tree) (Q : Tree → Type 0) → is_bound i ≡ true → ((v : ℕ) → Q (bound v)) → Q i
bound_is (bound v) Q e k = k v
bound_is t Q e k = absurd (true≢false (sym e))

free_is : (m : Tree) (Q : Tree → Type 0) → is_variable m ≡ true → ((w : ℕ) → Q (free w)) → Q m
free_is (free w) Q e k = k w
free_is t Q e k = absurd (true≢false (sym e))

read_is : (p : Tree) (Q : Tree → Type 0) → reads_bound p ≡ true → ((w v : ℕ) → Q (read (free w) (bound v))) → Q p
read_is (read m i) Q e k = let both = both_true _ _ e in free_is m (λ x. Q (read x i)) both.0 (λ w. bound_is i (λ y. Q (read (free w) y)) both.1 (λ v. k w v))
read_is t Q e k = absurd (true≢false (sym e))

pub reads_find : (p t u : Tree) → reads_bound p ≡ true → option_map (λ r. r.1) (as_read t) ≡ Some u → FindsAlone p t u
reads_find p t u e h = read_is p (λ x. FindsAlone x t u) e (λ w v. λ vars defs kinds o c m. read_alone vars defs kinds w v t u o c h m)

pub alone_passed : (ts : List Tree) (passed : List ℕ) (p t : Tree) (rest : List ℕ) (b : List (Option ℕ)) (j : ℕ) → j < length ts → length b ≡ 1 → length rest ≡ 0 → FindsAlone p t (at ts j) → list_any (nat_eq j) passed ≡ true → IsPassed ts passed p t (trees_of (terms_at ts rest)) (found_at ts b)
alone_passed ts passed p t (i ∷ rest) b j low e r finds there = absurd (omega (arith, r))
alone_passed ts passed p t [] [] j low e r finds there = absurd (omega (arith, e))
alone_passed ts passed p t [] (o ∷ q ∷ b) j low e r finds there = absurd (omega (arith, e))
alone_passed ts passed p t [] (o ∷ []) j low e r finds there = λ vars defs kinds terms new h.
    nothing_left vars defs kinds new (at ts j) terms (h j low ∙ ap not there) (matched vars defs kinds false p t (option_map (at ts) o ∷ [])) (λ c m. finds vars defs kinds (option_map (at ts) o) c m)

-- a tuple of one term that isn't passed is found
pub found_at_place : (ts : List Tree) (passed : List ℕ) (vs : List (Vec ℕ Global)) (k : ℕ) (v : Vec ℕ Global) → k < length vs → v ≡ get_or vs k v → ((new : List Tree → Bool) → Tells ts passed new → new (map (at ts) v.items) ≡ true) → FindSome ts passed (lists_at ts vs)
found_at_place ts passed vs k v l e p = λ new h. any_map new (λ (w : Vec ℕ Global). map (at ts) w.items) vs ∙ any_here (λ (w : Vec ℕ Global). new (map (at ts) w.items)) vs k v l e (p new h)
  where
    any_here : {A : Type 0} (q : A → Bool) (xs : List A) (i : ℕ) (x : A) → i < length xs → x ≡ get_or xs i x → q x ≡ true → list_any q xs ≡ true
    any_here q [] i x l e h = absurd (omega (arith, l))
    any_here q (y ∷ xs) zero x l e h = ap (λ b. b || list_any q xs) (ap q (sym e) ∙ h)
    any_here q (y ∷ xs) (suc i) x l e h = or_second (q y) (list_any q xs) (any_here q xs i x (omega (arith, l)) e h)

-- the only number of a list
pub only_one : (i : ℕ) (is rest : List ℕ) → is ≡ i ∷ rest → nat_eq (length rest) 0 ≡ true → is ≡ i ∷ []
only_one i is [] e h = e
only_one i is (j ∷ rest) e h = absurd (omega (arith, eqb-true (length (j ∷ rest)) 0 h))

pub not_only : (i : ℕ) (is rest : List ℕ) → is ≡ i ∷ rest → nat_eq (length rest) 0 ≡ false → (j : ℕ) → is ≡ j ∷ [] → ⊥
not_only i is [] e h j f = true≢false h
not_only i is (k ∷ rest) e h j f = cc

pub none_only : (is : List ℕ) → is ≡ [] → (j : ℕ) → is ≡ j ∷ [] → ⊥
none_only is e j f = cc

pub alone_joins : (i : ℕ) (is old new : List ℕ) → is ≡ i ∷ [] → new ≡ cond (list_any (nat_eq i) old) old (old ++ i ∷ []) → JoinsAlone is old new
alone_joins i is old new e made = λ ts stored low j l.
    let mine : i < length ts = (subst (AllByRecursion (λ k. k < length ts)) e low).0 in
    inserted i j old new made ∙ ap (λ b. list_any (nat_eq j) old || b)
    (other_way j i ∙ same_number ts i j stored mine l ∙ sym (and_true (same_term (at ts i) (at ts j))) ∙ ap (λ ks. same_trees (trees_of (map (at ts) ks)) (trees_of (at ts j ∷ []))) (sym e))

pub none_joins : (is old : List ℕ) → ((i : ℕ) → is ≡ i ∷ [] → ⊥) → JoinsAlone is old old
none_joins is old other = λ ts stored low j l. sym (ap (λ b. list_any (nat_eq j) old || b) (others ts is (at ts j) other) ∙ or_false (list_any (nat_eq j) old))
  where
    others : (ts : List Tree) (is : List ℕ) (t : Tree) → ((i : ℕ) → is ≡ i ∷ [] → ⊥) → same_trees (trees_of (map (at ts) is)) (trees_of (t ∷ [])) ≡ false
    others ts [] t k = refl
    others ts (i ∷ []) t k = absurd (k i refl)
    others ts (i ∷ j ∷ is) t k = and_false (same_term (at ts i) t)

-- the only term of a tuple
pub tuple_joins : (ts : List Tree) (tuple : ℕ) (is old new : List ℕ) → AreStored ts → tuple < length ts → AllByRecursion (λ j. j < tuple) is → terms_in (at ts tuple) ≡ map (at ts) is → JoinsAlone is old new
    → (j : ℕ) → j < length ts → list_any (nat_eq j) new ≡ (list_any (nat_eq j) old || same_trees (trees_of (terms_in (at ts tuple))) (trees_of (at ts j ∷ [])))
tuple_joins ts tuple is old new stored l low e joins = λ j there.
    joins ts stored (all_lower tuple (length ts) is (omega (arith, l)) low) j there ∙ ap (λ us. list_any (nat_eq j) old || same_trees (trees_of us) (trees_of (at ts j ∷ []))) (sym e)

-- a mark of the fact, and one of another
pub mark_joins : (ts : List Tree) (m : NumberedMark) (fact j : ℕ) (old new : List ℕ) → m.fact ≡ fact → list_any (nat_eq j) new ≡ (list_any (nat_eq j) old || same_trees (trees_of (terms_in (at ts m.tuple))) (trees_of (at ts j ∷ [])))
    → list_any (nat_eq j) new ≡ (list_any (nat_eq j) old || same_mark (mark_at ts m) (mark_alone ts fact j))
mark_joins ts m fact j old new f e = e ∙ ap (λ b. list_any (nat_eq j) old || (b && same_trees (trees_of (terms_in (at ts m.tuple))) (trees_of (at ts j ∷ [])))) (sym (ap (λ k. same_term (at ts k) (at ts fact)) f ∙ same_as_itself (at ts fact)))

pub mark_of_other : (ts : List Tree) (stored : AreStored ts) (m : NumberedMark) (fact j : ℕ) (old : List ℕ) → m.fact < length ts → fact < length ts → nat_eq m.fact fact ≡ false → list_any (nat_eq j) old ≡ (list_any (nat_eq j) old || same_mark (mark_at ts m) (mark_alone ts fact j))
mark_of_other ts stored m fact j old l w f = sym (
    ap (λ b. list_any (nat_eq j) old || (b && same_trees (trees_of (terms_in (at ts m.tuple))) (trees_of (at ts j ∷ [])))) (sym (same_number ts m.fact fact stored l w) ∙ f)
    ∙ or_false (list_any (nat_eq j) old)
    )

-- one mark on
pub tells_next : (ts : List Tree) (ms : List NumberedMark) (i : ℕ) (m : NumberedMark) (fact : ℕ) (old new : List ℕ) → i < length ms → m ≡ get_or ms i m → Tells ts old (is_new (map (mark_at ts) (take i ms)) (at ts fact))
    → ((j : ℕ) → j < length ts → list_any (nat_eq j) new ≡ (list_any (nat_eq j) old || same_mark (mark_at ts m) (mark_alone ts fact j))) → Tells ts new (is_new (map (mark_at ts) (take (i + 1) ms)) (at ts fact))
tells_next ts ms i m fact old new l e so_far h = λ j low.
    let P : Mark → Bool = λ o. same_mark o (mark_alone ts fact j) in let Q : NumberedMark → Bool = λ o. P (mark_at ts o) in
    let before : list_any P (map (mark_at ts) (take i ms)) ≡ list_any (nat_eq j) old = sym (not_not (list_any P (map (mark_at ts) (take i ms)))) ∙ ap not (so_far j low) ∙ not_not (list_any (nat_eq j) old) in
    ap not (any_map P (mark_at ts) (take (i + 1) ms) ∙ ap (list_any Q) (take_item ms i m l e) ∙ any_append Q (take i ms) (m ∷ []) ∙ ap (λ b. list_any Q (take i ms) || b) (or_false (Q m))
    ∙ ap (λ b. b || Q m) (sym (any_map P (mark_at ts) (take i ms)) ∙ before) ∙ sym (h j low))
