-- Junctions, negations and equations of well-sorted terms are formulas.
-- Here s is the sort of a term, h that the terms of a list are formulas, e what the computation gives; p and q are its steps, f the sorts of the parts.
use Rattle.std.proofs.Common.{◌≡◌, refl, sym, subst, pos, negsuc, Bool, true, false, ◌&&◌, not, if◌then◌else◌, Some, option_map, List, ◌++◌, reverse, int_eq}
use Rattle.logic_core.proofs.Booleans.{both_true, all_true}
use Rattle.logic_core.specs.Tree.{Kind, int, boolean, map, Tree, num, truth, choose, negation, all, some, equal, at_most, for_all, exists, Trees, no_trees, tree, Patterns}
use Rattle.logic_core.specs.Def.{Def}
use Rattle.logic_core.specs.Wide.{◌>>=◌, when}
use Rattle.logic_core.specs.Same.{same_term}
use Rattle.logic_core.specs.Sorts.{is, sort_of, are_formulas, have_sorts_in}
use Rattle.logic_core.specs.Sum.{affine, difference, in_order}
use Rattle.logic_core.specs.declared.junction.Connective.{Connective}
use Rattle.logic_core.specs.declared.junction.Connective.TheVariants.{And, Or}
use Rattle.logic_core.specs.Junction.{append, has_truth, neutral, joined, with_operand, operands, joined_or_alone, junction, conjunction, disjunction, is_zero, negated, negated_each}
use Rattle.logic_core.specs.Normal.{choice, has_negative_lead, equals_zero, zero_at_most, equivalence_with, equivalence, equation_of, equation, inequality, quantified}
use Rattle.logic_laws.proofs.Options.{some_has, bind_some, map_some, when_some, when_true, cond_has, cond_some}
use Rattle.logic_laws.proofs.SortTests.{is_sort, sort_is}
use Rattle.logic_laws.proofs.SumSorts.{in_order_has, affine_sort, difference_sort, at_most_sort}

module _ (vars : List Kind) (defs : List Def) where
  pub one_more_formula : (t : Tree) (ts : Trees) (b : List Kind) → sort_of vars defs b t ≡ Some boolean → are_formulas vars defs b ts ≡ true → are_formulas vars defs b (tree t ts) ≡ true
  one_more_formula t ts b s h = all_true (is boolean (sort_of vars defs b t)) (are_formulas vars defs b ts) (sort_is boolean (sort_of vars defs b t) s) h

  pub first_formula : (t : Tree) (ts : Trees) (b : List Kind) → are_formulas vars defs b (tree t ts) ≡ true → (sort_of vars defs b t ≡ Some boolean) × (are_formulas vars defs b ts ≡ true)
  first_formula t ts b h = let p = both_true (is boolean (sort_of vars defs b t)) (are_formulas vars defs b ts) h in (is_sort boolean (sort_of vars defs b t) p.0, p.1)

  pub append_formulas : (ts us : Trees) (b : List Kind) → are_formulas vars defs b ts ≡ true → are_formulas vars defs b us ≡ true → are_formulas vars defs b (append ts us) ≡ true
  append_formulas no_trees us b h k = k
  append_formulas (tree t ts) us b h k = let f = first_formula t ts b h in one_more_formula t (append ts us) b f.0 (append_formulas ts us b f.1 k)

  pub parts_of_all : (ts : Trees) (b : List Kind) → sort_of vars defs b (all ts) ≡ Some boolean → are_formulas vars defs b ts ≡ true
  parts_of_all ts b s = (when_some (are_formulas vars defs b ts) boolean boolean s).0

  pub with_operand_formulas : (c : Connective) (t : Tree) (ts : Trees) (b : List Kind) → sort_of vars defs b t ≡ Some boolean → are_formulas vars defs b ts ≡ true → are_formulas vars defs b (with_operand c t ts) ≡ true
  with_operand_formulas And (all us) ts b s h = append_formulas us ts b (parts_of_all us b s) h
  with_operand_formulas And (truth true) ts b s h = h
  with_operand_formulas Or (some us) ts b s h = append_formulas us ts b (parts_of_all us b s) h
  with_operand_formulas Or (truth false) ts b s h = h
  with_operand_formulas And t ts b s h = one_more_formula t ts b s h
  with_operand_formulas Or t ts b s h = one_more_formula t ts b s h

  pub operands_formulas : (c : Connective) (ts : Trees) (b : List Kind) → are_formulas vars defs b ts ≡ true → are_formulas vars defs b (operands c ts) ≡ true
  operands_formulas c no_trees b h = refl
  operands_formulas c (tree t ts) b h = let f = first_formula t ts b h in with_operand_formulas c t (operands c ts) b f.0 (operands_formulas c ts b f.1)

  joined_sort : (c : Connective) (ts : Trees) (b : List Kind) → are_formulas vars defs b ts ≡ true → sort_of vars defs b (joined c ts) ≡ Some boolean
  joined_sort And ts b h = when_true (are_formulas vars defs b ts) (Some boolean) h
  joined_sort Or ts b h = when_true (are_formulas vars defs b ts) (Some boolean) h

  pub joined_or_alone_sort : (c : Connective) (ts : Trees) (b : List Kind) → are_formulas vars defs b ts ≡ true → sort_of vars defs b (joined_or_alone c ts) ≡ Some boolean
  joined_or_alone_sort c no_trees b h = refl
  joined_or_alone_sort c (tree t no_trees) b h = (first_formula t no_trees b h).0
  joined_or_alone_sort c (tree t (tree u us)) b h = joined_sort c (tree t (tree u us)) b h

  pub junction_sort : (c : Connective) (ts : Trees) (b : List Kind) → are_formulas vars defs b ts ≡ true → sort_of vars defs b (junction c ts) ≡ Some boolean
  junction_sort c ts b h = cond_has (λ u. sort_of vars defs b u ≡ Some boolean) (has_truth (not (neutral c)) (operands c ts)) (truth (not (neutral c))) (joined_or_alone c (operands c ts)) (λ _. refl) (λ _. joined_or_alone_sort c (operands c ts) b (operands_formulas c ts b h))

  pub negation_sort : (t : Tree) (b : List Kind) → sort_of vars defs b t ≡ Some boolean → sort_of vars defs b (negation t) ≡ Some boolean
  negation_sort t b s = when_true (is boolean (sort_of vars defs b t)) (Some boolean) (sort_is boolean (sort_of vars defs b t) s)

  pub part_of_negation : (t : Tree) (b : List Kind) (k : Kind) → sort_of vars defs b (negation t) ≡ Some k → sort_of vars defs b t ≡ Some boolean
  part_of_negation t b k s = is_sort boolean (sort_of vars defs b t) (when_some (is boolean (sort_of vars defs b t)) boolean k s).0

  pub parts_of_at_most : (x y : Tree) (b : List Kind) (k : Kind) → sort_of vars defs b (at_most x y) ≡ Some k → (sort_of vars defs b x ≡ Some int) × (sort_of vars defs b y ≡ Some int)
  parts_of_at_most x y b k s =
      let p = both_true (is int (sort_of vars defs b x)) (is int (sort_of vars defs b y)) (when_some (is int (sort_of vars defs b x) && is int (sort_of vars defs b y)) boolean k s).0 in
      (is_sort int (sort_of vars defs b x) p.0, is_sort int (sort_of vars defs b y) p.1)

  -- of a quantifier: its triggers and its body
  pub parts_of_quantifier : (ss : List Kind) (ps : Patterns) (t : Tree) (b : List Kind) (k : Kind) → sort_of vars defs b (for_all ss ps t) ≡ Some k → (have_sorts_in vars defs (reverse ss ++ b) ps ≡ true) × (sort_of vars defs (reverse ss ++ b) t ≡ Some boolean)
  parts_of_quantifier ss ps t b k s =
      let p = both_true (have_sorts_in vars defs (reverse ss ++ b) ps) (is boolean (sort_of vars defs (reverse ss ++ b) t)) (when_some (have_sorts_in vars defs (reverse ss ++ b) ps && is boolean (sort_of vars defs (reverse ss ++ b) t)) boolean k s).0 in
      (p.0, is_sort boolean (sort_of vars defs (reverse ss ++ b) t) p.1)

  pub quantifier_sort : (ss : List Kind) (ps : Patterns) (t : Tree) (b : List Kind) → have_sorts_in vars defs (reverse ss ++ b) ps ≡ true → sort_of vars defs (reverse ss ++ b) t ≡ Some boolean → sort_of vars defs b (for_all ss ps t) ≡ Some boolean
  quantifier_sort ss ps t b h s = when_true (have_sorts_in vars defs (reverse ss ++ b) ps && is boolean (sort_of vars defs (reverse ss ++ b) t)) (Some boolean)
      (all_true (have_sorts_in vars defs (reverse ss ++ b) ps) (is boolean (sort_of vars defs (reverse ss ++ b) t)) h (sort_is boolean (sort_of vars defs (reverse ss ++ b) t) s))

  not_at_most_sort : (z d u : Tree) (b : List Kind) → sort_of vars defs b (at_most z d) ≡ Some boolean → negated (at_most z d) ≡ Some u → sort_of vars defs b u ≡ Some boolean
  not_at_most_sort z d u b s e = let f = parts_of_at_most z d b boolean s in
      cond_some (λ u. sort_of vars defs b u ≡ Some boolean) (is_zero z) (option_map (λ e. at_most z e) (affine (negsuc 0) d (negsuc 0))) (Some (negation (at_most z d))) u e
      (λ _ q. let p = map_some (λ e. at_most z e) (affine (negsuc 0) d (negsuc 0)) u q in subst (λ x. sort_of vars defs b x ≡ Some boolean) p.2 (at_most_sort vars defs z p.0 b f.0 (affine_sort vars defs (negsuc 0) d (negsuc 0) p.0 b f.1 p.1)))
      (λ _ q. some_has (λ x. sort_of vars defs b x ≡ Some boolean) (negation (at_most z d)) u q (negation_sort (at_most z d) b s))

  mutual
    -- the normal Not of a formula is a formula
    pub negated_sort : (t u : Tree) (b : List Kind) → sort_of vars defs b t ≡ Some boolean → negated t ≡ Some u → sort_of vars defs b u ≡ Some boolean
    negated_sort (truth x) u b s e = some_has (λ x. sort_of vars defs b x ≡ Some boolean) (truth (not x)) u e refl
    negated_sort (negation t) u b s e = some_has (λ x. sort_of vars defs b x ≡ Some boolean) t u e (part_of_negation t b boolean s)
    negated_sort (all ts) u b s e = let p = map_some disjunction (negated_each ts) u e in subst (λ x. sort_of vars defs b x ≡ Some boolean) p.2 (junction_sort Or p.0 b (negated_formulas ts p.0 b (parts_of_all ts b s) p.1))
    negated_sort (some ts) u b s e = let p = map_some conjunction (negated_each ts) u e in subst (λ x. sort_of vars defs b x ≡ Some boolean) p.2 (junction_sort And p.0 b (negated_formulas ts p.0 b (parts_of_all ts b s) p.1))
    negated_sort (at_most z d) u b s e = not_at_most_sort z d u b s e
    negated_sort (for_all ss ps t) u b s e = let f = parts_of_quantifier ss ps t b boolean s in let p = map_some (λ v. exists ss ps v) (negated t) u e in
        subst (λ x. sort_of vars defs b x ≡ Some boolean) p.2 (quantifier_sort ss ps p.0 b f.0 (negated_sort t p.0 (reverse ss ++ b) f.1 p.1))
    negated_sort (exists ss ps t) u b s e = let f = parts_of_quantifier ss ps t b boolean s in let p = map_some (λ v. for_all ss ps v) (negated t) u e in
        subst (λ x. sort_of vars defs b x ≡ Some boolean) p.2 (quantifier_sort ss ps p.0 b f.0 (negated_sort t p.0 (reverse ss ++ b) f.1 p.1))
    negated_sort t u b s e = some_has (λ x. sort_of vars defs b x ≡ Some boolean) (negation t) u e (negation_sort t b s)

    pub negated_formulas : (ts us : Trees) (b : List Kind) → are_formulas vars defs b ts ≡ true → negated_each ts ≡ Some us → are_formulas vars defs b us ≡ true
    negated_formulas no_trees us b h e = some_has (λ x. are_formulas vars defs b x ≡ true) no_trees us e refl
    negated_formulas (tree t ts) us b h e = let f = first_formula t ts b h in
        let p = bind_some (negated t) (λ u. negated_each ts >>= λ vs. Some (tree u vs)) us e in
        let q = bind_some (negated_each ts) (λ vs. Some (tree p.0 vs)) us p.2 in
        some_has (λ x. are_formulas vars defs b x ≡ true) (tree p.0 q.0) us q.2 (one_more_formula p.0 q.0 b (negated_sort t p.0 b f.0 p.1) (negated_formulas ts q.0 b f.1 q.1))

  pub equal_sort : (x y : Tree) (b : List Kind) (k : Kind) → sort_of vars defs b x ≡ Some k → sort_of vars defs b y ≡ Some k → sort_of vars defs b (equal x y) ≡ Some boolean
  equal_sort x y b k sx sy = subst (λ s. (s >>= λ j. when (is j (sort_of vars defs b y)) (Some boolean)) ≡ Some boolean) (sym sx) (when_true (is k (sort_of vars defs b y)) (Some boolean) (sort_is k (sort_of vars defs b y) sy))

  pub parts_of_equal : (x y : Tree) (b : List Kind) (k : Kind) → sort_of vars defs b (equal x y) ≡ Some k → (j : Kind) × (sort_of vars defs b x ≡ Some j) × (sort_of vars defs b y ≡ Some j) × (k ≡ boolean)
  parts_of_equal x y b k s =
      let p = bind_some (sort_of vars defs b x) (λ j. when (is j (sort_of vars defs b y)) (Some boolean)) k s in
      let q = when_some (is p.0 (sort_of vars defs b y)) boolean k p.2 in
      (p.0, p.1, is_sort p.0 (sort_of vars defs b y) q.0, sym q.1)

  zero_equation_sort : (d u : Tree) (b : List Kind) → sort_of vars defs b d ≡ Some int → option_map (λ e. equal e (num (pos 0))) (if has_negative_lead d then affine (negsuc 0) d (pos 0) else Some d) ≡ Some u → sort_of vars defs b u ≡ Some boolean
  zero_equation_sort d u b s e =
      let p = map_some (λ e. equal e (num (pos 0))) (if has_negative_lead d then affine (negsuc 0) d (pos 0) else Some d) u e in
      let f : sort_of vars defs b p.0 ≡ Some int = cond_some (λ v. sort_of vars defs b v ≡ Some int) (has_negative_lead d) (affine (negsuc 0) d (pos 0)) (Some d) p.0 p.1 (λ _ q. affine_sort vars defs (negsuc 0) d (pos 0) p.0 b s q) (λ _ q. some_has (λ v. sort_of vars defs b v ≡ Some int) d p.0 q s) in
      subst (λ x. sort_of vars defs b x ≡ Some boolean) p.2 (equal_sort p.0 (num (pos 0)) b int f refl)

  pub equals_zero_sort : (d u : Tree) (b : List Kind) → sort_of vars defs b d ≡ Some int → equals_zero d ≡ Some u → sort_of vars defs b u ≡ Some boolean
  equals_zero_sort (num n) u b s e = some_has (λ x. sort_of vars defs b x ≡ Some boolean) (truth (int_eq n (pos 0))) u e refl
  equals_zero_sort d u b s e = zero_equation_sort d u b s e

  ordered_equal_sort : (x y u : Tree) (b : List Kind) (k : Kind) → sort_of vars defs b x ≡ Some k → sort_of vars defs b y ≡ Some k → Some (equal (in_order x y).0 (in_order x y).1) ≡ Some u → sort_of vars defs b u ≡ Some boolean
  ordered_equal_sort x y u b k sx sy e = some_has (λ t. sort_of vars defs b t ≡ Some boolean) (equal (in_order x y).0 (in_order x y).1) u e (in_order_has (λ p. sort_of vars defs b (equal p.0 p.1) ≡ Some boolean) x y (equal_sort x y b k sx sy) (equal_sort y x b k sy sx))

  -- the other side, or its Not
  side_sort : (c : Bool) (x u : Tree) (b : List Kind) → sort_of vars defs b x ≡ Some boolean → (if c then Some x else negated x) ≡ Some u → sort_of vars defs b u ≡ Some boolean
  side_sort c x u b s e = cond_some (λ v. sort_of vars defs b v ≡ Some boolean) c (Some x) (negated x) u e (λ _ q. some_has (λ v. sort_of vars defs b v ≡ Some boolean) x u q s) (λ _ q. negated_sort x u b s q)

  equivalence_with_sort : (y x u : Tree) (b : List Kind) → sort_of vars defs b x ≡ Some boolean → sort_of vars defs b y ≡ Some boolean → equivalence_with x y ≡ Some u → sort_of vars defs b u ≡ Some boolean
  equivalence_with_sort (truth c) x u b sx sy e = side_sort c x u b sx e
  equivalence_with_sort y x u b sx sy e = ordered_equal_sort x y u b boolean sx sy e

  pub equivalence_sort : (x y u : Tree) (b : List Kind) → sort_of vars defs b x ≡ Some boolean → sort_of vars defs b y ≡ Some boolean → equivalence x y ≡ Some u → sort_of vars defs b u ≡ Some boolean
  equivalence_sort (truth c) y u b sx sy e = side_sort c y u b sy e
  equivalence_sort x y u b sx sy e = equivalence_with_sort y x u b sx sy e

  pub equation_of_sort : (k : Kind) (x y u : Tree) (b : List Kind) → sort_of vars defs b x ≡ Some k → sort_of vars defs b y ≡ Some k → equation_of (Some k) x y ≡ Some u → sort_of vars defs b u ≡ Some boolean
  equation_of_sort int x y u b sx sy e = let p = bind_some (difference x y) (λ d. equals_zero d) u e in equals_zero_sort p.0 u b (difference_sort vars defs x y p.0 b sx sy p.1) p.2
  equation_of_sort boolean x y u b sx sy e = equivalence_sort x y u b sx sy e
  equation_of_sort (map k) x y u b sx sy e = ordered_equal_sort x y u b (map k) sx sy e

  pub equation_sort : (k : Kind) (x y u : Tree) (b : List Kind) → sort_of vars defs b x ≡ Some k → sort_of vars defs b y ≡ Some k → equation (Some k) x y ≡ Some u → sort_of vars defs b u ≡ Some boolean
  equation_sort k x y u b sx sy e = cond_some (λ v. sort_of vars defs b v ≡ Some boolean) (same_term x y) (Some (truth true)) (equation_of (Some k) x y) u e
      (λ _ q. some_has (λ v. sort_of vars defs b v ≡ Some boolean) (truth true) u q refl) (λ _ q. equation_of_sort k x y u b sx sy q)

  pub zero_at_most_sort : (d : Tree) (b : List Kind) → sort_of vars defs b d ≡ Some int → sort_of vars defs b (zero_at_most d) ≡ Some boolean
  zero_at_most_sort (num n) b s = refl
  zero_at_most_sort d b s = at_most_sort vars defs (num (pos 0)) d b refl s

  pub inequality_sort : (x y u : Tree) (b : List Kind) → sort_of vars defs b x ≡ Some int → sort_of vars defs b y ≡ Some int → inequality x y ≡ Some u → sort_of vars defs b u ≡ Some boolean
  inequality_sort x y u b sx sy e = let p = map_some zero_at_most (difference y x) u e in subst (λ v. sort_of vars defs b v ≡ Some boolean) p.2 (zero_at_most_sort p.0 b (difference_sort vars defs y x p.0 b sy sx p.1))

  -- a choice between terms of one sort
  pub choose_sort : (c x y : Tree) (b : List Kind) (k : Kind) → sort_of vars defs b c ≡ Some boolean → sort_of vars defs b x ≡ Some k → sort_of vars defs b y ≡ Some k → sort_of vars defs b (choose c x y) ≡ Some k
  choose_sort c x y b k sc sx sy = subst (λ s. (s >>= λ j. when (is boolean (sort_of vars defs b c) && is j (sort_of vars defs b y)) (Some j)) ≡ Some k) (sym sx)
      (when_true (is boolean (sort_of vars defs b c) && is k (sort_of vars defs b y)) (Some k) (all_true (is boolean (sort_of vars defs b c)) (is k (sort_of vars defs b y)) (sort_is boolean (sort_of vars defs b c) sc) (sort_is k (sort_of vars defs b y) sy)))

  choose_or_one_sort : (c x y : Tree) (b : List Kind) (k : Kind) → sort_of vars defs b c ≡ Some boolean → sort_of vars defs b x ≡ Some k → sort_of vars defs b y ≡ Some k → sort_of vars defs b (if same_term x y then x else choose c x y) ≡ Some k
  choose_or_one_sort c x y b k sc sx sy = cond_has (λ u. sort_of vars defs b u ≡ Some k) (same_term x y) x (choose c x y) (λ _. sx) (λ _. choose_sort c x y b k sc sx sy)

  pub choice_sort : (c x y : Tree) (b : List Kind) (k : Kind) → sort_of vars defs b c ≡ Some boolean → sort_of vars defs b x ≡ Some k → sort_of vars defs b y ≡ Some k → sort_of vars defs b (choice c x y) ≡ Some k
  choice_sort (truth t) x y b k sc sx sy = cond_has (λ u. sort_of vars defs b u ≡ Some k) t x y (λ _. sx) (λ _. sy)
  choice_sort c x y b k sc sx sy = choose_or_one_sort c x y b k sc sx sy

  pub quantified_sort : (u : Tree) (binder : Tree → Tree) (b : List Kind) → sort_of vars defs b (binder u) ≡ Some boolean → sort_of vars defs b (quantified binder u) ≡ Some boolean
  quantified_sort (truth x) binder b s = refl
  quantified_sort u binder b s = s
