-- A normal form has the sort of its term.
-- Here e is what the normal form is made of, s the sort of the term; p, q, o are the steps of the normal form, f and g the sorts of the parts.
use Rattle.std.proofs.Common.{◌≡◌, ℕ, refl, sym, subst, Bool, true, ◌&&◌, Option, Some, None, option_map, List, [], ◌∷◌, ◌++◌, reverse, slice_get}
use Rattle.logic_core.proofs.Booleans.{both_true, all_true}
use Rattle.logic_core.specs.Tree.{Kind, int, boolean, map, Tree, num, truth, free, bound, linear, mul, read, write, choose, call, negation, all, some, equal, at_most, for_all, exists, Trees, no_trees, tree, Parts, no_parts, part, Patterns, no_patterns, pattern}
use Rattle.logic_core.specs.Def.{Def}
use Rattle.logic_core.specs.Wide.{◌>>=◌, when}
use Rattle.logic_core.specs.Same.{is_some_and}
use Rattle.logic_core.specs.Sorts.{is, range, sort_of, are, are_formulas, are_ints, have_sorts, have_sorts_in}
use Rattle.logic_core.specs.Sum.{Linear, constant, term_of, add_term, product}
use Rattle.logic_core.specs.declared.junction.Connective.TheVariants.{And, Or}
use Rattle.logic_core.specs.Junction.{conjunction, disjunction, negated}
use Rattle.logic_core.specs.Normal.{choice, equation, inequality, quantified, normal, normal_each, normal_sum, normal_patterns}
use Rattle.logic_laws.proofs.Options.{some_has, bind_some, map_some, when_some, when_true}
use Rattle.logic_laws.proofs.SortTests.{is_sort, sort_is}
use Rattle.logic_laws.proofs.SumSorts.{first_int, sum_sort, term_ints, product_sort}
use Rattle.logic_laws.proofs.FormulaSorts.{first_formula, one_more_formula, junction_sort, part_of_negation, negated_sort, parts_of_at_most, inequality_sort, parts_of_equal, equation_sort, choice_sort, parts_of_quantifier, quantifier_sort, quantified_sort}

module _ (vars : List Kind) (defs : List Def) where
  pub parts_of_mul : (x y : Tree) (b : List Kind) (k : Kind) → sort_of vars defs b (mul x y) ≡ Some k → (sort_of vars defs b x ≡ Some int) × (sort_of vars defs b y ≡ Some int) × (int ≡ k)
  parts_of_mul x y b k s =
      let w = when_some (is int (sort_of vars defs b x) && is int (sort_of vars defs b y)) int k s in
      let p = both_true (is int (sort_of vars defs b x)) (is int (sort_of vars defs b y)) w.0 in
      (is_sort int (sort_of vars defs b x) p.0, is_sort int (sort_of vars defs b y) p.1, w.1)

  -- a table's sort is the map's over the range
  pub range_map : (s k : Kind) → range s ≡ Some k → s ≡ map k
  range_map int k e = absurd (cc)
  range_map boolean k e = absurd (cc)
  range_map (map j) k e = cc

  pub parts_of_read : (m i : Tree) (b : List Kind) (k : Kind) → sort_of vars defs b (read m i) ≡ Some k → (sort_of vars defs b m ≡ Some (map k)) × (sort_of vars defs b i ≡ Some int)
  parts_of_read m i b k s =
      let p = bind_some (sort_of vars defs b m) (λ j. range j >>= λ r. when (is int (sort_of vars defs b i)) (Some r)) k s in
      let q = bind_some (range p.0) (λ r. when (is int (sort_of vars defs b i)) (Some r)) k p.2 in
      let w = when_some (is int (sort_of vars defs b i)) q.0 k q.2 in
      let e : p.0 ≡ map q.0 = range_map p.0 q.0 q.1 in
      (let f = p.1 in let g = w.1 in cc, is_sort int (sort_of vars defs b i) w.0)

  pub read_sort : (m i : Tree) (b : List Kind) (k : Kind) → sort_of vars defs b m ≡ Some (map k) → sort_of vars defs b i ≡ Some int → sort_of vars defs b (read m i) ≡ Some k
  read_sort m i b k sm si = subst (λ s. (s >>= λ j. range j >>= λ r. when (is int (sort_of vars defs b i)) (Some r)) ≡ Some k) (sym sm) (when_true (is int (sort_of vars defs b i)) (Some k) (sort_is int (sort_of vars defs b i) si))

  pub parts_of_write : (m i x : Tree) (b : List Kind) (k : Kind) → sort_of vars defs b (write m i x) ≡ Some k → (j : Kind) × (sort_of vars defs b m ≡ Some (map j)) × (sort_of vars defs b i ≡ Some int) × (sort_of vars defs b x ≡ Some j) × (map j ≡ k)
  parts_of_write m i x b k s =
      let p = bind_some (sort_of vars defs b m) (λ s. range s >>= λ r. when (is int (sort_of vars defs b i) && is r (sort_of vars defs b x)) (Some s)) k s in
      let q = bind_some (range p.0) (λ r. when (is int (sort_of vars defs b i) && is r (sort_of vars defs b x)) (Some p.0)) k p.2 in
      let w = when_some (is int (sort_of vars defs b i) && is q.0 (sort_of vars defs b x)) p.0 k q.2 in
      let c = both_true (is int (sort_of vars defs b i)) (is q.0 (sort_of vars defs b x)) w.0 in
      let e : p.0 ≡ map q.0 = range_map p.0 q.0 q.1 in
      (q.0, (let f = p.1 in cc), is_sort int (sort_of vars defs b i) c.0, is_sort q.0 (sort_of vars defs b x) c.1, (let g = w.1 in cc))

  pub write_sort : (m i x : Tree) (b : List Kind) (j : Kind) → sort_of vars defs b m ≡ Some (map j) → sort_of vars defs b i ≡ Some int → sort_of vars defs b x ≡ Some j → sort_of vars defs b (write m i x) ≡ Some (map j)
  write_sort m i x b j sm si sx = subst (λ s. (s >>= λ s. range s >>= λ r. when (is int (sort_of vars defs b i) && is r (sort_of vars defs b x)) (Some s)) ≡ Some (map j)) (sym sm)
      (when_true (is int (sort_of vars defs b i) && is j (sort_of vars defs b x)) (Some (map j)) (all_true (is int (sort_of vars defs b i)) (is j (sort_of vars defs b x)) (sort_is int (sort_of vars defs b i) si) (sort_is j (sort_of vars defs b x) sx)))

  pub parts_of_choose : (c x y : Tree) (b : List Kind) (k : Kind) → sort_of vars defs b (choose c x y) ≡ Some k → (sort_of vars defs b c ≡ Some boolean) × (sort_of vars defs b x ≡ Some k) × (sort_of vars defs b y ≡ Some k)
  parts_of_choose c x y b k s =
      let p = bind_some (sort_of vars defs b x) (λ s. when (is boolean (sort_of vars defs b c) && is s (sort_of vars defs b y)) (Some s)) k s in
      let w = when_some (is boolean (sort_of vars defs b c) && is p.0 (sort_of vars defs b y)) p.0 k p.2 in
      let q = both_true (is boolean (sort_of vars defs b c)) (is p.0 (sort_of vars defs b y)) w.0 in
      let e : sort_of vars defs b y ≡ Some p.0 = is_sort p.0 (sort_of vars defs b y) q.1 in
      let f = p.1 in let g = w.1 in
      (is_sort boolean (sort_of vars defs b c) q.0, cc, cc)

  pub parts_of_call : (f : ℕ) (ts : Trees) (b : List Kind) (k : Kind) → sort_of vars defs b (call f ts) ≡ Some k → (d : Def) × (slice_get defs f ≡ Some d) × (are vars defs b d.params ts ≡ true) × (d.sort ≡ k)
  parts_of_call f ts b k s =
      let p = bind_some (slice_get defs f) (λ d. when (are vars defs b d.params ts) (Some d.sort)) k s in
      let w = when_some (are vars defs b p.0.params ts) p.0.sort k p.2 in
      (p.0, p.1, w.0, w.1)

  pub call_sort : (f : ℕ) (ts : Trees) (b : List Kind) (d : Def) → slice_get defs f ≡ Some d → are vars defs b d.params ts ≡ true → sort_of vars defs b (call f ts) ≡ Some d.sort
  call_sort f ts b d e h = subst (λ s. (s >>= λ d. when (are vars defs b d.params ts) (Some d.sort)) ≡ Some d.sort) (sym e) (when_true (are vars defs b d.params ts) (Some d.sort) h)

  pub first_of_sort : (k : Kind) (ks : List Kind) (t : Tree) (ts : Trees) (b : List Kind) → are vars defs b (k ∷ ks) (tree t ts) ≡ true → (sort_of vars defs b t ≡ Some k) × (are vars defs b ks ts ≡ true)
  first_of_sort k ks t ts b h = let p = both_true (is k (sort_of vars defs b t)) (are vars defs b ks ts) h in (is_sort k (sort_of vars defs b t) p.0, p.1)

  -- a term that has a sort
  pub some_sort : (s : Option Kind) (f : Bool) → is_some_and s (λ _. f) ≡ true → (k : Kind) × (s ≡ Some k) × (f ≡ true)
  some_sort None f h = absurd (cc)
  some_sort (Some k) f h = (k, refl, h)

  pub sort_some : (s : Option Kind) (f : Bool) (k : Kind) → s ≡ Some k → f ≡ true → is_some_and s (λ _. f) ≡ true
  sort_some None f k e h = absurd (cc)
  sort_some (Some j) f k e h = h

  mutual
    pub normal_sort : (t u : Tree) (b : List Kind) (k : Kind) → normal vars defs b t ≡ Some u → sort_of vars defs b t ≡ Some k → sort_of vars defs b u ≡ Some k
    normal_sort (num n) u b k e s = some_has (λ x. sort_of vars defs b x ≡ Some k) (num n) u e s
    normal_sort (truth x) u b k e s = some_has (λ x. sort_of vars defs b x ≡ Some k) (truth x) u e s
    normal_sort (free v) u b k e s = some_has (λ x. sort_of vars defs b x ≡ Some k) (free v) u e s
    normal_sort (bound v) u b k e s = some_has (λ x. sort_of vars defs b x ≡ Some k) (bound v) u e s
    normal_sort (linear ps c) u b k e s =
        let p = map_some term_of (normal_sum vars defs b ps (constant c)) u e in
        let w = when_some (are_ints vars defs b ps) int k s in
        subst (λ x. sort_of vars defs b x ≡ Some k) p.2 (subst (λ j. sort_of vars defs b (term_of p.0) ≡ Some j) w.1 (sum_sort vars defs p.0.parts p.0.rest b (normal_ints ps (constant c) p.0 b p.1 w.0 refl)))
    normal_sort (mul x y) u b k e s =
        let p = bind_some (normal vars defs b x) (λ u. normal vars defs b y >>= λ v. product u v) u e in
        let q = bind_some (normal vars defs b y) (λ v. product p.0 v) u p.2 in
        let f = parts_of_mul x y b k s in
        subst (λ j. sort_of vars defs b u ≡ Some j) f.2 (product_sort vars defs p.0 q.0 u b (normal_sort x p.0 b int p.1 f.0) (normal_sort y q.0 b int q.1 f.1) q.2)
    normal_sort (read m i) u b k e s =
        let p = bind_some (normal vars defs b m) (λ u. normal vars defs b i >>= λ v. Some (read u v)) u e in
        let q = bind_some (normal vars defs b i) (λ v. Some (read p.0 v)) u p.2 in
        let f = parts_of_read m i b k s in
        some_has (λ x. sort_of vars defs b x ≡ Some k) (read p.0 q.0) u q.2 (read_sort p.0 q.0 b k (normal_sort m p.0 b (map k) p.1 f.0) (normal_sort i q.0 b int q.1 f.1))
    normal_sort (write m i x) u b k e s =
        let p = bind_some (normal vars defs b m) (λ u. normal vars defs b i >>= λ v. normal vars defs b x >>= λ w. Some (write u v w)) u e in
        let q = bind_some (normal vars defs b i) (λ v. normal vars defs b x >>= λ w. Some (write p.0 v w)) u p.2 in
        let r = bind_some (normal vars defs b x) (λ w. Some (write p.0 q.0 w)) u q.2 in
        let f = parts_of_write m i x b k s in
        some_has (λ x. sort_of vars defs b x ≡ Some k) (write p.0 q.0 r.0) u r.2
        (subst (λ j. sort_of vars defs b (write p.0 q.0 r.0) ≡ Some j) f.4 (write_sort p.0 q.0 r.0 b f.0 (normal_sort m p.0 b (map f.0) p.1 f.1) (normal_sort i q.0 b int q.1 f.2) (normal_sort x r.0 b f.0 r.1 f.3)))
    normal_sort (choose c x y) u b k e s =
        let p = bind_some (normal vars defs b c) (λ u. normal vars defs b x >>= λ v. normal vars defs b y >>= λ w. Some (choice u v w)) u e in
        let q = bind_some (normal vars defs b x) (λ v. normal vars defs b y >>= λ w. Some (choice p.0 v w)) u p.2 in
        let r = bind_some (normal vars defs b y) (λ w. Some (choice p.0 q.0 w)) u q.2 in
        let f = parts_of_choose c x y b k s in
        some_has (λ x. sort_of vars defs b x ≡ Some k) (choice p.0 q.0 r.0) u r.2
        (choice_sort vars defs p.0 q.0 r.0 b k (normal_sort c p.0 b boolean p.1 f.0) (normal_sort x q.0 b k q.1 f.1) (normal_sort y r.0 b k r.1 f.2))
    normal_sort (call f ts) u b k e s =
        let p = map_some (λ us. call f us) (normal_each vars defs b ts) u e in
        let g = parts_of_call f ts b k s in
        subst (λ x. sort_of vars defs b x ≡ Some k) p.2 (subst (λ j. sort_of vars defs b (call f p.0) ≡ Some j) g.3 (call_sort f p.0 b g.0 g.1 (normal_sorts ts p.0 b g.0.params p.1 g.2)))
    normal_sort (negation x) u b k e s =
        let p = bind_some (normal vars defs b x) (λ u. negated u) u e in
        let w = when_some (is boolean (sort_of vars defs b x)) boolean k s in
        subst (λ j. sort_of vars defs b u ≡ Some j) w.1 (negated_sort vars defs p.0 u b (normal_sort x p.0 b boolean p.1 (part_of_negation vars defs x b k s)) p.2)
    normal_sort (all ts) u b k e s =
        let p = map_some conjunction (normal_each vars defs b ts) u e in
        let w = when_some (are_formulas vars defs b ts) boolean k s in
        subst (λ x. sort_of vars defs b x ≡ Some k) p.2 (subst (λ j. sort_of vars defs b (conjunction p.0) ≡ Some j) w.1 (junction_sort vars defs And p.0 b (normal_formulas ts p.0 b p.1 w.0)))
    normal_sort (some ts) u b k e s =
        let p = map_some disjunction (normal_each vars defs b ts) u e in
        let w = when_some (are_formulas vars defs b ts) boolean k s in
        subst (λ x. sort_of vars defs b x ≡ Some k) p.2 (subst (λ j. sort_of vars defs b (disjunction p.0) ≡ Some j) w.1 (junction_sort vars defs Or p.0 b (normal_formulas ts p.0 b p.1 w.0)))
    normal_sort (equal x y) u b k e s =
        let p = bind_some (normal vars defs b x) (λ u. normal vars defs b y >>= λ v. equation (sort_of vars defs b x) u v) u e in
        let q = bind_some (normal vars defs b y) (λ v. equation (sort_of vars defs b x) p.0 v) u p.2 in
        let f = parts_of_equal vars defs x y b k s in
        subst (λ j. sort_of vars defs b u ≡ Some j) (sym f.3)
        (equation_sort vars defs f.0 p.0 q.0 u b (normal_sort x p.0 b f.0 p.1 f.1) (normal_sort y q.0 b f.0 q.1 f.2) (subst (λ j. equation j p.0 q.0 ≡ Some u) f.1 q.2))
    normal_sort (at_most x y) u b k e s =
        let p = bind_some (normal vars defs b x) (λ u. normal vars defs b y >>= λ v. inequality u v) u e in
        let q = bind_some (normal vars defs b y) (λ v. inequality p.0 v) u p.2 in
        let f = parts_of_at_most vars defs x y b k s in
        let w = when_some (is int (sort_of vars defs b x) && is int (sort_of vars defs b y)) boolean k s in
        subst (λ j. sort_of vars defs b u ≡ Some j) w.1 (inequality_sort vars defs p.0 q.0 u b (normal_sort x p.0 b int p.1 f.0) (normal_sort y q.0 b int q.1 f.1) q.2)
    normal_sort (for_all ss ps t) u b k e s =
        let p = bind_some (normal_patterns vars defs (reverse ss ++ b) ps) (λ qs. option_map (λ u. quantified (λ v. for_all ss qs v) u) (normal vars defs (reverse ss ++ b) t)) u e in
        let q = map_some (λ u. quantified (λ v. for_all ss p.0 v) u) (normal vars defs (reverse ss ++ b) t) u p.2 in
        let f = parts_of_quantifier vars defs ss ps t b k s in
        let w = when_some (have_sorts_in vars defs (reverse ss ++ b) ps && is boolean (sort_of vars defs (reverse ss ++ b) t)) boolean k s in
        subst (λ x. sort_of vars defs b x ≡ Some k) q.2 (subst (λ j. sort_of vars defs b (quantified (λ v. for_all ss p.0 v) q.0) ≡ Some j) w.1
        (quantified_sort vars defs q.0 (λ v. for_all ss p.0 v) b (quantifier_sort vars defs ss p.0 q.0 b (normal_patterns_sorts ps p.0 (reverse ss ++ b) p.1 f.0) (normal_sort t q.0 (reverse ss ++ b) boolean q.1 f.1))))
    normal_sort (exists ss ps t) u b k e s =
        let p = bind_some (normal_patterns vars defs (reverse ss ++ b) ps) (λ qs. option_map (λ u. quantified (λ v. exists ss qs v) u) (normal vars defs (reverse ss ++ b) t)) u e in
        let q = map_some (λ u. quantified (λ v. exists ss p.0 v) u) (normal vars defs (reverse ss ++ b) t) u p.2 in
        let f = parts_of_quantifier vars defs ss ps t b k s in
        let w = when_some (have_sorts_in vars defs (reverse ss ++ b) ps && is boolean (sort_of vars defs (reverse ss ++ b) t)) boolean k s in
        subst (λ x. sort_of vars defs b x ≡ Some k) q.2 (subst (λ j. sort_of vars defs b (quantified (λ v. exists ss p.0 v) q.0) ≡ Some j) w.1
        (quantified_sort vars defs q.0 (λ v. exists ss p.0 v) b (quantifier_sort vars defs ss p.0 q.0 b (normal_patterns_sorts ps p.0 (reverse ss ++ b) p.1 f.0) (normal_sort t q.0 (reverse ss ++ b) boolean q.1 f.1))))

    pub normal_sorts : (ts us : Trees) (b ks : List Kind) → normal_each vars defs b ts ≡ Some us → are vars defs b ks ts ≡ true → are vars defs b ks us ≡ true
    normal_sorts no_trees us b ks e h = some_has (λ x. are vars defs b ks x ≡ true) no_trees us e h
    normal_sorts (tree t ts) us b [] e h = absurd (cc)
    normal_sorts (tree t ts) us b (k ∷ ks) e h =
        let p = bind_some (normal vars defs b t) (λ u. normal_each vars defs b ts >>= λ us. Some (tree u us)) us e in
        let q = bind_some (normal_each vars defs b ts) (λ us. Some (tree p.0 us)) us p.2 in
        let f = first_of_sort k ks t ts b h in
        some_has (λ x. are vars defs b (k ∷ ks) x ≡ true) (tree p.0 q.0) us q.2
        (all_true (is k (sort_of vars defs b p.0)) (are vars defs b ks q.0) (sort_is k (sort_of vars defs b p.0) (normal_sort t p.0 b k p.1 f.0)) (normal_sorts ts q.0 b ks q.1 f.1))

    pub normal_formulas : (ts us : Trees) (b : List Kind) → normal_each vars defs b ts ≡ Some us → are_formulas vars defs b ts ≡ true → are_formulas vars defs b us ≡ true
    normal_formulas no_trees us b e h = some_has (λ x. are_formulas vars defs b x ≡ true) no_trees us e h
    normal_formulas (tree t ts) us b e h =
        let p = bind_some (normal vars defs b t) (λ u. normal_each vars defs b ts >>= λ us. Some (tree u us)) us e in
        let q = bind_some (normal_each vars defs b ts) (λ us. Some (tree p.0 us)) us p.2 in
        let f = first_formula vars defs t ts b h in
        some_has (λ x. are_formulas vars defs b x ≡ true) (tree p.0 q.0) us q.2 (one_more_formula vars defs p.0 q.0 b (normal_sort t p.0 b boolean p.1 f.0) (normal_formulas ts q.0 b q.1 f.1))

    pub normal_ints : (ps : Parts) (s r : Linear) (b : List Kind) → normal_sum vars defs b ps s ≡ Some r → are_ints vars defs b ps ≡ true → are_ints vars defs b s.parts ≡ true → are_ints vars defs b r.parts ≡ true
    normal_ints no_parts s r b e h i = some_has (λ x. are_ints vars defs b x.parts ≡ true) s r e i
    normal_ints (part k t ps) s r b e h i =
        let p = bind_some (normal vars defs b t) (λ u. add_term k u s >>= λ r. normal_sum vars defs b ps r) r e in
        let q = bind_some (add_term k p.0 s) (λ r. normal_sum vars defs b ps r) r p.2 in
        let f = first_int vars defs k t ps b h in
        normal_ints ps q.0 r b q.2 f.1 (term_ints vars defs p.0 k s q.0 b (normal_sort t p.0 b int p.1 f.0) i q.1)

    pub normal_have_sorts : (ts us : Trees) (b : List Kind) → normal_each vars defs b ts ≡ Some us → have_sorts vars defs b ts ≡ true → have_sorts vars defs b us ≡ true
    normal_have_sorts no_trees us b e h = some_has (λ x. have_sorts vars defs b x ≡ true) no_trees us e h
    normal_have_sorts (tree t ts) us b e h =
        let p = bind_some (normal vars defs b t) (λ u. normal_each vars defs b ts >>= λ us. Some (tree u us)) us e in
        let q = bind_some (normal_each vars defs b ts) (λ us. Some (tree p.0 us)) us p.2 in
        let f = some_sort (sort_of vars defs b t) (have_sorts vars defs b ts) h in
        some_has (λ x. have_sorts vars defs b x ≡ true) (tree p.0 q.0) us q.2 (sort_some (sort_of vars defs b p.0) (have_sorts vars defs b q.0) f.0 (normal_sort t p.0 b f.0 p.1 f.1) (normal_have_sorts ts q.0 b q.1 f.2))

    pub normal_patterns_sorts : (ps qs : Patterns) (b : List Kind) → normal_patterns vars defs b ps ≡ Some qs → have_sorts_in vars defs b ps ≡ true → have_sorts_in vars defs b qs ≡ true
    normal_patterns_sorts no_patterns qs b e h = some_has (λ x. have_sorts_in vars defs b x ≡ true) no_patterns qs e h
    normal_patterns_sorts (pattern ts ps) qs b e h =
        let p = bind_some (normal_each vars defs b ts) (λ us. normal_patterns vars defs b ps >>= λ qs. Some (pattern us qs)) qs e in
        let q = bind_some (normal_patterns vars defs b ps) (λ qs. Some (pattern p.0 qs)) qs p.2 in
        let f = both_true (have_sorts vars defs b ts) (have_sorts_in vars defs b ps) h in
        some_has (λ x. have_sorts_in vars defs b x ≡ true) (pattern p.0 q.0) qs q.2 (all_true (have_sorts vars defs b p.0) (have_sorts_in vars defs b q.0) (normal_have_sorts ts p.0 b p.1 f.0) (normal_patterns_sorts ps q.0 b q.1 f.1))
