-- A normal form has the value of its term.
-- Here e is what the normal form is made of, s the sort of the term, f that the values for the bound variables fit, g the values of the parts; p, q and o are the steps of the normal form, i the sorts of the parts.
use Rattle.std.proofs.Common.{◌≡◌, ◌∙◌, refl, sym, ap, subst, ℕ, ℤ, ◌+ℤ◌, ◌*ℤ◌, Bool, true, Some, option_map, IsTrue, List, [], ◌∷◌, ◌++◌, reverse}
use Rattle.logic_core.specs.Tree.{Kind, int, boolean, map, Tree, num, truth, free, bound, linear, mul, read, write, choose, call, negation, all, some, equal, at_most, for_all, exists, Trees, no_trees, tree, Parts, no_parts, part}
use Rattle.logic_core.specs.Def.{Def}
use Rattle.logic_core.specs.Value.{Value, int_of, holds, are_of}
use Rattle.logic_core.specs.Meaning.{Holds}
use Rattle.logic_core.specs.Valid.{Calls}
use Rattle.logic_core.specs.Wide.{◌>>=◌}
use Rattle.logic_core.specs.Sorts.{sort_of, are, are_formulas, are_ints}
use Rattle.logic_core.specs.Sum.{Linear, constant, term_of, add_term, product}
use Rattle.logic_core.specs.Junction.{conjunction, disjunction, negated}
use Rattle.logic_core.specs.Normal.{choice, equation, inequality, quantified, normal, normal_each, normal_sum, normal_patterns}
use Rattle.logic_core.proofs.Values.{HasOne}
use Rattle.logic_core.proofs.Kept.{Keeps, true_stable}
use Rattle.logic_laws.proofs.Integers as Z
use Rattle.logic_laws.proofs.Options.{some_has, bind_some, map_some, when_some}
use Rattle.logic_laws.proofs.SumSorts.{first_int}
use Rattle.logic_laws.proofs.FormulaSorts.{first_formula, part_of_negation, parts_of_at_most, parts_of_equal, parts_of_quantifier}
use Rattle.logic_laws.proofs.NormalSorts.{parts_of_mul, parts_of_read, parts_of_write, parts_of_choose, parts_of_call, first_of_sort, normal_sort, normal_formulas, normal_ints}
use Rattle.logic_laws.proofs.Tables.{are_of_bound}
use Rattle.logic_laws.proofs.Gives.{decided_every, decided_some, if_map, Gives, GivesEach, GivesEvery, GivesAny, GivesSum, same_values}
use Rattle.logic_laws.proofs.ValueSorts.{CallsHaveSorts}
use Rattle.logic_laws.proofs.SumValues.{GivesLinear, term_gives, linear_gives, constant_gives, product_gives}
use Rattle.logic_laws.proofs.FormulaValues.{conjunction_gives, disjunction_gives, negated_gives, equation_gives, inequality_gives, choice_gives, for_all_gives, exists_gives}

module _ (vars : List Kind) (defs : List Def) (frees : List Value) (calls : Calls) (has_call : (f : ℕ) (vs : List Value) → HasOne (calls f vs)) (keeps_call : (f : ℕ) (vs : List Value) → Keeps (calls f vs)) (fits : are_of vars frees ≡ true) (call_sorts : CallsHaveSorts defs calls) where
  -- both hold alike where a value of the one is one of the other
  holds_alike : (t u : Tree) (b : List Value) → ((r : Value) → Gives frees calls t b r → Gives frees calls u b r) → (Holds frees calls t b → Holds frees calls u b) × (Holds frees calls u b → Holds frees calls t b)
  holds_alike t u b f = same_values frees calls has_call keeps_call frees calls has_call keeps_call t u b b f (λ v. IsTrue (holds v)) (λ v. true_stable (holds v))

  abbrev linear_is : Linear → List Value → ℤ → Type 0
  linear_is s b m = GivesLinear vars defs frees calls has_call keeps_call fits call_sorts s b m

  mutual
    pub normal_gives : (t u : Tree) (bs : List Kind) (b : List Value) (k : Kind) (r : Value) → normal vars defs bs t ≡ Some u → sort_of vars defs bs t ≡ Some k → are_of bs b ≡ true → Gives frees calls t b r → Gives frees calls u b r
    normal_gives (num n) u bs b k r e s f g = some_has (λ x. Gives frees calls x b r) (num n) u e g
    normal_gives (truth x) u bs b k r e s f g = some_has (λ x. Gives frees calls x b r) (truth x) u e g
    normal_gives (free v) u bs b k r e s f g = some_has (λ x. Gives frees calls x b r) (free v) u e g
    normal_gives (bound v) u bs b k r e s f g = some_has (λ x. Gives frees calls x b r) (bound v) u e g
    normal_gives (linear ps c) u bs b k r e s f g =
        let p = map_some term_of (normal_sum vars defs bs ps (constant c)) u e in
        let i = (when_some (are_ints vars defs bs ps) int k s).0 in
        subst (λ x. Gives frees calls x b r) p.2 (subst (Gives frees calls (term_of p.0) b) (sym g.2)
        (linear_gives vars defs frees calls has_call keeps_call fits call_sorts p.0 bs b (g.0 +ℤ c) (normal_ints vars defs ps (constant c) p.0 bs p.1 i refl) f
        (normal_sum_gives ps (constant c) p.0 bs b g.0 c p.1 i f g.1 (constant_gives vars defs frees calls has_call keeps_call fits call_sorts c b))))
    normal_gives (mul x y) u bs b k r e s f g =
        let p = bind_some (normal vars defs bs x) (λ u. normal vars defs bs y >>= λ v. product u v) u e in
        let q = bind_some (normal vars defs bs y) (λ v. product p.0 v) u p.2 in
        let i = parts_of_mul vars defs x y bs k s in
        subst (Gives frees calls u b) (sym g.4) (product_gives vars defs frees calls has_call keeps_call fits call_sorts p.0 q.0 u bs b g.0 g.1 (normal_sort vars defs x p.0 bs int p.1 i.0) (normal_sort vars defs y q.0 bs int q.1 i.1) f
        (normal_gives x p.0 bs b int g.0 p.1 i.0 f g.2) (normal_gives y q.0 bs b int g.1 q.1 i.1 f g.3) q.2)
    normal_gives (read m j) u bs b k r e s f g =
        let p = bind_some (normal vars defs bs m) (λ u. normal vars defs bs j >>= λ v. Some (read u v)) u e in
        let q = bind_some (normal vars defs bs j) (λ v. Some (read p.0 v)) u p.2 in
        let i = parts_of_read vars defs m j bs k s in
        some_has (λ x. Gives frees calls x b r) (read p.0 q.0) u q.2 (g.0, g.1, normal_gives m p.0 bs b (map k) g.0 p.1 i.0 f g.2, normal_gives j q.0 bs b int g.1 q.1 i.1 f g.3, g.4)
    normal_gives (write m j x) u bs b k r e s f g =
        let p = bind_some (normal vars defs bs m) (λ u. normal vars defs bs j >>= λ v. normal vars defs bs x >>= λ w. Some (write u v w)) u e in
        let q = bind_some (normal vars defs bs j) (λ v. normal vars defs bs x >>= λ w. Some (write p.0 v w)) u p.2 in
        let o = bind_some (normal vars defs bs x) (λ w. Some (write p.0 q.0 w)) u q.2 in
        let i = parts_of_write vars defs m j x bs k s in
        some_has (λ x. Gives frees calls x b r) (write p.0 q.0 o.0) u o.2 (g.0, g.1, g.2, normal_gives m p.0 bs b (map i.0) g.0 p.1 i.1 f g.3, normal_gives j q.0 bs b int g.1 q.1 i.2 f g.4, normal_gives x o.0 bs b i.0 g.2 o.1 i.3 f g.5, g.6)
    normal_gives (choose c x y) u bs b k r e s f g =
        let p = bind_some (normal vars defs bs c) (λ u. normal vars defs bs x >>= λ v. normal vars defs bs y >>= λ w. Some (choice u v w)) u e in
        let q = bind_some (normal vars defs bs x) (λ v. normal vars defs bs y >>= λ w. Some (choice p.0 v w)) u p.2 in
        let o = bind_some (normal vars defs bs y) (λ w. Some (choice p.0 q.0 w)) u q.2 in
        let i = parts_of_choose vars defs c x y bs k s in
        some_has (λ x. Gives frees calls x b r) (choice p.0 q.0 o.0) u o.2
        (choice_gives vars defs frees calls has_call keeps_call fits call_sorts p.0 q.0 o.0 b g.0 r (normal_gives c p.0 bs b boolean g.0 p.1 i.0 f g.1)
        (if_map (holds g.0) (Gives frees calls x b r) (Gives frees calls y b r) (Gives frees calls q.0 b r) (Gives frees calls o.0 b r) (normal_gives x q.0 bs b k r q.1 i.1 f) (normal_gives y o.0 bs b k r o.1 i.2 f) g.2))
    normal_gives (call n ts) u bs b k r e s f g =
        let p = map_some (λ us. call n us) (normal_each vars defs bs ts) u e in
        let i = parts_of_call vars defs n ts bs k s in
        subst (λ x. Gives frees calls x b r) p.2 (g.0, normal_gives_each ts p.0 bs b i.0.params g.0 p.1 i.2 f g.1, g.2)
    normal_gives (negation x) u bs b k r e s f g =
        let p = bind_some (normal vars defs bs x) (λ u. negated u) u e in
        let i = part_of_negation vars defs x bs k s in
        subst (Gives frees calls u b) (sym g.2) (negated_gives vars defs frees calls has_call keeps_call fits call_sorts p.0 u bs b g.0 (normal_sort vars defs x p.0 bs boolean p.1 i) f p.2 (normal_gives x p.0 bs b boolean g.0 p.1 i f g.1))
    normal_gives (all ts) u bs b k r e s f g =
        let p = map_some conjunction (normal_each vars defs bs ts) u e in
        let i = (when_some (are_formulas vars defs bs ts) boolean k s).0 in
        subst (λ x. Gives frees calls x b r) p.2 (subst (Gives frees calls (conjunction p.0) b) (sym g.2)
        (conjunction_gives vars defs frees calls has_call keeps_call fits call_sorts p.0 bs b g.0 (normal_formulas vars defs ts p.0 bs p.1 i) f (normal_gives_every ts p.0 bs b g.0 p.1 i f g.1)))
    normal_gives (some ts) u bs b k r e s f g =
        let p = map_some disjunction (normal_each vars defs bs ts) u e in
        let i = (when_some (are_formulas vars defs bs ts) boolean k s).0 in
        subst (λ x. Gives frees calls x b r) p.2 (subst (Gives frees calls (disjunction p.0) b) (sym g.2)
        (disjunction_gives vars defs frees calls has_call keeps_call fits call_sorts p.0 bs b g.0 (normal_formulas vars defs ts p.0 bs p.1 i) f (normal_gives_any ts p.0 bs b g.0 p.1 i f g.1)))
    normal_gives (equal x y) u bs b k r e s f g =
        let p = bind_some (normal vars defs bs x) (λ u. normal vars defs bs y >>= λ v. equation (sort_of vars defs bs x) u v) u e in
        let q = bind_some (normal vars defs bs y) (λ v. equation (sort_of vars defs bs x) p.0 v) u p.2 in
        let i = parts_of_equal vars defs x y bs k s in
        subst (Gives frees calls u b) (sym g.4) (equation_gives vars defs frees calls has_call keeps_call fits call_sorts i.0 p.0 q.0 u bs b g.0 g.1
        (normal_sort vars defs x p.0 bs i.0 p.1 i.1) (normal_sort vars defs y q.0 bs i.0 q.1 i.2) f (normal_gives x p.0 bs b i.0 g.0 p.1 i.1 f g.2) (normal_gives y q.0 bs b i.0 g.1 q.1 i.2 f g.3) (subst (λ j. equation j p.0 q.0 ≡ Some u) i.1 q.2))
    normal_gives (at_most x y) u bs b k r e s f g =
        let p = bind_some (normal vars defs bs x) (λ u. normal vars defs bs y >>= λ v. inequality u v) u e in
        let q = bind_some (normal vars defs bs y) (λ v. inequality p.0 v) u p.2 in
        let i = parts_of_at_most vars defs x y bs k s in
        subst (Gives frees calls u b) (sym g.4) (inequality_gives vars defs frees calls has_call keeps_call fits call_sorts p.0 q.0 u bs b g.0 g.1
        (normal_sort vars defs x p.0 bs int p.1 i.0) (normal_sort vars defs y q.0 bs int q.1 i.1) f (normal_gives x p.0 bs b int g.0 p.1 i.0 f g.2) (normal_gives y q.0 bs b int g.1 q.1 i.1 f g.3) q.2)
    normal_gives (for_all ss ps t) u bs b k r e s f g =
        let p = bind_some (normal_patterns vars defs (reverse ss ++ bs) ps) (λ qs. option_map (λ u. quantified (λ v. for_all ss qs v) u) (normal vars defs (reverse ss ++ bs) t)) u e in
        let q = map_some (λ u. quantified (λ v. for_all ss p.0 v) u) (normal vars defs (reverse ss ++ bs) t) u p.2 in
        let i = (parts_of_quantifier vars defs ss ps t bs k s).1 in
        subst (λ x. Gives frees calls x b r) q.2 (for_all_gives vars defs frees calls has_call keeps_call fits call_sorts q.0 ss p.0 b r
        (decided_every ss (λ vs. Holds frees calls t (reverse vs ++ b)) (λ vs. Holds frees calls q.0 (reverse vs ++ b)) r (λ vs h. holds_alike t q.0 (reverse vs ++ b) (λ v w. normal_gives t q.0 (reverse ss ++ bs) (reverse vs ++ b) boolean v q.1 i (are_of_bound ss bs vs b h f) w)) g))
    normal_gives (exists ss ps t) u bs b k r e s f g =
        let p = bind_some (normal_patterns vars defs (reverse ss ++ bs) ps) (λ qs. option_map (λ u. quantified (λ v. exists ss qs v) u) (normal vars defs (reverse ss ++ bs) t)) u e in
        let q = map_some (λ u. quantified (λ v. exists ss p.0 v) u) (normal vars defs (reverse ss ++ bs) t) u p.2 in
        let i = (parts_of_quantifier vars defs ss ps t bs k s).1 in
        subst (λ x. Gives frees calls x b r) q.2 (exists_gives vars defs frees calls has_call keeps_call fits call_sorts q.0 ss p.0 b r
        (decided_some ss (λ vs. Holds frees calls t (reverse vs ++ b)) (λ vs. Holds frees calls q.0 (reverse vs ++ b)) r (λ vs h. holds_alike t q.0 (reverse vs ++ b) (λ v w. normal_gives t q.0 (reverse ss ++ bs) (reverse vs ++ b) boolean v q.1 i (are_of_bound ss bs vs b h f) w)) g))

    pub normal_gives_each : (ts us : Trees) (bs : List Kind) (b : List Value) (ks : List Kind) (vs : List Value) → normal_each vars defs bs ts ≡ Some us → are vars defs bs ks ts ≡ true → are_of bs b ≡ true → GivesEach frees calls ts b vs → GivesEach frees calls us b vs
    normal_gives_each no_trees us bs b ks vs e s f g = some_has (λ x. GivesEach frees calls x b vs) no_trees us e g
    normal_gives_each (tree t ts) us bs b [] vs e s f g = absurd (cc)
    normal_gives_each (tree t ts) us bs b (k ∷ ks) vs e s f g =
        let p = bind_some (normal vars defs bs t) (λ u. normal_each vars defs bs ts >>= λ us. Some (tree u us)) us e in
        let q = bind_some (normal_each vars defs bs ts) (λ us. Some (tree p.0 us)) us p.2 in
        let i = first_of_sort vars defs k ks t ts bs s in
        some_has (λ x. GivesEach frees calls x b vs) (tree p.0 q.0) us q.2 (g.0, g.1, normal_gives t p.0 bs b k g.0 p.1 i.0 f g.2, normal_gives_each ts q.0 bs b ks g.1 q.1 i.1 f g.3, g.4)

    pub normal_gives_every : (ts us : Trees) (bs : List Kind) (b : List Value) (h : Bool) → normal_each vars defs bs ts ≡ Some us → are_formulas vars defs bs ts ≡ true → are_of bs b ≡ true → GivesEvery frees calls ts b h → GivesEvery frees calls us b h
    normal_gives_every no_trees us bs b h e s f g = some_has (λ x. GivesEvery frees calls x b h) no_trees us e g
    normal_gives_every (tree t ts) us bs b h e s f g =
        let p = bind_some (normal vars defs bs t) (λ u. normal_each vars defs bs ts >>= λ us. Some (tree u us)) us e in
        let q = bind_some (normal_each vars defs bs ts) (λ us. Some (tree p.0 us)) us p.2 in
        let i = first_formula vars defs t ts bs s in
        some_has (λ x. GivesEvery frees calls x b h) (tree p.0 q.0) us q.2 (g.0, g.1, normal_gives t p.0 bs b boolean g.0 p.1 i.0 f g.2, normal_gives_every ts q.0 bs b g.1 q.1 i.1 f g.3, g.4)

    pub normal_gives_any : (ts us : Trees) (bs : List Kind) (b : List Value) (h : Bool) → normal_each vars defs bs ts ≡ Some us → are_formulas vars defs bs ts ≡ true → are_of bs b ≡ true → GivesAny frees calls ts b h → GivesAny frees calls us b h
    normal_gives_any no_trees us bs b h e s f g = some_has (λ x. GivesAny frees calls x b h) no_trees us e g
    normal_gives_any (tree t ts) us bs b h e s f g =
        let p = bind_some (normal vars defs bs t) (λ u. normal_each vars defs bs ts >>= λ us. Some (tree u us)) us e in
        let q = bind_some (normal_each vars defs bs ts) (λ us. Some (tree p.0 us)) us p.2 in
        let i = first_formula vars defs t ts bs s in
        some_has (λ x. GivesAny frees calls x b h) (tree p.0 q.0) us q.2 (g.0, g.1, normal_gives t p.0 bs b boolean g.0 p.1 i.0 f g.2, normal_gives_any ts q.0 bs b g.1 q.1 i.1 f g.3, g.4)

    -- the parts of a Sum join one that has the value m
    pub normal_sum_gives : (ps : Parts) (s q : Linear) (bs : List Kind) (b : List Value) (n m : ℤ) → normal_sum vars defs bs ps s ≡ Some q → are_ints vars defs bs ps ≡ true → are_of bs b ≡ true → GivesSum frees calls ps b n → linear_is s b m → linear_is q b (n +ℤ m)
    normal_sum_gives no_parts s q bs b n m e i f g h = some_has (λ x. linear_is x b (n +ℤ m)) s q e (h.0, h.1, ap (λ x. x +ℤ m) g ∙ Z.zero_plus m ∙ h.2)
    normal_sum_gives (part k t ps) s q bs b n m e i f g h =
        let p = bind_some (normal vars defs bs t) (λ u. add_term k u s >>= λ r. normal_sum vars defs bs ps r) q e in
        let o = bind_some (add_term k p.0 s) (λ r. normal_sum vars defs bs ps r) q p.2 in
        let j = first_int vars defs k t ps bs i in
        let a = term_gives vars defs frees calls has_call keeps_call fits call_sorts p.0 k s o.0 b g.0 m (normal_gives t p.0 bs b int g.0 p.1 j.0 f g.2) h o.1 in
        let c = normal_sum_gives ps o.0 q bs b g.1 ((k *ℤ int_of g.0) +ℤ m) o.2 j.1 f g.3 a in
        (c.0, c.1, ap (λ x. x +ℤ m) g.4 ∙ Z.part_last (k *ℤ int_of g.0) g.1 m ∙ c.2)
