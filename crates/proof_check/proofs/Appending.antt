-- Facts appended one by one, or all at once.
use Rattle.std.proofs.Common.{◌≡◌, ◌∙◌, refl, sym, ap, true, Option, Some, None, option_map, List, [], ◌∷◌, ◌++◌, map, append-nil}
use Rattle.std.proofs.lemmas.List.{append_assoc}
use Rattle.logic_core.specs.Tree.{Kind, int, Tree, negation}
use Rattle.logic_core.specs.Def.{Def, Obligation}
use Rattle.logic_core.specs.Wide.{◌>>=◌, when}
use Rattle.logic_core.specs.Sorts.{is}
use Rattle.logic_core.specs.Normal.{normal}
use Rattle.proof_core.specs.Context.{Context, named, with_fact, appended, appended_each, children, start}
use Rattle.proof_core.specs.Split.{cases, split_cases}
use Rattle.proof_core.specs.Maps.{below_zero, at_zero, above_zero}
use Rattle.proof_core.specs.Arithmetic.{three_ways}
use Rattle.proof_check.specs.Added.{with_facts, normal_forms}

-- no more facts
no_facts : (c : Context) → c ≡ with_facts c []
no_facts c = ap (λ fs. record { vars = c.vars; facts = fs }) (sym (append-nil c.facts))

-- one and then the others
one_and_others : (c : Context) (u : Tree) (us : List Tree) → with_facts (with_fact c u) us ≡ with_facts c (u ∷ us)
one_and_others c u us = ap (λ fs. record { vars = c.vars; facts = fs }) (append_assoc c.facts (u ∷ []) us)

others_by : (c : Context) (u : Tree) (o : Option (List Tree)) → option_map (with_facts (with_fact c u)) o ≡ option_map (with_facts c) (o >>= λ us. Some (u ∷ us))
others_by c u None = refl
others_by c u (Some us) = ap Some (one_and_others c u us)

module _ (defs : List Def) where
  one_by : (c : Context) (ts : List Tree) (o : Option Tree) → ((d : Context) → appended_each defs d ts ≡ option_map (with_facts d) (normal_forms d.vars defs ts)) → (o >>= λ u. Some (with_fact c u)) >>= (λ d. appended_each defs d ts) ≡ option_map (with_facts c) (o >>= λ u. normal_forms c.vars defs ts >>= λ us. Some (u ∷ us))
  one_by c ts None ih = refl
  one_by c ts (Some u) ih = ih (with_fact c u) ∙ others_by c u (normal_forms c.vars defs ts)

  pub appended_at_once : (ts : List Tree) (c : Context) → appended_each defs c ts ≡ option_map (with_facts c) (normal_forms c.vars defs ts)
  appended_at_once [] c = ap Some (no_facts c)
  appended_at_once (t ∷ ts) c = one_by c ts (normal c.vars defs [] t) (λ d. appended_at_once ts d)

  each_by : (c : Context) (u : Tree) (o : Option (List Tree)) → (option_map (map (λ t. with_fact c t)) o >>= λ ds. Some (with_fact c u ∷ ds)) ≡ option_map (map (λ t. with_fact c t)) (o >>= λ us. Some (u ∷ us))
  each_by c u None = refl
  each_by c u (Some us) = refl

  child_by : (c : Context) (ts : List Tree) (o : Option Tree) → children defs c ts ≡ option_map (map (λ t. with_fact c t)) (normal_forms c.vars defs ts)
      → ((o >>= λ u. Some (with_fact c u)) >>= λ d. children defs c ts >>= λ ds. Some (d ∷ ds)) ≡ option_map (map (λ t. with_fact c t)) (o >>= λ u. normal_forms c.vars defs ts >>= λ us. Some (u ∷ us))
  child_by c ts None ih = refl
  child_by c ts (Some u) ih = ap (λ o. o >>= λ ds. Some (with_fact c u ∷ ds)) ih ∙ each_by c u (normal_forms c.vars defs ts)

  -- a context for each child
  pub children_at_once : (ts : List Tree) (c : Context) → children defs c ts ≡ option_map (map (λ t. with_fact c t)) (normal_forms c.vars defs ts)
  children_at_once [] c = refl
  children_at_once (t ∷ ts) c = child_by c ts (normal c.vars defs [] t) (children_at_once ts c)

-- the contexts of the cases
abbrev case_contexts : Option Context → Option (List Context) → Option (Context × List Context)
case_contexts o q = o >>= λ d. q >>= λ ds. Some (d, ds)

abbrev pub contexts_of_cases : Context → Option Tree → Option (List Tree) → Option (Context × List Context)
contexts_of_cases c o q = o >>= λ u. q >>= λ us. Some (with_fact c u, map (λ t. with_fact c t) us)

same_cases : (c : Context) (o : Option Tree) (q : Option (List Tree)) → case_contexts (o >>= λ u. Some (with_fact c u)) (option_map (map (λ t. with_fact c t)) q) ≡ contexts_of_cases c o q
same_cases c None q = refl
same_cases c (Some u) None = refl
same_cases c (Some u) (Some us) = refl

pub split_at_once : (defs : List Def) (c : Context) (t first : Tree) (others : List Tree) → cases defs c t ≡ Some (first, others) → split_cases defs c t ≡ contexts_of_cases c (normal c.vars defs [] first) (normal_forms c.vars defs others)
split_at_once defs c t first others h =
    ap (λ (o : Option (Tree × List Tree)). o >>= λ p. case_contexts (appended defs c p.0) (children defs c p.1)) h
    ∙ ap (case_contexts (appended defs c first)) (children_at_once defs others c)
    ∙ same_cases c (normal c.vars defs [] first) (normal_forms c.vars defs others)

-- the contexts of three children with a fact each
abbrev three_contexts : Option Context → Option Context → Option Context → Option (Context × Context × Context)
three_contexts o p q = o >>= λ b. p >>= λ s. q >>= λ a. Some (b, s, a)

abbrev pub contexts_of_three : Context → Option (List Tree) → Option (List Tree) → Option (List Tree) → Option (Context × Context × Context)
contexts_of_three c o p q = o >>= λ bs. p >>= λ ss. q >>= λ gs. Some (with_facts c bs, with_facts c ss, with_facts c gs)

same_three : (c : Context) (o p q : Option (List Tree)) → three_contexts (option_map (with_facts c) o) (option_map (with_facts c) p) (option_map (with_facts c) q) ≡ contexts_of_three c o p q
same_three c None p q = refl
same_three c (Some bs) None q = refl
same_three c (Some bs) (Some ss) None = refl
same_three c (Some bs) (Some ss) (Some gs) = refl

one_at_once : (c : Context) (o : Option Tree) → (o >>= λ u. Some (with_fact c u)) ≡ option_map (with_facts c) (o >>= λ u. Some (u ∷ []))
one_at_once c None = refl
one_at_once c (Some u) = refl

pub three_at_once : (defs : List Def) (c : Context) (d : Tree) → is int (named defs c d) ≡ true
    → three_ways defs c d ≡ contexts_of_three c (normal_forms c.vars defs (below_zero d ∷ [])) (normal_forms c.vars defs (at_zero d ∷ [])) (normal_forms c.vars defs (above_zero d ∷ []))
three_at_once defs c d of_int =
    ap (λ b. when b (three_contexts (appended defs c (below_zero d)) (appended defs c (at_zero d)) (appended defs c (above_zero d)))) of_int
    ∙ (λ i. three_contexts (one_at_once c (normal c.vars defs [] (below_zero d)) i) (one_at_once c (normal c.vars defs [] (at_zero d)) i) (one_at_once c (normal c.vars defs [] (above_zero d)) i))
    ∙ same_three c (normal_forms c.vars defs (below_zero d ∷ [])) (normal_forms c.vars defs (at_zero d ∷ [])) (normal_forms c.vars defs (above_zero d ∷ []))

-- the start, by the normal forms of its formulas
pub start_at_once : (o : Obligation) (vars : List Kind) (defs : List Def) (formulas : List Tree) → vars ≡ o.vars → defs ≡ o.defs → formulas ≡ o.axioms ++ negation o.goal ∷ [] → start o ≡ option_map (λ fs. record { vars = vars; facts = fs }) (normal_forms vars defs formulas)
start_at_once o vars defs formulas e f g = rw (e, f, g) (appended_at_once o.defs (o.axioms ++ negation o.goal ∷ []) (record { vars = o.vars; facts = [] }))
