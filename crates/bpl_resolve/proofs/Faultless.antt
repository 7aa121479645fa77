-- An expression without faults has a sort, over a scope in which whatever may be named has one.
use Rattle.std.proofs.Common.{◌≡◌, refl, ap, sym, ◌∙◌, subst, Bool, true, false, ℕ, suc, pred, arith, nat_eq, length, List, [], ◌∷◌, ◌++◌, map, Option, Some, None}
use Rattle.std.specs.Prelude.{⊤}
use Rattle.std.proofs.lemmas.Bool.{eqb-true}
use Rattle.logic_core.proofs.Booleans.{all_true as both_true}
use Rattle.bpl_resolve.proofs.Below.{back_onto}
use Rattle.bv_base.specs.declared.place.Place.{Place}
use Rattle.logic_core.specs.Tree.{Kind, int, boolean, map as map_of}
use Rattle.logic_core.specs.Sorts.{is, read_sort, write_sort}
use Rattle.bpl_ast.specs.Place.{Name, Ty}
use Rattle.bpl_ast.specs.Tree.{Relation, eq, ne, lt, le, gt, ge, Expr, expr, first_place, Node, number, truth, variable, apply, old, choose, quantified, iffs, implies, ands, ors, related, sums, products, negation, minus, indexed, Exprs, no_exprs, item, Terms, no_terms, plus, less, Indices, no_indices, at_index, update, Triggers, no_triggers, trigger, Groups, no_groups, group}
use Rattle.bpl_ast.specs.Statement.{Argument}
use Rattle.bpl_scopes.specs.declared.fault.TypeKind.TheVariants.{Twice as twice, QuantifierHere as quantifier_here, Trigger as bad_trigger, Arity as arity}
use Rattle.bpl_scopes.specs.Fault.{again, unless}
use Rattle.bpl_scopes.specs.Scopes.{Text, Heading, Table, typed_names, names_of, only_names, texts_of, BoundVar, Scope, Meaning, bound_to, stands_for, declared_as, nothing, a_constant, a_global, a_function, a_synonym, a_procedure, meaning, hidden_in}
use Rattle.bpl_scopes.specs.Sorts.{sort_of_type, argument_sorts, sorts_of_names, bounds_of, within, sort_of_meaning, applied_heading, are_same, is_same, application_sort, all_are, all_known, relation_sort, sort_in, node_sort, sorts_in, are_ints, indices_sort, are_patterns}
use Rattle.bpl_scopes.specs.TypeFaults.{type_faults, group_type_faults, group_where_faults, params_faults}
use Rattle.bpl_faults.specs.NameFaults.{variable_faults, application_faults, old_faults, sort_faults, same_sort_faults, map_faults, entry_sort}
use Rattle.bpl_faults.specs.ExprFaults.{is_trigger, comparison_faults, parameter_sorts, count, expr_faults, node_faults, operand_faults, argument_faults, term_faults, index_faults, trigger_faults, pattern_faults}
use Rattle.bpl_resolve.proofs.HasSort.{Known, first_empty, second_empty, unless_empty, has_sort, has_same, is_map, choice_known, equation_known, read_known, write_known, when_known, is_wanted}

abbrev pub KnownBounds : List BoundVar → Type 0
KnownBounds [] = ⊤
KnownBounds (v ∷ vs) = Known v.sort × KnownBounds vs

abbrev pub EachKnown : List (Option Kind) → Type 0
EachKnown [] = ⊤
EachKnown (k ∷ ks) = Known k × EachKnown ks

pub record NamesKnown (s : Scope) : Type 0 where
  pub names : (bs : List BoundVar) → KnownBounds bs → (n : Text) (p : Place) → variable_faults s.part (meaning (record s { bounds = bs }) n) p ≡ []
      → Known (sort_of_meaning (record s { bounds = bs }) (meaning (record s { bounds = bs }) n))
  pub functions : (bs : List BoundVar) (n : Text) (h : Heading) → applied_heading (meaning (record s { bounds = bs }) n) ≡ Some h
      → EachKnown (argument_sorts s.table h.ins) × Known (sort_of_type s.table [] h.result)
  pub types : (hidden : List Text) (t : Ty) → type_faults s.table hidden t ≡ [] → Known (sort_of_type s.table hidden t)

same_number : (m n : ℕ) → nat_eq m n ≡ true → m ≡ n
same_number m n h = eqb-true m n h

pub heading_of : (s : Scope) (f : Bool) (n : Text) (m : Meaning) (c : ℕ) (p : Place) → application_faults s f n m c p ≡ []
    → (h : Heading) × (applied_heading m ≡ Some h) × (length h.ins ≡ c)
heading_of s f n (bound_to i k) c p e = cc
heading_of s f n (stands_for v) c p e = cc
heading_of s f n (declared_as (a_function h)) c p e = (h, refl, same_number _ _ (unless_empty _ arity p (first_empty (unless (nat_eq (length h.ins) c) arity p) _ e)))
heading_of s f n (declared_as (a_constant k t)) c p e = cc
heading_of s f n (declared_as (a_global k t)) c p e = cc
heading_of s f n (declared_as (a_synonym t)) c p e = cc
heading_of s f n (declared_as (a_procedure k d)) c p e = cc
heading_of s f n nothing c p e = cc

comparison_known : (r : Relation) (x y : Option Kind) (p q : Place) → Known x → Known y → comparison_faults r x y p q ≡ [] → Known (relation_sort r x y)
comparison_known eq x y p q h k e = equation_known x y h (has_same x y q h k e)
comparison_known ne x y p q h k e = equation_known x y h (has_same x y q h k e)
comparison_known lt x y p q h k e = when_known _ (Some boolean) (both_true _ _ (is_wanted int x (has_sort int x p h (first_empty _ _ e))) (is_wanted int y (has_sort int y q k (second_empty (sort_faults int x p) _ e)))) (boolean, refl)
comparison_known le x y p q h k e = when_known _ (Some boolean) (both_true _ _ (is_wanted int x (has_sort int x p h (first_empty _ _ e))) (is_wanted int y (has_sort int y q k (second_empty (sort_faults int x p) _ e)))) (boolean, refl)
comparison_known gt x y p q h k e = when_known _ (Some boolean) (both_true _ _ (is_wanted int x (has_sort int x p h (first_empty _ _ e))) (is_wanted int y (has_sort int y q k (second_empty (sort_faults int x p) _ e)))) (boolean, refl)
comparison_known ge x y p q h k e = when_known _ (Some boolean) (both_true _ _ (is_wanted int x (has_sort int x p h (first_empty _ _ e))) (is_wanted int y (has_sort int y q k (second_empty (sort_faults int x p) _ e)))) (boolean, refl)

same_known : (k o : Option Kind) → Known k → k ≡ o → is_same k o ≡ true
same_known None o (j, e) h = cc
same_known (Some k) o g h = is_wanted k o (sym h)

length_sorts : (t : Table) (ins : List Argument) → length (argument_sorts t ins) ≡ length ins
length_sorts t [] = refl
length_sorts t (a ∷ ins) = ap suc (length_sorts t ins)

-- each name of groups, as they are bound
abbrev pub TypesKnown : Table → List Text → List (Name × Ty) → Type 0
TypesKnown t hidden [] = ⊤
TypesKnown t hidden (p ∷ ps) = Known (sort_of_type t hidden p.1) × TypesKnown t hidden ps

names_known : (t : Table) (hidden : List Text) (ns : List Name) (s : Ty) (ps : List (Name × Ty)) → Known (sort_of_type t hidden s) → TypesKnown t hidden ps → TypesKnown t hidden (typed_names ns s ++ ps)
names_known t hidden [] s ps k g = g
names_known t hidden (n ∷ ns) s ps k g = (k, names_known t hidden ns s ps k g)

pub groups_known : (t : Table) (hidden : List Text) → ((s : Ty) → type_faults t hidden s ≡ [] → Known (sort_of_type t hidden s)) → (gs : Groups) → group_type_faults t hidden gs ≡ [] → TypesKnown t hidden (names_of gs)
groups_known t hidden known no_groups e = tt
groups_known t hidden known (group ns s c gs) e = names_known t hidden ns s (names_of gs) (known s (first_empty _ _ e)) (groups_known t hidden known gs (second_empty (type_faults t hidden s) _ e))

sorts_known : (t : Table) (hidden : List Text) (ps : List (Name × Ty)) → TypesKnown t hidden ps → all_known (sorts_of_names t hidden ps) ≡ true
sorts_known t hidden [] g = refl
sorts_known t hidden (p ∷ ps) g = ap (λ w. all_known (w ∷ sorts_of_names t hidden ps)) (g.0).1 ∙ sorts_known t hidden ps g.1

abbrev bound_of : Table → List Text → (Name × Ty) → BoundVar
bound_of t hidden p = record { name = Some ((p.0).text); sort = sort_of_type t hidden p.1 }

bounds_known : (t : Table) (hidden : List Text) (ps : List (Name × Ty)) (vs : List BoundVar) → TypesKnown t hidden ps → KnownBounds vs → KnownBounds (bounds_of t hidden ps ++ vs)
bounds_known t hidden [] vs g h = h
bounds_known t hidden (p ∷ ps) vs g h = subst KnownBounds (sym (back_onto (bound_of t hidden p) (map (bound_of t hidden) ps) vs)) (bounds_known t hidden ps (bound_of t hidden p ∷ vs) g.1 (g.0, h))

within_known : (s : Scope) (gs : Groups) → NamesKnown s → NamesKnown (within s gs)
within_known s gs a = record { names = a.names; functions = a.functions; types = a.types }

known_step : (o : Option Kind) (ks : List (Option Kind)) → Known o → all_known ks ≡ true → all_known (o ∷ ks) ≡ true
known_step o ks (k, e) h = ap (λ w. all_known (w ∷ ks)) e ∙ h

int_step : (s : Scope) (x : Expr) → Known (sort_in s x) → sort_faults int (sort_in s x) (first_place x) ≡ [] → is int (sort_in s x) ≡ true
int_step s x h e = is_wanted int (sort_in s x) (has_sort int (sort_in s x) (first_place x) h e)

entry_is : (m : Option Kind) (r : Kind) → m ≡ Some (map_of r) → entry_sort m ≡ Some r
entry_is m r e = ap entry_sort e

mutual
  pub has_known : (s : Scope) → NamesKnown s → KnownBounds s.bounds → (f : Bool) (x : Expr) → expr_faults s f x ≡ [] → Known (sort_in s x)
  has_known s a b f (expr p n) e = node_known s a b f n e

  node_known : (s : Scope) → NamesKnown s → KnownBounds s.bounds → (f : Bool) (n : Node) → node_faults s f n ≡ [] → Known (node_sort s n)
  node_known s a b f (number n) e = (int, refl)
  node_known s a b f (truth t) e = (boolean, refl)
  node_known s a b f (variable n) e = a.names s.bounds b n.text n.at e
  node_known s a b f (apply n xs) e =
      let h = heading_of s f n.text (meaning s n.text) (count xs) n.at (first_empty _ _ e) in
      let g = a.functions s.bounds n.text h.0 h.1 in
      let r = second_empty (application_faults s f n.text (meaning s n.text) (count xs) n.at) _ e in
      let q = subst (λ w. argument_faults s (parameter_sorts s w) xs ≡ []) h.1 r in
      subst (λ w. Known (application_sort s.table w (sorts_in s xs))) (sym h.1)
      (when_known _ _ (arguments_known s a b xs (argument_sorts s.table h.0.ins) g.0 (length_sorts s.table h.0.ins ∙ h.2) q) g.1)
  node_known s a b f (old p x) e = has_known s a b false x (second_empty (old_faults s.part p) _ e)
  node_known s a b f (choose c x y) e =
      let r = second_empty (expr_faults s false c) _ e in
      let t = second_empty (sort_faults boolean (sort_in s c) (first_place c)) _ r in
      let u = second_empty (expr_faults s false x) _ t in
      let v = second_empty (expr_faults s false y) _ u in
      let k = has_known s a b false x (first_empty _ _ t) in
      choice_known _ _ _ (has_sort boolean _ (first_place c) (has_known s a b false c (first_empty _ _ e)) (first_empty _ _ r)) k
      (has_same _ _ (first_place y) k (has_known s a b false y (first_empty _ _ u)) v)
  node_known s a b f (quantified q p ps gs rs x) e =
      let r1 = second_empty (unless f quantifier_here p) _ e in
      let r2 = second_empty (params_faults ps) _ r1 in
      let r3 = second_empty (group_type_faults s.table (hidden_in s) gs) _ r2 in
      let r4 = second_empty (group_where_faults gs) _ r3 in
      let r5 = second_empty (again twice [] (only_names (names_of gs))) _ r4 in
      let r6 = second_empty (trigger_faults (within s gs) (texts_of (only_names (names_of gs))) rs) _ r5 in
      let g = groups_known s.table (hidden_in s) (a.types (hidden_in s)) gs (first_empty _ _ r2) in
      let v = bounds_known s.table (hidden_in s) (names_of gs) s.bounds g b in
      when_known _ (Some boolean) (both_true _ _ (sorts_known s.table (hidden_in s) (names_of gs) g) (both_true _ _
      (triggers_known (within s gs) (within_known s gs a) v (texts_of (only_names (names_of gs))) rs (first_empty _ _ r5))
      (is_wanted boolean _ (has_sort boolean _ (first_place x) (has_known (within s gs) (within_known s gs a) v true x (first_empty _ _ r6)) (second_empty (expr_faults (within s gs) true x) _ r6))))) (boolean, refl)
  node_known s a b f (iffs xs) e = when_known _ (Some boolean) (operands_known s a b f boolean xs e) (boolean, refl)
  node_known s a b f (implies xs) e = when_known _ (Some boolean) (operands_known s a b f boolean xs e) (boolean, refl)
  node_known s a b f (ands xs) e = when_known _ (Some boolean) (operands_known s a b f boolean xs e) (boolean, refl)
  node_known s a b f (ors xs) e = when_known _ (Some boolean) (operands_known s a b f boolean xs e) (boolean, refl)
  node_known s a b f (related r x y) e =
      let u = second_empty (expr_faults s false x) _ e in
      comparison_known r _ _ (first_place x) (first_place y) (has_known s a b false x (first_empty _ _ e)) (has_known s a b false y (first_empty _ _ u)) (second_empty (expr_faults s false y) _ u)
  node_known s a b f (sums x ts) e =
      let u = second_empty (expr_faults s false x) _ e in
      when_known _ (Some int) (both_true _ _ (int_step s x (has_known s a b false x (first_empty _ _ e)) (first_empty _ _ u)) (terms_known s a b ts (second_empty (sort_faults int (sort_in s x) (first_place x)) _ u))) (int, refl)
  node_known s a b f (products xs) e = when_known _ (Some int) (operands_known s a b false int xs e) (int, refl)
  node_known s a b f (negation x) e = when_known _ (Some boolean) (is_wanted boolean _ (has_sort boolean _ (first_place x) (has_known s a b f x (first_empty _ _ e)) (second_empty (expr_faults s f x) _ e))) (boolean, refl)
  node_known s a b f (minus x) e = when_known _ (Some int) (int_step s x (has_known s a b false x (first_empty _ _ e)) (second_empty (expr_faults s false x) _ e)) (int, refl)
  node_known s a b f (indexed x js) e = indices_known s a b (first_place x) js (sort_in s x) (has_known s a b false x (first_empty _ _ e)) (second_empty (expr_faults s false x) _ e)

  operands_known : (s : Scope) → NamesKnown s → KnownBounds s.bounds → (f : Bool) (k : Kind) (xs : Exprs) → operand_faults s f k xs ≡ [] → all_are k (sorts_in s xs) ≡ true
  operands_known s a b f k no_exprs e = refl
  operands_known s a b f k (item x xs) e =
      let r = second_empty (expr_faults s f x) _ e in
      both_true _ _ (is_wanted k _ (has_sort k _ (first_place x) (has_known s a b f x (first_empty _ _ e)) (first_empty _ _ r))) (operands_known s a b f k xs (second_empty (sort_faults k (sort_in s x) (first_place x)) _ r))

  arguments_known : (s : Scope) → NamesKnown s → KnownBounds s.bounds → (xs : Exprs) (ks : List (Option Kind)) → EachKnown ks → length ks ≡ count xs → argument_faults s ks xs ≡ [] → are_same ks (sorts_in s xs) ≡ true
  arguments_known s a b no_exprs [] g h e = refl
  arguments_known s a b no_exprs (k ∷ ks) g h e = absurd (omega (arith, h))
  arguments_known s a b (item x xs) [] g h e = absurd (omega (arith, h))
  arguments_known s a b (item x xs) (k ∷ ks) g h e =
      let r = second_empty (expr_faults s false x) _ e in
      both_true _ _ (same_known k _ g.0 (has_same k _ (first_place x) g.0 (has_known s a b false x (first_empty _ _ e)) (first_empty _ _ r))) (arguments_known s a b xs ks g.1 (ap pred h) (second_empty (same_sort_faults k (sort_in s x) (first_place x)) _ r))

  terms_known : (s : Scope) → NamesKnown s → KnownBounds s.bounds → (ts : Terms) → term_faults s ts ≡ [] → are_ints s ts ≡ true
  terms_known s a b no_terms e = refl
  terms_known s a b (plus x ts) e =
      let u = second_empty (expr_faults s false x) _ e in
      both_true _ _ (int_step s x (has_known s a b false x (first_empty _ _ e)) (first_empty _ _ u)) (terms_known s a b ts (second_empty (sort_faults int (sort_in s x) (first_place x)) _ u))
  terms_known s a b (less x ts) e =
      let u = second_empty (expr_faults s false x) _ e in
      both_true _ _ (int_step s x (has_known s a b false x (first_empty _ _ e)) (first_empty _ _ u)) (terms_known s a b ts (second_empty (sort_faults int (sort_in s x) (first_place x)) _ u))

  indices_known : (s : Scope) → NamesKnown s → KnownBounds s.bounds → (p : Place) (js : Indices) (m : Option Kind) → Known m → index_faults s p m js ≡ [] → Known (indices_sort s m js)
  indices_known s a b p no_indices m h e = h
  indices_known s a b p (at_index x js) m h e =
      let g = is_map m p h (first_empty _ _ e) in
      let r1 = second_empty (map_faults m p) _ e in
      let r2 = second_empty (expr_faults s false x) _ r1 in
      let r3 = second_empty (sort_faults int (sort_in s x) (first_place x)) _ r2 in
      indices_known s a b p js (read_sort m (sort_in s x)) (read_known m _ g.0 g.1 (has_sort int _ (first_place x) (has_known s a b false x (first_empty _ _ r1)) (first_empty _ _ r2))) r3
  indices_known s a b p (update x y js) m h e =
      let g = is_map m p h (first_empty _ _ e) in
      let r1 = second_empty (map_faults m p) _ e in
      let r2 = second_empty (expr_faults s false x) _ r1 in
      let r3 = second_empty (sort_faults int (sort_in s x) (first_place x)) _ r2 in
      let r4 = second_empty (expr_faults s false y) _ r3 in
      let r5 = second_empty (same_sort_faults (entry_sort m) (sort_in s y) (first_place y)) _ r4 in
      let i = entry_is m g.0 g.1 in
      indices_known s a b p js (write_sort m (sort_in s x) (sort_in s y))
      (write_known m _ _ g.0 g.1 (has_sort int _ (first_place x) (has_known s a b false x (first_empty _ _ r1)) (first_empty _ _ r2))
      (sym (has_same (entry_sort m) (sort_in s y) (first_place y) (g.0, i) (has_known s a b false y (first_empty _ _ r3)) (first_empty _ _ r4)) ∙ i)) r5

  triggers_known : (s : Scope) → NamesKnown s → KnownBounds s.bounds → (vs : List Text) (rs : Triggers) → trigger_faults s vs rs ≡ [] → are_patterns s rs ≡ true
  triggers_known s a b vs no_triggers e = refl
  triggers_known s a b vs (trigger p xs rs) e =
      let u = second_empty (unless (is_trigger vs xs) bad_trigger p) _ e in
      both_true _ _ (patterns_known s a b xs (first_empty _ _ u)) (triggers_known s a b vs rs (second_empty (pattern_faults s xs) _ u))

  patterns_known : (s : Scope) → NamesKnown s → KnownBounds s.bounds → (xs : Exprs) → pattern_faults s xs ≡ [] → all_known (sorts_in s xs) ≡ true
  patterns_known s a b no_exprs e = refl
  patterns_known s a b (item x xs) e = known_step (sort_in s x) (sorts_in s xs) (has_known s a b false x (first_empty _ _ e)) (patterns_known s a b xs (second_empty (expr_faults s false x) _ e))
