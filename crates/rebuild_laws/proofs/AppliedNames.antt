-- The names that an expression applies are used in it; and an expression that is the same but for places applies the same names, and has a quantifier where the other has one.
use Rattle.std.specs.Prelude.{◌≡◌, Bool, true, false, ◌||◌, List, [], ◌∷◌, ◌++◌, map, flat_map, Option, Some, None, option_map}
use Rattle.std.proofs.Common.{refl, ap, sym, ◌∙◌, inl, inr, ◌⊎◌}
use Rattle.bpl_ast.specs.Tree.{Relation, eq, ne, lt, le, gt, ge, Expr, expr, Node, number, truth, variable, apply, old, choose, quantified, iffs, implies, ands, ors, related, sums, products, negation, minus, indexed, Exprs, no_exprs, item, Terms, no_terms, plus, less, Indices, no_indices, at_index, update, Triggers, no_triggers, trigger, Groups, no_groups, group, Clause, no_clause, clause}
use Rattle.bpl_ast.specs.Statement.{Argument}
use Rattle.bpl_scopes.specs.Scopes.{Text, Heading, names_of, only_names, texts_of}
use Rattle.bpl_scopes.specs.Functions.{in_order, name_applies, applied_in, node_applies, all_applied, terms_apply, indices_apply, triggers_apply, groups_apply, clause_applies, is_quantified, node_quantified, any_quantified, terms_quantified, indices_quantified, argument_names, applied_by, has_quantifier}
use Rattle.bpl_texts.specs.Uses.{use_of, type_uses, hiding, expr_uses, node_uses, exprs_uses, terms_uses, indices_uses, triggers_uses, groups_uses, clause_uses, guard_uses}
use Rattle.canonical_text.specs.Same.{bare_name, bare_type, bare, bare_node, bare_exprs, bare_terms, bare_indices, bare_triggers, bare_groups, bare_clause}
use Rattle.canonical_text.specs.SameStatement.{bare_argument}
use Rattle.bpl_resolve.proofs.Ways.{Member}
use Rattle.bpl_resolve.proofs.FunctionOrder.{stays, either_side}
use Rattle.bpl_resolve.proofs.TypeSorts.{member_right}
use Rattle.rebuild_laws.proofs.BareUses.{hides_same, argument_texts}

-- each of the one list stands in the other
abbrev pub Within : List Text → List Text → Type 0
Within xs ys = (m : Text) → Member m xs → Member m ys

none_within : (ys : List Text) → Within [] ys
none_within ys m h = absurd h

both_within : (a b c d : List Text) → Within a c → Within b d → Within (a ++ b) (c ++ d)
both_within a b c d f g m h = by (either_side m a b h)
  where
    by : Member m a ⊎ Member m b → Member m (c ++ d)
    by (inl k) = stays m c d (f m k)
    by (inr k) = member_right m c d (g m k)

either_within : (a b c d : List Text) → Within a c → Within b d → Within (b ++ a) (c ++ d)
either_within a b c d f g m h = by (either_side m b a h)
  where
    by : Member m b ⊎ Member m a → Member m (c ++ d)
    by (inl k) = member_right m c d (g m k)
    by (inr k) = stays m c d (f m k)

in_order_within : (o : Relation) (a b c d : List Text) → Within a c → Within b d → Within (in_order o a b) (c ++ d)
in_order_within eq a b c d f g = both_within a b c d f g
in_order_within ne a b c d f g = both_within a b c d f g
in_order_within lt a b c d f g = both_within a b c d f g
in_order_within le a b c d f g = both_within a b c d f g
in_order_within gt a b c d f g = either_within a b c d f g
in_order_within ge a b c d f g = either_within a b c d f g

mutual
  pub applied_used : (h : List Text) (x : Expr) → Within (applied_in h x) (expr_uses h x)
  applied_used h (expr p n) = node_used h n

  node_used : (h : List Text) (n : Node) → Within (node_applies h n) (node_uses h n)
  node_used h (number n) = none_within []
  node_used h (truth b) = none_within []
  node_used h (variable n) = none_within (use_of h n.text)
  node_used h (apply n xs) = both_within (name_applies h n.text) (all_applied h xs) (use_of h n.text) (exprs_uses h xs) (λ m i. i) (all_used h xs)
  node_used h (old p x) = applied_used h x
  node_used h (choose c x y) = both_within (applied_in h c) (applied_in h x ++ applied_in h y) (expr_uses h c) (expr_uses h x ++ expr_uses h y) (applied_used h c) (both_within (applied_in h x) (applied_in h y) (expr_uses h x) (expr_uses h y) (applied_used h x) (applied_used h y))
  node_used h (quantified q p ps gs rs x) =
      both_within (groups_apply h gs) (triggers_apply (hiding gs h) rs ++ applied_in (hiding gs h) x) (groups_uses h gs) (triggers_uses (hiding gs h) rs ++ expr_uses (hiding gs h) x) (groups_used h gs)
      (both_within (triggers_apply (hiding gs h) rs) (applied_in (hiding gs h) x) (triggers_uses (hiding gs h) rs) (expr_uses (hiding gs h) x) (triggers_used (hiding gs h) rs) (applied_used (hiding gs h) x))
  node_used h (iffs xs) = all_used h xs
  node_used h (implies xs) = all_used h xs
  node_used h (ands xs) = all_used h xs
  node_used h (ors xs) = all_used h xs
  node_used h (related o x y) = in_order_within o (applied_in h x) (applied_in h y) (expr_uses h x) (expr_uses h y) (applied_used h x) (applied_used h y)
  node_used h (sums x ts) = both_within (applied_in h x) (terms_apply h ts) (expr_uses h x) (terms_uses h ts) (applied_used h x) (terms_used h ts)
  node_used h (products xs) = all_used h xs
  node_used h (negation x) = applied_used h x
  node_used h (minus x) = applied_used h x
  node_used h (indexed x js) = both_within (applied_in h x) (indices_apply h js) (expr_uses h x) (indices_uses h js) (applied_used h x) (indices_used h js)

  all_used : (h : List Text) (xs : Exprs) → Within (all_applied h xs) (exprs_uses h xs)
  all_used h no_exprs = none_within []
  all_used h (item x xs) = both_within (applied_in h x) (all_applied h xs) (expr_uses h x) (exprs_uses h xs) (applied_used h x) (all_used h xs)

  terms_used : (h : List Text) (ts : Terms) → Within (terms_apply h ts) (terms_uses h ts)
  terms_used h no_terms = none_within []
  terms_used h (plus x ts) = both_within (applied_in h x) (terms_apply h ts) (expr_uses h x) (terms_uses h ts) (applied_used h x) (terms_used h ts)
  terms_used h (less x ts) = both_within (applied_in h x) (terms_apply h ts) (expr_uses h x) (terms_uses h ts) (applied_used h x) (terms_used h ts)

  indices_used : (h : List Text) (js : Indices) → Within (indices_apply h js) (indices_uses h js)
  indices_used h no_indices = none_within []
  indices_used h (at_index x js) = both_within (applied_in h x) (indices_apply h js) (expr_uses h x) (indices_uses h js) (applied_used h x) (indices_used h js)
  indices_used h (update x y js) =
      both_within (applied_in h x) (applied_in h y ++ indices_apply h js) (expr_uses h x) (expr_uses h y ++ indices_uses h js) (applied_used h x)
      (both_within (applied_in h y) (indices_apply h js) (expr_uses h y) (indices_uses h js) (applied_used h y) (indices_used h js))

  triggers_used : (h : List Text) (rs : Triggers) → Within (triggers_apply h rs) (triggers_uses h rs)
  triggers_used h no_triggers = none_within []
  triggers_used h (trigger p xs rs) = both_within (all_applied h xs) (triggers_apply h rs) (exprs_uses h xs) (triggers_uses h rs) (all_used h xs) (triggers_used h rs)

  groups_used : (h : List Text) (gs : Groups) → Within (groups_apply h gs) (groups_uses h gs)
  groups_used h no_groups = none_within []
  groups_used h (group ns t c gs) = λ m i. member_right m (type_uses h t) (clause_uses h c ++ groups_uses h gs) (both_within (clause_applies h c) (groups_apply h gs) (clause_uses h c) (groups_uses h gs) (clause_used h c) (groups_used h gs) m i)

  clause_used : (h : List Text) (c : Clause) → Within (clause_applies h c) (clause_uses h c)
  clause_used h no_clause = none_within []
  clause_used h (clause p x) = applied_used h x

-- without places
mutual
  pub applied_same : (h : List Text) (x : Expr) → applied_in h (bare x) ≡ applied_in h x
  applied_same h (expr p n) = node_same h n

  node_same : (h : List Text) (n : Node) → node_applies h (bare_node n) ≡ node_applies h n
  node_same h (number n) = refl
  node_same h (truth b) = refl
  node_same h (variable n) = refl
  node_same h (apply n xs) = ap (λ w. name_applies h n.text ++ w) (all_same h xs)
  node_same h (old p x) = applied_same h x
  node_same h (choose c x y) = λ i. applied_same h c i ++ (applied_same h x i ++ applied_same h y i)
  node_same h (quantified q p ps gs rs x) =
      λ i. groups_same h gs i ++ ((ap (λ w. triggers_apply w (bare_triggers rs)) (hides_same h gs) ∙ triggers_same (hiding gs h) rs) i ++ (ap (λ w. applied_in w (bare x)) (hides_same h gs) ∙ applied_same (hiding gs h) x) i)
  node_same h (iffs xs) = all_same h xs
  node_same h (implies xs) = all_same h xs
  node_same h (ands xs) = all_same h xs
  node_same h (ors xs) = all_same h xs
  node_same h (related o x y) = λ i. in_order o (applied_same h x i) (applied_same h y i)
  node_same h (sums x ts) = λ i. applied_same h x i ++ terms_same h ts i
  node_same h (products xs) = all_same h xs
  node_same h (negation x) = applied_same h x
  node_same h (minus x) = applied_same h x
  node_same h (indexed x js) = λ i. applied_same h x i ++ indices_same h js i

  all_same : (h : List Text) (xs : Exprs) → all_applied h (bare_exprs xs) ≡ all_applied h xs
  all_same h no_exprs = refl
  all_same h (item x xs) = λ i. applied_same h x i ++ all_same h xs i

  terms_same : (h : List Text) (ts : Terms) → terms_apply h (bare_terms ts) ≡ terms_apply h ts
  terms_same h no_terms = refl
  terms_same h (plus x ts) = λ i. applied_same h x i ++ terms_same h ts i
  terms_same h (less x ts) = λ i. applied_same h x i ++ terms_same h ts i

  indices_same : (h : List Text) (js : Indices) → indices_apply h (bare_indices js) ≡ indices_apply h js
  indices_same h no_indices = refl
  indices_same h (at_index x js) = λ i. applied_same h x i ++ indices_same h js i
  indices_same h (update x y js) = λ i. applied_same h x i ++ (applied_same h y i ++ indices_same h js i)

  triggers_same : (h : List Text) (rs : Triggers) → triggers_apply h (bare_triggers rs) ≡ triggers_apply h rs
  triggers_same h no_triggers = refl
  triggers_same h (trigger p xs rs) = λ i. all_same h xs i ++ triggers_same h rs i

  groups_same : (h : List Text) (gs : Groups) → groups_apply h (bare_groups gs) ≡ groups_apply h gs
  groups_same h no_groups = refl
  groups_same h (group ns t c gs) = λ i. clause_same h c i ++ groups_same h gs i

  clause_same : (h : List Text) (c : Clause) → clause_applies h (bare_clause c) ≡ clause_applies h c
  clause_same h no_clause = refl
  clause_same h (clause p x) = applied_same h x

mutual
  pub quantified_same : (x : Expr) → is_quantified (bare x) ≡ is_quantified x
  quantified_same (expr p n) = node_quantified_same n

  node_quantified_same : (n : Node) → node_quantified (bare_node n) ≡ node_quantified n
  node_quantified_same (number n) = refl
  node_quantified_same (truth b) = refl
  node_quantified_same (variable n) = refl
  node_quantified_same (apply n xs) = any_quantified_same xs
  node_quantified_same (old p x) = quantified_same x
  node_quantified_same (choose c x y) = λ i. quantified_same c i || (quantified_same x i || quantified_same y i)
  node_quantified_same (quantified q p ps gs rs x) = refl
  node_quantified_same (iffs xs) = any_quantified_same xs
  node_quantified_same (implies xs) = any_quantified_same xs
  node_quantified_same (ands xs) = any_quantified_same xs
  node_quantified_same (ors xs) = any_quantified_same xs
  node_quantified_same (related o x y) = λ i. quantified_same x i || quantified_same y i
  node_quantified_same (sums x ts) = λ i. quantified_same x i || terms_quantified_same ts i
  node_quantified_same (products xs) = any_quantified_same xs
  node_quantified_same (negation x) = quantified_same x
  node_quantified_same (minus x) = quantified_same x
  node_quantified_same (indexed x js) = λ i. quantified_same x i || indices_quantified_same js i

  any_quantified_same : (xs : Exprs) → any_quantified (bare_exprs xs) ≡ any_quantified xs
  any_quantified_same no_exprs = refl
  any_quantified_same (item x xs) = λ i. quantified_same x i || any_quantified_same xs i

  terms_quantified_same : (ts : Terms) → terms_quantified (bare_terms ts) ≡ terms_quantified ts
  terms_quantified_same no_terms = refl
  terms_quantified_same (plus x ts) = λ i. quantified_same x i || terms_quantified_same ts i
  terms_quantified_same (less x ts) = λ i. quantified_same x i || terms_quantified_same ts i

  indices_quantified_same : (js : Indices) → indices_quantified (bare_indices js) ≡ indices_quantified js
  indices_quantified_same no_indices = refl
  indices_quantified_same (at_index x js) = λ i. quantified_same x i || indices_quantified_same js i
  indices_quantified_same (update x y js) = λ i. quantified_same x i || (quantified_same y i || indices_quantified_same js i)

-- headings
abbrev pub bare_heading : Heading → Heading
bare_heading h = record { ins = map bare_argument h.ins; result = bare_type h.result; value = option_map bare h.value }

value_applies : (ns : List Text) (o : Option Expr) → ◌≡◌ {A = List Text} (elim (option_map bare o) [ None ↦ [] | Some x ↦ applied_in ns x ]) (elim o [ None ↦ [] | Some x ↦ applied_in ns x ])
value_applies ns None = refl
value_applies ns (Some x) = applied_same ns x

value_quantified : (o : Option Expr) → ◌≡◌ {A = Bool} (elim (option_map bare o) [ None ↦ false | Some x ↦ is_quantified x ]) (elim o [ None ↦ false | Some x ↦ is_quantified x ])
value_quantified None = refl
value_quantified (Some x) = quantified_same x

pub heading_applies : (h : Heading) → applied_by (Some (bare_heading h)) ≡ applied_by (Some h)
heading_applies h = (λ i. elim (option_map bare h.value) [ None ↦ [] | Some x ↦ applied_in (argument_texts h.ins i) x ]) ∙ value_applies (texts_of (argument_names h.ins)) h.value

pub heading_quantified : (h : Heading) → has_quantifier (Some (bare_heading h)) ≡ has_quantifier (Some h)
heading_quantified h = value_quantified h.value

value_used : (ns : List Text) (o : Option Expr) → Within (elim o [ None ↦ [] | Some x ↦ applied_in ns x ]) (guard_uses ns o)
value_used ns None = none_within []
value_used ns (Some x) = applied_used ns x

-- what a function's body applies is used in it
pub heading_used : (h : Heading) → Within (applied_by (Some h)) (guard_uses (texts_of (argument_names h.ins)) h.value)
heading_used h = value_used (texts_of (argument_names h.ins)) h.value
