-- The faults of an expression, each node's own and those of its parts.
use Rattle.std.specs.Prelude.{ℕ, suc, Bool, true, false, ◌&&◌, ◌||◌, List, [], ◌∷◌, ◌++◌, bytes_eq, Option, Some, None}
use Rattle.std.specs.List.{list_all}
use Rattle.bv_base.specs.declared.place.Place.{Place}
use Rattle.logic_terms.specs.Tree.{Kind, int, boolean}
use Rattle.logic_terms.specs.Sorts.{read_sort, write_sort}
use Rattle.bpl_ast.specs.Tree.{Relation, eq, ne, lt, le, gt, ge, Expr, expr, first_place, Node, number, truth, variable, apply, old, choose, quantified, iffs, implies, ands, ors, related, sums, products, negation, minus, indexed, Exprs, no_exprs, item, Terms, no_terms, plus, less, Indices, no_indices, at_index, update, Triggers, no_triggers, trigger, Groups, no_groups, group, Clause, no_clause, clause}
use Rattle.bpl_scopes.specs.declared.fault.TypeKind.TheVariants.{Twice as twice, Trigger as bad_trigger, QuantifierHere as quantifier_here}
use Rattle.bpl_scopes.specs.declared.fault.Fault.{Fault}
use Rattle.bpl_scopes.specs.Fault.{unless, again}
use Rattle.bpl_scopes.specs.Scopes.{Text, Scope, Heading, names_of, only_names, texts_of, meaning, hidden_in}
use Rattle.bpl_scopes.specs.Sorts.{sort_in, within, argument_sorts, applied_heading}
use Rattle.bpl_scopes.specs.TypeFaults.{params_faults, group_type_faults, group_where_faults}
use Rattle.bpl_faults.specs.NameFaults.{variable_faults, application_faults, old_faults, sort_faults, same_sort_faults, map_faults, entry_sort}

-- built of reads, applications, variables and literals
abbrev mutual
  pub is_built : Expr → Bool
  is_built (expr p n) = node_built n

  pub node_built : Node → Bool
  node_built (number n) = true
  node_built (truth b) = true
  node_built (variable n) = true
  node_built (apply n xs) = all_built xs
  node_built (indexed x is) = is_built x && all_reads is
  node_built n = false

  pub all_built : Exprs → Bool
  all_built no_exprs = true
  all_built (item x xs) = is_built x && all_built xs

  pub all_reads : Indices → Bool
  all_reads no_indices = true
  all_reads (at_index x is) = is_built x && all_reads is
  all_reads (update x y is) = false

-- a read or an application
abbrev pub is_read_or_application : Expr → Bool
is_read_or_application (expr p (apply n xs)) = true
is_read_or_application (expr p (indexed x is)) = true
is_read_or_application (expr p n) = false

abbrev pub are_built_patterns : Exprs → Bool
are_built_patterns no_exprs = true
are_built_patterns (item x xs) = is_read_or_application x && (is_built x && are_built_patterns xs)

-- whether a name stands as a variable in what is so built
abbrev mutual
  pub mentions : Text → Expr → Bool
  mentions v (expr p n) = node_mentions v n

  pub node_mentions : Text → Node → Bool
  node_mentions v (variable n) = bytes_eq n.text v
  node_mentions v (apply n xs) = any_mentions v xs
  node_mentions v (indexed x is) = mentions v x || index_mentions v is
  node_mentions v n = false

  pub any_mentions : Text → Exprs → Bool
  any_mentions v no_exprs = false
  any_mentions v (item x xs) = mentions v x || any_mentions v xs

  pub index_mentions : Text → Indices → Bool
  index_mentions v no_indices = false
  index_mentions v (at_index x is) = mentions v x || index_mentions v is
  index_mentions v (update x y is) = index_mentions v is

-- a trigger of a quantifier with these variables
abbrev pub is_trigger : List Text → Exprs → Bool
is_trigger vs xs = are_built_patterns xs && list_all (λ v. any_mentions v xs) vs

-- two sides of a comparison: of two that are equal or not the right one is compared with the left, the others are of `int`
abbrev pub comparison_faults : Relation → Option Kind → Option Kind → Place → Place → List Fault
comparison_faults eq x y p q = same_sort_faults x y q
comparison_faults ne x y p q = same_sort_faults x y q
comparison_faults lt x y p q = sort_faults int x p ++ sort_faults int y q
comparison_faults le x y p q = sort_faults int x p ++ sort_faults int y q
comparison_faults gt x y p q = sort_faults int x p ++ sort_faults int y q
comparison_faults ge x y p q = sort_faults int x p ++ sort_faults int y q

abbrev pub parameter_sorts : Scope → Option Heading → List (Option Kind)
parameter_sorts s None = []
parameter_sorts s (Some h) = argument_sorts s.table h.ins

abbrev pub count : Exprs → ℕ
count no_exprs = 0
count (item x xs) = suc (count xs)

-- the test says whether the expression stands in a formula position
abbrev mutual
  pub expr_faults : Scope → Bool → Expr → List Fault
  expr_faults s f (expr p n) = node_faults s f n

  pub node_faults : Scope → Bool → Node → List Fault
  node_faults s f (number n) = []
  node_faults s f (truth b) = []
  node_faults s f (variable n) = variable_faults s.part (meaning s n.text) n.at
  node_faults s f (apply n xs) = application_faults s f n.text (meaning s n.text) (count xs) n.at ++ argument_faults s (parameter_sorts s (applied_heading (meaning s n.text))) xs
  node_faults s f (old p x) = old_faults s.part p ++ expr_faults s false x
  node_faults s f (choose c x y) = expr_faults s false c ++ (sort_faults boolean (sort_in s c) (first_place c)
      ++ (expr_faults s false x ++ (expr_faults s false y ++ same_sort_faults (sort_in s x) (sort_in s y) (first_place y))))
  node_faults s f (quantified q p ps gs rs x) = unless f quantifier_here p ++ (params_faults ps ++ (group_type_faults s.table (hidden_in s) gs ++ (group_where_faults gs
      ++ (again twice [] (only_names (names_of gs)) ++ (trigger_faults (within s gs) (texts_of (only_names (names_of gs))) rs
      ++ (expr_faults (within s gs) true x ++ sort_faults boolean (sort_in (within s gs) x) (first_place x)))))))
  node_faults s f (iffs xs) = operand_faults s f boolean xs
  node_faults s f (implies xs) = operand_faults s f boolean xs
  node_faults s f (ands xs) = operand_faults s f boolean xs
  node_faults s f (ors xs) = operand_faults s f boolean xs
  node_faults s f (related o x y) = expr_faults s false x ++ (expr_faults s false y ++ comparison_faults o (sort_in s x) (sort_in s y) (first_place x) (first_place y))
  node_faults s f (sums x ts) = expr_faults s false x ++ (sort_faults int (sort_in s x) (first_place x) ++ term_faults s ts)
  node_faults s f (products xs) = operand_faults s false int xs
  node_faults s f (negation x) = expr_faults s f x ++ sort_faults boolean (sort_in s x) (first_place x)
  node_faults s f (minus x) = expr_faults s false x ++ sort_faults int (sort_in s x) (first_place x)
  node_faults s f (indexed x is) = expr_faults s false x ++ index_faults s (first_place x) (sort_in s x) is

  -- operands of one sort
  pub operand_faults : Scope → Bool → Kind → Exprs → List Fault
  operand_faults s f k no_exprs = []
  operand_faults s f k (item x xs) = expr_faults s f x ++ (sort_faults k (sort_in s x) (first_place x) ++ operand_faults s f k xs)

  -- arguments, each of its parameter's sort
  pub argument_faults : Scope → List (Option Kind) → Exprs → List Fault
  argument_faults s ks no_exprs = []
  argument_faults s [] (item x xs) = expr_faults s false x ++ argument_faults s [] xs
  argument_faults s (k ∷ ks) (item x xs) = expr_faults s false x ++ (same_sort_faults k (sort_in s x) (first_place x) ++ argument_faults s ks xs)

  pub term_faults : Scope → Terms → List Fault
  term_faults s no_terms = []
  term_faults s (plus x ts) = expr_faults s false x ++ (sort_faults int (sort_in s x) (first_place x) ++ term_faults s ts)
  term_faults s (less x ts) = expr_faults s false x ++ (sort_faults int (sort_in s x) (first_place x) ++ term_faults s ts)

  -- what is indexed begins at p and has the sort m, if any
  pub index_faults : Scope → Place → Option Kind → Indices → List Fault
  index_faults s p m no_indices = []
  index_faults s p m (at_index x is) = map_faults m p ++ (expr_faults s false x ++ (sort_faults int (sort_in s x) (first_place x) ++ index_faults s p (read_sort m (sort_in s x)) is))
  index_faults s p m (update x y is) = map_faults m p ++ (expr_faults s false x ++ (sort_faults int (sort_in s x) (first_place x)
      ++ (expr_faults s false y ++ (same_sort_faults (entry_sort m) (sort_in s y) (first_place y) ++ index_faults s p (write_sort m (sort_in s x) (sort_in s y)) is))))

  -- triggers of a quantifier with these variables
  pub trigger_faults : Scope → List Text → Triggers → List Fault
  trigger_faults s vs no_triggers = []
  trigger_faults s vs (trigger p xs rs) = unless (is_trigger vs xs) bad_trigger p ++ (pattern_faults s xs ++ trigger_faults s vs rs)

  pub pattern_faults : Scope → Exprs → List Fault
  pattern_faults s no_exprs = []
  pattern_faults s (item x xs) = expr_faults s false x ++ pattern_faults s xs

-- an expression that has to have that sort
abbrev pub faults_as : Scope → Bool → Kind → Expr → List Fault
faults_as s f k x = expr_faults s f x ++ sort_faults k (sort_in s x) (first_place x)

abbrev pub formula_faults : Scope → Expr → List Fault
formula_faults s x = faults_as s true boolean x

-- a where clause is a formula position
abbrev pub clause_faults : Scope → Clause → List Fault
clause_faults s no_clause = []
clause_faults s (clause p x) = formula_faults s x

abbrev pub group_clause_faults : Scope → Groups → List Fault
group_clause_faults s no_groups = []
group_clause_faults s (group ns t c gs) = clause_faults s c ++ group_clause_faults s gs
