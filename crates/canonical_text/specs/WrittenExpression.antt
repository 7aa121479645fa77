-- What holds of every tree that some tokens spell: names are identifiers, numbers are below the bound,
-- and no list is empty where the grammar wants an item.
use Rattle.std.specs.Prelude.{◌≡◌, ◌<◌, Bool, true, false, List, [], ◌∷◌, Option, Some, None, IsTrue}
use Rattle.bpl_lex.specs.Token.{id}
use Rattle.bpl_lex.specs.Shape.{kind_of}
use Rattle.bpl_ast.specs.Place.{Name, Params, Ty, integer, boolean, named, map_type, Tys, no_tys, ty}
use Rattle.bpl_ast.specs.Tree.{Expr, expr, Node, number, truth, variable, apply, old, choose, quantified, iffs, implies, ands, ors, related, sums, products, negation, minus, indexed, Exprs, no_exprs, item, Terms, no_terms, plus, less, Indices, no_indices, at_index, update, Triggers, no_triggers, trigger, Groups, no_groups, group, Clause, no_clause, clause}
use Rattle.bpl_grammar.specs.Limits.{number_end}

abbrev pub IsName : Name → Type 0
IsName n = kind_of n.text ≡ Some id

abbrev pub AreNames : List Name → Type 0
AreNames [] = Unit {0}
AreNames (n ∷ ns) = IsName n × AreNames ns

-- one or more of them
abbrev pub SomeNames : List Name → Type 0
SomeNames [] = ⊥
SomeNames (n ∷ ns) = AreNames (n ∷ ns)

abbrev pub AreParams : Option Params → Type 0
AreParams None = Unit {0}
AreParams (Some ps) = SomeNames ps.names

abbrev pub some_types : Tys → Bool
some_types no_tys = false
some_types (ty t ts) = true

abbrev mutual
  pub IsWrittenType : Ty → Type 0
  IsWrittenType (integer p) = Unit {0}
  IsWrittenType (boolean p) = Unit {0}
  IsWrittenType (named p n) = IsName n
  IsWrittenType (map_type p ps ds r) = AreParams ps × IsTrue (some_types ds) × AreWrittenTypes ds × IsWrittenType r

  pub AreWrittenTypes : Tys → Type 0
  AreWrittenTypes no_tys = Unit {0}
  AreWrittenTypes (ty t ts) = IsWrittenType t × AreWrittenTypes ts

abbrev pub some_exprs : Exprs → Bool
some_exprs no_exprs = false
some_exprs (item x xs) = true

-- two or more
abbrev pub two_exprs : Exprs → Bool
two_exprs no_exprs = false
two_exprs (item x xs) = some_exprs xs

abbrev pub some_terms : Terms → Bool
some_terms no_terms = false
some_terms ts = true

abbrev pub some_indices : Indices → Bool
some_indices no_indices = false
some_indices is = true

abbrev pub some_groups : Groups → Bool
some_groups no_groups = false
some_groups gs = true

abbrev mutual
  pub IsWritten : Expr → Type 0
  IsWritten (expr p n) = IsWrittenNode n

  pub IsWrittenNode : Node → Type 0
  IsWrittenNode (number n) = n < number_end
  IsWrittenNode (truth b) = Unit {0}
  IsWrittenNode (variable n) = IsName n
  IsWrittenNode (apply n xs) = IsName n × AreWritten xs
  IsWrittenNode (old p x) = IsWritten x
  IsWrittenNode (choose c x y) = IsWritten c × IsWritten x × IsWritten y
  IsWrittenNode (quantified q p ps gs rs x) = AreParams ps × IsTrue (some_groups gs) × AreWrittenGroups gs × AreWrittenTriggers rs × IsWritten x
  IsWrittenNode (iffs xs) = IsTrue (two_exprs xs) × AreWritten xs
  IsWrittenNode (implies xs) = IsTrue (two_exprs xs) × AreWritten xs
  IsWrittenNode (ands xs) = IsTrue (two_exprs xs) × AreWritten xs
  IsWrittenNode (ors xs) = IsTrue (two_exprs xs) × AreWritten xs
  IsWrittenNode (related o x y) = IsWritten x × IsWritten y
  IsWrittenNode (sums x ts) = IsWritten x × IsTrue (some_terms ts) × AreWrittenTerms ts
  IsWrittenNode (products xs) = IsTrue (two_exprs xs) × AreWritten xs
  IsWrittenNode (negation x) = IsWritten x
  IsWrittenNode (minus x) = IsWritten x
  IsWrittenNode (indexed x is) = IsWritten x × IsTrue (some_indices is) × AreWrittenIndices is

  pub AreWritten : Exprs → Type 0
  AreWritten no_exprs = Unit {0}
  AreWritten (item x xs) = IsWritten x × AreWritten xs

  pub AreWrittenTerms : Terms → Type 0
  AreWrittenTerms no_terms = Unit {0}
  AreWrittenTerms (plus x ts) = IsWritten x × AreWrittenTerms ts
  AreWrittenTerms (less x ts) = IsWritten x × AreWrittenTerms ts

  pub AreWrittenIndices : Indices → Type 0
  AreWrittenIndices no_indices = Unit {0}
  AreWrittenIndices (at_index x is) = IsWritten x × AreWrittenIndices is
  AreWrittenIndices (update x y is) = IsWritten x × IsWritten y × AreWrittenIndices is

  pub AreWrittenTriggers : Triggers → Type 0
  AreWrittenTriggers no_triggers = Unit {0}
  AreWrittenTriggers (trigger p xs rs) = IsTrue (some_exprs xs) × AreWritten xs × AreWrittenTriggers rs

  pub AreWrittenGroups : Groups → Type 0
  AreWrittenGroups no_groups = Unit {0}
  AreWrittenGroups (group ns t c gs) = SomeNames ns × IsWrittenType t × IsWrittenClause c × AreWrittenGroups gs

  pub IsWrittenClause : Clause → Type 0
  IsWrittenClause no_clause = Unit {0}
  IsWrittenClause (clause p x) = IsWritten x
