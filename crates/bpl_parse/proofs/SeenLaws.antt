-- Groups and triggers stand for the same trees, however they are seen.
use Rattle.std.specs.Prelude.{◌≡◌, List, [], ◌∷◌, ◌++◌, map}
use Rattle.std.proofs.Common.{refl, ap}
use Rattle.bpl_ast.specs.Tree.{group, trigger}
use Rattle.bpl_ast.specs.ExprView.{exprs_of, clause_of, groups_of, triggers_of}
use Rattle.bpl_ast.specs.declared.expr.Group.{Group}
use Rattle.bpl_ast.specs.declared.expr.Trigger.{Trigger}
use Rattle.bpl_grammar.specs.ReadExpressions.{groups_from, triggers_from}
use Rattle.bpl_parse.specs.Seen.{group_seen, trigger_seen}

pub groups_same : (gs : List Group) → groups_of gs ≡ groups_from (map group_seen gs)
groups_same [] = refl
groups_same (g ∷ gs) = ap (λ r. group g.names.items g.of (clause_of g.condition) r) (groups_same gs)

pub triggers_same : (ts : List Trigger) → triggers_of ts ≡ triggers_from (map trigger_seen ts)
triggers_same [] = refl
triggers_same (t ∷ ts) = ap (λ r. trigger t.at (exprs_of t.patterns.items) r) (triggers_same ts)

pub map_append : {A B : Type 0} (f : A → B) (xs ys : List A) → map f (xs ++ ys) ≡ map f xs ++ map f ys
map_append f [] ys = refl
map_append f (x ∷ xs) ys = ap (λ r. f x ∷ r) (map_append f xs ys)
