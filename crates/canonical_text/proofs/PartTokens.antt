-- A list's tokens are those of its first part, and then the rest's.
use Rattle.std.specs.Prelude.{◌≡◌, refl, List, ◌∷◌, ◌++◌, Option, Some}
use Rattle.std.proofs.Common.{rules}
use mathlib.Core.List.{append_assoc}
use Rattle.bpl_ast.specs.Tree.{Terms, Indices}
use Rattle.bpl_ast.specs.ExprView.{term_of, index_of, groups_of}
use Rattle.canonical_text.specs.Glyph.{closing}
use Rattle.canonical_text.specs.Expression.{behind_term, terms, indices, groups, more_groups}
use Rattle.canonical_text.specs.PrintedPart.{term_tokens, index_tokens, group_tokens}
use Rattle.canonical_text.specs.declared.sign.Sign.{Sign}
use Rattle.bpl_ast.specs.declared.expr.Term.{Term}
use Rattle.bpl_ast.specs.declared.expr.Term.TheVariants.{Plus, Less}
use Rattle.bpl_ast.specs.declared.expr.Index.{Index}
use Rattle.bpl_ast.specs.declared.expr.Index.TheVariants.{Read, Write}
use Rattle.bpl_ast.specs.declared.expr.Group.{Group}
use Rattle.canonical_text.specs.declared.sign.Sign.TheVariants.{TermSign}

pub first_term : (s : Option Sign) (t : Term) (ts : Terms) → terms s (term_of t ts) ≡ term_tokens (behind_term s ts) t ++ terms s ts
first_term s (Plus x) ts = refl
first_term s (Less x) ts = refl

pub first_index : (i : Index) (is : Indices) → indices (index_of i is) ≡ index_tokens i ++ indices is
first_index (Read x) is = search (rules, append_assoc)
first_index (Write x y) is = search (rules, append_assoc)

pub another_term : (s : Option Sign) (t : Term) (ts : Terms) → behind_term s (term_of t ts) ≡ Some TermSign
another_term s (Plus x) ts = refl
another_term s (Less x) ts = refl

pub first_group : (g : Group) (gs : List Group) → groups (groups_of (g ∷ gs)) ≡ group_tokens g ++ more_groups (groups_of gs)
first_group g gs = search (rules, append_assoc)

pub next_group : (g : Group) (gs : List Group) → more_groups (groups_of (g ∷ gs)) ≡ closing "," ∷ (group_tokens g ++ more_groups (groups_of gs))
next_group g gs = search (rules, append_assoc)
