-- Expressions that are read, where there is room for so many nestings, are the trees that the lexemes spell.
use Rattle.std.specs.Prelude.{◌≡◌, ℕ, zero, suc, ◌+◌, List, Ok}
use Rattle.std.proofs.Common.{ap, ◌∙◌, arith}
use Rattle.bpl_ast.specs.Tree.{Expr}
use Rattle.bpl_ast.specs.ExprView.{exprs_of, index_of}
use Rattle.bpl_ast.specs.declared.expr.Index.{Index as AnIndex}
use Rattle.bpl_grammar.specs.Lexeme.{Lexeme}
use Rattle.bpl_grammar.specs.Part.{nothing, rule, attr, e as expression}
use Rattle.bpl_grammar.specs.Grammar.{attrs}
use Rattle.bpl_grammar.specs.Spelling.{Takes}
use Rattle.bpl_grammar.specs.Terminal.{firsts}
use Rattle.bpl_grammar.specs.Follows.{any_operation, opening, After}
use Rattle.bpl_grammar.specs.Reading.{listed}
use Rattle.bpl_grammar.specs.ReadExpressions.{Inner, whole, operand, enclosed, Together, groups_from, args_with, index_with, post_with, e_with, groups_with, attr_with, attrs_with, read_inner}
use Rattle.bpl_grammar.specs.Law.{fate}
use Rattle.bpl_grammar.specs.Expressions.{IsLongest, E, Es, Args, Un, Post, Index, Groups'}
use Rattle.bpl_grammar.proofs.Tails.{bars_follows, bars_nothing}
use Rattle.bpl_grammar.proofs.TypeTrees.{placed}
use Rattle.bpl_grammar.proofs.Longest.{longest_there}
use Rattle.bpl_grammar.proofs.ExprLaws.{whole_fate}
use Rattle.bpl_grammar.proofs.TermTrees as terms
use Rattle.bpl_grammar.proofs.AtomTrees.{Enclosed}
use Rattle.bpl_grammar.proofs.AtomTrees as atoms
use Rattle.bpl_grammar.proofs.MarkTrees as marks

pub after_nothing : (n : ℕ) → After n nothing
after_nothing n = record { follows = bars_follows n nothing (bars_nothing (firsts any_operation)); no_call = bars_nothing opening }

-- no longer front of the lexemes spells an expression
pub longest_whole : (room n : ℕ) → n + room ≡ 201 → (ls : List Lexeme) (x : Expr) (us : List Lexeme) → read_inner room whole ls ≡ Ok (x, us) → IsLongest ls us
longest_whole room n e ls x us h = λ vs d. longest_there n (rule expression) ls us vs (whole_fate room n e nothing (after_nothing n) ls ∙ ap (fate nothing) h) d

-- what each inner reading spells
abbrev pub Spelled : Inner → List Lexeme → List Lexeme → Expr → Type 0
Spelled whole ls us x = E placed ls us x
Spelled operand ls us x = Un placed ls us x
Spelled (enclosed p) ls us x = Enclosed p ls us x

module _ (room : ℕ) (longest : (ls : List Lexeme) (x : Expr) (us : List Lexeme) → read_inner room whole ls ≡ Ok (x, us) → IsLongest ls us)
    (law : (g : Inner) (ls : List Lexeme) (x : Expr) (us : List Lexeme) → read_inner room g ls ≡ Ok (x, us) → Spelled g ls us x) where
  post_tree : (ls : List Lexeme) (x : Expr) (us : List Lexeme) → post_with room (read_inner room) ls ≡ Ok (x, us) → Post placed ls us x
  post_tree = atoms.post_ok room (read_inner room) (law whole) longest (λ p. law (enclosed p))

  e_tree : (ls : List Lexeme) (x : Expr) (us : List Lexeme) → e_with room (read_inner room) ls ≡ Ok (x, us) → E placed ls us x
  e_tree = terms.e_ok room (read_inner room) (law operand) post_tree

  es_tree : (ls us : List Lexeme) (xs : List Expr) → listed (read_inner room whole) ls ≡ Ok (xs, us) → Es placed ls us (exprs_of xs)
  es_tree = atoms.es_ok room (read_inner room) (law whole) longest (λ p. law (enclosed p))

  args_tree : (ls us : List Lexeme) (xs : List Expr) → args_with room (read_inner room) ls ≡ Ok (xs, us) → Args placed ls us (exprs_of xs)
  args_tree = atoms.args_ok room (read_inner room) (law whole) longest (λ p. law (enclosed p))

  index_tree : (ls us : List Lexeme) (i : AnIndex) → index_with room (read_inner room) ls ≡ Ok (i, us) → Index placed ls us (index_of i)
  index_tree = atoms.index_ok room (read_inner room) (law whole) longest (λ p. law (enclosed p))

  groups_tree : (ls us : List Lexeme) (gs : List Together) → groups_with room (read_inner room) ls ≡ Ok (gs, us) → Groups' placed ls us (groups_from gs)
  groups_tree = marks.groups_ok room (read_inner room) (law whole) es_tree e_tree

  attr_tree : (ls us : List Lexeme) (x : Unit {0}) → attr_with room (read_inner room) ls ≡ Ok (x, us) → Takes (rule attr) ls us
  attr_tree = marks.attr_ok room (read_inner room) (law whole) es_tree e_tree

  attrs_tree : (ls us : List Lexeme) (x : Unit {0}) → attrs_with room (read_inner room) ls ≡ Ok (x, us) → Takes attrs ls us
  attrs_tree = marks.attrs_ok room (read_inner room) (law whole) es_tree e_tree

  more_room : (g : Inner) (ls : List Lexeme) (x : Expr) (us : List Lexeme) → read_inner (suc room) g ls ≡ Ok (x, us) → Spelled g ls us x
  more_room whole = e_tree
  more_room operand = terms.un_ok room (read_inner room) (law operand) post_tree
  more_room (enclosed p) = marks.enclosed_ok room (read_inner room) (law whole) es_tree e_tree p

-- an expression, the operand of a sign, or what stands in parentheses
pub inner_tree : (room n : ℕ) → n + room ≡ 201 → (g : Inner) (ls : List Lexeme) (x : Expr) (us : List Lexeme) → read_inner room g ls ≡ Ok (x, us) → Spelled g ls us x
inner_tree zero n e g ls x us h = absurd (cc (h))
inner_tree (suc room) n e g ls x us h = more_room room (longest_whole room (suc n) (omega (arith, e))) (inner_tree room (suc n) (omega (arith, e))) g ls x us h

-- what statements and declarations call

pub whole_tree : (room n : ℕ) → n + room ≡ 201 → (ls : List Lexeme) (x : Expr) (us : List Lexeme) → read_inner room whole ls ≡ Ok (x, us) → E placed ls us x
whole_tree room n e ls x us h = inner_tree room n e whole ls x us h

module _ (room n : ℕ) (total : n + room ≡ 201) where
  pub exprs_tree : (ls us : List Lexeme) (xs : List Expr) → listed (read_inner room whole) ls ≡ Ok (xs, us) → Es placed ls us (exprs_of xs)
  exprs_tree = es_tree room (longest_whole room n total) (inner_tree room n total)

  pub arguments_tree : (ls us : List Lexeme) (xs : List Expr) → args_with room (read_inner room) ls ≡ Ok (xs, us) → Args placed ls us (exprs_of xs)
  arguments_tree = args_tree room (longest_whole room n total) (inner_tree room n total)

  pub at_index_tree : (ls us : List Lexeme) (i : AnIndex) → index_with room (read_inner room) ls ≡ Ok (i, us) → Index placed ls us (index_of i)
  at_index_tree = index_tree room (longest_whole room n total) (inner_tree room n total)

  pub all_groups_tree : (ls us : List Lexeme) (gs : List Together) → groups_with room (read_inner room) ls ≡ Ok (gs, us) → Groups' placed ls us (groups_from gs)
  all_groups_tree = groups_tree room (longest_whole room n total) (inner_tree room n total)

  pub attribute_takes : (ls us : List Lexeme) (x : Unit {0}) → attr_with room (read_inner room) ls ≡ Ok (x, us) → Takes (rule attr) ls us
  attribute_takes = attr_tree room (longest_whole room n total) (inner_tree room n total)

  pub attributes_take : (ls us : List Lexeme) (x : Unit {0}) → attrs_with room (read_inner room) ls ≡ Ok (x, us) → Takes attrs ls us
  attributes_take = attrs_tree room (longest_whole room n total) (inner_tree room n total)
