-- What the laws of the grammar say.
use Rattle.std.specs.Prelude.{◌≡◌, ℕ, ◌+◌, ◌≤◌, false, List, [], ◌∷◌, codes, Ok, Err}
use Rattle.bv_base.specs.declared.place.Place.{Place}
use Rattle.bpl_ast.specs.Place.{Ty}
use Rattle.bpl_ast.specs.ExprView.{exprs_of, index_of}
use Rattle.bpl_grammar.specs.Lexeme.{Lexeme}
use Rattle.bpl_grammar.specs.Part.{Part, ◌⨟◌, maybe, rule, type, groups, e as expression, es}
use Rattle.bpl_grammar.specs.Grammar.{round, attrs as attributes, listed as in_commas}
use Rattle.bpl_grammar.specs.Spelling.{Takes, Spells}
use Rattle.bpl_grammar.specs.Nesting.{Lies}
use Rattle.bpl_grammar.specs.Judge.{Fate, fails, Narrow, judge}
use Rattle.bpl_grammar.specs.Reads.{sunk}
use Rattle.bpl_grammar.specs.Terminal.{Terminal, fixed, sees_any}
use Rattle.bpl_grammar.specs.Follows.{IsReached, Bars, index, operation, going_on, After, Ends, Closes}
use Rattle.bpl_grammar.specs.Reading.{Read, read_as, listed}
use Rattle.bpl_grammar.specs.ReadTypes.{read_type}
use Rattle.bpl_grammar.specs.ReadExpressions.{groups_from, whole, read_inner, args_with, index_with, groups_with, attrs_with}
use Rattle.bpl_grammar.specs.Types.{Type'}
use Rattle.bpl_grammar.specs.Expressions.{E, Es, Args, Index, Groups'}
use Rattle.bpl_grammar.specs.Limits.{nestings}

-- parts with the same spellings, whose last tokens lie equally deep
pub record AreEqual (p q : Part) : Type 0 where
  pub spells : (ts : List Lexeme) → Spells p ts → Spells q ts
  pub spells_back : (ts : List Lexeme) → Spells q ts → Spells p ts
  pub lies : (ts : List Lexeme) (n : ℕ) → Lies p ts n → IsReached q ts n
  pub lies_back : (ts : List Lexeme) (n : ℕ) → Lies q ts n → IsReached p ts n

-- equal parts have the same fate on all tokens
abbrev pub EqualFate : Type 0
EqualFate = (p q : Part) → AreEqual p q → (ts : List Lexeme) → judge p ts ≡ judge q ts

-- what is left goes on as k does; or the fault stands there
abbrev pub fate : {A : Type 0} → Part → Read A → Fate
fate k (Ok p) = judge k p.1
fate k (Err e) = fails e.0 e.1

-- Reading a type, n nestings deep, goes as far as the tokens do with a type and whatever follows it, and stops where they stop.
abbrev pub TypesAreExact : Type 0
TypesAreExact = (room n : ℕ) → n + room ≡ nestings + 1 → (k : Part) (ls : List Lexeme) → judge (sunk n (rule type) ⨟ k) ls ≡ fate k (read_type room ls)

-- A type that is read is the tree of the tokens that it takes.
abbrev pub TypesAreSpelled : Type 0
TypesAreSpelled = (room : ℕ) (ls : List Lexeme) (x : Ty) (us : List Lexeme) → read_type room ls ≡ Ok (x, us) → Type' (λ t. t.place) ls us x

-- Reading a part of the grammar, n nestings deep, goes as far as the tokens do with it and what follows it, and stops where they stop.
abbrev pub IsExact : {A : Type 0} → ℕ → Part → (Part → Type 0) → (List Lexeme → Read A) → Type 0
IsExact n p MayFollow read = (k : Part) → MayFollow k → (ls : List Lexeme) → judge (sunk n p ⨟ k) ls ≡ fate k (read ls)

-- So do an expression, expressions with commas between them, arguments, an index, groups of names, and attributes.
pub record ExpressionsAreExact : Type 0 where
  pub one : (room n : ℕ) → n + room ≡ nestings + 1 → IsExact n (rule expression) (After n) (read_inner room whole)
  pub many : (room n : ℕ) → n + room ≡ nestings + 1 → IsExact n (in_commas (rule expression)) Ends (listed (read_inner room whole))
  pub arguments : (room n : ℕ) → n + room ≡ nestings → (k : Part) (ls : List Lexeme) → judge (sunk n (round (maybe (rule es))) ⨟ k) ls ≡ fate k (args_with room (read_inner room) ls)
  pub indices : (room n : ℕ) → n + room ≡ nestings → (k : Part) (ls : List Lexeme) → judge (sunk n (operation index) ⨟ k) ls ≡ fate k (index_with room (read_inner room) ls)
  pub groups : (room n : ℕ) → n + room ≡ nestings → IsExact n (rule groups) Closes (groups_with room (read_inner room))
  pub attrs : (room n : ℕ) → n + room ≡ nestings → IsExact n attributes (Bars (fixed (codes "{") ∷ [])) (attrs_with room (read_inner room))

-- Where a part is read, R relates its tokens and those that are left to what was read.
abbrev pub AreSpelled : {A : Type 0} → (List Lexeme → List Lexeme → A → Type 0) → (List Lexeme → Read A) → Type 0
AreSpelled {A} R read = (ls us : List Lexeme) (x : A) → read ls ≡ Ok (x, us) → R ls us x

abbrev placed : Lexeme → Place
placed t = t.place

-- Expressions, their lists, arguments, indices and groups of names that are read are the trees of the tokens that they take; attributes take tokens that spell attributes.
pub record ExpressionsAreSpelled : Type 0 where
  pub one : (room : ℕ) → room ≤ nestings + 1 → AreSpelled (E placed) (read_inner room whole)
  pub many : (room : ℕ) → room ≤ nestings + 1 → AreSpelled (λ ls us xs. Es placed ls us (exprs_of xs)) (listed (read_inner room whole))
  pub arguments : (room : ℕ) → room ≤ nestings + 1 → AreSpelled (λ ls us xs. Args placed ls us (exprs_of xs)) (args_with room (read_inner room))
  pub indices : (room : ℕ) → room ≤ nestings + 1 → AreSpelled (λ ls us i. Index placed ls us (index_of i)) (index_with room (read_inner room))
  pub groups : (room : ℕ) → room ≤ nestings + 1 → AreSpelled (λ ls us gs. Groups' placed ls us (groups_from gs)) (groups_with room (read_inner room))
  pub attrs : (room : ℕ) → room ≤ nestings + 1 → AreSpelled (λ ls us u. Takes attributes ls us) (attrs_with room (read_inner room))

-- Where R relates tokens, and those that are left, to a tree, the same tree is read, and the same tokens are left: no number among the
-- tokens is too wide, what is read has no fault, and what is left begins with none of these tokens.
abbrev pub AreUnique : {A : Type 0} → List Terminal → (List Lexeme → List Lexeme → A → Type 0) → (List Lexeme → Read A) → Type 0
AreUnique {A} cs R read = (ls us vs : List Lexeme) (x y : A) → Narrow ls → sees_any cs us ≡ false → R ls us x → read ls ≡ Ok (y, vs) → (us ≡ vs) × (x ≡ y)

-- So it is with types, expressions, their lists, arguments and groups of names; attributes take the tokens that are read.
pub record TreesAreUnique : Type 0 where
  pub types : (room : ℕ) → AreUnique [] (Type' placed) (read_type room)
  pub one : (room : ℕ) → room ≤ nestings + 1 → AreUnique going_on (E placed) (read_inner room whole)
  pub many : (room : ℕ) → room ≤ nestings + 1 → AreUnique (fixed (codes ",") ∷ going_on) (Es placed) (λ ls. read_as (λ xs. exprs_of xs) (listed (read_inner room whole) ls))
  pub arguments : (room : ℕ) → room ≤ nestings → AreUnique [] (Args placed) (λ ls. read_as (λ xs. exprs_of xs) (args_with room (read_inner room) ls))
  pub groups : (room : ℕ) → room ≤ nestings → AreUnique (fixed (codes ",") ∷ fixed (codes "where") ∷ going_on) (Groups' placed) (λ ls. read_as (λ gs. groups_from gs) (groups_with room (read_inner room) ls))
  pub attrs : (room : ℕ) → room ≤ nestings → AreUnique (fixed (codes "{") ∷ []) (λ ls us u. Takes attributes ls us) (attrs_with room (read_inner room))
