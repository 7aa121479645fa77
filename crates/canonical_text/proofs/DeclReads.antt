-- Each declaration that some tokens spell is read back from its canonical text.
use Rattle.std.specs.Prelude.{◌≡◌, ℕ, suc, ◌≤◌, false, codes, List, [], ◌∷◌, ◌++◌, Ok, Option, Some, None, option_map}
use Rattle.std.proofs.Common.{refl}
use Rattle.bv_base.specs.declared.place.Place.{Place}
use Rattle.bpl_ast.specs.Place.{Name, Ty}
use Rattle.bpl_ast.specs.Tree.{Expr, Groups}
use Rattle.bpl_ast.specs.Statement.{Stmt, stmt, Action, assert, assume, havoc, assign, call, branches, loop, «break», «return», goto, Branches, branch, otherwise, no_branch, Stmts, no_stmts, next as next_stmt, DeclBody, constant, axiom_of, variables, synonym}
use Rattle.canonical_text.specs.Glyph.{plain, word, closing}
use Rattle.canonical_text.specs.Expression.{names, type, groups}
use Rattle.canonical_text.specs.Lines.{semicolon, unique_word, synonym_of}
use Rattle.bpl_grammar.specs.Lexeme.{Lexeme}
use Rattle.bpl_grammar.specs.Reading.{read_ids}
use Rattle.bpl_grammar.specs.ReadTypes.{read_type}
use Rattle.bpl_grammar.specs.ReadStatements.{read_attrs, formula_with, var_with}
use Rattle.bpl_grammar.specs.ReadDeclarations.{read_unique, const_with, synonym_with, type_decl_with, decl_with}
use Rattle.canonical_text.specs.Same.{start, bare_name, bare_type}
use Rattle.canonical_text.specs.SameStatement.{bare_decl}
use Rattle.canonical_text.specs.WrittenExpression.{IsName, SomeNames, IsWrittenType, IsWritten}
use Rattle.canonical_text.specs.WrittenStatement.{IsWrittenStmt, IsWrittenAction, AreWrittenBranches, AreWrittenStmts, SomeGroups, IsOptional}
use Rattle.canonical_text.specs.Nestings.{type_depth, expression_depth, groups_depth}
use Rattle.canonical_text.specs.StatementNestings.{optional_depth}
use Rattle.canonical_text.specs.Tokens.{decl_tokens}
use Rattle.canonical_text.specs.Spelled.{token, Spelled, done, next}
use Rattle.canonical_text.specs.Ahead.{sees_text}
use Rattle.canonical_text.proofs.Parts.{split}
use Rattle.canonical_text.proofs.TypeReads.{no_word, name_read, NamesRead, names_read, type_reads}
use Rattle.canonical_text.proofs.SimpleReads.{no_attrs, formula_reads}
use Rattle.canonical_text.proofs.ActionReads.{ActionReads, assert_reads, assume_reads, havoc_reads, goto_reads, break_reads, return_reads, assign_reads, call_reads}
use Rattle.canonical_text.proofs.BlockReads.{StmtReads, stmt_from, EachStmt, EachBranch, if_reads, while_reads}
use Rattle.canonical_text.proofs.HeadReads.{var_reads}

-- statements

mutual
  stmt_reads : (s : Stmt) → IsWrittenStmt s → StmtReads s
  stmt_reads (stmt ls p a) h = stmt_from ls p a h.0 (action_reads a h.1)

  action_reads : (a : Action) → IsWrittenAction a → ActionReads a
  action_reads (assert x) h = assert_reads x h
  action_reads (assume x) h = assume_reads x h
  action_reads (havoc ns) h = havoc_reads ns h
  action_reads (assign ts xs) h = assign_reads ts xs h.0 h.1 h.2
  action_reads (call ns f xs) h = call_reads ns f xs h.0 h.1 h.2
  action_reads (branches bs) h = if_reads bs h.0 (each_branch bs h.1)
  action_reads (loop g is ss) h = while_reads g is ss h.0 h.1 (each_stmt ss h.2)
  action_reads («break» l) h = break_reads l h
  action_reads «return» h = return_reads
  action_reads (goto ns) h = goto_reads ns h

  each_branch : (bs : Branches) → AreWrittenBranches bs → EachBranch bs
  each_branch (branch p g ss bs) h = (h.0, each_stmt ss h.1, each_branch bs h.2)
  each_branch (otherwise ss) h = each_stmt ss h
  each_branch no_branch h = tt

  pub each_stmt : (ss : Stmts) → AreWrittenStmts ss → EachStmt ss
  each_stmt no_stmts h = tt
  each_stmt (next_stmt s ss) h = (stmt_reads s h.0, each_stmt ss h.1)

-- declarations

pub record DeclRead (room : ℕ) (ls us : List Lexeme) (d : DeclBody) : Type 0 where
  pub value : DeclBody
  pub reads : decl_with room ls ≡ Ok (value, us)
  pub same : bare_decl value ≡ bare_decl d

-- axioms and variables

pub axiom_read : (room : ℕ) (p : Place) (ls us : List Lexeme) (x : Expr) → formula_with (suc room) ls ≡ Ok (x, us) → decl_with room (token p (word "axiom") ∷ ls) ≡ Ok (axiom_of x, us)
unfolding decl_with
axiom_read room p ls us x h = rw h refl

pub axiom_reads : (x : Expr) (room : ℕ) (ls us : List Lexeme) → IsWritten x → expression_depth x ≤ suc room → Spelled (decl_tokens (axiom_of x)) ls us → DeclRead room ls us (axiom_of x)
axiom_reads x room ls us w d (next {ls = rest} p g) =
    let a = formula_reads x (suc room) rest us w d g in
    record { value = axiom_of a.value; reads = axiom_read room p rest us a.value a.reads; same = λ i. axiom_of (a.same i) }

variables_read : (room : ℕ) (p : Place) (ls us : List Lexeme) (gs : Groups) → var_with (suc room) (token p (word "var") ∷ ls) ≡ Ok (gs, us) → decl_with room (token p (word "var") ∷ ls) ≡ Ok (variables gs, us)
unfolding decl_with
variables_read room p ls us gs h = rw h refl

pub variables_reads : (gs : Groups) (room : ℕ) (ls us : List Lexeme) → SomeGroups gs → groups_depth gs ≤ suc room → Spelled (decl_tokens (variables gs)) ls us → DeclRead room ls us (variables gs)
variables_reads gs room ls us w d (next {ls = rest} p g) =
    let f = split (groups gs) semicolon g in
    closed p rest f.middle f.first f.second
  where
    closed : (p : Place) (ls ms : List Lexeme) → Spelled (groups gs) ls ms → Spelled semicolon ms us → DeclRead room (token p (word "var") ∷ ls) us (variables gs)
    closed p ls ms f (next q done) =
        let a = var_reads gs (suc room) p ls (token q (closing ";") ∷ us) us w d f q refl in
        record { value = variables a.value; reads = variables_read room p ls us a.value a.reads; same = λ i. variables (a.same i) }

-- constants

record UniqueRead (ls us : List Lexeme) (u : Option Place) : Type 0 where
  pub value : Option Place
  pub reads : read_unique ls ≡ Ok (value, us)
  pub same : option_map (λ p. start) value ≡ option_map (λ p. start) u
  pub brace : sees_text "{" ls ≡ false

unique_there : (p : Place) (us : List Lexeme) → read_unique (token p (word "unique") ∷ us) ≡ Ok (Some p, us)
unfolding read_unique
unique_there p us = refl

unique_none : (us : List Lexeme) → sees_text "unique" us ≡ false → read_unique us ≡ Ok (None, us)
unfolding read_unique
unique_none us h = rw h refl

unique_reads : (u : Option Place) (n : Name) (ns : List Name) (ls ms us : List Lexeme) → IsName n → Spelled (unique_word u) ls ms → Spelled (names (n ∷ ns)) ms us → UniqueRead ls ms u
unique_reads None n ns ls ms us w done (next {ls = rest} p g) = record { value = None; reads = unique_none _ (no_word p n rest (codes "unique") w); same = refl; brace = no_word p n rest (codes "{") w }
unique_reads (Some u) n ns ls ms us w (next p done) g = record { value = Some p; reads = unique_there p ms; same = refl; brace = refl }

const_read : (room : ℕ) (p q z : Place) (ls ms rest us : List Lexeme) (u : Option Place) (ns : List Name) (t : Ty) → read_attrs (suc room) ls ≡ Ok (tt, ls) → read_unique ls ≡ Ok (u, ms) → read_ids ms ≡ Ok (ns, token q (closing ":") ∷ rest) → read_type (suc (suc room)) rest ≡ Ok (t, token z (closing ";") ∷ us)
    → decl_with room (token p (word "const") ∷ ls) ≡ Ok (constant u ns t, us)
unfolding decl_with const_with
const_read room p q z ls ms rest us u ns t h k l m = rw (h, k, l, m) refl

pub const_reads : (u : Option Place) (ns : List Name) (t : Ty) (room : ℕ) (ls us : List Lexeme) → SomeNames ns → IsWrittenType t → type_depth t ≤ suc room → Spelled (decl_tokens (constant u ns t)) ls us → DeclRead room ls us (constant u ns t)
const_reads u [] t room ls us w v d g = absurd w
const_reads u (n ∷ ns) t room ls us w v d (next {ls = rest} p g) =
    let f = split (unique_word u) (names (n ∷ ns) ++ closing ":" ∷ (type t ++ semicolon)) g in
    let k = split (names (n ∷ ns)) (closing ":" ∷ (type t ++ semicolon)) f.second in
    typed p rest f.middle k.middle f.first k.first k.second
  where
    closed : (p q : Place) (ls ms rest end : List Lexeme) → UniqueRead ls ms u → NamesRead ms (token q (closing ":") ∷ rest) (n ∷ ns) → Spelled (type t) rest end → Spelled semicolon end us → DeclRead room (token p (word "const") ∷ ls) us (constant u (n ∷ ns) t)
    closed p q ls ms rest end a b f (next z done) =
        let c = type_reads t v (suc room) rest (token z (closing ";") ∷ us) d f in
        record {
          value = constant a.value b.values c.value;
          reads = const_read room p q z ls ms rest us a.value b.values c.value (no_attrs (suc room) ls a.brace) a.reads b.reads c.reads;
          same = λ i. constant (a.same i) (b.same i) (c.same i);
        }

    typed : (p : Place) (ls ms mid : List Lexeme) → Spelled (unique_word u) ls ms → Spelled (names (n ∷ ns)) ms mid → Spelled (closing ":" ∷ (type t ++ semicolon)) mid us → DeclRead room (token p (word "const") ∷ ls) us (constant u (n ∷ ns) t)
    typed p ls ms mid fu fn (next {ls = rest} q g) =
        let r = split (type t) semicolon g in
        closed p q ls ms rest r.middle (unique_reads u n ns ls ms (token q (closing ":") ∷ rest) w.0 fu fn) (names_read (n ∷ ns) ms (token q (closing ":") ∷ rest) w refl fn) r.first r.second

-- synonyms

record SynonymRead (room : ℕ) (ls us : List Lexeme) (t : Option Ty) : Type 0 where
  pub value : Option Ty
  pub reads : synonym_with room ls ≡ Ok (value, us)
  pub same : option_map bare_type value ≡ option_map bare_type t

synonym_none : (room : ℕ) (p : Place) (us : List Lexeme) → synonym_with room (token p (closing ";") ∷ us) ≡ Ok (None, token p (closing ";") ∷ us)
unfolding synonym_with
synonym_none room p us = refl

synonym_some : (room : ℕ) (p : Place) (ls us : List Lexeme) (t : Ty) → read_type (suc (suc room)) ls ≡ Ok (t, us) → synonym_with room (token p (word "=") ∷ ls) ≡ Ok (Some t, us)
unfolding synonym_with
synonym_some room p ls us t h = rw h refl

synonym_value : (t : Option Ty) (room : ℕ) (p : Place) (ls us : List Lexeme) → IsOptional IsWrittenType t → optional_depth type_depth t ≤ suc room → Spelled (synonym_of t) ls (token p (closing ";") ∷ us) → SynonymRead room ls (token p (closing ";") ∷ us) t
synonym_value None room p ls us w d done = record { value = None; reads = synonym_none room p us; same = refl }
synonym_value (Some t) room p ls us w d (next {ls = rest} q g) =
    let a = type_reads t w (suc room) rest (token p (closing ";") ∷ us) d g in
    record { value = Some a.value; reads = synonym_some room q rest (token p (closing ";") ∷ us) a.value a.reads; same = λ i. Some (a.same i) }

type_read : (room : ℕ) (p q z : Place) (n : Name) (ls us : List Lexeme) (t : Option Ty) → IsName n → read_attrs (suc room) (token q (plain n.text) ∷ ls) ≡ Ok (tt, token q (plain n.text) ∷ ls) → synonym_with room ls ≡ Ok (t, token z (closing ";") ∷ us)
    → decl_with room (token p (word "type") ∷ token q (plain n.text) ∷ ls) ≡ Ok (synonym (record { text = n.text; at = q }) t, us)
unfolding decl_with type_decl_with
type_read room p q z n ls us t w h k = rw (h, name_read q n ls w, k) refl

pub synonym_reads : (n : Name) (t : Option Ty) (room : ℕ) (ls us : List Lexeme) → IsName n → IsOptional IsWrittenType t → optional_depth type_depth t ≤ suc room → Spelled (decl_tokens (synonym n t)) ls us → DeclRead room ls us (synonym n t)
synonym_reads n t room ls us w v d (next p (next {ls = rest} q g)) =
    let f = split (synonym_of t) semicolon g in
    closed p q rest f.middle f.first f.second
  where
    closed : (p q : Place) (ls ms : List Lexeme) → Spelled (synonym_of t) ls ms → Spelled semicolon ms us → DeclRead room (token p (word "type") ∷ token q (plain n.text) ∷ ls) us (synonym n t)
    closed p q ls ms f (next z done) =
        let a = synonym_value t room z ls us v d f in
        record { value = synonym (record { text = n.text; at = q }) a.value; reads = type_read room p q z n ls us a.value w (no_attrs (suc room) _ (no_word q n ls (codes "{") w)) a.reads; same = λ i. synonym (bare_name n) (a.same i) }
