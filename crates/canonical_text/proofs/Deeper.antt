-- A text of a program whose canonical text has a token that lies too deep:
-- axiom if !!..!a then b else c && (if d then e else f) || g;
use Rattle.std.specs.Prelude.{◌≡◌, ◌⊎◌, ℕ, zero, suc, ◌<◌, ◌≤◌, true, false, List, [], ◌∷◌, ◌++◌, length, codes, Option, Some, None, Ok}
use Rattle.std.proofs.Common.{refl, inl, inr, ap, sym, subst, arith, append-nil}
use Rattle.bv_base.specs.declared.place.Place.{Place}
use Rattle.bpl_lex.specs.Token.{Token, id, word as word_kind}
use Rattle.bpl_lex.specs.Shape.{kind_of, is_identifier}
use Rattle.bpl_lex.specs.Lexing.{tokens, tokens_from, end_of}
use Rattle.bpl_ast.specs.Tree.{Expr, expr, variable, choose, ands, ors, negation, no_exprs, item, first_place}
use Rattle.bpl_ast.specs.Statement.{axiom_of, Decl}
use Rattle.canonical_text.specs.declared.level.Level.{Level}
use Rattle.canonical_text.specs.declared.level.Level.TheVariants.{Equivalence, Implication, Junction, Comparison, Sum, Product, Unary, Postfix, Atom}
use Rattle.canonical_text.specs.Level.{rank}
use Rattle.canonical_text.specs.declared.sign.Sign.{Sign}
use Rattle.canonical_text.specs.Glyph.{Glyph, plain, word, opening, closing, prefix, line}
use Rattle.bv_base.specs.Text.{text_of}
use Rattle.canonical_text.specs.Lines.{program_text}
use Rattle.bpl_grammar.specs.Lexeme.{Lexeme, lexemes}
use Rattle.bpl_grammar.specs.Part.{rule, program}
use Rattle.bpl_grammar.specs.Judge.{deep}
use Rattle.bpl_grammar.specs.Fault.{marked, HasFault}
use Rattle.bpl_grammar.specs.Programs.{decl_of}
use Rattle.bpl_grammar.specs.Reading.{read_name, repeated}
use Rattle.bpl_grammar.specs.ReadExpressions.{read_inner, whole, e_with, imp_with, log_with, rels_with, rel_with, sum_with, terms_with, prod_with, factors_with, un_with, post_with, indices_with, atom_with, choose_with, enclosed_with, inside_with, named_with}
use Rattle.bpl_grammar.specs.ReadDeclarations.{read_decl}
use Rattle.bpl_grammar.specs.ReadPrograms.{read_text, tokens_read, tokens_left}
use Rattle.bpl_grammar.proofs.ProgramFaults.{programs_are_exact}
use Rattle.canonical_text.specs.Nestings.{operand_depth, expression_depth}
use Rattle.canonical_text.specs.StatementNestings.{decl_depth}
use Rattle.canonical_text.specs.Spelled.{token, Spelled, done, next}
use Rattle.canonical_text.specs.Lexed.{AreTokens, none}
use Rattle.canonical_text.specs.RoundTrip.{AreShallow, SomeCanonicalTextIsDeep}
use Rattle.canonical_text.proofs.Levels.{reader_at, is_signed, down}
use Rattle.canonical_text.proofs.LexLines.{Lexed, lex_lines}
use Rattle.canonical_text.proofs.Alone.{IsLoose, loose_name, loose_word}
use Rattle.canonical_text.proofs.Signs.{IsOpen, and_loose, or_loose, round_open, round_loose, semicolon_loose, first_name, first_not}
use Rattle.canonical_text.proofs.Apart.{Rest, Good, rest_nil, rest_loose, good_loose, rest_open, rest_not}
use Rattle.canonical_text.proofs.ApartLines.{one_line}
use Rattle.canonical_text.proofs.AtomReads.{choose_read}
use Rattle.canonical_text.proofs.PostfixReads.{negation_read}
use Rattle.canonical_text.proofs.SimpleReads.{no_attrs, formula_read}
use Rattle.canonical_text.proofs.DeclReads.{axiom_read}
use Rattle.canonical_text.proofs.ProgramReads.{step_reads, decls_ok, found_reads, left_is, spelled_tokens}
use Rattle.canonical_text.proofs.RoundTrips.{programs_written}
use Rattle.canonical_text.proofs.OnlyDeep.{shallow_or_deep}
use Prim.Native.String.{String}

-- its tokens

abbrev n : String → Glyph
n s = plain (codes s)

abbrev nots : ℕ → List Glyph → List Glyph
nots zero gs = n "a" ∷ gs
nots (suc k) gs = prefix (codes "!") ∷ nots k gs

abbrev behind : List Glyph
behind = word "then" ∷ n "b" ∷ word "else" ∷ n "c" ∷ word "&&" ∷ opening "(" ∷ word "if" ∷ n "d" ∷ word "then" ∷ n "e" ∷ word "else" ∷ n "f" ∷ closing ")" ∷ word "||" ∷ n "g" ∷ closing ";" ∷ []

abbrev glyphs : ℕ → List Glyph
glyphs k = word "axiom" ∷ word "if" ∷ nots k behind

-- they stand apart

loose : (s : String) → kind_of (codes s) ≡ Some id → IsLoose (n s)
loose s h = loose_name (codes s) h

abbrev Easy : Glyph → Type 0
Easy g = IsLoose g ⊎ IsOpen g

abbrev EachEasy : List Glyph → Type 0
EachEasy [] = Unit {0}
EachEasy (g ∷ gs) = Easy g × EachEasy gs

rest_easy : (g : Glyph) (gs : List Glyph) → Easy g → Rest gs → Rest (g ∷ gs)
rest_easy g gs (inl l) r = rest_loose g gs l r
rest_easy g gs (inr o) r = rest_open g gs o r

rest_each : (gs : List Glyph) → EachEasy gs → Rest gs
rest_each [] w = rest_nil
rest_each (g ∷ gs) w = rest_easy g gs w.0 (rest_each gs w.1)

easy_word : (w : String) → is_identifier (codes w) ≡ true → kind_of (codes w) ≡ Some word_kind → Easy (word w)
easy_word w i h = inl (loose_word w i h)

rest_behind : Rest behind
rest_behind = rest_each behind (easy_word "then" refl refl, (inl (loose "b" refl), (easy_word "else" refl refl, (inl (loose "c" refl), (inl and_loose, (inr round_open, (easy_word "if" refl refl, (inl (loose "d" refl), (easy_word "then" refl refl, (inl (loose "e" refl), (easy_word "else" refl refl, (inl (loose "f" refl), (inl round_loose, (inl or_loose, (inl (loose "g" refl), (inl semicolon_loose, tt))))))))))))))))

good_nots : (k : ℕ) → Good (nots k behind)
good_nots zero = good_loose (n "a") behind (loose "a" refl) (first_name (codes "a") false refl) rest_behind
good_nots (suc k) = record { rest = rest_not (nots k behind) (good_nots k); begins = first_not }

rest_glyphs : (k : ℕ) → Rest (glyphs k)
rest_glyphs k = rest_loose (word "axiom") (word "if" ∷ nots k behind) (loose_word "axiom" refl refl) (rest_loose (word "if") (nots k behind) (loose_word "if" refl refl) (good_nots k).rest)

-- the text, and its tokens

abbrev bytes_of : ℕ → List ℕ
bytes_of k = text_of (line 0 (glyphs k) ∷ [])

lexed : (k : ℕ) → Lexed (bytes_of k) 0 (glyphs k ++ [])
lexed k = lex_lines (one_line 0 (glyphs k) (rest_glyphs k)) [] (bytes_of k) [] 0 (sym (append-nil (bytes_of k))) (λ to e. record { values = []; reads = ap (tokens_from to 0) e; are = none })

-- what is read

-- so many times negated
record Negated (k room : ℕ) (ls us : List Lexeme) : Type 0 where
  pub value : Expr
  pub reads : reader_at Unary room ls ≡ Ok (value, us)
  pub deep : (s : Option Sign) → operand_depth Unary s value ≡ k
  pub alone : operand_depth Equivalence None value ≡ k

record Behind (k room : ℕ) (ls : List Lexeme) : Type 0 where
  pub place : Place
  pub rest : List Lexeme
  pub spelled : Spelled behind (token place (word "then") ∷ rest) []
  pub negated : Negated k room ls (token place (word "then") ∷ rest)

name_reads : (room : ℕ) (p q : Place) (us : List Lexeme) → reader_at Unary room (token p (n "a") ∷ token q (word "then") ∷ us) ≡ Ok (expr p (variable (record { text = codes "a"; at = p })), token q (word "then") ∷ us)
unfolding un_with post_with indices_with atom_with named_with read_name repeated
name_reads room p q us = refl

nots_read : (k room : ℕ) (ls : List Lexeme) → k ≤ room → Spelled (nots k behind) ls [] → Behind k room ls
nots_read zero room ls h (next p (next {ls = rest} q g)) = record {
  place = q;
  rest = rest;
  spelled = next q g;
  negated = record { value = expr p (variable (record { text = codes "a"; at = p })); reads = name_reads room p q rest; deep = λ s. name_deep p s; alone = refl };
}
  where
    name_deep : (p : Place) (s : Option Sign) → operand_depth Unary s (expr p (variable (record { text = codes "a"; at = p }))) ≡ 0
    name_deep p None = refl
    name_deep p (Some q) = refl
nots_read (suc k) zero ls h g = absurd (omega (arith, h))
nots_read (suc k) (suc room) ls h (next {ls = rest} p g) =
    let r = nots_read k room rest (omega (arith, h)) g in
    record {
      place = r.place;
      rest = r.rest;
      spelled = r.spelled;
      negated = record { value = expr p (negation r.negated.value); reads = negation_read room p rest (token r.place (word "then") ∷ r.rest) r.negated.value r.negated.reads; deep = λ s. negated_deep p r.negated.value s (r.negated.deep s); alone = ap suc (r.negated.deep None) };
    }
  where
    negated_deep : (p : Place) (x : Expr) (s : Option Sign) → operand_depth Unary s x ≡ k → operand_depth Unary s (expr p (negation x)) ≡ suc k
    negated_deep p x None e = ap suc e
    negated_deep p x (Some q) e = ap suc e

no_level : (w : Level) → rank w ≤ rank Unary → rank Unary < rank w → ⊥
no_level w h k = omega (arith, h, k)

-- an expression before `then`, at the lowest level
condition_read : (room : ℕ) (ls us : List Lexeme) (q : Place) (x : Expr) → reader_at Unary room ls ≡ Ok (x, token q (word "then") ∷ us) → reader_at Equivalence room ls ≡ Ok (x, token q (word "then") ∷ us)
condition_read room ls us q x h =
    let t = token q (word "then") ∷ us in
    down room ls t x Equivalence refl (λ a. absurd (no_level Implication (omega arith) a)) (down room ls t x Implication refl (λ a. absurd (no_level Junction (omega arith) a)) (down room ls t x Junction refl (λ a. absurd (no_level Comparison (omega arith) a))
    (down room ls t x Comparison refl (λ a. absurd (no_level Sum (omega arith) a)) (down room ls t x Sum refl (λ a. absurd (no_level Product (omega arith) a)) (down room ls t x Product refl (λ a. absurd (no_level Unary (omega arith) a)) h)))))

abbrev n_of : String → Glyph
n_of s = plain (codes s)

abbrev name_at : String → Place → Expr
name_at s p = expr p (variable (record { text = codes s; at = p }))

-- c && (if d then e else f), from the place of c on
abbrev other : Place → Place → Place → Place → Place → Expr
other c o d e f = expr c (ands (item (name_at "c" c) (item (expr o (choose (name_at "d" d) (name_at "e" e) (name_at "f" f))) no_exprs)))

first_read : (room : ℕ) (b q : Place) (us : List Lexeme) → read_inner (suc room) whole (token b (n "b") ∷ token q (word "else") ∷ us) ≡ Ok (name_at "b" b, token q (word "else") ∷ us)
unfolding e_with imp_with log_with rels_with rel_with sum_with terms_with prod_with factors_with un_with post_with indices_with atom_with named_with read_name repeated
first_read room b q us = refl

other_read : (room : ℕ) (c m o i d t e l f z q : Place) (us : List Lexeme)
    → read_inner (suc (suc (suc (suc room)))) whole (token c (n "c") ∷ token m (word "&&") ∷ token o (opening "(") ∷ token i (word "if") ∷ token d (n "d") ∷ token t (word "then") ∷ token e (n "e") ∷ token l (word "else") ∷ token f (n "f") ∷ token z (closing ")") ∷ token q (word "||") ∷ us)
    ≡ Ok (other c o d e f, token q (word "||") ∷ us)
unfolding e_with imp_with log_with rels_with rel_with sum_with terms_with prod_with factors_with un_with post_with indices_with atom_with choose_with enclosed_with inside_with named_with read_name repeated
other_read room c m o i d t e l f z q us = refl

last_read : (room : ℕ) (q g z : Place) → rels_with room (read_inner room) (codes "||") (token q (word "||") ∷ token g (n "g") ∷ token z (closing ";") ∷ []) ≡ Ok (name_at "g" g ∷ [], token z (closing ";") ∷ [])
unfolding rels_with rel_with sum_with terms_with prod_with factors_with un_with post_with indices_with atom_with named_with read_name repeated
last_read room q g z = refl

ors_read : (room : ℕ) (q g z : Place) (ls : List Lexeme) (x : Expr) → reader_at Comparison room ls ≡ Ok (x, token q (word "||") ∷ token g (n "g") ∷ token z (closing ";") ∷ []) → reader_at Junction room ls ≡ Ok (expr (first_place x) (ors (item x (item (name_at "g" g) no_exprs))), token z (closing ";") ∷ [])
unfolding log_with
ors_read room q g z ls x h = rw (h, last_read room q g z) refl

-- the whole expression

abbrev room : ℕ
room = 199

record Whole (ls : List Lexeme) : Type 0 where
  pub value : Expr
  pub place : Place
  pub reads : reader_at Equivalence 200 ls ≡ Ok (value, token place (closing ";") ∷ [])
  pub deep : expression_depth value ≡ 201

whole_deep : (p c o d e f b g : Place) (x : Expr) → operand_depth Equivalence None x ≡ 199 → expression_depth (expr p (ors (item (expr p (choose x (name_at "b" b) (other c o d e f))) (item (name_at "g" g) no_exprs)))) ≡ 201
whole_deep p c o d e f b g x h = omega (arith, h)

down_to_rel : (ls us : List Lexeme) (q : Place) (x : Expr) → is_signed ls ≡ false → reader_at Atom 200 ls ≡ Ok (x, token q (word "||") ∷ us) → reader_at Comparison 200 ls ≡ Ok (x, token q (word "||") ∷ us)
down_to_rel ls us q x n h =
    let t = token q (word "||") ∷ us in
    down 200 ls t x Comparison refl (λ a. n) (down 200 ls t x Sum refl (λ a. n) (down 200 ls t x Product refl (λ a. n) (down 200 ls t x Unary refl (λ a. n) (down 200 ls t x Postfix refl (λ a. n) h))))

down_to_all : (ls : List Lexeme) (z : Place) (x : Expr) → reader_at Junction 200 ls ≡ Ok (x, token z (closing ";") ∷ []) → reader_at Equivalence 200 ls ≡ Ok (x, token z (closing ";") ∷ [])
down_to_all ls z x h =
    let t = token z (closing ";") ∷ [] in
    down 200 ls t x Equivalence refl (λ a. absurd (no_level Implication (omega arith) a)) (down 200 ls t x Implication refl (λ a. absurd (no_level Junction (omega arith) a)) h)

whole_read : (p : Place) (ls : List Lexeme) → Behind 199 199 ls → Whole (token p (word "if") ∷ ls)
whole_read p ls r = taken r.place r.rest r.spelled r.negated
  where
    taken : (q : Place) (rest : List Lexeme) → Spelled behind (token q (word "then") ∷ rest) [] → Negated 199 199 ls (token q (word "then") ∷ rest) → Whole (token p (word "if") ∷ ls)
    taken q rest (next q1 (next b (next l1 (next c (next m (next o (next i (next d (next t (next e (next l2 (next f (next z (next v (next g (next w done)))))))))))))))) n =
        let tail = token g (n_of "g") ∷ token w (closing ";") ∷ [] in
        let y = other c o d e f in
        let h = condition_read 199 ls (token b (n_of "b") ∷ token l1 (word "else") ∷ token c (n_of "c") ∷ token m (word "&&") ∷ token o (opening "(") ∷ token i (word "if") ∷ token d (n_of "d") ∷ token t (word "then") ∷ token e (n_of "e") ∷ token l2 (word "else") ∷ token f (n_of "f") ∷ token z (closing ")") ∷ token v (word "||") ∷ tail) q n.value n.reads in
        let a = choose_read 200 p q l1 ls _ _ (token v (word "||") ∷ tail) n.value (name_at "b" b) y h (first_read 199 b l1 _) (other_read 196 c m o i d t e l2 f z v tail) in
        record {
          value = expr p (ors (item (expr p (choose n.value (name_at "b" b) y)) (item (name_at "g" g) no_exprs)));
          place = w;
          reads = down_to_all (token p (word "if") ∷ ls) w _ (ors_read 200 v g w (token p (word "if") ∷ ls) (expr p (choose n.value (name_at "b" b) y)) (down_to_rel (token p (word "if") ∷ ls) tail v _ refl a));
          deep = whole_deep p c o d e f b g n.value n.alone;
        }

-- the program

record Program (bytes : List ℕ) : Type 0 where
  pub value : Decl
  pub reads : read_text bytes ≡ Ok (value ∷ [])
  pub deep : decl_depth value.body ≡ 201

record Axiom (ls : List Lexeme) : Type 0 where
  pub value : Expr
  pub reads : read_decl ls ≡ Ok (axiom_of value, [])
  pub deep : expression_depth value ≡ 201

axiom_from : (o p : Place) (ls : List Lexeme) → Spelled (nots 199 behind) ls [] → Axiom (token o (word "axiom") ∷ token p (word "if") ∷ ls)
axiom_from o p ls g =
    let r = whole_read p ls (nots_read 199 199 ls (omega arith) g) in
    record {
      value = r.value;
      reads = axiom_read 199 o (token p (word "if") ∷ ls) [] r.value (formula_read 200 r.place (token p (word "if") ∷ ls) [] r.value (no_attrs 200 (token p (word "if") ∷ ls) refl) r.reads);
      deep = r.deep;
    }

axiom_reads : (ls : List Lexeme) → Spelled (glyphs 199) ls [] → Axiom ls
axiom_reads ls (next o (next {ls = rest} p g)) = axiom_from o p rest g

program_from : (bytes : List ℕ) (t : Token) (ts : List Token) → tokens bytes ≡ Ok (t ∷ ts) → Axiom (lexemes bytes t.start (t ∷ ts)) → Program bytes
program_from bytes t ts e a =
    let left = subst (λ x. tokens_left x [] ≡ []) (append-nil (t ∷ ts)) (left_is bytes t.start (t ∷ ts) []) in
    record {
      value = decl_of bytes 0 (axiom_of a.value) t.start (end_of (tokens_read (t ∷ ts) []));
      reads = found_reads bytes (t ∷ ts) _ e (decls_ok bytes (t ∷ ts) _ (step_reads bytes (suc (length ts)) 0 t ts [] [] (axiom_of a.value) [] a.reads left refl));
      deep = a.deep;
    }

program_reads : (bytes : List ℕ) (ts : List Token) → tokens bytes ≡ Ok ts → AreTokens bytes (glyphs 199) ts → Program bytes
program_reads bytes [] e a = elim a [ ]
program_reads bytes (t ∷ ts) e a =
    program_from bytes t ts e (axiom_reads (lexemes bytes t.start (t ∷ ts)) (subst (λ x. Spelled (glyphs 199) (lexemes bytes t.start x) []) (append-nil (t ∷ ts)) (spelled_tokens bytes t.start [] a)))

found : Program (bytes_of 199)
found =
    let l = lexed 199 in
    program_reads (bytes_of 199) l.values l.reads (subst (λ x. AreTokens (bytes_of 199) x l.values) (append-nil (glyphs 199)) l.are)

not_shallow : (d : Decl) → decl_depth d.body ≡ 201 → AreShallow (d ∷ []) → ⊥
not_shallow d e s = omega (arith, e, s.0)

deep_only : (d : Decl) → decl_depth d.body ≡ 201 → AreShallow (d ∷ []) ⊎ ((at : ℕ) × HasFault (rule program) (program_text (d ∷ [])) (marked deep at)) → (at : ℕ) × HasFault (rule program) (program_text (d ∷ [])) (marked deep at)
deep_only d e (inl s) = absurd (not_shallow d e s)
deep_only d e (inr h) = h

pub some_deep : SomeCanonicalTextIsDeep
some_deep =
    let p = found in
    let s = (programs_are_exact (bytes_of 199)).reads (p.value ∷ []) p.reads in
    (bytes_of 199, p.value ∷ [], s, deep_only p.value p.deep (shallow_or_deep (p.value ∷ []) (programs_written (bytes_of 199) (p.value ∷ []) s)))
