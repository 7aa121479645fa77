-- What becomes of programs that are read.
use Rattle.std.specs.Prelude.{◌≡◌, ℕ, zero, suc, ◌-◌, ◌<◌, List, [], ◌∷◌, drop, length, Ok, Err, Option, Some, None}
use Rattle.std.proofs.Common.{refl, ap, sym, ◌∙◌, arith}
use Rattle.std.proofs.lemmas.List.{length-drop, length-map}
use Rattle.std.specs.List.{drop-map}
use Rattle.bpl_lex.specs.Token.{Kind, id, number, text, sign, word, Token}
use Rattle.bpl_lex.specs.Lexing.{end_of}
use Rattle.bpl_ast.specs.Statement.{DeclBody, Decl, axioms_with}
use Rattle.bpl_grammar.specs.Lexeme.{Lexeme, lexeme, lexemes}
use Rattle.bpl_grammar.specs.Part.{Part, some, nothing, ◌⨟◌, many, rule, program, decl}
use Rattle.bpl_grammar.specs.Spelling.{Spells, both, empty}
use Rattle.bpl_grammar.specs.Nesting.{Lies, first, later}
use Rattle.bpl_grammar.specs.Judge.{Mark, syntax, judge}
use Rattle.bpl_grammar.specs.Follows.{Bars, IsReached}
use Rattle.bpl_grammar.specs.Reading.{Read}
use Rattle.bpl_grammar.specs.ReadDeclarations.{read_decl}
use Rattle.bpl_grammar.specs.Programs.{decl_of}
use Rattle.bpl_grammar.specs.ReadPrograms.{ReadAll, tokens_left, tokens_read, start_of, before, read_first, first_then, read_decls_within, read_decls}
use Rattle.bpl_grammar.specs.Law.{fate}
use Rattle.bpl_grammar.proofs.Sunk.{judge_rule, reached}
use Rattle.bpl_grammar.proofs.Same.{judge_same}
use Rattle.bpl_grammar.proofs.Choices.{never, first_at, judge_many, once_more}
use Rattle.bpl_grammar.proofs.Tails.{bars_then, bars_over, bars_nothing}
use Rattle.bpl_grammar.proofs.DeclarationFates.{spec_firsts}
use Rattle.bpl_grammar.proofs.DeclShrinks.{decl_shrinks}
use Rattle.bpl_grammar.proofs.DeclFates.{decl_fate}
use Rattle.bpl_grammar.proofs.Places.{reach, reach_same, moved}
use Rattle.bpl_grammar.proofs.Ends.{IsEnd, end_shorter, end_length, end_of_end, other, read_end, stuck_end}

-- a part, and nothing behind it

alone_spells : (p : Part) (ts : List Lexeme) → Spells (p ⨟ nothing) ts → Spells p ts
alone_spells p ts (both d empty) = d

alone_lies : (p : Part) (ts : List Lexeme) (n : ℕ) → Lies (p ⨟ nothing) ts n → IsReached p ts n
alone_lies p ts n (first l) = reached l
alone_lies p ts n (later d l) = elim l [ ]

judge_alone : (p : Part) (ls : List Lexeme) → judge p ls ≡ judge (p ⨟ nothing) ls
judge_alone p ls = judge_same ls p (p ⨟ nothing) (record {
  there = record { spells = λ ts d. both d empty; lies = λ ts n l. reached (first l) };
  back = record { spells = alone_spells p; lies = alone_lies p };
})

-- what is left of a declaration

no_clause : (k : Kind) → Bars spec_firsts (some (other k) ⨟ nothing)
no_clause id = bars_then spec_firsts 0 (some text) nothing refl refl
no_clause number = bars_then spec_firsts 0 (some text) nothing refl refl
no_clause text = bars_then spec_firsts 0 (some number) nothing refl refl
no_clause sign = bars_then spec_firsts 0 (some text) nothing refl refl
no_clause word = bars_then spec_firsts 0 (some text) nothing refl refl

decl_law : (ls : List Lexeme) (k : Kind) → judge (rule decl ⨟ (some (other k) ⨟ nothing)) ls ≡ fate (some (other k) ⨟ nothing) (read_decl ls)
decl_law ls k = decl_fate (some (other k) ⨟ nothing) (no_clause k) ls

pub decl_end : (ls us : List Lexeme) (x : DeclBody) → read_decl ls ≡ Ok (x, us) → IsEnd ls us
decl_end ls us x h = read_end (rule decl) (read_decl ls) ls us x (decl_law ls) h

decl_stuck : (ls us : List Lexeme) (m : Mark) → read_decl ls ≡ Err (m, us) → IsEnd ls us
decl_stuck ls us m h = stuck_end (rule decl) (read_decl ls) ls us m (decl_law ls) h

-- tokens and their lexemes

module _ (bytes : List ℕ) where
  lexemes_length : (a : ℕ) (ts : List Token) → length (lexemes bytes a ts) ≡ length ts
  lexemes_length a ts = length-map ts (lexeme bytes a)

  left_length : (a : ℕ) (ts : List Token) (us : List Lexeme) → IsEnd (lexemes bytes a ts) us → length (tokens_left ts us) ≡ length us
  left_length a ts us e = omega (arith, length-drop (length ts - length us) ts, end_shorter (lexemes bytes a ts) us e, lexemes_length a ts)

  pub left_lexemes : (a : ℕ) (ts : List Token) (us : List Lexeme) → IsEnd (lexemes bytes a ts) us → us ≡ lexemes bytes a (tokens_left ts us)
  left_lexemes a ts us e = end_length (lexemes bytes a ts) us e ∙ (ap (λ n. drop (n - length us) (lexemes bytes a ts)) (lexemes_length a ts) ∙ drop-map (lexeme bytes a) (length ts - length us) ts)

  left_end : (ts : List Token) (us : List Lexeme) → IsEnd ts (tokens_left ts us)
  left_end ts us = record { at = length ts - length us; within = omega arith; is = refl }

  -- the mark of the fault, and how many tokens there are from it on

  abbrev pub reach_all : ReadAll → Option (Mark × ℕ)
  reach_all (Ok ds) = None
  reach_all (Err e) = Some (e.0, length e.1)

  reach_before : (d : Decl) (r : ReadAll) → reach_all (before d r) ≡ reach_all r
  reach_before d (Ok ds) = refl
  reach_before d (Err e) = refl

  abbrev decls : Part
  decls = many (rule decl) ⨟ nothing

  one_more : (l : Lexeme) (ls : List Lexeme) → judge decls (l ∷ ls) ≡ fate decls (read_decl (l ∷ ls))
  one_more l ls = judge_many 0 (rule decl) nothing (l ∷ ls) ∙ (first_at l ls (once_more 0 (rule decl) nothing) nothing (never l nothing (once_more 0 (rule decl) nothing) refl)
      ∙ decl_fate decls (bars_over spec_firsts 0 (many (rule decl)) nothing refl (bars_nothing spec_firsts)) (l ∷ ls))

  first_reach : (k : ℕ) (ts : List Token) (o : Read DeclBody) (next : ℕ → List Token → ReadAll) → read_first bytes ts ≡ o
      → ((x : DeclBody) (us : List Lexeme) → o ≡ Ok (x, us) → reach (judge decls us) ≡ reach_all (next (axioms_with k x) (tokens_left ts us)))
      → reach (fate decls o) ≡ reach_all (first_then bytes k ts o next)
  first_reach k ts (Err e) next h law =
      let same : length e.1 ≡ length (tokens_left ts e.1) = sym (left_length (start_of ts) ts e.1 (decl_stuck (lexemes bytes (start_of ts) ts) e.1 e.0 h)) in
      ap (λ n. Some (e.0, n)) same
  first_reach k ts (Ok p) next h law = law p.0 p.1 refl ∙ sym (reach_before (decl_of bytes k p.0 (start_of ts) (end_of (tokens_read ts p.1))) (next (axioms_with k p.0) (tokens_left ts p.1)))

  within_reach : (n k a : ℕ) (ts : List Token) → length ts < n → reach (judge decls (lexemes bytes a ts)) ≡ reach_all (read_decls_within bytes n k ts)
  within_reach zero k a ts w = absurd (omega (arith, w))
  within_reach (suc n) k a [] w = refl
  within_reach (suc n) k a (t ∷ ts) w =
      reach_same (moved bytes a t.start (t ∷ ts)) decls
      ∙ (ap reach (one_more (lexeme bytes t.start t) (lexemes bytes t.start ts))
      ∙ first_reach k (t ∷ ts) (read_first bytes (t ∷ ts)) (λ j us. read_decls_within bytes n j us) refl (λ x us h.
      let e = decl_end (lexemes bytes t.start (t ∷ ts)) us x h in
      let fewer : length (tokens_left (t ∷ ts) us) < n = omega (arith, w, left_length t.start (t ∷ ts) us e, decl_shrinks 199 (lexemes bytes t.start (t ∷ ts)) x us h, lexemes_length t.start (t ∷ ts)) in
      ap (λ vs. reach (judge decls vs)) (left_lexemes t.start (t ∷ ts) us e) ∙ within_reach n (axioms_with k x) t.start (tokens_left (t ∷ ts) us) fewer))

  -- Program = { Decl }
  pub program_reach : (k a : ℕ) (ts : List Token) → reach (judge (rule program) (lexemes bytes a ts)) ≡ reach_all (read_decls bytes k ts)
  unfolding read_decls
  program_reach k a ts = ap reach (judge_alone (rule program) (lexemes bytes a ts) ∙ judge_rule 0 program nothing (lexemes bytes a ts)) ∙ within_reach (suc (length ts)) k a ts (omega arith)

  -- the tokens from the fault on are the last

  before_end : (d : Decl) (ts us : List Token) (m : Mark) (r : ReadAll) → ((us : List Token) → r ≡ Err (m, us) → IsEnd ts us) → before d r ≡ Err (m, us) → IsEnd ts us
  before_end d ts us m (Ok ds) f h = absurd (cc)
  before_end d ts us m (Err e) f h = f us h

  same_left : (m l : Mark) (us vs : List Token) → ◌≡◌ {A = ReadAll} (Err (m, us)) (Err (l, vs)) → us ≡ vs
  same_left m l us vs h = ap left h
    where
      left : ReadAll → List Token
      left (Ok ds) = us
      left (Err e) = e.1

  first_end : (k : ℕ) (ts us : List Token) (m : Mark) (o : Read DeclBody) (next : ℕ → List Token → ReadAll) → ((j : ℕ) (vs us : List Token) → next j vs ≡ Err (m, us) → IsEnd vs us) → first_then bytes k ts o next ≡ Err (m, us) → IsEnd ts us
  first_end k ts us m (Err e) next f h = rw (← same_left e.0 m (tokens_left ts e.1) us h) (left_end ts e.1)
  first_end k ts us m (Ok p) next f h = before_end (decl_of bytes k p.0 (start_of ts) (end_of (tokens_read ts p.1))) ts us m (next (axioms_with k p.0) (tokens_left ts p.1))
      (λ vs g. end_of_end ts (tokens_left ts p.1) vs (left_end ts p.1) (f (axioms_with k p.0) (tokens_left ts p.1) vs g)) h

  within_end : (n k : ℕ) (ts us : List Token) (m : Mark) → read_decls_within bytes n k ts ≡ Err (m, us) → IsEnd ts us
  within_end zero k ts us m h = rw (← same_left syntax m ts us h) (record { at = 0; within = omega arith; is = refl })
  within_end (suc n) k [] us m h = absurd (cc)
  within_end (suc n) k (t ∷ ts) us m h = first_end k (t ∷ ts) us m (read_first bytes (t ∷ ts)) (λ j us. read_decls_within bytes n j us) (λ j vs us g. within_end n j vs us m g) h

  pub program_end : (k : ℕ) (ts us : List Token) (m : Mark) → read_decls bytes k ts ≡ Err (m, us) → IsEnd ts us
  unfolding read_decls
  program_end k ts us m h = within_end (suc (length ts)) k ts us m h
