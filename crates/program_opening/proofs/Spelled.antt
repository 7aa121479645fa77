-- The declarations that a text spells are declarations of a text.
use Rattle.std.proofs.Common.{◌≡◌, refl, arith, ℕ, suc, Result, Ok, Err, List, [], ◌∷◌, ◌++◌, Contains}
use Rattle.bpl_lex.specs.Token.{Token}
use Rattle.bpl_lex.specs.Lexing.{tokens, end_of}
use Rattle.bpl_ast.specs.Statement.{DeclBody, Decl}
use Rattle.bpl_grammar.specs.Programs.{Decls, SpelledIn, SpellsProgram}
use Rattle.bpl_grammar.specs.Programs as programs
use Rattle.program_opening.specs.Spelled.{IsSpelled, AreSpelled}

longer : {A : Type 0} (x : A) (xs : List A) (z : A) → Contains xs z → Contains (x ∷ xs) z
longer x xs z (k, lt, e) = (suc k, omega (arith, lt), e)

module _ (text : List ℕ) (all : List Decl) (spelled : SpellsProgram text all) where
  each_spelled : {k : ℕ} {ts : List Token} {ds : List Decl} → Decls text k ts ds → ((d : Decl) → Contains ds d → Contains all d) → AreSpelled ds
  each_spelled programs.Decls.none within = tt
  each_spelled (programs.Decls.more {k = k} t ts us b {ds = ds} first rest) within =
      let d = programs.decl_of text k b t.start (end_of (t ∷ ts)) in (
        record { text = text; decls = all; one = d; spelled = spelled; there = within d (0, omega arith, refl); source = refl; body = refl; axioms_before = k; name = refl },
        each_spelled rest (λ e c. within e (longer d ds e c)),
      )

in_tokens : (text : List ℕ) (ds : List Decl) (r : Result (List Token) ℕ) → SpellsProgram text ds → SpelledIn text r ds → AreSpelled ds
in_tokens text ds (Err at) whole s = absurd s
in_tokens text ds (Ok ts) whole s = each_spelled text ds whole s.spelled (λ d c. c)

pub spelled_declarations : (text : List ℕ) (ds : List Decl) → SpellsProgram text ds → AreSpelled ds
spelled_declarations text ds s = in_tokens text ds (tokens text) s s
