-- The canonical text of a program that a text spells has no fault, but that a token of it may lie too deep.
use Rattle.std.specs.Prelude.{◌≡◌, ◌⊎◌, ℕ, zero, suc, ◌<◌, ◌≤◌, ◌^◌, nat_lt, Bool, true, false, List, [], ◌∷◌, ◌++◌, take, drop, length, slice_get, IsTrue, Result, Option, Some, None, Ok}
use Rattle.std.proofs.Common.{refl, inl, inr, ap, sym, subst, ◌∙◌, arith, append-nil}
use Rattle.std.proofs.Math.Seq.{take-append_seam}
use Rattle.std.proofs.lemmas.List.{length-append, length-drop}
use Rattle.bv_base.specs.declared.place.Place.{Place}
use Rattle.bpl_lex.specs.Token.{Kind, Token, id, number as number_kind, text, sign, word}
use Rattle.bpl_lex.specs.Shape.{kind_of}
use Rattle.bpl_lex.specs.Lexing.{tokens}
use Rattle.bpl_ast.specs.Statement.{Decl, axioms_with}
use Rattle.canonical_text.specs.Glyph.{Glyph}
use Rattle.canonical_text.specs.Lines.{program_text}
use Rattle.bpl_grammar.specs.Lexeme.{Lexeme, same_kind, is_kind, lexemes}
use Rattle.bpl_grammar.specs.Part.{Part, rule, program}
use Rattle.bpl_grammar.specs.Spelling.{Takes, Spells}
use Rattle.bpl_grammar.specs.Nesting.{Lies, value, IsWide}
use Rattle.bpl_grammar.specs.Judge.{Mark, syntax, deep, wide}
use Rattle.bpl_grammar.specs.Fault.{Fault, marked, AreFaultless, IsStop, byte_of, FaultlessBy, FaultOf, HasFault}
use Rattle.bpl_grammar.specs.Programs.{SpellsProgram}
use Rattle.bpl_grammar.proofs.First.{nothing_lies}
use Rattle.bpl_grammar.proofs.Longest.{stops_there}
use Rattle.bpl_grammar.proofs.Faults.{fails_at_the_fault, faultless_or_fault, token_at}
use Rattle.bpl_grammar.proofs.ProgramFaults.{programs_are_exact}
use Rattle.canonical_text.specs.Tokens.{decl_tokens}
use Rattle.canonical_text.specs.Spelled.{token, Spelled, done, next}
use Rattle.canonical_text.specs.Lexed.{AreTokens, IsNarrow, AreApart, AreLines, none, more}
use Rattle.canonical_text.specs.SameStatement.{SameDecls}
use Rattle.canonical_text.specs.RoundTrip.{AreWrittenDecls, AreShallow, program_tokens, CanonicalTextSpellsTheSameOrIsDeep}
use Rattle.canonical_text.proofs.Stopping.{lt_true, lt_false}
use Rattle.canonical_text.proofs.ApartDecls.{decl_lines}
use Rattle.canonical_text.proofs.Fitting.{Light}
use Rattle.canonical_text.proofs.FitDecls.{program_depth, slack_program}
use Rattle.canonical_text.proofs.ProgramReads.{lexes, spelled_tokens, programs_back}
use Rattle.canonical_text.proofs.RoundTrips.{programs_written}

-- no number is too wide

abbrev AllNarrow : List Glyph → Type 0
AllNarrow [] = Unit {0}
AllNarrow (g ∷ gs) = IsNarrow g × AllNarrow gs

narrow_append : (gs hs : List Glyph) → AllNarrow gs → AllNarrow hs → AllNarrow (gs ++ hs)
narrow_append [] hs a b = b
narrow_append (g ∷ gs) hs a b = (a.0, narrow_append gs hs a.1 b)

narrow_apart : (gs : List Glyph) → AreApart gs → AllNarrow gs
narrow_apart [] a = tt
narrow_apart (g ∷ gs) a = (a.5, narrow_apart gs a.4)

narrow_lines : {ls : List (List ℕ)} {gs : List Glyph} → AreLines ls gs → AllNarrow gs
narrow_lines none = tt
narrow_lines (more {hs = hs} n gs a l) = narrow_append gs hs (narrow_apart gs a) (narrow_lines l)

narrow_program : (k : ℕ) (ds : List Decl) → AreWrittenDecls k ds → AllNarrow (program_tokens ds)
narrow_program k [] w = tt
narrow_program k (d ∷ ds) w = narrow_append (decl_tokens d.body) (program_tokens ds) (narrow_lines (decl_lines d.body w.1)) (narrow_program (axioms_with k d.body) ds w.2)

abbrev known_kind : Option Kind → Kind
known_kind (Some k) = k
known_kind None = sign

number_is : (k : Kind) → IsTrue (same_kind number_kind k) → k ≡ number_kind
number_is id h = absurd (cc)
number_is number_kind h = refl
number_is text h = absurd (cc)
number_is sign h = absurd (cc)
number_is word h = absurd (cc)

number_known : (o : Option Kind) → IsTrue (same_kind number_kind (known_kind o)) → o ≡ Some number_kind
number_known (Some k) h = ap Some (number_is k h)
number_known None h = absurd (cc)

token_number : (p : Place) (g : Glyph) → IsTrue (is_kind number_kind (token p g)) → kind_of g.text ≡ Some number_kind
token_number p g h = number_known (kind_of g.text) h

not_wide : (p : Place) (g : Glyph) → IsNarrow g → IsWide (token p g) → ⊥
not_wide p g n w = over (value g.text) (2 ^ 127) (n (token_number p g w.is_number)) w.wide
  where
    over : (a b : ℕ) → a < b → b ≤ a → ⊥
    over a b h k = omega arith

no_wide : {gs : List Glyph} {ls : List Lexeme} → Spelled gs ls [] → AllNarrow gs → (k : ℕ) (t : Lexeme) → slice_get ls k ≡ Some t → IsWide t → ⊥
no_wide done a k t e w = absurd (cc)
no_wide (next {g = g} p d) a zero t e w = not_wide p g a.0 (subst IsWide (sym (same (token p g) t e)) w)
  where
    same : (x y : Lexeme) → ◌≡◌ {A = Option Lexeme} (Some x) (Some y) → x ≡ y
    same x y h = cc
no_wide (next p d) a (suc k) t e w = no_wide d a.1 k t e w

-- where no token lies too deep, the text is as deep as is computed

reached_shallow : (ls front rest : List Lexeme) (n : ℕ) → front ++ rest ≡ ls → Lies (rule program) front n → AreFaultless (rule program) ls → 200 < n → ⊥
reached_shallow ls [] rest n e l f h = nothing_lies (rule program) n l
reached_shallow ls (u ∷ us) rest n e l f h =
    let within : length us < length ls = omega (arith, length-append (u ∷ us) rest, ap length e) in
    let t = token_at ls (length us) within in
    (f.clean (length us) t.0 within t.1).shallow (n, h, subst (λ x. Lies (rule program) x n) (sym (ap (take (suc (length us))) (sym e) ∙ take-append_seam (u ∷ us) rest)) l)

program_shallow : (ls : List Lexeme) (d : ℕ) → Light (rule program) ls d → AreFaultless (rule program) ls → d ≤ 200
program_shallow ls d l f = side (nat_lt 200 d) refl
  where
    side : (b : Bool) → nat_lt 200 d ≡ b → d ≤ 200
    side false e = lt_false 200 d e
    side true e =
        let h = lt_true 200 d e in
        let r = l.reach (omega (arith, h)) in
        absurd (reached_shallow ls r.front r.rest r.number r.is r.lies f (omega (arith, h, r.deep)))

all_shallow : (ds : List Decl) → program_depth ds ≤ 200 → AreShallow ds
all_shallow [] h = tt
all_shallow (d ∷ ds) h = (omega (arith, h), all_shallow ds (omega (arith, h)))

-- the only fault

no_syntax : (p : Part) (ls : List Lexeme) (k : ℕ) → Spells p ls → IsStop p ls k syntax → ⊥
no_syntax p ls k s h =
    let j = (fails_at_the_fault p ls syntax (drop k ls)).1 (k, h, refl) in
    let over : length ls ≤ k = omega (arith, stops_there ls p (drop k ls) [] j s, length-drop k ls) in
    (h.ends over).1 s

no_wide_stop : (p : Part) (ls : List Lexeme) (k : ℕ) → ((j : ℕ) (t : Lexeme) → slice_get ls j ≡ Some t → IsWide t → ⊥) → IsStop p ls k wide → ⊥
no_wide_stop p ls k n h = side (nat_lt k (length ls)) refl
  where
    side : (b : Bool) → nat_lt k (length ls) ≡ b → ⊥
    side true e =
        let t = token_at ls k (lt_true k (length ls) e) in
        n k t.0 t.1 (h.stops t.0 t.1).2
    side false e = cc ((h.ends (lt_false k (length ls) e)).0)

only_deep : (p : Part) (bytes : List ℕ) (ts : List Token) (f : Fault) → Spells p (lexemes bytes 0 ts) → ((j : ℕ) (t : Lexeme) → slice_get (lexemes bytes 0 ts) j ≡ Some t → IsWide t → ⊥) → FaultOf p bytes (Ok ts) f → (at : ℕ) × FaultOf p bytes (Ok ts) (marked deep at)
only_deep p bytes ts f s n h = by_mark h.1 h.2
  where
    by_mark : (m : Mark) → IsStop p (lexemes bytes 0 ts) h.0 m → (at : ℕ) × FaultOf p bytes (Ok ts) (marked deep at)
    by_mark syntax st = absurd (no_syntax p (lexemes bytes 0 ts) h.0 s st)
    by_mark deep st = (byte_of ts h.0, (h.0, deep, st, refl))
    by_mark wide st = absurd (no_wide_stop p (lexemes bytes 0 ts) h.0 n st)

module _ (ds : List Decl) (w : AreWrittenDecls 0 ds) where
  pub spelled_all : (bytes : List ℕ) (ts : List Token) → AreTokens bytes (program_tokens ds) ts → Spelled (program_tokens ds) (lexemes bytes 0 ts) []
  spelled_all bytes ts a = subst (λ x. Spelled (program_tokens ds) (lexemes bytes 0 x) []) (append-nil ts) (spelled_tokens bytes 0 [] a)

  spells_all : (ls : List Lexeme) → Spelled (program_tokens ds) ls [] → Spells (rule program) ls
  spells_all ls d = subst (λ x. Takes (rule program) x []) (append-nil ls) ((slack_program ds w ls d).takes [])

  decided : (bytes : List ℕ) (ts : List Token) → program_text ds ≡ bytes → tokens bytes ≡ Ok ts → AreTokens bytes (program_tokens ds) ts → FaultlessBy (rule program) bytes (Ok ts) ⊎ ((f : Fault) × FaultOf (rule program) bytes (Ok ts) f)
      → AreShallow ds ⊎ ((at : ℕ) × FaultOf (rule program) bytes (Ok ts) (marked deep at))
  decided bytes ts q e a (inl f) = inl (all_shallow ds (program_shallow (lexemes bytes 0 ts) (program_depth ds) (slack_program ds w (lexemes bytes 0 ts) (spelled_all bytes ts a)) f))
  decided bytes ts q e a (inr f) =
      let s = spelled_all bytes ts a in
      inr (only_deep (rule program) bytes ts f.0 (spells_all (lexemes bytes 0 ts) s) (no_wide s (narrow_program 0 ds w)) f.1)

  answer : AreShallow ds ⊎ ((at : ℕ) × HasFault (rule program) (program_text ds) (marked deep at)) → ((es : List Decl) × SpellsProgram (program_text ds) es × SameDecls es ds) ⊎ ((at : ℕ) × HasFault (rule program) (program_text ds) (marked deep at))
  answer (inr h) = inr h
  answer (inl s) =
      let r = programs_back ds w s in
      inl (r.0, (programs_are_exact (program_text ds)).reads r.0 r.1, r.2)

  pub shallow_or_deep : AreShallow ds ⊎ ((at : ℕ) × HasFault (rule program) (program_text ds) (marked deep at))
  shallow_or_deep =
      let l = lexes ds w in
      subst (λ (o : Result (List Token) ℕ). AreShallow ds ⊎ ((at : ℕ) × FaultOf (rule program) (program_text ds) o (marked deep at))) (sym l.1)
      (decided (program_text ds) l.0 refl l.1 l.2 (subst (λ (o : Result (List Token) ℕ). FaultlessBy (rule program) (program_text ds) o ⊎ ((f : Fault) × FaultOf (rule program) (program_text ds) o f)) l.1 (faultless_or_fault (rule program) (program_text ds))))

pub same_or_deep : CanonicalTextSpellsTheSameOrIsDeep
same_or_deep = λ bytes ds s.
    let w = programs_written bytes ds s in
    answer ds w (shallow_or_deep ds w)
