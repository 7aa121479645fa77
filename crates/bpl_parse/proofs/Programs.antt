-- Declarations, read one after another: those so far, and those that are still to be read.
use Rattle.std.specs.Prelude.{◌≡◌, ℕ, suc, ◌+◌, ◌<◌, ◌≤◌, List, [], ◌∷◌, ◌++◌, take, drop, length, Bool, true, false, ◌==◌, Result, Ok, Err}
use Rattle.std.proofs.Common.{refl, ap, sym, ◌∙◌, arith, append_assoc, append-nil}
use Rattle.std.proofs.lemmas.List.{length-drop}
use Rattle.std.proofs.lemmas.Grind.{common_steps}
use Rattle.bpl_lex.specs.Token.{Token}
use Rattle.bpl_lex.specs.Lexing.{end_of}
use Rattle.bpl_ast.specs.Statement.{Decl, axioms_with, constant, function, axiom_of, variables, synonym, procedure, implementation, DeclBody as Declared}
use Rattle.bpl_ast.specs.DeclView.{body_of}
use Rattle.bpl_ast.specs.declared.decl.DeclBody.{DeclBody}
use Rattle.bpl_grammar.specs.Judge.{Mark, syntax, deep, wide}
use Rattle.bpl_grammar.specs.Fault.{marked}
use Rattle.bpl_grammar.specs.Programs.{decl_of}
use Rattle.bpl_grammar.specs.ReadPrograms.{ReadAll, start_of, before, read_decls, byte_at, with_bytes}
use Rattle.bpl_grammar.proofs.DeclLoops.{first_shrinks, decls_end, decls_stuck, decls_go}
use Rattle.bpl_parse.specs.InText.{StandIn}
use Rattle.bpl_parse.specs.Program.{stopped, IsRead, StopsBehind, GivesFirst}
use Rattle.bpl_parse.proofs.Standing.{stand_drop, ends_within}
use Rattle.bpl_parse.specs.declared.stop.Stop.{Stop}
use Rattle.bpl_parse.specs.declared.stop.Stop.TheVariants.{Memory, Syntax, Deep, Wide}

abbrev pub all_before : List Decl → ReadAll → ReadAll
all_before xs (Err e) = Err e
all_before xs (Ok ds) = Ok (xs ++ ds)

-- the declarations so far, k axioms among them, and the tokens that are left
pub record SoFar (bytes : List ℕ) (all : List Token) (xs : List Decl) (k : ℕ) (rest : List Token) : Type 0 where
  pub reads : read_decls bytes 0 all ≡ all_before xs (read_decls bytes k rest)
  pub stand : StandIn bytes rest
  pub counts : k + length rest ≤ length all

one_more : (xs : List Decl) (d : Decl) (o : ReadAll) → all_before xs (before d o) ≡ all_before (xs ++ d ∷ []) o
one_more xs d (Err e) = refl
one_more xs d (Ok ds) = ap Ok (sym (append_assoc xs (d ∷ []) ds))

pub all_of : (o : ReadAll) → o ≡ all_before [] o
all_of (Err e) = refl
all_of (Ok ds) = refl

pub one_axiom : (k : ℕ) (b : Declared) → axioms_with k b ≤ suc k
one_axiom k (constant u ns t) = omega arith
one_axiom k (function n ps ins t x) = omega arith
one_axiom k (axiom_of x) = omega arith
one_axiom k (variables gs) = omega arith
one_axiom k (synonym n t) = omega arith
one_axiom k (procedure n ps s ss b) = omega arith
one_axiom k (implementation n ps s b) = omega arith

module _ (bytes : List ℕ) where
  -- an answer that is known
  pub known : (ts : List Token) (r q : Result DeclBody Stop) (n : ℕ) → r ≡ q → GivesFirst bytes ts r n → GivesFirst bytes ts q n
  known ts r q n e g = rw (← e) g

  pub within : (ts : List Token) (r : Result DeclBody Stop) (n : ℕ) → GivesFirst bytes ts r n → n ≤ length ts
  within ts (Ok b) n g = omega (arith, g.2)
  within ts (Err Memory) n g = g
  within ts (Err Syntax) n g = omega (arith, g.2)
  within ts (Err Deep) n g = omega (arith, g.2)
  within ts (Err Wide) n g = omega (arith, g.2)

  pub takes_some : (ts : List Token) (b : DeclBody) (n : ℕ) → GivesFirst bytes ts (Ok b) n → 0 < n
  takes_some ts b n g = omega (arith, g.2, first_shrinks bytes ts (body_of b) g.0 g.1)

  module _ (xs : List Decl) (whole : ReadAll) (k : ℕ) where
    pub more : (ts : List Token) (b : DeclBody) (n : ℕ) → whole ≡ all_before xs (read_decls bytes k ts) → 0 < length ts → GivesFirst bytes ts (Ok b) n
        → whole ≡ all_before (xs ++ decl_of bytes k (body_of b) (start_of ts) (end_of (take n ts)) ∷ []) (read_decls bytes (axioms_with k (body_of b)) (drop n ts))
    more [] b n h l g = absurd (omega arith)
    more (t ∷ ts) b n h l g = rw g.2 (h ∙ (ap (all_before xs) (decls_go bytes k t ts (body_of b) g.0 g.1) ∙ one_more xs _ _))

    marked_at : (all : List Token) (t : Token) (ts : List Token) (m : Mark) (n : ℕ) → whole ≡ all_before xs (read_decls bytes k (t ∷ ts)) → StopsBehind bytes (t ∷ ts) m n
        → with_bytes all whole ≡ Err (marked m (byte_at all (drop n (t ∷ ts))))
    marked_at all t ts m n h g = rw g.2 (ap (with_bytes all) (h ∙ ap (all_before xs) (decls_stuck bytes k t ts m g.0 g.1)))

    pub stuck : (all ts : List Token) (stop : Stop) (n : ℕ) → whole ≡ all_before xs (read_decls bytes k ts) → 0 < length ts → GivesFirst bytes ts (Err stop) n
        → IsRead (with_bytes all whole) (Err (stopped stop (byte_at all (drop n ts))))
    stuck all [] stop n h l g = absurd (omega arith)
    stuck all (t ∷ ts) Memory n h l g = tt
    stuck all (t ∷ ts) Syntax n h l g = marked_at all t ts syntax n h g
    stuck all (t ∷ ts) Deep n h l g = marked_at all t ts deep n h g
    stuck all (t ∷ ts) Wide n h l g = marked_at all t ts wide n h g

    pub ended : (all ts : List Token) → whole ≡ all_before xs (read_decls bytes k ts) → length ts ≡ 0 → with_bytes all whole ≡ Ok xs
    ended all [] h l = ap (with_bytes all) (h ∙ (ap (all_before xs) (decls_end bytes k) ∙ ap Ok (append-nil xs)))
    ended all (t ∷ ts) h l = absurd (omega (arith, l))

-- all tokens are left
pub at_first : (bytes : List ℕ) (all : List Token) → StandIn bytes all → SoFar bytes all [] 0 all
at_first bytes all s = record { reads = all_of (read_decls bytes 0 all); stand = s; counts = omega arith }

-- one declaration further
pub one_further : (bytes : List ℕ) (all : List Token) (xs : List Decl) (k : ℕ) (rest : List Token) (b : DeclBody) (n : ℕ) → SoFar bytes all xs k rest → 0 < length rest → GivesFirst bytes rest (Ok b) n
    → SoFar bytes all (xs ++ decl_of bytes k (body_of b) (start_of rest) (end_of (take n rest)) ∷ []) (axioms_with k (body_of b)) (drop n rest)
one_further bytes all xs k rest b n s l g = record {
  reads = more bytes xs (read_decls bytes 0 all) k rest b n s.reads l g;
  stand = stand_drop bytes n rest s.stand;
  counts = omega (arith, s.counts, one_axiom k (body_of b), length-drop n rest, takes_some bytes rest b n g);
}

-- tokens that are left, or none
pub some_left : (ts : List Token) (b : Bool) → b ≡ (length ts == 0) → b ≡ false → 0 < length ts
some_left [] b e h = absurd (cc)
some_left (t ∷ ts) b e h = omega arith

pub none_left : (ts : List Token) (b : Bool) → b ≡ (length ts == 0) → b ≡ true → length ts ≡ 0
none_left [] b e h = refl
none_left (t ∷ ts) b e h = grind (arith, common_steps)

-- one declaration further, by what the code has of it
module _ (bytes : List ℕ) (all : List Token) (xs : List Decl) (k : ℕ) (rest own left : List Token) (b : DeclBody) (n start finish : ℕ) (s : SoFar bytes all xs k rest) (l : 0 < length rest) (g : GivesFirst bytes rest (Ok b) n)
    (starts : start ≡ start_of rest) (ends : finish ≡ end_of own) (front : own ≡ take n rest) (back : left ≡ drop n rest) where
  pub bounds : (start ≤ finish) × (finish ≤ length bytes)
  bounds = rw (starts, ends, front) (ends_within bytes n rest s.stand l (takes_some bytes rest b n g))

  pub shorter : length left < length rest
  shorter = rw back (omega (arith, length-drop n rest, takes_some bytes rest b n g))

  pub so_far : (pushed : List Decl) (d : Decl) (axioms : ℕ) (body : Declared) → pushed ≡ xs ++ d ∷ [] → d ≡ decl_of bytes k (body_of b) start finish → axioms ≡ axioms_with k body → body ≡ d.body
      → SoFar bytes all pushed axioms left
  so_far pushed d axioms body p e a same = rw (p, a, same, e, starts, ends, front, back) (one_further bytes all xs k rest b n s l g)
