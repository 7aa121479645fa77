-- What is left of some lexemes.
use Rattle.std.specs.Prelude.{◌≡◌, ◌≤◌, List, ◌∷◌, length}
use Rattle.std.proofs.Common.{refl, arith}
use Rattle.bpl_grammar.specs.Lexeme.{Lexeme}
use Rattle.bpl_grammar.specs.Part.{Part}
use Rattle.bpl_grammar.specs.Spelling.{Takes, of_kind, of_text, empty, both, left, right, absent, present, no_more, again, deeper, whole, by}
use Rattle.bpl_grammar.specs.Judge.{Narrow}

pub data Suffix : List Lexeme → List Lexeme → Type 0 where
  here : {ls : List Lexeme} → Suffix ls ls
  later : {l : Lexeme} {ls us : List Lexeme} → Suffix ls us → Suffix (l ∷ ls) us

pub past : {ls us vs : List Lexeme} → Suffix ls us → Suffix us vs → Suffix ls vs
past here e = e
past (later d) e = later (past d e)

pub takes_suffix : {p : Part} {ls us : List Lexeme} → Takes p ls us → Suffix ls us
takes_suffix (of_kind h) = later here
takes_suffix (of_text h) = later here
takes_suffix empty = here
takes_suffix (both d e) = past (takes_suffix d) (takes_suffix e)
takes_suffix (left d) = takes_suffix d
takes_suffix (right d) = takes_suffix d
takes_suffix absent = here
takes_suffix (present d) = takes_suffix d
takes_suffix no_more = here
takes_suffix (again d e) = past (takes_suffix d) (takes_suffix e)
takes_suffix (deeper d) = takes_suffix d
takes_suffix (whole d) = takes_suffix d
takes_suffix (by d) = takes_suffix d

shorter : {ls us : List Lexeme} → Suffix ls us → length us ≤ length ls
shorter here = omega arith
shorter (later d) = omega (arith, shorter d)

-- as many are left, the same are left
pub same_suffix : {ls us vs : List Lexeme} → Suffix ls us → Suffix ls vs → length us ≡ length vs → us ≡ vs
same_suffix here here e = refl
same_suffix here (later d) e = absurd (omega (arith, shorter d, e))
same_suffix (later d) here e = absurd (omega (arith, shorter d, e))
same_suffix (later d) (later f) e = same_suffix d f e

pub narrow_suffix : {ls us : List Lexeme} → Suffix ls us → Narrow ls → Narrow us
narrow_suffix here n = n
narrow_suffix (later d) n = narrow_suffix d n.1
