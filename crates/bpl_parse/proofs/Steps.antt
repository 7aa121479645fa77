-- One step of reading after another.
use Rattle.std.specs.Prelude.{◌≡◌, List, Ok, Err}
use Rattle.std.proofs.Common.{ap, ◌∙◌}
use Rattle.bpl_grammar.specs.Lexeme.{Lexeme}
use Rattle.bpl_grammar.specs.Judge.{Mark}
use Rattle.bpl_grammar.specs.Reading.{Read, followed, read_as}

module _ {A B : Type 0} where
  pub goes : (o : Read A) (next : A → List Lexeme → Read B) (a : A) (us : List Lexeme) (r : Read B) → o ≡ Ok (a, us) → next a us ≡ r → followed o next ≡ r
  goes o next a us r h k = ap (λ p. followed p next) h ∙ k

  pub stops : (o : Read A) (next : A → List Lexeme → Read B) (x : Mark × List Lexeme) → o ≡ Err x → followed o next ≡ Err x
  stops o next x h = ap (λ p. followed p next) h

  pub goes_as : (f : A → B) (o : Read A) (a : A) (us : List Lexeme) → o ≡ Ok (a, us) → read_as f o ≡ Ok (f a, us)
  goes_as f o a us h = ap (read_as f) h

  pub stops_as : (f : A → B) (o : Read A) (x : Mark × List Lexeme) → o ≡ Err x → read_as f o ≡ Err x
  stops_as f o x h = ap (read_as f) h
