-- What a function that reads from the front of the lexemes answers, and where it stands then.
use Rattle.std.specs.Prelude.{◌≡◌, List, Result, Ok, Err}
use Rattle.bpl_grammar.specs.Lexeme.{Lexeme}
use Rattle.bpl_grammar.specs.Judge.{syntax, deep, wide}
use Rattle.bpl_grammar.specs.Reading.{Read}
use Rattle.bpl_parse.specs.declared.stop.Stop.{Stop}
use Rattle.bpl_parse.specs.declared.stop.Stop.TheVariants.{Memory, Syntax, Deep, Wide}

-- Ok has what is read, and the lexemes behind it are left; at a fault the lexemes from it on are left.
abbrev pub GivesAs : {A B : Type 0} → (B → A) → Read A → Result B Stop → List Lexeme → Type 0
GivesAs seen there (Ok b) left = there ≡ Ok (seen b, left)
GivesAs seen there (Err Memory) left = Unit {0}
GivesAs seen there (Err Syntax) left = there ≡ Err (syntax, left)
GivesAs seen there (Err Deep) left = there ≡ Err (deep, left)
GivesAs seen there (Err Wide) left = there ≡ Err (wide, left)

abbrev pub Gives : {A : Type 0} → Read A → Result A Stop → List Lexeme → Type 0
Gives there answer left = GivesAs (λ a. a) there answer left
