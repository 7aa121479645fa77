-- An exit by `?`: where a part stops, so does the whole that needs it.
use Rattle.std.specs.Prelude.{◌≡◌, List, Result, Ok, Err}
use Rattle.std.specs.Result.{IsErrAnd}
use Rattle.std.proofs.Common.{ap, ◌∙◌}
use Rattle.bpl_grammar.specs.Lexeme.{Lexeme}
use Rattle.bpl_grammar.specs.Judge.{Mark, syntax, deep, wide}
use Rattle.bpl_grammar.specs.Reading.{Read}
use Rattle.bpl_parse.specs.Answer.{GivesAs}
use Rattle.bpl_parse.specs.declared.stop.Stop.{Stop}
use Rattle.bpl_parse.specs.declared.stop.Stop.TheVariants.{Memory, Syntax, Deep, Wide}

pub refused_as : {A B C D : Type 0} (seen : C → A) (look : D → B) (part : Read A) (whole : Read B) (r : Result D Stop) (e : Stop) (left rest : List Lexeme)
    → IsErrAnd r (λ x. x ≡ e) → GivesAs {A = A} {B = C} seen part (Err e) left → left ≡ rest → ((x : Mark × List Lexeme) → part ≡ Err x → whole ≡ Err x) → GivesAs look whole r rest
refused_as seen look part whole (Ok b) e left rest h g l further = absurd h
refused_as seen look part whole (Err Memory) e left rest h g l further = tt
refused_as seen look part whole (Err Syntax) Syntax left rest h g l further = further (syntax, rest) (g ∙ ap (λ us. Err (syntax, us)) l)
refused_as seen look part whole (Err Deep) Deep left rest h g l further = further (deep, rest) (g ∙ ap (λ us. Err (deep, us)) l)
refused_as seen look part whole (Err Wide) Wide left rest h g l further = further (wide, rest) (g ∙ ap (λ us. Err (wide, us)) l)
refused_as seen look part whole (Err x) e left rest h g l further = absurd (cc)
