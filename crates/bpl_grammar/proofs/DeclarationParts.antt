-- The grammar of a function's arguments in the form in which it is read: what begins with a name, with a choice behind it.
use Rattle.bpl_lex.specs.Token.{id}
use Rattle.bpl_grammar.specs.Part.{Part, some, ◌⨟◌, ◌∣◌, maybe, inside, rule, farg, type, tpar}
use Rattle.bpl_grammar.specs.Grammar.{grammar, the, listed, round, square}
use Rattle.bpl_grammar.proofs.Sunk.{AreAlike, alike_rule}
use Rattle.bpl_grammar.proofs.Alike.{alike_same, alike_through, alike_order, alike_or, alike_perhaps, alike_option, alike_fourth}

abbrev pub from_round : Part
from_round = round (rule type) ∣ maybe (rule tpar) ⨟ square (listed (rule type)) ⨟ inside (rule type)

abbrev pub typed_rest : Part
typed_rest = the ":" ⨟ rule type

abbrev pub unnamed_part : Part
unnamed_part = the "int" ∣ the "bool" ∣ from_round

abbrev pub farg_part : Part
farg_part = some id ⨟ maybe typed_rest ∣ unnamed_part

pub alike_farg : AreAlike (grammar farg) farg_part
alike_farg = alike_through _ (((some id ⨟ the ":") ⨟ rule type) ∣ rule type) _
    (alike_option (some id ⨟ the ":") (rule type))
    (alike_through _ ((some id ⨟ typed_rest) ∣ grammar type) _
    (alike_or _ (rule type) (some id ⨟ typed_rest) (grammar type) (alike_order (some id) (the ":") (rule type)) (alike_rule type))
    (alike_through _ (((some id ⨟ typed_rest) ∣ some id) ∣ unnamed_part) _
    (alike_fourth (some id ⨟ typed_rest) (the "int") (the "bool") (some id) from_round)
    (alike_or _ unnamed_part (some id ⨟ maybe typed_rest) unnamed_part (alike_perhaps (some id) typed_rest) (alike_same _))))
