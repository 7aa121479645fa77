-- The tokens of the code, seen as those of the definitions.
use Rattle.std.specs.Prelude.{◌≡◌, refl}
use Rattle.bpl_lex.specs.Token.{Kind, id, number, text, sign, word, Token}
use Rattle.bpl_lex.specs.declared.kinds.TokenKind.{TokenKind}
use Rattle.bpl_lex.specs.declared.kinds.TokenKind.TheVariants.{Id, Number, Text, Sign, Word}
use Rattle.bpl_lex.specs.declared.kinds.Token.TheInside.{Inside}

abbrev pub kind_seen : TokenKind → Kind
kind_seen Id = id
kind_seen Number = number
kind_seen Text = text
kind_seen Sign = sign
kind_seen Word = word

abbrev pub kind_named : Kind → TokenKind
kind_named id = Id
kind_named number = Number
kind_named text = Text
kind_named sign = Sign
kind_named word = Word

abbrev pub view_of : Inside → Token
view_of a = record { kind = kind_seen a.kind; start = a.span.start; finish = a.span.end }

abbrev pub fields_of : Token → Inside
fields_of t = record { kind = kind_named t.kind; span = record { start = t.start; end = t.finish } }

named_seen : (k : TokenKind) → kind_named (kind_seen k) ≡ k
named_seen Id = refl
named_seen Number = refl
named_seen Text = refl
named_seen Sign = refl
named_seen Word = refl

pub fields_of_view : (a : Inside) → fields_of (view_of a) ≡ a
fields_of_view a = λ i. record { kind = named_seen a.kind i; span = a.span }
