-- The grammar, production by production.
use Rattle.std.specs.Prelude.{codes}
use Rattle.bpl_lex.specs.Token.{id, number, text}
use Rattle.bpl_grammar.specs.Part.{Part, some, spelled, ◌⨟◌, ◌∣◌, maybe, many, inside, longest, Rule, rule, program, decl, var, groups, group, ids, farg, sig, spec, body, block, stmt, lhs, guard, if_stmt, inv, type, tpar, attr, arg, e, imp, log, rel, sum, prod, un, post, es, atom, trig}
use Prim.Native.String.{String}

-- this word or sign
abbrev pub the : String → Part
the word = spelled (codes word)

-- p {"," p}
abbrev pub listed : Part → Part
listed p = p ⨟ many (the "," ⨟ p)

-- brackets around p
abbrev pub round : Part → Part
round p = the "(" ⨟ inside p ⨟ the ")"

abbrev pub square : Part → Part
square p = the "[" ⨟ inside p ⨟ the "]"

abbrev pub curly : Part → Part
curly p = the "{" ⨟ inside p ⨟ the "}"

abbrev pub attrs : Part
attrs = many (rule attr)

abbrev pub grammar : Rule → Part
grammar program = many (rule decl)
grammar decl
    = the "const" ⨟ attrs ⨟ maybe (the "unique") ⨟ rule ids ⨟ the ":" ⨟ rule type ⨟ the ";"
    ∣ the "function" ⨟ attrs ⨟ some id ⨟ maybe (rule tpar) ⨟ round (maybe (listed (rule farg)))
    ⨟ (the "returns" ⨟ round (rule farg) ∣ the ":" ⨟ rule type) ⨟ (curly (rule e) ∣ the ";")
    ∣ the "axiom" ⨟ attrs ⨟ rule e ⨟ the ";"
    ∣ rule var
    ∣ the "type" ⨟ attrs ⨟ some id ⨟ maybe (the "=" ⨟ rule type) ⨟ the ";"
    ∣ the "procedure" ⨟ attrs ⨟ some id ⨟ maybe (rule tpar) ⨟ rule sig ⨟ (the ";" ⨟ many (rule spec) ∣ many (rule spec) ⨟ rule body)
    ∣ the "implementation" ⨟ attrs ⨟ some id ⨟ maybe (rule tpar) ⨟ rule sig ⨟ rule body
grammar var = the "var" ⨟ attrs ⨟ rule groups ⨟ the ";"
grammar groups = listed (rule group)
grammar group = rule ids ⨟ the ":" ⨟ rule type ⨟ maybe (the "where" ⨟ rule e)
grammar ids = listed (some id)
grammar farg = maybe (some id ⨟ the ":") ⨟ rule type
grammar sig = round (maybe (rule groups)) ⨟ maybe (the "returns" ⨟ round (maybe (rule groups)))
grammar spec
    = maybe (the "free") ⨟ (the "requires" ∣ the "ensures") ⨟ attrs ⨟ rule e ⨟ the ";"
    ∣ the "modifies" ⨟ maybe (rule ids) ⨟ the ";"
grammar body = curly (many (rule var) ⨟ many (rule stmt))
grammar block = curly (many (rule stmt))
grammar stmt
    = some id ⨟ the ":" ⨟ rule stmt
    ∣ (the "assert" ∣ the "assume") ⨟ attrs ⨟ rule e ⨟ the ";"
    ∣ the "havoc" ⨟ rule ids ⨟ the ";"
    ∣ listed (rule lhs) ⨟ the ":=" ⨟ listed (rule e) ⨟ the ";"
    ∣ the "call" ⨟ attrs ⨟ maybe (rule ids ⨟ the ":=") ⨟ some id ⨟ round (maybe (rule es)) ⨟ the ";"
    ∣ rule if_stmt
    ∣ the "while" ⨟ round (rule guard) ⨟ many (rule inv) ⨟ rule block
    ∣ the "break" ⨟ maybe (some id) ⨟ the ";"
    ∣ the "return" ⨟ the ";"
    ∣ the "goto" ⨟ rule ids ⨟ the ";"
grammar lhs = some id ⨟ many (square (rule e))
grammar guard = the "*" ∣ rule e
grammar if_stmt = the "if" ⨟ round (rule guard) ⨟ rule block ⨟ maybe (the "else" ⨟ (rule if_stmt ∣ rule block))
grammar inv = maybe (the "free") ⨟ the "invariant" ⨟ attrs ⨟ rule e ⨟ the ";"
grammar type
    = the "int" ∣ the "bool" ∣ some id ∣ round (rule type)
    ∣ maybe (rule tpar) ⨟ square (listed (rule type)) ⨟ inside (rule type)
grammar tpar = the "<" ⨟ rule ids ⨟ the ">"
grammar attr = curly (the ":" ⨟ some id ⨟ maybe (listed (rule arg)))
grammar arg = some text ∣ rule e
grammar e = rule imp ⨟ many (the "<==>" ⨟ rule imp)
grammar imp = rule log ⨟ maybe (the "==>" ⨟ rule imp)
grammar log = rule rel ⨟ (many (the "&&" ⨟ rule rel) ∣ many (the "||" ⨟ rule rel))
grammar rel = rule sum ⨟ maybe ((the "==" ∣ the "!=" ∣ the "<" ∣ the "<=" ∣ the ">" ∣ the ">=") ⨟ rule sum)
grammar sum = rule prod ⨟ many ((the "+" ∣ the "-") ⨟ rule prod)
grammar prod = rule un ⨟ many (the "*" ⨟ rule un)
grammar un = (the "!" ∣ the "-") ⨟ inside (rule un) ∣ rule post
grammar post = rule atom ⨟ many (square (rule e ⨟ maybe (the ":=" ⨟ rule e)))
grammar es = listed (rule e)
grammar atom
    = some number ∣ the "true" ∣ the "false" ∣ some id ∣ some id ⨟ round (maybe (rule es))
    ∣ the "old" ⨟ round (rule e) ∣ round (rule e)
    ∣ the "if" ⨟ inside (rule e ⨟ the "then" ⨟ rule e ⨟ the "else" ⨟ longest (rule e))
    ∣ round ((the "forall" ∣ the "exists") ⨟ maybe (rule tpar) ⨟ rule groups ⨟ the "::" ⨟ many (rule attr ∣ rule trig) ⨟ rule e)
grammar trig = curly (rule es)
