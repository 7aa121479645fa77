-- The grammar of statements in the form in which it is read: where two alternatives begin with a name, one with a choice behind it.
use Rattle.bpl_lex.specs.Token.{id}
use Rattle.bpl_grammar.specs.Part.{Part, some, ◌⨟◌, ◌∣◌, maybe, many, rule, ids, block, stmt, lhs, guard, if_stmt, inv, es, e as expression}
use Rattle.bpl_grammar.specs.Grammar.{grammar, the, listed, round, square, attrs}
use Rattle.bpl_grammar.proofs.Sunk.{AreAlike, alike_rule}
use Rattle.bpl_grammar.proofs.Alike.{alike_same, alike_back, alike_through, alike_seq, alike_order, alike_or, alike_turn, alike_last, alike_share, alike_option, alike_fourth}

-- statements

abbrev pub assigned : Part
assigned = the ":=" ⨟ (listed (rule expression) ⨟ the ";")

abbrev pub target_rest : Part
target_rest = many (square (rule expression)) ⨟ (many (the "," ⨟ rule lhs) ⨟ assigned)

abbrev pub label_rest : Part
label_rest = the ":" ⨟ rule stmt

abbrev pub named_stmt : Part
named_stmt = some id ⨟ (label_rest ∣ target_rest)

abbrev pub goto_part : Part
goto_part = the "goto" ⨟ rule ids ⨟ the ";"

abbrev pub return_part : Part
return_part = the "return" ⨟ the ";"

abbrev pub break_part : Part
break_part = the "break" ⨟ maybe (some id) ⨟ the ";"

abbrev pub while_part : Part
while_part = the "while" ⨟ round (rule guard) ⨟ many (rule inv) ⨟ rule block

abbrev pub args_part : Part
args_part = round (maybe (rule es)) ⨟ the ";"

abbrev pub call_part : Part
call_part = the "call" ⨟ attrs ⨟ maybe (rule ids ⨟ the ":=") ⨟ some id ⨟ args_part

abbrev pub havoc_part : Part
havoc_part = the "havoc" ⨟ rule ids ⨟ the ";"

abbrev pub check_part : Part
check_part = (the "assert" ∣ the "assume") ⨟ attrs ⨟ rule expression ⨟ the ";"

abbrev pub from_return : Part
from_return = return_part ∣ goto_part

abbrev pub from_break : Part
from_break = break_part ∣ from_return

abbrev pub from_while : Part
from_while = while_part ∣ from_break

abbrev pub from_if : Part
from_if = rule if_stmt ∣ from_while

abbrev pub from_call : Part
from_call = call_part ∣ from_if

abbrev pub from_havoc : Part
from_havoc = havoc_part ∣ from_call

abbrev pub from_check : Part
from_check = check_part ∣ from_havoc

abbrev pub stmt_part : Part
stmt_part = named_stmt ∣ from_check

abbrev pub targets_part : Part
targets_part = listed (rule lhs) ⨟ assigned

-- a statement without labels
abbrev pub plain_goto : Part
plain_goto = goto_part ∣ targets_part

abbrev pub plain_return : Part
plain_return = return_part ∣ plain_goto

abbrev pub plain_break : Part
plain_break = break_part ∣ plain_return

abbrev pub plain_while : Part
plain_while = while_part ∣ plain_break

abbrev pub plain_if : Part
plain_if = rule if_stmt ∣ plain_while

abbrev pub plain_call : Part
plain_call = call_part ∣ plain_if

abbrev pub plain_havoc : Part
plain_havoc = havoc_part ∣ plain_call

abbrev pub plain_part : Part
plain_part = check_part ∣ plain_havoc

lhs_first : AreAlike (rule lhs ⨟ (many (the "," ⨟ rule lhs) ⨟ assigned)) (some id ⨟ target_rest)
lhs_first = alike_through _ ((some id ⨟ many (square (rule expression))) ⨟ (many (the "," ⨟ rule lhs) ⨟ assigned)) _
    (alike_seq (rule lhs) _ (grammar lhs) _ (alike_rule lhs) (alike_same _))
    (alike_order (some id) (many (square (rule expression))) (many (the "," ⨟ rule lhs) ⨟ assigned))

pub alike_targets : AreAlike targets_part (some id ⨟ target_rest)
alike_targets = alike_through _ (rule lhs ⨟ (many (the "," ⨟ rule lhs) ⨟ assigned)) _
    (alike_order (rule lhs) (many (the "," ⨟ rule lhs)) assigned) lhs_first

pub alike_stmt : AreAlike (grammar stmt) stmt_part
alike_stmt = alike_through _ (((some id ⨟ label_rest) ∣ (listed (rule lhs) ⨟ assigned)) ∣ from_check) _
    (alike_fourth (some id ⨟ label_rest) check_part havoc_part (listed (rule lhs) ⨟ assigned) from_call)
    (alike_or _ from_check named_stmt from_check
    (alike_through _ ((some id ⨟ label_rest) ∣ (some id ⨟ target_rest)) _
    (alike_or (some id ⨟ label_rest) _ (some id ⨟ label_rest) _ (alike_same _) alike_targets)
    (alike_share (some id) label_rest target_rest))
    (alike_same from_check))

pub alike_plain : AreAlike ((some id ⨟ target_rest) ∣ from_check) plain_part
alike_plain = alike_through _ (from_check ∣ targets_part) _
    (alike_through _ (from_check ∣ (some id ⨟ target_rest)) _
    (alike_turn (some id ⨟ target_rest) from_check)
    (alike_or from_check _ from_check _ (alike_same from_check) (alike_back _ _ alike_targets)))
    (alike_last check_part from_havoc targets_part plain_havoc (alike_last havoc_part from_call targets_part plain_call
    (alike_last call_part from_if targets_part plain_if (alike_last (rule if_stmt) from_while targets_part plain_while
    (alike_last while_part from_break targets_part plain_break (alike_last break_part from_return targets_part plain_return
    (alike_last return_part goto_part targets_part plain_goto (alike_same plain_goto))))))))

-- what is called, perhaps with targets before it

abbrev pub outs_rest : Part
outs_rest = many (the "," ⨟ some id) ⨟ (the ":=" ⨟ (some id ⨟ args_part))

pub outs_first : AreAlike ((rule ids ⨟ the ":=") ⨟ (some id ⨟ args_part)) (some id ⨟ outs_rest)
outs_first = alike_through _ (rule ids ⨟ (the ":=" ⨟ (some id ⨟ args_part))) _
    (alike_order (rule ids) (the ":=") (some id ⨟ args_part))
    (alike_through _ (grammar ids ⨟ (the ":=" ⨟ (some id ⨟ args_part))) _
    (alike_seq (rule ids) _ (grammar ids) _ (alike_rule ids) (alike_same _))
    (alike_order (some id) (many (the "," ⨟ some id)) (the ":=" ⨟ (some id ⨟ args_part))))

pub alike_called : AreAlike (maybe (rule ids ⨟ the ":=") ⨟ (some id ⨟ args_part)) (some id ⨟ (outs_rest ∣ args_part))
alike_called = alike_through _ (((rule ids ⨟ the ":=") ⨟ (some id ⨟ args_part)) ∣ (some id ⨟ args_part)) _
    (alike_option (rule ids ⨟ the ":=") (some id ⨟ args_part))
    (alike_through _ ((some id ⨟ outs_rest) ∣ (some id ⨟ args_part)) _
    (alike_or _ (some id ⨟ args_part) (some id ⨟ outs_rest) (some id ⨟ args_part) outs_first (alike_same _))
    (alike_share (some id) outs_rest args_part))
