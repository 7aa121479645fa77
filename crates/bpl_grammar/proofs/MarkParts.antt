-- Attributes and triggers, which begin alike, as one part.
use Rattle.std.specs.Prelude.{ℕ, List}
use Rattle.bpl_lex.specs.Token.{id}
use Rattle.bpl_grammar.specs.Lexeme.{Lexeme}
use Rattle.bpl_grammar.specs.Part.{Part, some, ◌⨟◌, ◌∣◌, maybe, many, rule, attr, arg, trig, es}
use Rattle.bpl_grammar.specs.Grammar.{the, curly, listed}
use Rattle.bpl_grammar.specs.Spelling.{Takes, both, left, right, no_more, again, deeper, by}
use Rattle.bpl_grammar.specs.Nesting.{Lies, first, later, left as lies_left, right as lies_right, once, again as lies_again, deeper as lies_deeper, by as lies_by}
use Rattle.bpl_grammar.proofs.Sunk.{AreAlike}

abbrev pub attr_body : Part
attr_body = the ":" ⨟ some id ⨟ maybe (listed (rule arg))

abbrev pub mark_part : Part
mark_part = curly (attr_body ∣ rule es)

mark_takes : {ts us : List Lexeme} → Takes (rule attr ∣ rule trig) ts us → Takes mark_part ts us
mark_takes (left (by (both h (both (deeper d) j)))) = both h (both (deeper (left d)) j)
mark_takes (right (by (both h (both (deeper d) j)))) = both h (both (deeper (right d)) j)

takes_mark : {ts us : List Lexeme} → Takes mark_part ts us → Takes (rule attr ∣ rule trig) ts us
takes_mark (both h (both (deeper (left d)) j)) = left (by (both h (both (deeper d) j)))
takes_mark (both h (both (deeper (right d)) j)) = right (by (both h (both (deeper d) j)))

mark_lies : {ts : List Lexeme} {n : ℕ} → Lies (rule attr ∣ rule trig) ts n → Lies mark_part ts n
mark_lies (lies_left (lies_by (first l))) = first l
mark_lies (lies_left (lies_by (later h (first (lies_deeper l))))) = later h (first (lies_deeper (lies_left l)))
mark_lies (lies_left (lies_by (later h (later (deeper d) l)))) = later h (later (deeper (left d)) l)
mark_lies (lies_right (lies_by (first l))) = first l
mark_lies (lies_right (lies_by (later h (first (lies_deeper l))))) = later h (first (lies_deeper (lies_right l)))
mark_lies (lies_right (lies_by (later h (later (deeper d) l)))) = later h (later (deeper (right d)) l)

lies_mark : {ts : List Lexeme} {n : ℕ} → Lies mark_part ts n → Lies (rule attr ∣ rule trig) ts n
lies_mark (first l) = lies_left (lies_by (first l))
lies_mark (later h (first (lies_deeper (lies_left l)))) = lies_left (lies_by (later h (first (lies_deeper l))))
lies_mark (later h (first (lies_deeper (lies_right l)))) = lies_right (lies_by (later h (first (lies_deeper l))))
lies_mark (later h (later (deeper (left d)) l)) = lies_left (lies_by (later h (later (deeper d) l)))
lies_mark (later h (later (deeper (right d)) l)) = lies_right (lies_by (later h (later (deeper d) l)))

many_takes : (p q : Part) → ((ts us : List Lexeme) → Takes p ts us → Takes q ts us) → (ts us : List Lexeme) → Takes (many p) ts us → Takes (many q) ts us
many_takes p q f ts us no_more = no_more
many_takes p q f ts us (again {us = vs} d r) = again (f ts vs d) (many_takes p q f vs us r)

many_lies : (p q : Part) → ((ts us : List Lexeme) → Takes p ts us → Takes q ts us) → ((ts : List Lexeme) (n : ℕ) → Lies p ts n → Lies q ts n) → (ts : List Lexeme) (n : ℕ) → Lies (many p) ts n → Lies (many q) ts n
many_lies p q f g ts n (once l) = once (g ts n l)
many_lies p q f g ts n (lies_again {us = vs} d l) = lies_again (f ts vs d) (many_lies p q f g vs n l)

alike_mark : AreAlike (rule attr ∣ rule trig) mark_part
alike_mark = record { takes = λ ts us d. mark_takes d; lies = λ ts n l. mark_lies l; takes_back = λ ts us d. takes_mark d; lies_back = λ ts n l. lies_mark l }

pub alike_marks : AreAlike (many (rule attr ∣ rule trig)) (many mark_part)
alike_marks = record {
  takes = many_takes (rule attr ∣ rule trig) mark_part alike_mark.takes;
  lies = many_lies (rule attr ∣ rule trig) mark_part alike_mark.takes alike_mark.lies;
  takes_back = many_takes mark_part (rule attr ∣ rule trig) alike_mark.takes_back;
  lies_back = many_lies mark_part (rule attr ∣ rule trig) alike_mark.takes_back alike_mark.lies_back;
}
