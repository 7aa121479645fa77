-- The grammar of expressions in the form in which it is read: where two alternatives begin alike, one with a choice behind it.
use Rattle.std.specs.Prelude.{◌≡◌, ℕ, suc, Bool, true, false, ◌&&◌, ◌||◌, List, [], ◌∷◌, IsTrue}
use Rattle.std.proofs.Common.{refl, ap, ◌∙◌}
use Rattle.bpl_lex.specs.Token.{id, number}
use Rattle.bpl_grammar.specs.Lexeme.{Lexeme}
use Rattle.bpl_grammar.specs.Part.{Part, some, ◌⨟◌, ◌∣◌, maybe, many, inside, longest, rule, tpar, groups, attr, trig, e as expression, imp, log, es, atom}
use Rattle.bpl_grammar.specs.Grammar.{grammar, the, round}
use Rattle.bpl_grammar.specs.Spelling.{Takes, Spells, both, left, right, absent, present, no_more, again, deeper, by}
use Rattle.bpl_grammar.specs.Nesting.{Lies, first, later, left as lies_left, right as lies_right, present as lies_present, once, again as lies_again, deeper as lies_deeper, by as lies_by}
use Rattle.bpl_grammar.specs.Derivative.{empties, left_of}
use Rattle.bpl_grammar.specs.Judge.{ending, judge}
use Rattle.bpl_grammar.specs.Reads.{sunk, starts, opens}
use Rattle.bpl_grammar.specs.Terminal.{firsts}
use Rattle.bpl_grammar.specs.Follows.{Operation, index, factor, term, relation, conjunct, disjunct, consequent, equivalent, operation, any_operation, IsReached, IsWithinAt, Follows, all_apart, opening, After}
use Rattle.bpl_grammar.proofs.First.{onto_there, takes_begins, lies_starts}
use Rattle.bpl_grammar.proofs.Sunk.{up, down, lies_down, empties_sunk, reached, AreAlike}
use Rattle.bpl_grammar.proofs.Choices.{judge_choice, judge_maybe, judge_many, first_at, second_at, once_more}
use Rattle.bpl_grammar.proofs.Operations.{not_empty}
use Rattle.bpl_grammar.proofs.Tails.{tail_many, tail_maybe, tail_runs, tail_follows, deeper_follows, bars_follows, bars_then, bars_over}

-- "==>" Imp may be read as a run

imp_run : {ts us : List Lexeme} → Takes (maybe (the "==>" ⨟ rule imp)) ts us → Takes (many (the "==>" ⨟ rule log)) ts us
imp_run absent = no_more
imp_run (present (both h (by (both d r)))) = again (both h d) (imp_run r)

run_imp : {ts us : List Lexeme} → Takes (many (the "==>" ⨟ rule log)) ts us → Takes (maybe (the "==>" ⨟ rule imp)) ts us
run_imp no_more = absent
run_imp (again (both h d) r) = present (both h (by (both d (run_imp r))))

lies_run : {ts : List Lexeme} {n : ℕ} → Lies (maybe (the "==>" ⨟ rule imp)) ts n → Lies (many (the "==>" ⨟ rule log)) ts n
lies_run (lies_present (first l)) = once (first l)
lies_run (lies_present (later h (lies_by (first l)))) = once (later h l)
lies_run (lies_present (later h (lies_by (later d l)))) = lies_again (both h d) (lies_run l)

run_lies : {ts : List Lexeme} {n : ℕ} → Lies (many (the "==>" ⨟ rule log)) ts n → Lies (maybe (the "==>" ⨟ rule imp)) ts n
run_lies (once (first l)) = lies_present (first l)
run_lies (once (later h l)) = lies_present (later h (lies_by (first l)))
run_lies (lies_again (both h d) l) = lies_present (later h (lies_by (later d (run_lies l))))

pub alike_consequents : AreAlike (maybe (the "==>" ⨟ rule imp)) (many (the "==>" ⨟ rule log))
alike_consequents = record { takes = λ ts us d. imp_run d; lies = λ ts n l. lies_run l; takes_back = λ ts us d. run_imp d; lies_back = λ ts n l. run_lies l }

alike_then : (p q r : Part) → AreAlike q r → AreAlike (p ⨟ q) (p ⨟ r)
alike_then p q r a = record {
  takes = λ ts us d. then_takes q r a.takes d;
  lies = λ ts n l. then_lies q r a.lies l;
  takes_back = λ ts us d. then_takes r q a.takes_back d;
  lies_back = λ ts n l. then_lies r q a.lies_back l;
}
  where
    then_takes : {ts us : List Lexeme} (q r : Part) → ((ts us : List Lexeme) → Takes q ts us → Takes r ts us) → Takes (p ⨟ q) ts us → Takes (p ⨟ r) ts us
    then_takes q r f (both {us = us} {vs = vs} d h) = both d (f us vs h)

    then_lies : {ts : List Lexeme} {n : ℕ} (q r : Part) → ((ts : List Lexeme) (n : ℕ) → Lies q ts n → Lies r ts n) → Lies (p ⨟ q) ts n → Lies (p ⨟ r) ts n
    then_lies q r f (first l) = first l
    then_lies q r f (later {us = us} {n = n} d l) = later d (f us n l)

pub alike_imp : AreAlike (rule log ⨟ maybe (the "==>" ⨟ rule imp)) (rule log ⨟ many (the "==>" ⨟ rule log))
alike_imp = alike_then (rule log) (maybe (the "==>" ⨟ rule imp)) (many (the "==>" ⨟ rule log)) alike_consequents

-- atoms

abbrev pub bound_part : Part
bound_part = (the "forall" ∣ the "exists") ⨟ maybe (rule tpar) ⨟ rule groups ⨟ the "::" ⨟ many (rule attr ∣ rule trig) ⨟ rule expression

abbrev pub named_part : Part
named_part = some id ⨟ maybe (round (maybe (rule es)))

abbrev pub old_part : Part
old_part = the "old" ⨟ round (rule expression)

abbrev pub if_part : Part
if_part = the "if" ⨟ inside (rule expression ⨟ the "then" ⨟ rule expression ⨟ the "else" ⨟ longest (rule expression))

abbrev pub paren_part : Part
paren_part = round (rule expression ∣ bound_part)

abbrev pub from_if : Part
from_if = if_part ∣ paren_part

abbrev pub from_old : Part
from_old = old_part ∣ from_if

abbrev pub from_name : Part
from_name = named_part ∣ from_old

abbrev pub from_false : Part
from_false = the "false" ∣ from_name

abbrev pub from_true : Part
from_true = the "true" ∣ from_false

abbrev pub atom_part : Part
atom_part = some number ∣ from_true

atom_takes : {ts us : List Lexeme} → Takes (grammar atom) ts us → Takes atom_part ts us
atom_takes (left d) = left d
atom_takes (right (left d)) = right (left d)
atom_takes (right (right (left d))) = right (right (left d))
atom_takes (right (right (right (left d)))) = right (right (right (left (both d absent))))
atom_takes (right (right (right (right (left (both d e)))))) = right (right (right (left (both d (present e)))))
atom_takes (right (right (right (right (right (left d)))))) = right (right (right (right (left d))))
atom_takes (right (right (right (right (right (right (left (both h (both (deeper d) j))))))))) = right (right (right (right (right (right (both h (both (deeper (left d)) j)))))))
atom_takes (right (right (right (right (right (right (right (left d)))))))) = right (right (right (right (right (left d)))))
atom_takes (right (right (right (right (right (right (right (right (both h (both (deeper d) j)))))))))) = right (right (right (right (right (right (both h (both (deeper (right d)) j)))))))

takes_atom : {ts us : List Lexeme} → Takes atom_part ts us → Takes (grammar atom) ts us
takes_atom (left d) = left d
takes_atom (right (left d)) = right (left d)
takes_atom (right (right (left d))) = right (right (left d))
takes_atom (right (right (right (left (both d absent))))) = right (right (right (left d)))
takes_atom (right (right (right (left (both d (present e)))))) = right (right (right (right (left (both d e)))))
takes_atom (right (right (right (right (left d))))) = right (right (right (right (right (left d)))))
takes_atom (right (right (right (right (right (left d)))))) = right (right (right (right (right (right (right (left d)))))))
takes_atom (right (right (right (right (right (right (both h (both (deeper (left d)) j)))))))) = right (right (right (right (right (right (left (both h (both (deeper d) j))))))))
takes_atom (right (right (right (right (right (right (both h (both (deeper (right d)) j)))))))) = right (right (right (right (right (right (right (right (both h (both (deeper d) j)))))))))

round_lies_left : {p q : Part} {ts : List Lexeme} {n : ℕ} → Lies (round p) ts n → Lies (round (p ∣ q)) ts n
round_lies_left (first l) = first l
round_lies_left (later h (first (lies_deeper l))) = later h (first (lies_deeper (lies_left l)))
round_lies_left (later h (later (deeper d) l)) = later h (later (deeper (left d)) l)

round_lies_right : {p q : Part} {ts : List Lexeme} {n : ℕ} → Lies (round q) ts n → Lies (round (p ∣ q)) ts n
round_lies_right (first l) = first l
round_lies_right (later h (first (lies_deeper l))) = later h (first (lies_deeper (lies_right l)))
round_lies_right (later h (later (deeper d) l)) = later h (later (deeper (right d)) l)

atom_lies : {ts : List Lexeme} {n : ℕ} → Lies (grammar atom) ts n → Lies atom_part ts n
atom_lies (lies_left d) = lies_left d
atom_lies (lies_right (lies_left d)) = lies_right (lies_left d)
atom_lies (lies_right (lies_right (lies_left d))) = lies_right (lies_right (lies_left d))
atom_lies (lies_right (lies_right (lies_right (lies_left d)))) = lies_right (lies_right (lies_right (lies_left (first d))))
atom_lies (lies_right (lies_right (lies_right (lies_right (lies_left (first d)))))) = lies_right (lies_right (lies_right (lies_left (first d))))
atom_lies (lies_right (lies_right (lies_right (lies_right (lies_left (later d l)))))) = lies_right (lies_right (lies_right (lies_left (later d (lies_present l)))))
atom_lies (lies_right (lies_right (lies_right (lies_right (lies_right (lies_left d)))))) = lies_right (lies_right (lies_right (lies_right (lies_left d))))
atom_lies (lies_right (lies_right (lies_right (lies_right (lies_right (lies_right (lies_left d))))))) = lies_right (lies_right (lies_right (lies_right (lies_right (lies_right (round_lies_left d))))))
atom_lies (lies_right (lies_right (lies_right (lies_right (lies_right (lies_right (lies_right (lies_left d)))))))) = lies_right (lies_right (lies_right (lies_right (lies_right (lies_left d)))))
atom_lies (lies_right (lies_right (lies_right (lies_right (lies_right (lies_right (lies_right (lies_right d)))))))) = lies_right (lies_right (lies_right (lies_right (lies_right (lies_right (round_lies_right d))))))

paren_lies : {ts : List Lexeme} {n : ℕ} → Lies paren_part ts n → Lies (grammar atom) ts n
paren_lies (first l) = lies_right (lies_right (lies_right (lies_right (lies_right (lies_right (lies_left (first l)))))))
paren_lies (later h (first (lies_deeper (lies_left l)))) = lies_right (lies_right (lies_right (lies_right (lies_right (lies_right (lies_left (later h (first (lies_deeper l)))))))))
paren_lies (later h (first (lies_deeper (lies_right l)))) = lies_right (lies_right (lies_right (lies_right (lies_right (lies_right (lies_right (lies_right (later h (first (lies_deeper l))))))))))
paren_lies (later h (later (deeper (left d)) l)) = lies_right (lies_right (lies_right (lies_right (lies_right (lies_right (lies_left (later h (later (deeper d) l))))))))
paren_lies (later h (later (deeper (right d)) l)) = lies_right (lies_right (lies_right (lies_right (lies_right (lies_right (lies_right (lies_right (later h (later (deeper d) l)))))))))

lies_atom : {ts : List Lexeme} {n : ℕ} → Lies atom_part ts n → Lies (grammar atom) ts n
lies_atom (lies_left d) = lies_left d
lies_atom (lies_right (lies_left d)) = lies_right (lies_left d)
lies_atom (lies_right (lies_right (lies_left d))) = lies_right (lies_right (lies_left d))
lies_atom (lies_right (lies_right (lies_right (lies_left (first d))))) = lies_right (lies_right (lies_right (lies_left d)))
lies_atom (lies_right (lies_right (lies_right (lies_left (later d (lies_present l)))))) = lies_right (lies_right (lies_right (lies_right (lies_left (later d l)))))
lies_atom (lies_right (lies_right (lies_right (lies_right (lies_left d))))) = lies_right (lies_right (lies_right (lies_right (lies_right (lies_left d)))))
lies_atom (lies_right (lies_right (lies_right (lies_right (lies_right (lies_left d)))))) = lies_right (lies_right (lies_right (lies_right (lies_right (lies_right (lies_right (lies_left d)))))))
lies_atom (lies_right (lies_right (lies_right (lies_right (lies_right (lies_right d)))))) = paren_lies d

pub alike_atom : AreAlike (grammar atom) atom_part
alike_atom = record { takes = λ ts us d. atom_takes d; lies = λ ts n l. atom_lies l; takes_back = λ ts us d. takes_atom d; lies_back = λ ts n l. lies_atom l }

-- a sign that goes on with the expression is taken in

module _ (n : ℕ) (o : Operation) (k : Part) (f : Follows n k) (t : Lexeme) (s : IsTrue (starts (operation o) t)) where
  more_spells : (ts : List Lexeme) → Spells (sunk n (operation o) ⨟ k) (t ∷ ts) → Spells (once_more n (operation o) k) (t ∷ ts)
  more_spells ts (both d h) = both d (both (up n no_more) h)

  more_lies : (ts : List Lexeme) (m : ℕ) → Lies (sunk n (operation o) ⨟ k) (t ∷ ts) m → Lies (once_more n (operation o) k) (t ∷ ts) m
  more_lies ts m (first l) = first l
  more_lies ts m (later d l) = later d (later (up n no_more) l)

  more_reached : (ts : List Lexeme) (m : ℕ) → IsReached (sunk n (operation o) ⨟ k) (t ∷ ts) m → IsReached (once_more n (operation o) k) (t ∷ ts) m
  more_reached ts m r = (r.0, r.1, more_lies ts r.0 r.2)

  more_within : IsWithinAt t k (once_more n (operation o) k)
  more_within = record { spells = λ ts d. more_spells ts ((f o t s).spells ts d); lies = λ ts m l. more_reached ts m ((f o t s).lies ts m l) }

pub more_follows : (n : ℕ) (o : Operation) (k : Part) (ls : List Lexeme) → Follows n k → IsTrue (opens (operation o) ls) → judge (sunk n (many (operation o)) ⨟ k) ls ≡ judge (once_more n (operation o) k) ls
more_follows n o k [] f h = absurd (cc)
more_follows n o k (t ∷ ts) f h = judge_many n (operation o) k (t ∷ ts) ∙ first_at t ts (once_more n (operation o) k) k (more_within n o k f t h)

pub present_follows : (n : ℕ) (o : Operation) (k : Part) (ls : List Lexeme) → Follows n k → IsTrue (opens (operation o) ls) → judge (sunk n (maybe (operation o)) ⨟ k) ls ≡ judge (sunk n (operation o) ⨟ k) ls
present_follows n o k [] f h = absurd (cc)
present_follows n o k (t ∷ ts) f h = judge_maybe n (operation o) k (t ∷ ts) ∙ first_at t ts (sunk n (operation o) ⨟ k) k (f o t h)

-- of two runs the one whose sign is there

idle_takes : (o : Operation) (t : Lexeme) (ts us : List Lexeme) → starts (operation o) t ≡ false → Takes (many (operation o)) (t ∷ ts) us → us ≡ t ∷ ts
idle_takes o t ts us h no_more = refl
idle_takes o t ts us h (again {us = vs} d e) = absurd (cc (takes_begins t ts vs (operation o) (not_empty o) d, h))

module _ (n : ℕ) (o r : Operation) (k : Part) (t : Lexeme) (h : starts (operation o) t ≡ false) where
  idle_spells : (ts : List Lexeme) → Spells (sunk n (many (operation o)) ⨟ k) (t ∷ ts) → Spells (sunk n (many (operation r)) ⨟ k) (t ∷ ts)
  idle_spells ts (both {us = us} d g) =
      let e = idle_takes o t ts us h (down n d) in
      both (up n no_more) (rw (← e) g)

  idle_many : (ts : List Lexeme) (j : ℕ) → Lies (many (operation o)) (t ∷ ts) j → ⊥
  idle_many ts j l = absurd (cc (lies_starts t ts (many (operation o)) j l, h_many))
    where
      h_many : starts (many (operation o)) t ≡ false
      h_many = onto_there (left_of t (operation o)) (many (operation o)) ∙ h

  idle_lies : (ts : List Lexeme) (m : ℕ) → Lies (sunk n (many (operation o)) ⨟ k) (t ∷ ts) m → IsReached (sunk n (many (operation r)) ⨟ k) (t ∷ ts) m
  idle_lies ts m (first l) = let d = lies_down n (many (operation o)) (t ∷ ts) m l in absurd (idle_many ts d.depth d.lies)
  idle_lies ts m (later {us = us} d l) =
      let e = idle_takes o t ts us h (down n d) in
      reached (later (up n no_more) (rw (← e) l))

  pub idle_within : IsWithinAt t (sunk n (many (operation o)) ⨟ k) (sunk n (many (operation r)) ⨟ k)
  idle_within = record { spells = idle_spells; lies = idle_lies }

or_same : (c : Bool) → (c || c) ≡ c
or_same true = refl
or_same false = refl

both_end : (a b c : Bool) → a ≡ true → b ≡ true → ending ((a && c) || (b && c)) ≡ ending (b && c)
both_end a b c x y = rw (x, y) (ap ending (or_same c))

first_end : (a b c : Bool) → a ≡ true → b ≡ true → ending ((a && c) || (b && c)) ≡ ending (a && c)
first_end a b c x y = rw (x, y) (ap ending (or_same c))

-- a run of o, where no sign of r is there
pub run_first : (n : ℕ) (o r : Operation) (k : Part) (ls : List Lexeme) → opens (operation r) ls ≡ false → judge (sunk n (many (operation o) ∣ many (operation r)) ⨟ k) ls ≡ judge (sunk n (many (operation o)) ⨟ k) ls
run_first n o r k [] h = judge_choice n (many (operation o)) (many (operation r)) k [] ∙ first_end (empties 12 (sunk n (many (operation o)))) (empties 12 (sunk n (many (operation r)))) (empties 12 k) (empties_sunk n (many (operation o))) (empties_sunk n (many (operation r)))
run_first n o r k (t ∷ ts) h = judge_choice n (many (operation o)) (many (operation r)) k (t ∷ ts) ∙ first_at t ts (sunk n (many (operation o)) ⨟ k) (sunk n (many (operation r)) ⨟ k) (idle_within n r o k t h)

pub run_second : (n : ℕ) (o r : Operation) (k : Part) (ls : List Lexeme) → opens (operation o) ls ≡ false → judge (sunk n (many (operation o) ∣ many (operation r)) ⨟ k) ls ≡ judge (sunk n (many (operation r)) ⨟ k) ls
run_second n o r k [] h = judge_choice n (many (operation o)) (many (operation r)) k [] ∙ both_end (empties 12 (sunk n (many (operation o)))) (empties 12 (sunk n (many (operation r)))) (empties 12 k) (empties_sunk n (many (operation o))) (empties_sunk n (many (operation r)))
run_second n o r k (t ∷ ts) h = judge_choice n (many (operation o)) (many (operation r)) k (t ∷ ts) ∙ second_at t ts (sunk n (many (operation o)) ⨟ k) (sunk n (many (operation r)) ⨟ k) (idle_within n o r k t h)

-- what follows an expression, and can't begin with a parenthesis

tail_apart : (o : Operation) → IsTrue (all_apart opening (firsts (operation o)))
tail_apart index = refl
tail_apart factor = refl
tail_apart term = refl
tail_apart relation = refl
tail_apart conjunct = refl
tail_apart disjunct = refl
tail_apart consequent = refl
tail_apart equivalent = refl

pub after_many : (n : ℕ) (o : Operation) (k : Part) → After n k → After n (sunk n (many (operation o)) ⨟ k)
after_many n o k a = record { follows = tail_follows n (many (operation o)) k (tail_many o) a.follows; no_call = bars_over opening n (many (operation o)) k (tail_apart o) a.no_call }

pub after_maybe : (n : ℕ) (o : Operation) (k : Part) → After n k → After n (sunk n (maybe (operation o)) ⨟ k)
after_maybe n o k a = record { follows = tail_follows n (maybe (operation o)) k (tail_maybe o) a.follows; no_call = bars_over opening n (maybe (operation o)) k (tail_apart o) a.no_call }

pub after_runs : (n : ℕ) (k : Part) → After n k → After n (sunk n (many (operation conjunct) ∣ many (operation disjunct)) ⨟ k)
after_runs n k a = record { follows = tail_follows n (many (operation conjunct) ∣ many (operation disjunct)) k (tail_runs conjunct disjunct) a.follows; no_call = bars_over opening n (many (operation conjunct) ∣ many (operation disjunct)) k refl a.no_call }

pub after_deeper : (n : ℕ) (k : Part) → After n k → After (suc n) k
after_deeper n k a = record { follows = deeper_follows n k a.follows; no_call = a.no_call }

-- a part that begins with neither
pub after_then : (m n : ℕ) (p k : Part) → empties 12 p ≡ false → IsTrue (all_apart (firsts any_operation) (firsts p)) → IsTrue (all_apart opening (firsts p)) → After m (sunk n p ⨟ k)
after_then m n p k x a b = record { follows = bars_follows m (sunk n p ⨟ k) (bars_then (firsts any_operation) n p k x a); no_call = bars_then opening n p k x b }

-- such a part, perhaps of no tokens, before another
pub after_over : (m n l : ℕ) (q p k : Part) → IsTrue (all_apart (firsts any_operation) (firsts q)) → IsTrue (all_apart opening (firsts q)) → empties 12 p ≡ false → IsTrue (all_apart (firsts any_operation) (firsts p)) → IsTrue (all_apart opening (firsts p)) → After m (sunk n q ⨟ (sunk l p ⨟ k))
after_over m n l q p k c d x a b = record {
  follows = bars_follows m (sunk n q ⨟ (sunk l p ⨟ k)) (bars_over (firsts any_operation) n q (sunk l p ⨟ k) c (bars_then (firsts any_operation) l p k x a));
  no_call = bars_over opening n q (sunk l p ⨟ k) d (bars_then opening l p k x b);
}
