-- No token goes on with an expression in two ways.
use Rattle.std.specs.Prelude.{◌≡◌, Bool, true, false, ◌||◌, List, [], ◌∷◌, IsTrue, ◌⊎◌}
use Rattle.std.proofs.Common.{refl, inl, inr, sym, ◌∙◌}
use Rattle.bpl_grammar.proofs.Booleans.{and_first, and_second}
use Rattle.bpl_grammar.specs.Lexeme.{Lexeme}
use Rattle.bpl_grammar.specs.Derivative.{empties}
use Rattle.bpl_grammar.specs.Reads.{starts}
use Rattle.bpl_grammar.specs.Terminal.{Terminal, is, is_any, firsts, apart_from}
use Rattle.bpl_grammar.specs.Follows.{Operation, index, factor, term, relation, conjunct, disjunct, consequent, equivalent, operation, all_apart}
use Rattle.bpl_grammar.proofs.Firsts.{starts_firsts, none_apart}

-- a token that is one of these is none of those
pub any_apart : (cs ds : List Terminal) (t : Lexeme) → IsTrue (is_any cs t) → IsTrue (all_apart cs ds) → is_any ds t ≡ false
any_apart [] ds t h a = absurd (cc)
any_apart (c ∷ cs) ds t h a = by_head (is c t) refl h (any_apart cs ds t)
  where
    by_head : (b : Bool) → is c t ≡ b → IsTrue (b || is_any cs t) → (IsTrue (is_any cs t) → IsTrue (all_apart cs ds) → is_any ds t ≡ false) → is_any ds t ≡ false
    by_head true e h ih = none_apart c ds t e (and_first (apart_from c ds) (all_apart cs ds) a)
    by_head false e h ih = ih h (and_second (apart_from c ds) (all_apart cs ds) a)

pick : (o r : Operation) → (o ≡ r) ⊎ IsTrue (all_apart (firsts (operation o)) (firsts (operation r)))
pick index index = inl refl
pick index factor = inr refl
pick index term = inr refl
pick index relation = inr refl
pick index conjunct = inr refl
pick index disjunct = inr refl
pick index consequent = inr refl
pick index equivalent = inr refl
pick factor index = inr refl
pick factor factor = inl refl
pick factor term = inr refl
pick factor relation = inr refl
pick factor conjunct = inr refl
pick factor disjunct = inr refl
pick factor consequent = inr refl
pick factor equivalent = inr refl
pick term index = inr refl
pick term factor = inr refl
pick term term = inl refl
pick term relation = inr refl
pick term conjunct = inr refl
pick term disjunct = inr refl
pick term consequent = inr refl
pick term equivalent = inr refl
pick relation index = inr refl
pick relation factor = inr refl
pick relation term = inr refl
pick relation relation = inl refl
pick relation conjunct = inr refl
pick relation disjunct = inr refl
pick relation consequent = inr refl
pick relation equivalent = inr refl
pick conjunct index = inr refl
pick conjunct factor = inr refl
pick conjunct term = inr refl
pick conjunct relation = inr refl
pick conjunct conjunct = inl refl
pick conjunct disjunct = inr refl
pick conjunct consequent = inr refl
pick conjunct equivalent = inr refl
pick disjunct index = inr refl
pick disjunct factor = inr refl
pick disjunct term = inr refl
pick disjunct relation = inr refl
pick disjunct conjunct = inr refl
pick disjunct disjunct = inl refl
pick disjunct consequent = inr refl
pick disjunct equivalent = inr refl
pick consequent index = inr refl
pick consequent factor = inr refl
pick consequent term = inr refl
pick consequent relation = inr refl
pick consequent conjunct = inr refl
pick consequent disjunct = inr refl
pick consequent consequent = inl refl
pick consequent equivalent = inr refl
pick equivalent index = inr refl
pick equivalent factor = inr refl
pick equivalent term = inr refl
pick equivalent relation = inr refl
pick equivalent conjunct = inr refl
pick equivalent disjunct = inr refl
pick equivalent consequent = inr refl
pick equivalent equivalent = inl refl

pub same_operation : (o r : Operation) (t : Lexeme) → IsTrue (starts (operation o) t) → IsTrue (starts (operation r) t) → o ≡ r
same_operation o r t h j = decided (pick o r)
  where
    decided : (o ≡ r) ⊎ IsTrue (all_apart (firsts (operation o)) (firsts (operation r))) → o ≡ r
    decided (inl e) = e
    decided (inr a) =
        let other : is_any (firsts (operation r)) t ≡ false = any_apart (firsts (operation o)) (firsts (operation r)) t (sym (starts_firsts t (operation o)) ∙ h) a in
        absurd (cc (sym (starts_firsts t (operation r)) ∙ j, other))

-- each begins with its sign
pub not_empty : (o : Operation) → empties 12 (operation o) ≡ false
not_empty index = refl
not_empty factor = refl
not_empty term = refl
not_empty relation = refl
not_empty conjunct = refl
not_empty disjunct = refl
not_empty consequent = refl
not_empty equivalent = refl
