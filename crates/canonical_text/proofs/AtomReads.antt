-- Atoms of the canonical text are read back.
use Rattle.std.specs.Prelude.{◌≡◌, ℕ, zero, suc, ◌≤◌, Bool, true, false, not, ◌||◌, codes, List, [], ◌∷◌, ◌++◌, drop, IsTrue, Ok, Option, Some, None}
use Rattle.std.proofs.Common.{refl, ◌∙◌, arith}
use Rattle.std.proofs.lemmas.Bool.Decides.{nat_tests}
use Rattle.bpl_grammar.proofs.Booleans.{none_of as no_two, no_not, neither as either_no}
use Rattle.bv_base.specs.declared.place.Place.{Place}
use Rattle.bpl_lex.specs.Token.{number as number_kind}
use Rattle.bpl_ast.specs.Place.{Name}
use Rattle.bpl_ast.specs.Tree.{Expr, expr, Node, truth, variable, apply, old, choose, Exprs, no_exprs, item}
use Rattle.bpl_ast.specs.ExprView.{exprs_of}
use Rattle.canonical_text.specs.declared.level.Level.{Level}
use Rattle.canonical_text.specs.declared.level.Level.TheVariants.{Equivalence, Atom}
use Rattle.canonical_text.specs.Level.{is_looser}
use Rattle.canonical_text.specs.declared.sign.Sign.{Sign}
use Rattle.canonical_text.specs.declared.sign.Chain.TheVariants.{NoChain}
use Rattle.canonical_text.specs.Parens.{level, is_caught, goes_on, chain_of, compared}
use Rattle.canonical_text.specs.Glyph.{plain, word, opening, closing}
use Rattle.canonical_text.specs.Expression.{operand, listed as listed_tokens, more_listed}
use Rattle.bpl_grammar.specs.Lexeme.{Lexeme}
use Rattle.bpl_grammar.specs.Terminal.{kind, fixed, sees}
use Rattle.bpl_grammar.specs.Reading.{Read, read_behind, listed}
use Rattle.bpl_grammar.specs.ReadExpressions.{read_inner, whole, args_with, named_with, old_with, choose_with, atom_with}
use Rattle.canonical_text.specs.Same.{start, bare, bare_name, bare_exprs}
use Rattle.canonical_text.specs.WrittenExpression.{IsName}
use Rattle.canonical_text.specs.Nestings.{operand_depth, enclosed_depth}
use Rattle.canonical_text.specs.Spelled.{token, Spelled, done, next}
use Rattle.canonical_text.specs.Ahead.{sign_level, sees_text, ahead, stops_operand}
use Rattle.canonical_text.proofs.Parts.{split, spelled_length, Items, stop, step, items_repeated}
use Rattle.canonical_text.proofs.Levels.{is_barred, is_signed, ReadsAt, is_unbarred}
use Rattle.canonical_text.proofs.Stopping.{is_ahead}
use Rattle.canonical_text.proofs.Operands.{OperandReads, NodeReads}
use Rattle.canonical_text.proofs.RunReads.{EachReads}
use Rattle.canonical_text.proofs.TypeReads.{no_word, name_seen, name_read}

-- one nesting deeper
pub record InnerRead (room : ℕ) (ls us : List Lexeme) (x : Expr) : Type 0 where
  pub value : Expr
  pub reads : read_inner room whole ls ≡ Ok (value, us)
  pub same : bare value ≡ bare x
  pub unbarred : is_barred ls ≡ false

pub inner_reads : (x : Expr) → OperandReads x → (s : Option Sign) (room : ℕ) (ls us : List Lexeme) → suc (operand_depth Equivalence s x) ≤ room → IsTrue (stops_operand Equivalence s x) → IsTrue (ahead s us) → Spelled (operand Equivalence s x) ls us → InnerRead room ls us x
inner_reads x r s zero ls us d h k g = absurd (omega arith)
inner_reads x r s (suc room) ls us d h k g =
    let a = r Equivalence s room ls us (omega arith) h k g in
    record { value = a.value; reads = a.reads; same = a.same; unbarred = a.unbarred }

-- an atom that begins with a token that is no sign
abbrev AtomRead : ℕ → List Lexeme → List Lexeme → Node → Type 0
AtomRead room ls us n = ReadsAt Atom room ls us (expr start n)

-- true and false

true_read : (room : ℕ) (p : Place) (us : List Lexeme) → atom_with room (read_inner room) (token p (word "true") ∷ us) ≡ Ok (expr p (truth true), us)
unfolding atom_with
true_read room p us = refl

false_read : (room : ℕ) (p : Place) (us : List Lexeme) → atom_with room (read_inner room) (token p (word "false") ∷ us) ≡ Ok (expr p (truth false), us)
unfolding atom_with
false_read room p us = refl

pub truth_reads : (b : Bool) → NodeReads (truth b)
truth_reads true s room ls us d c h k (next p done) = record { value = expr p (truth true); reads = true_read room p us; same = refl; unsigned = λ a. refl; unbarred = refl }
truth_reads false s room ls us d c h k (next p done) = record { value = expr p (truth false); reads = false_read room p us; same = refl; unsigned = λ a. refl; unbarred = refl }

-- names

no_number : (p : Place) (n : Name) (us : List Lexeme) → IsName n → sees (kind number_kind) (token p (plain n.text) ∷ us) ≡ false
no_number p n us h = rw h refl

name_unsigned : (p : Place) (n : Name) (us : List Lexeme) → IsName n → is_signed (token p (plain n.text) ∷ us) ≡ false
name_unsigned p n us h = no_two _ _ (no_word p n us (codes "!") h) (no_word p n us (codes "-") h)

name_unbarred : (p : Place) (n : Name) (us : List Lexeme) → IsName n → is_barred (token p (plain n.text) ∷ us) ≡ false
name_unbarred p n us h =
    no_two _ _ (no_two _ _ (no_two _ _ (no_two _ _ (no_two _ _ (no_word p n us (codes "forall") h) (no_word p n us (codes "exists") h)) (no_word p n us (codes ")") h)) (no_word p n us (codes ":") h)) (no_word p n us (codes "*") h))
    (no_word p n us (codes "{") h)

atom_named : (room : ℕ) (p : Place) (n : Name) (us : List Lexeme) → IsName n → atom_with room (read_inner room) (token p (plain n.text) ∷ us) ≡ named_with room (read_inner room) (token p (plain n.text) ∷ us)
unfolding atom_with
atom_named room p n us h = rw (no_number p n us h, no_word p n us (codes "true") h, no_word p n us (codes "false") h, name_seen p n us h) refl

variable_read : (room : ℕ) (p : Place) (n : Name) (us : List Lexeme) → IsName n → sees_text "(" us ≡ false → named_with room (read_inner room) (token p (plain n.text) ∷ us) ≡ Ok (expr p (variable (record { text = n.text; at = p })), us)
unfolding named_with
variable_read room p n us h e = rw (name_read p n us h, e) refl

pub variable_reads : (n : Name) → IsName n → NodeReads (variable n)
variable_reads n w s room ls us d c h k (next p done) = record {
  value = expr p (variable (record { text = n.text; at = p }));
  reads = atom_named room p n us w ∙ variable_read room p n us w (no_not _ (is_ahead s us k).call);
  same = refl;
  unsigned = λ a. name_unsigned p n us w;
  unbarred = name_unbarred p n us w;
}

-- lists

pub record ListItems (room : ℕ) (ls us : List Lexeme) (xs : Exprs) : Type 0 where
  pub values : List Expr
  pub reads : Items (sees (fixed (codes ","))) (λ vs. read_inner room whole (drop 1 vs)) ls us values
  pub same : bare_exprs (exprs_of values) ≡ bare_exprs xs

-- what reads a list of expressions, one nesting deeper
pub record ListRead (room : ℕ) (ls us : List Lexeme) (xs : Exprs) : Type 0 where
  pub values : List Expr
  pub reads : listed (read_inner room whole) ls ≡ Ok (values, us)
  pub same : bare_exprs (exprs_of values) ≡ bare_exprs xs
  pub unbarred : is_barred ls ≡ false

-- what is behind an item: a comma, or the end of the list
behind_item : (xs : Exprs) (ms us : List Lexeme) → IsTrue (ahead None us) → Spelled (more_listed xs) ms us → IsTrue (ahead None ms)
behind_item no_exprs ms us k done = k
behind_item (item x xs) ms us k (next p g) = refl

pub list_items : (xs : Exprs) (room : ℕ) (ls us : List Lexeme) → EachReads xs → enclosed_depth xs ≤ room → IsTrue (ahead None us) → sees_text "," us ≡ false → Spelled (more_listed xs) ls us → ListItems room ls us xs
list_items no_exprs room ls us e d k z done = record { values = []; reads = stop z; same = refl }
list_items (item x xs) room ls us e d k z (next {ls = rest} p g) =
    let q = split (operand Equivalence None x) (more_listed xs) g in
    let a = inner_reads x e.0 None room rest q.middle (omega (arith, d)) refl (behind_item xs q.middle us k q.second) q.first in
    let b = list_items xs room q.middle us e.1 (omega (arith, d)) k z q.second in
    record {
      values = a.value ∷ b.values;
      reads = step {x = a.value} {xs = b.values} refl a.reads (omega (arith, spelled_length q.first)) b.reads;
      same = λ i. item (a.same i) (b.same i);
    }

listed_ok : (read : List Lexeme → Read Expr) (x : Expr) (ls ms us : List Lexeme) (zs : List Expr) → read ls ≡ Ok (x, ms) → read_behind (fixed (codes ",")) read ms ≡ Ok (zs, us) → listed read ls ≡ Ok (x ∷ zs, us)
listed_ok read x ls ms us zs h k = rw (h, k) refl

pub list_reads : (x : Expr) (xs : Exprs) (room : ℕ) (ls us : List Lexeme) → EachReads (item x xs) → enclosed_depth (item x xs) ≤ room → IsTrue (ahead None us) → sees_text "," us ≡ false → Spelled (listed_tokens (item x xs)) ls us → ListRead room ls us (item x xs)
list_reads x xs room ls us e d k z g =
    let q = split (operand Equivalence None x) (more_listed xs) g in
    let a = inner_reads x e.0 None room ls q.middle (omega (arith, d)) refl (behind_item xs q.middle us k q.second) q.first in
    let b = list_items xs room q.middle us e.1 (omega (arith, d)) k z q.second in
    record {
      values = a.value ∷ b.values;
      reads = listed_ok (read_inner room whole) a.value ls q.middle us b.values a.reads (items_repeated _ _ q.middle us b.values b.reads);
      same = λ i. item (a.same i) (b.same i);
      unbarred = a.unbarred;
    }

-- arguments

pub no_args : (room : ℕ) (p q : Place) (us : List Lexeme) → args_with room (read_inner room) (token p (opening "(") ∷ token q (closing ")") ∷ us) ≡ Ok ([], us)
unfolding args_with
no_args room p q us = refl

pub some_args : (room : ℕ) (p q : Place) (ls us : List Lexeme) (xs : List Expr) → sees_text ")" ls ≡ false → listed (read_inner room whole) ls ≡ Ok (xs, token q (closing ")") ∷ us) → args_with room (read_inner room) (token p (opening "(") ∷ ls) ≡ Ok (xs, us)
unfolding args_with
some_args room p q ls us xs e h = rw (e, h) refl

application_read : (room : ℕ) (p q : Place) (n : Name) (ls us : List Lexeme) (xs : List Expr) → IsName n → args_with room (read_inner room) (token q (opening "(") ∷ ls) ≡ Ok (xs, us)
    → named_with room (read_inner room) (token p (plain n.text) ∷ token q (opening "(") ∷ ls) ≡ Ok (expr p (apply (record { text = n.text; at = p }) (exprs_of xs)), us)
unfolding named_with
application_read room p q n ls us xs w h = rw (name_read p n (token q (opening "(") ∷ ls) w, h) refl

applied : (room : ℕ) (p q : Place) (n : Name) (zs : Exprs) (ls us : List Lexeme) (xs : List Expr) → IsName n → args_with room (read_inner room) (token q (opening "(") ∷ ls) ≡ Ok (xs, us) → bare_exprs (exprs_of xs) ≡ bare_exprs zs
    → AtomRead room (token p (plain n.text) ∷ token q (opening "(") ∷ ls) us (apply n zs)
applied room p q n zs ls us xs w h e = record {
  value = expr p (apply (record { text = n.text; at = p }) (exprs_of xs));
  reads = atom_named room p n (token q (opening "(") ∷ ls) w ∙ application_read room p q n ls us xs w h;
  same = λ i. expr start (apply (bare_name n) (e i));
  unsigned = λ a. name_unsigned p n (token q (opening "(") ∷ ls) w;
  unbarred = name_unbarred p n (token q (opening "(") ∷ ls) w;
}

with_args : (room : ℕ) (p q : Place) (n : Name) (x : Expr) (xs : Exprs) (ls ms us : List Lexeme) → IsName n → EachReads (item x xs) → enclosed_depth (item x xs) ≤ room → Spelled (listed_tokens (item x xs)) ls ms → Spelled (closing ")" ∷ []) ms us
    → AtomRead room (token p (plain n.text) ∷ token q (opening "(") ∷ ls) us (apply n (item x xs))
with_args room p q n x xs ls ms us w e d f (next z done) =
    let a = list_reads x xs room ls (token z (closing ")") ∷ us) e d refl refl f in
    applied room p q n (item x xs) ls us a.values w (some_args room q z ls us a.values (is_unbarred ls a.unbarred).closed a.reads) a.same

pub apply_reads : (n : Name) (xs : Exprs) → IsName n → EachReads xs → NodeReads (apply n xs)
apply_reads n no_exprs w e s room ls us d c h k (next p (next q (next z done))) = applied room p q n no_exprs (token z (closing ")") ∷ us) us [] w (no_args room q z us) refl
apply_reads n (item x xs) w e s room ls us d c h k (next p (next {ls = rest} q g)) =
    let f = split (listed_tokens (item x xs)) (closing ")" ∷ []) g in
    with_args room p q n x xs rest f.middle us w e d f.first f.second

-- old

old_read : (room : ℕ) (p q z : Place) (ls us : List Lexeme) (x : Expr) → read_inner room whole ls ≡ Ok (x, token z (closing ")") ∷ us) → atom_with room (read_inner room) (token p (word "old") ∷ token q (opening "(") ∷ ls) ≡ Ok (expr p (old p x), us)
unfolding atom_with old_with
old_read room p q z ls us x h = rw h refl

old_closed : (room : ℕ) (o p q : Place) (x : Expr) (ls ms us : List Lexeme) → OperandReads x → suc (operand_depth Equivalence None x) ≤ room → Spelled (operand Equivalence None x) ls ms → Spelled (closing ")" ∷ []) ms us
    → AtomRead room (token p (word "old") ∷ token q (opening "(") ∷ ls) us (old o x)
old_closed room o p q x ls ms us r d f (next z done) =
    let a = inner_reads x r None room ls (token z (closing ")") ∷ us) d refl refl f in
    record { value = expr p (old p a.value); reads = old_read room p q z ls us a.value a.reads; same = λ i. expr start (old start (a.same i)); unsigned = λ b. refl; unbarred = refl }

pub old_reads : (o : Place) (x : Expr) → OperandReads x → NodeReads (old o x)
old_reads o x r s room ls us d c h k (next p (next {ls = rest} q g)) =
    let f = split (operand Equivalence None x) (closing ")" ∷ []) g in
    old_closed room o p q x rest f.middle us r d f.first f.second

-- if

pub choose_read : (room : ℕ) (p q z : Place) (ls ms ns us : List Lexeme) (c x y : Expr) → read_inner room whole ls ≡ Ok (c, token q (word "then") ∷ ms) → read_inner room whole ms ≡ Ok (x, token z (word "else") ∷ ns) → read_inner room whole ns ≡ Ok (y, us)
    → atom_with room (read_inner room) (token p (word "if") ∷ ls) ≡ Ok (expr p (choose c x y), us)
unfolding atom_with choose_with
choose_read room p q z ls ms ns us c x y h k l = rw (h, k, l) refl

never_below : (w : Level) → is_looser w Equivalence ≡ false
never_below w = grind (arith, nat_tests)

-- where the `if` is not caught, the operand after `else` stops before the sign
stops_free : (q : Sign) (n : Node) (b c : Bool) → is_looser (level n) Equivalence ≡ b → goes_on q (chain_of n) (compared n) ≡ c → c ≡ false
    → IsTrue (is_looser (sign_level q) Equivalence || not (goes_on q (elim b [ true ↦ NoChain | false ↦ chain_of n ]) (elim b [ true ↦ false | false ↦ compared n ])))
stops_free q n true c e f g = absurd (cc (never_below (level n)))
stops_free q n false c e f g = or_right (is_looser (sign_level q) Equivalence) (λ i. not ((f ∙ g) i))
  where
    or_right : (a : Bool) {b : Bool} → IsTrue b → IsTrue (a || b)
    or_right true h = refl
    or_right false h = h

else_stops : (s : Option Sign) (c x y : Expr) → is_caught s (choose c x y) ≡ false → IsTrue (stops_operand Equivalence s y)
else_stops None c x y h = refl
else_stops (Some q) c x (expr p n) h = stops_free q n (is_looser (level n) Equivalence) (goes_on q (chain_of n) (compared n)) refl refl (either_no _ _ h).0

chosen : (room : ℕ) (p q z : Place) (ls ms ns us : List Lexeme) (c x y : Expr) → InnerRead room ls (token q (word "then") ∷ ms) c → InnerRead room ms (token z (word "else") ∷ ns) x → InnerRead room ns us y
    → AtomRead room (token p (word "if") ∷ ls) us (choose c x y)
chosen room p q z ls ms ns us c x y a b e = record {
  value = expr p (choose a.value b.value e.value);
  reads = choose_read room p q z ls ms ns us a.value b.value e.value a.reads b.reads e.reads;
  same = λ i. expr start (choose (a.same i) (b.same i) (e.same i));
  unsigned = λ h. refl;
  unbarred = refl;
}

pub choose_reads : (c x y : Expr) → OperandReads c → OperandReads x → OperandReads y → NodeReads (choose c x y)
choose_reads c x y rc rx ry s room ls us d u h k (next {ls = rest} p g) =
    let f = split (operand Equivalence None c) (word "then" ∷ (operand Equivalence None x ++ word "else" ∷ operand Equivalence s y)) g in
    second p rest f.middle f.first f.second
  where
    third : (p q : Place) (ls ms mid : List Lexeme) → Spelled (operand Equivalence None c) ls (token q (word "then") ∷ ms) → Spelled (operand Equivalence None x) ms mid → Spelled (word "else" ∷ operand Equivalence s y) mid us → AtomRead room (token p (word "if") ∷ ls) us (choose c x y)
    third p q ls ms mid fc fx (next {ls = ns} z fy) =
        chosen room p q z ls ms ns us c x y
        (inner_reads c rc None room ls (token q (word "then") ∷ ms) (omega (arith, d)) refl refl fc)
        (inner_reads x rx None room ms (token z (word "else") ∷ ns) (omega (arith, d)) refl refl fx)
        (inner_reads y ry s room ns us (omega (arith, d)) (else_stops s c x y u) k fy)

    second : (p : Place) (ls mid : List Lexeme) → Spelled (operand Equivalence None c) ls mid → Spelled (word "then" ∷ (operand Equivalence None x ++ word "else" ∷ operand Equivalence s y)) mid us → AtomRead room (token p (word "if") ∷ ls) us (choose c x y)
    second p ls mid fc (next {ls = ms} q g) =
        let f = split (operand Equivalence None x) (word "else" ∷ operand Equivalence s y) g in
        third p q ls ms f.middle fc f.first f.second
