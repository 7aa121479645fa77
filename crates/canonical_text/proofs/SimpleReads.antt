-- Formulas, targets, guards and invariants are read back.
use Rattle.std.specs.Prelude.{◌≡◌, ℕ, zero, suc, ◌<◌, ◌≤◌, Bool, true, false, ◌||◌, codes, List, [], ◌∷◌, ◌++◌, map, drop, length, IsTrue, Ok, Some, None, option_map}
use Rattle.std.proofs.Common.{refl, arith}
use Rattle.bv_base.specs.declared.place.Place.{Place}
use Rattle.bpl_ast.specs.Place.{Name}
use Rattle.bpl_ast.specs.Tree.{Expr, Exprs, no_exprs, item}
use Rattle.bpl_ast.specs.ExprView.{exprs_of}
use Rattle.bpl_ast.specs.Statement.{Target, Guard, Invariant}
use Rattle.canonical_text.specs.declared.level.Level.TheVariants.{Equivalence}
use Rattle.canonical_text.specs.Glyph.{plain, word, opening, closing, index}
use Rattle.canonical_text.specs.Expression.{expression, listed as listed_tokens, more_listed}
use Rattle.canonical_text.specs.Lines.{semicolon, free_word, entries, targets, more_targets, guard}
use Rattle.bpl_grammar.specs.Lexeme.{Lexeme}
use Rattle.bpl_grammar.specs.Terminal.{fixed, sees}
use Rattle.bpl_grammar.specs.Reading.{read_behind, repeated, read_name}
use Rattle.bpl_grammar.specs.ReadExpressions.{read_inner, whole, attrs_with}
use Rattle.bpl_grammar.specs.ReadStatements.{read_expr, read_attrs, formula_with, entry_with, entries_with, lhs_with, targets_with, values_with, guard_with, guarded_with, inv_as, inv_with, invs_with}
use Rattle.bpl_grammar.proofs.Loops.{many_stops}
use Rattle.canonical_text.specs.Same.{start, bare, bare_name, bare_exprs}
use Rattle.canonical_text.specs.SameStatement.{bare_target, bare_invariant}
use Rattle.canonical_text.specs.WrittenExpression.{IsName, some_exprs, IsWritten, AreWritten}
use Rattle.canonical_text.specs.WrittenStatement.{AreTargets, SomeTargets, IsGuard, AreInvariants}
use Rattle.canonical_text.specs.Nestings.{expression_depth, enclosed_depth}
use Rattle.canonical_text.specs.StatementNestings.{values_depth, targets_depth, guard_depth, invariants_depth}
use Rattle.canonical_text.specs.Tokens.{formula_tokens, invariants_tokens}
use Rattle.canonical_text.specs.Spelled.{token, Spelled, done, next}
use Rattle.canonical_text.specs.Ahead.{sees_text, ahead}
use Rattle.canonical_text.proofs.Parts.{split, spelled_length, Items, stop, step, items_repeated}
use Rattle.canonical_text.proofs.Levels.{ReadsAt, is_unbarred}
use Rattle.canonical_text.proofs.TypeReads.{name_read}
use Rattle.canonical_text.proofs.AtomReads.{inner_reads}
use Rattle.canonical_text.proofs.ExpressionReads.{operand_reads}

-- an expression alone, before what doesn't go on with it
pub alone_reads : (x : Expr) (room : ℕ) (ls us : List Lexeme) → IsWritten x → expression_depth x ≤ room → IsTrue (ahead None us) → Spelled (expression x) ls us → ReadsAt Equivalence room ls us x
alone_reads x room ls us w d k g = operand_reads x w Equivalence None room ls us d refl k g

-- no attributes are printed
pub no_attrs : (room : ℕ) (ls : List Lexeme) → sees_text "{" ls ≡ false → read_attrs room ls ≡ Ok (tt, ls)
unfolding attrs_with
no_attrs room ls h = rw (many_stops (sees (fixed (codes "{"))) _ ls h) refl

-- formulas

pub record FormulaRead (room : ℕ) (ls us : List Lexeme) (x : Expr) : Type 0 where
  pub value : Expr
  pub reads : formula_with room ls ≡ Ok (value, us)
  pub same : bare value ≡ bare x

pub formula_read : (room : ℕ) (p : Place) (ls us : List Lexeme) (x : Expr) → read_attrs room ls ≡ Ok (tt, ls) → read_expr room ls ≡ Ok (x, token p (closing ";") ∷ us) → formula_with room ls ≡ Ok (x, us)
unfolding formula_with
formula_read room p ls us x h k = rw (h, k) refl

pub formula_reads : (x : Expr) (room : ℕ) (ls us : List Lexeme) → IsWritten x → expression_depth x ≤ room → Spelled (formula_tokens x) ls us → FormulaRead room ls us x
formula_reads x room ls us w d g =
    let q = split (expression x) semicolon g in
    closed q.middle q.first q.second
  where
    closed : (ms : List Lexeme) → Spelled (expression x) ls ms → Spelled semicolon ms us → FormulaRead room ls us x
    closed ms f (next p done) =
        let a = alone_reads x room ls (token p (closing ";") ∷ us) w d refl f in
        record { value = a.value; reads = formula_read room p ls us a.value (no_attrs room ls (is_unbarred ls a.unbarred).brace) a.reads; same = a.same }

-- targets

record EntryItems (room : ℕ) (ls us : List Lexeme) (xs : Exprs) : Type 0 where
  pub values : List Expr
  pub reads : Items (sees (fixed (codes "["))) (entry_with room) ls us values
  pub same : bare_exprs (exprs_of values) ≡ bare_exprs xs

entry_read : (room : ℕ) (p q : Place) (ls us : List Lexeme) (x : Expr) → read_inner room whole ls ≡ Ok (x, token q (closing "]") ∷ us) → entry_with room (token p index ∷ ls) ≡ Ok (x, us)
unfolding entry_with
entry_read room p q ls us x h = rw h refl

entry_item : (room : ℕ) (p : Place) (x : Expr) (xs : Exprs) (ls ms us : List Lexeme) → IsWritten x → suc (expression_depth x) ≤ room → ((rest : List Lexeme) → Spelled (entries xs) rest us → EntryItems room rest us xs)
    → Spelled (expression x) ls ms → Spelled (closing "]" ∷ entries xs) ms us → EntryItems room (token p index ∷ ls) us (item x xs)
entry_item room p x xs ls ms us w d more f (next {ls = rest} q g) =
    let a = inner_reads x (operand_reads x w) None room ls (token q (closing "]") ∷ rest) d refl refl f in
    let b = more rest g in
    record {
      values = a.value ∷ b.values;
      reads = step {x = a.value} {xs = b.values} refl (entry_read room p q ls rest a.value a.reads) (omega (arith, spelled_length f)) b.reads;
      same = λ i. item (a.same i) (b.same i);
    }

entry_items : (xs : Exprs) (room : ℕ) (us : List Lexeme) → AreWritten xs → enclosed_depth xs ≤ room → sees_text "[" us ≡ false → (ls : List Lexeme) → Spelled (entries xs) ls us → EntryItems room ls us xs
entry_items no_exprs room us w d z ls done = record { values = []; reads = stop z; same = refl }
entry_items (item x xs) room us w d z ls (next {ls = rest} p g) =
    let q = split (expression x) (closing "]" ∷ entries xs) g in
    entry_item room p x xs rest q.middle us w.0 (omega (arith, d)) (entry_items xs room us w.1 (omega (arith, d)) z) q.first q.second

record TargetRead (room : ℕ) (ls us : List Lexeme) (t : Target) : Type 0 where
  pub value : Target
  pub reads : lhs_with room ls ≡ Ok (value, us)
  pub same : bare_target value ≡ bare_target t

lhs_read : (room : ℕ) (ls ms us : List Lexeme) (n : Name) (xs : List Expr) → read_name ls ≡ Ok (n, ms) → repeated (sees (fixed (codes "["))) (entry_with room) ms ≡ Ok (xs, us) → lhs_with room ls ≡ Ok (record { name = n; indices = exprs_of xs }, us)
unfolding lhs_with entries_with
lhs_read room ls ms us n xs h k = rw (h, k) refl

target_read : (t : Target) (room : ℕ) (p : Place) (ls us : List Lexeme) → IsName t.name → AreWritten t.indices → enclosed_depth t.indices ≤ room → sees_text "[" us ≡ false → Spelled (entries t.indices) ls us → TargetRead room (token p (plain t.name.text) ∷ ls) us t
target_read t room p ls us n w d z g =
    let a = entry_items t.indices room us w d z ls g in
    record {
      value = record { name = record { text = t.name.text; at = p }; indices = exprs_of a.values };
      reads = lhs_read room _ ls us (record { text = t.name.text; at = p }) a.values (name_read p t.name ls n) (items_repeated _ _ ls us a.values a.reads);
      same = λ i. record { name = bare_name t.name; indices = a.same i };
    }

record TargetItems (room : ℕ) (ls us : List Lexeme) (ts : List Target) : Type 0 where
  pub values : List Target
  pub reads : Items (sees (fixed (codes ","))) (λ vs. lhs_with room (drop 1 vs)) ls us values
  pub same : map bare_target values ≡ map bare_target ts

pub record TargetsRead (room : ℕ) (ls us : List Lexeme) (ts : List Target) : Type 0 where
  pub values : List Target
  pub reads : targets_with room ls ≡ Ok (values, us)
  pub same : map bare_target values ≡ map bare_target ts

behind_target : (ts : List Target) (ms us : List Lexeme) → sees_text "[" us ≡ false → Spelled (more_targets ts) ms us → sees_text "[" ms ≡ false
behind_target [] ms us z done = z
behind_target (t ∷ ts) ms us z (next p g) = refl

target_items : (ts : List Target) (room : ℕ) (ls us : List Lexeme) → AreTargets ts → targets_depth ts ≤ room → sees_text "," us ≡ false → sees_text "[" us ≡ false → Spelled (more_targets ts) ls us → TargetItems room ls us ts
target_items [] room ls us w d y z done = record { values = []; reads = stop y; same = refl }
target_items (t ∷ ts) room ls us w d y z (next p (next {ls = rest} q g)) =
    let f = split (entries t.indices) (more_targets ts) g in
    let a = target_read t room q rest f.middle w.0 w.1 (omega (arith, d)) (behind_target ts f.middle us z f.second) f.first in
    let b = target_items ts room f.middle us w.2 (omega (arith, d)) y z f.second in
    record {
      values = a.value ∷ b.values;
      reads = step {x = a.value} {xs = b.values} refl a.reads (omega (arith, spelled_length f.first)) b.reads;
      same = λ i. a.same i ∷ b.same i;
    }

targets_ok : (room : ℕ) (ls ms us : List Lexeme) (t : Target) (ts : List Target) → lhs_with room ls ≡ Ok (t, ms) → read_behind (fixed (codes ",")) (lhs_with room) ms ≡ Ok (ts, us) → targets_with room ls ≡ Ok (t ∷ ts, us)
unfolding targets_with
targets_ok room ls ms us t ts h k = rw (h, k) refl

pub targets_read : (ts : List Target) (room : ℕ) (ls us : List Lexeme) → SomeTargets ts → targets_depth ts ≤ room → sees_text "," us ≡ false → sees_text "[" us ≡ false → Spelled (targets ts) ls us → TargetsRead room ls us ts
targets_read [] room ls us w d y z g = absurd w
targets_read (t ∷ ts) room ls us w d y z (next {ls = rest} q g) =
    let f = split (entries t.indices) (more_targets ts) g in
    let a = target_read t room q rest f.middle w.0 w.1 (omega (arith, d)) (behind_target ts f.middle us z f.second) f.first in
    let b = target_items ts room f.middle us w.2 (omega (arith, d)) y z f.second in
    record {
      values = a.value ∷ b.values;
      reads = targets_ok room _ f.middle us a.value b.values a.reads (items_repeated _ _ f.middle us b.values b.reads);
      same = λ i. a.same i ∷ b.same i;
    }

-- right sides

record ValueItems (room : ℕ) (ls us : List Lexeme) (xs : Exprs) : Type 0 where
  pub values : List Expr
  pub reads : Items (sees (fixed (codes ","))) (λ vs. read_expr room (drop 1 vs)) ls us values
  pub same : bare_exprs (exprs_of values) ≡ bare_exprs xs

pub record ValuesRead (room : ℕ) (ls us : List Lexeme) (xs : Exprs) : Type 0 where
  pub values : List Expr
  pub reads : values_with room ls ≡ Ok (values, us)
  pub same : bare_exprs (exprs_of values) ≡ bare_exprs xs

behind_value : (xs : Exprs) (ms us : List Lexeme) → IsTrue (ahead None us) → Spelled (more_listed xs) ms us → IsTrue (ahead None ms)
behind_value no_exprs ms us k done = k
behind_value (item x xs) ms us k (next p g) = refl

value_items : (xs : Exprs) (room : ℕ) (ls us : List Lexeme) → AreWritten xs → values_depth xs ≤ room → IsTrue (ahead None us) → sees_text "," us ≡ false → Spelled (more_listed xs) ls us → ValueItems room ls us xs
value_items no_exprs room ls us w d k z done = record { values = []; reads = stop z; same = refl }
value_items (item x xs) room ls us w d k z (next {ls = rest} p g) =
    let q = split (expression x) (more_listed xs) g in
    let a = alone_reads x room rest q.middle w.0 (omega (arith, d)) (behind_value xs q.middle us k q.second) q.first in
    let b = value_items xs room q.middle us w.1 (omega (arith, d)) k z q.second in
    record {
      values = a.value ∷ b.values;
      reads = step {x = a.value} {xs = b.values} refl a.reads (omega (arith, spelled_length q.first)) b.reads;
      same = λ i. item (a.same i) (b.same i);
    }

values_ok : (room : ℕ) (ls ms us : List Lexeme) (x : Expr) (xs : List Expr) → read_expr room ls ≡ Ok (x, ms) → read_behind (fixed (codes ",")) (read_expr room) ms ≡ Ok (xs, us) → values_with room ls ≡ Ok (x ∷ xs, us)
unfolding values_with
values_ok room ls ms us x xs h k = rw (h, k) refl

pub values_read : (xs : Exprs) (room : ℕ) (ls us : List Lexeme) → IsTrue (some_exprs xs) → AreWritten xs → values_depth xs ≤ room → IsTrue (ahead None us) → sees_text "," us ≡ false → Spelled (listed_tokens xs) ls us → ValuesRead room ls us xs
values_read no_exprs room ls us s w d k z g = absurd (cc)
values_read (item x xs) room ls us s w d k z g =
    let q = split (expression x) (more_listed xs) g in
    let a = alone_reads x room ls q.middle w.0 (omega (arith, d)) (behind_value xs q.middle us k q.second) q.first in
    let b = value_items xs room q.middle us w.1 (omega (arith, d)) k z q.second in
    record {
      values = a.value ∷ b.values;
      reads = values_ok room ls q.middle us a.value b.values a.reads (items_repeated _ _ q.middle us b.values b.reads);
      same = λ i. item (a.same i) (b.same i);
    }

-- guards

pub record GuardRead (room : ℕ) (ls us : List Lexeme) (g : Guard) : Type 0 where
  pub value : Guard
  pub reads : guarded_with room ls ≡ Ok (value, us)
  pub same : option_map bare value ≡ option_map bare g

any_read : (room : ℕ) (p q z : Place) (us : List Lexeme) → guarded_with (suc room) (token p (opening "(") ∷ token q (word "*") ∷ token z (closing ")") ∷ us) ≡ Ok (None, us)
unfolding guarded_with guard_with
any_read room p q z us = refl

formula_guard : (room : ℕ) (p z : Place) (ls us : List Lexeme) (x : Expr) → sees_text "*" ls ≡ false → read_expr room ls ≡ Ok (x, token z (closing ")") ∷ us) → guarded_with (suc room) (token p (opening "(") ∷ ls) ≡ Ok (Some x, us)
unfolding guarded_with guard_with
formula_guard room p z ls us x h k = rw (h, k) refl

pub guard_reads : (g : Guard) (room : ℕ) (ls us : List Lexeme) → IsGuard g → guard_depth g ≤ room → Spelled (guard g) ls us → GuardRead room ls us g
guard_reads None zero ls us w d g = absurd (omega arith)
guard_reads None (suc room) ls us w d (next p (next q (next z done))) = record { value = None; reads = any_read room p q z us; same = refl }
guard_reads (Some x) zero ls us w d g = absurd (omega arith)
guard_reads (Some x) (suc room) ls us w d (next {ls = rest} p g) =
    let q = split (expression x) (closing ")" ∷ []) g in
    closed p rest q.middle q.first q.second
  where
    closed : (p : Place) (ls ms : List Lexeme) → Spelled (expression x) ls ms → Spelled (closing ")" ∷ []) ms us → GuardRead (suc room) (token p (opening "(") ∷ ls) us (Some x)
    closed p ls ms f (next z done) =
        let a = alone_reads x room ls (token z (closing ")") ∷ us) w (omega arith) refl f in
        record { value = Some a.value; reads = formula_guard room p z ls us a.value (is_unbarred ls a.unbarred).star a.reads; same = λ i. Some (a.same i) }

-- invariants

abbrev pub begins_inv : List Lexeme → Bool
begins_inv us = sees_text "free" us || sees_text "invariant" us

record InvItems (room : ℕ) (ls us : List Lexeme) (is : List Invariant) : Type 0 where
  pub values : List Invariant
  pub reads : Items begins_inv (inv_with room) ls us values
  pub same : map bare_invariant values ≡ map bare_invariant is

checked_inv : (room : ℕ) (p : Place) (ls us : List Lexeme) (x : Expr) → formula_with room ls ≡ Ok (x, us) → inv_with room (token p (word "invariant") ∷ ls) ≡ Ok (record { at = p; free = false; formula = x }, us)
unfolding inv_with inv_as
checked_inv room p ls us x h = rw h refl

free_inv : (room : ℕ) (p q : Place) (ls us : List Lexeme) (x : Expr) → formula_with room ls ≡ Ok (x, us) → inv_with room (token p (word "free") ∷ token q (word "invariant") ∷ ls) ≡ Ok (record { at = q; free = true; formula = x }, us)
unfolding inv_with inv_as
free_inv room p q ls us x h = rw h refl

record InvRead (room : ℕ) (ls us : List Lexeme) (i : Invariant) : Type 0 where
  pub value : Invariant
  pub begins : begins_inv ls ≡ true
  pub reads : inv_with room ls ≡ Ok (value, us)
  pub same : bare_invariant value ≡ bare_invariant i
  pub shorter : length us < length ls

inv_reads : (at : Place) (f : Bool) (x : Expr) (room : ℕ) (ls us : List Lexeme) → IsWritten x → expression_depth x ≤ room → Spelled (free_word f ++ word "invariant" ∷ formula_tokens x) ls us → InvRead room ls us (record { at = at; free = f; formula = x })
inv_reads at false x room ls us w d (next {ls = rest} p g) =
    let a = formula_reads x room rest us w d g in
    record { value = record { at = p; free = false; formula = a.value }; begins = refl; reads = checked_inv room p rest us a.value a.reads; same = λ i. record { at = start; free = false; formula = a.same i }; shorter = omega (arith, spelled_length g) }
inv_reads at true x room ls us w d (next p (next {ls = rest} q g)) =
    let a = formula_reads x room rest us w d g in
    record { value = record { at = q; free = true; formula = a.value }; begins = refl; reads = free_inv room p q rest us a.value a.reads; same = λ i. record { at = start; free = true; formula = a.same i }; shorter = omega (arith, spelled_length g) }

inv_items : (is : List Invariant) (room : ℕ) (ls us : List Lexeme) → AreInvariants is → invariants_depth is ≤ room → begins_inv us ≡ false → Spelled (invariants_tokens is) ls us → InvItems room ls us is
inv_items [] room ls us w d z done = record { values = []; reads = stop z; same = refl }
inv_items (i ∷ is) room ls us w d z g =
    let q = split (free_word i.free ++ word "invariant" ∷ formula_tokens i.formula) (invariants_tokens is) g in
    let a = inv_reads i.at i.free i.formula room ls q.middle w.0 (omega (arith, d)) q.first in
    let b = inv_items is room q.middle us w.1 (omega (arith, d)) z q.second in
    record {
      values = a.value ∷ b.values;
      reads = step {x = a.value} {xs = b.values} a.begins a.reads a.shorter b.reads;
      same = λ j. a.same j ∷ b.same j;
    }

pub record InvsRead (room : ℕ) (ls us : List Lexeme) (is : List Invariant) : Type 0 where
  pub values : List Invariant
  pub reads : invs_with room ls ≡ Ok (values, us)
  pub same : map bare_invariant values ≡ map bare_invariant is

invs_ok : (room : ℕ) (ls us : List Lexeme) (is : List Invariant) → repeated begins_inv (inv_with room) ls ≡ Ok (is, us) → invs_with room ls ≡ Ok (is, us)
unfolding invs_with
invs_ok room ls us is h = h

pub invs_read : (is : List Invariant) (room : ℕ) (ls us : List Lexeme) → AreInvariants is → invariants_depth is ≤ room → begins_inv us ≡ false → Spelled (invariants_tokens is) ls us → InvsRead room ls us is
invs_read is room ls us w d z g =
    let a = inv_items is room ls us w d z g in
    record { values = a.values; reads = invs_ok room ls us a.values (items_repeated _ _ ls us a.values a.reads); same = a.same }
