-- Arguments, signatures, specifications and bodies are read back.
use Rattle.std.specs.Prelude.{◌≡◌, ℕ, zero, suc, max, ◌<◌, ◌≤◌, Bool, true, false, ◌&&◌, ◌||◌, codes, List, [], ◌∷◌, ◌++◌, map, drop, length, IsTrue, Ok, Option, Some, None}
use Rattle.std.proofs.Common.{refl, arith}
use Rattle.bpl_grammar.proofs.Booleans.{no_and_second as and_no}
use Rattle.bv_base.specs.declared.place.Place.{Place}
use Rattle.bpl_lex.specs.Token.{id}
use Rattle.bpl_ast.specs.Place.{Name, Ty, integer, boolean, named, map_type}
use Rattle.bpl_ast.specs.Tree.{Expr, Groups, no_groups, group}
use Rattle.bpl_ast.specs.Statement.{Stmt, Stmts, Spec, requires, ensures, modifies, Body, Signature, Argument}
use Rattle.bpl_ast.specs.StmtView.{stmts_of}
use Rattle.canonical_text.specs.Glyph.{Glyph, plain, word, opening, closing}
use Rattle.canonical_text.specs.Expression.{names, type, groups}
use Rattle.canonical_text.specs.Lines.{semicolon, returned, argument, more_arguments, arguments}
use Rattle.bpl_grammar.specs.Lexeme.{Lexeme}
use Rattle.bpl_grammar.specs.Terminal.{kind, fixed, sees}
use Rattle.bpl_grammar.specs.Reading.{read_behind, repeated, read_ids}
use Rattle.bpl_grammar.specs.ReadTypes.{read_type}
use Rattle.bpl_grammar.specs.ReadExpressions.{Together, groups_from, read_inner, groups_with}
use Rattle.bpl_grammar.specs.ReadStatements.{read_attrs, formula_with, var_with, vars_with, read_stmts, body_with}
use Rattle.bpl_grammar.specs.ReadDeclarations.{read_some_ids, read_modifies, read_arg_name, farg_with, fargs_with, inputs_with, params_with, results_with, sig_with, clause_with, spec_with, specs_with}
use Rattle.canonical_text.specs.Same.{start, bare_name, bare_groups}
use Rattle.canonical_text.specs.SameStatement.{bare_argument, bare_signature, bare_spec, bare_body}
use Rattle.canonical_text.specs.WrittenExpression.{IsName, SomeNames, IsWrittenType, some_groups, AreWrittenGroups}
use Rattle.canonical_text.specs.WrittenStatement.{SomeGroups, AreLocals, IsWrittenSpec, AreWrittenSpecs, IsWrittenSignature, IsWrittenArgument, AreWrittenArguments}
use Rattle.canonical_text.specs.Nestings.{type_depth, groups_depth}
use Rattle.canonical_text.specs.StatementNestings.{raised, stmts_depth, locals_depth, body_depth, spec_depth, specs_depth, arguments_depth, signature_depth}
use Rattle.canonical_text.specs.Tokens.{stmts_tokens, locals_tokens, body_tokens, spec_tokens, specs_tokens}
use Rattle.canonical_text.specs.Spelled.{token, Spelled, done, next}
use Rattle.canonical_text.specs.Ahead.{sees_text}
use Rattle.canonical_text.proofs.Parts.{IsSplit, split, spelled_length, Items, stop, step, items_repeated}
use Rattle.canonical_text.proofs.TypeReads.{no_word, name_seen, name_read, names_read, type_reads}
use Rattle.canonical_text.proofs.QuantifiedReads.{groups_read}
use Rattle.canonical_text.proofs.ExpressionReads.{each_group}
use Rattle.canonical_text.proofs.SimpleReads.{no_attrs, formula_reads}
use Rattle.canonical_text.proofs.BlockReads.{EachStmt, stmt_items, stmts_ok}

-- room for what is inside brackets
pub raised_fits : (n m : ℕ) → raised n ≤ suc m → n ≤ m
raised_fits zero m h = omega arith
raised_fits (suc n) m h = omega (arith, h)

-- arguments

record ArgumentRead (room : ℕ) (ls us : List Lexeme) (a : Argument) : Type 0 where
  pub value : Argument
  pub reads : farg_with room ls ≡ Ok (value, us)
  pub same : bare_argument value ≡ bare_argument a
  pub unclosed : sees_text ")" ls ≡ false

-- no colon stands behind a name that is a type
type_alone : (t : Ty) (ls us : List Lexeme) → sees_text ":" us ≡ false → Spelled (type t) ls us → (sees (kind id) ls && sees_text ":" (drop 1 ls)) ≡ false
type_alone (integer p) ls us z (next q done) = refl
type_alone (boolean p) ls us z (next q done) = refl
type_alone (named p n) ls us z (next q done) = and_no (sees (kind id) (token q (plain n.text) ∷ us)) (sees_text ":" us) z
type_alone (map_type p None ds r) ls us z (next q g) = refl
type_alone (map_type p (Some ps) ds r) ls us z (next q g) = refl

type_open : (t : Ty) (ls us : List Lexeme) → IsWrittenType t → Spelled (type t) ls us → sees_text ")" ls ≡ false
type_open (integer p) ls us w (next q done) = refl
type_open (boolean p) ls us w (next q done) = refl
type_open (named p n) ls us w (next q done) = no_word q n us (codes ")") w
type_open (map_type p None ds r) ls us w (next q g) = refl
type_open (map_type p (Some ps) ds r) ls us w (next q g) = refl

alone_read : (room : ℕ) (ls us : List Lexeme) (t : Ty) → (sees (kind id) ls && sees_text ":" (drop 1 ls)) ≡ false → read_type (suc room) ls ≡ Ok (t, us) → farg_with room ls ≡ Ok (record { name = None; type = t }, us)
unfolding farg_with read_arg_name
alone_read room ls us t h k = rw (h, k) refl

named_arg : (p q : Place) (n : Name) (ls : List Lexeme) → IsName n → (sees (kind id) (token p (plain n.text) ∷ token q (closing ":") ∷ ls) && true) ≡ true
named_arg p q n ls h = rw (name_seen p n (token q (closing ":") ∷ ls) h) refl

named_read : (room : ℕ) (p q : Place) (n : Name) (ls us : List Lexeme) (t : Ty) → IsName n → read_type (suc room) ls ≡ Ok (t, us) → farg_with room (token p (plain n.text) ∷ token q (closing ":") ∷ ls) ≡ Ok (record { name = Some (record { text = n.text; at = p }); type = t }, us)
unfolding farg_with read_arg_name
named_read room p q n ls us t w k = rw (name_seen p n (token q (closing ":") ∷ ls) w, name_read p n (token q (closing ":") ∷ ls) w, k) refl

named_by : (n : Option Name) (t : Ty) → Argument
named_by n t = record { name = n; type = t }

argument_reads : (n : Option Name) (t : Ty) (room : ℕ) (ls us : List Lexeme) → IsWrittenArgument (record { name = n; type = t }) → type_depth t ≤ room → sees_text ":" us ≡ false → Spelled (argument (record { name = n; type = t })) ls us → ArgumentRead room ls us (record { name = n; type = t })
argument_reads None t room ls us w d z g =
    let a = type_reads t w.1 room ls us d g in
    record { value = record { name = None; type = a.value }; reads = alone_read room ls us a.value (type_alone t ls us z g) a.reads; same = λ i. record { name = None; type = a.same i }; unclosed = type_open t ls us w.1 g }
argument_reads (Some n) t room ls us w d z (next p (next {ls = rest} q g)) =
    let a = type_reads t w.1 room rest us d g in
    record {
      value = record { name = Some (record { text = n.text; at = p }); type = a.value };
      reads = named_read room p q n rest us a.value w.0 a.reads;
      same = λ i. record { name = Some (bare_name n); type = a.same i };
      unclosed = no_word p n (token q (closing ":") ∷ rest) (codes ")") w.0;
    }

record ArgumentItems (room : ℕ) (ls us : List Lexeme) (xs : List Argument) : Type 0 where
  pub values : List Argument
  pub reads : Items (sees (fixed (codes ","))) (λ vs. farg_with room (drop 1 vs)) ls us values
  pub same : map bare_argument values ≡ map bare_argument xs

behind_argument : (xs : List Argument) (ms us : List Lexeme) → sees_text ":" us ≡ false → Spelled (more_arguments xs) ms us → sees_text ":" ms ≡ false
behind_argument [] ms us z done = z
behind_argument (x ∷ xs) ms us z (next p g) = refl

argument_items : (xs : List Argument) (room : ℕ) (ls us : List Lexeme) → AreWrittenArguments xs → arguments_depth xs ≤ suc room → sees_text "," us ≡ false → sees_text ":" us ≡ false → Spelled (more_arguments xs) ls us → ArgumentItems room ls us xs
argument_items [] room ls us w d y z done = record { values = []; reads = stop y; same = refl }
argument_items (x ∷ xs) room ls us w d y z (next {ls = rest} p g) =
    let q = split (argument x) (more_arguments xs) g in
    let a = argument_reads x.name x.type room rest q.middle w.0 (omega (arith, d)) (behind_argument xs q.middle us z q.second) q.first in
    let b = argument_items xs room q.middle us w.1 (omega (arith, d)) y z q.second in
    record {
      values = a.value ∷ b.values;
      reads = step {x = a.value} {xs = b.values} refl a.reads (omega (arith, spelled_length q.first)) b.reads;
      same = λ i. a.same i ∷ b.same i;
    }

pub record InputsRead (room : ℕ) (ls us : List Lexeme) (xs : List Argument) : Type 0 where
  pub values : List Argument
  pub reads : inputs_with room ls ≡ Ok (values, us)
  pub same : map bare_argument values ≡ map bare_argument xs

no_inputs : (room : ℕ) (p q : Place) (us : List Lexeme) → inputs_with room (token p (opening "(") ∷ token q (closing ")") ∷ us) ≡ Ok ([], us)
unfolding inputs_with
no_inputs room p q us = refl

some_inputs : (room : ℕ) (p q : Place) (ls ms us : List Lexeme) (x : Argument) (xs : List Argument) → sees_text ")" ls ≡ false → farg_with room ls ≡ Ok (x, ms) → read_behind (fixed (codes ",")) (farg_with room) ms ≡ Ok (xs, token q (closing ")") ∷ us)
    → inputs_with room (token p (opening "(") ∷ ls) ≡ Ok (x ∷ xs, us)
unfolding inputs_with fargs_with
some_inputs room p q ls ms us x xs h k l = rw (h, k, l) refl

pub inputs_read : (xs : List Argument) (room : ℕ) (p : Place) (ls ms us : List Lexeme) → AreWrittenArguments xs → arguments_depth xs ≤ suc room → Spelled (arguments xs) ls ms → (q : Place) → ms ≡ token q (closing ")") ∷ us → InputsRead room (token p (opening "(") ∷ ls) us xs
inputs_read [] room p ls ms us w d done q e = rw e (record { values = []; reads = no_inputs room p q us; same = refl })
inputs_read (x ∷ xs) room p ls ms us w d g q e =
    let f = split (argument x) (more_arguments xs) (rw e at g) in
    let a = argument_reads x.name x.type room ls f.middle w.0 (omega (arith, d)) (behind_argument xs f.middle (token q (closing ")") ∷ us) refl f.second) f.first in
    let b = argument_items xs room f.middle (token q (closing ")") ∷ us) w.1 (omega (arith, d)) refl refl f.second in
    record {
      values = a.value ∷ b.values;
      reads = some_inputs room p q ls f.middle us a.value b.values a.unclosed a.reads (items_repeated _ _ f.middle (token q (closing ")") ∷ us) b.values b.reads);
      same = λ i. a.same i ∷ b.same i;
    }

-- parameters of procedures

record ParametersRead (room : ℕ) (ls us : List Lexeme) (gs : Groups) : Type 0 where
  pub values : List Together
  pub reads : params_with room ls ≡ Ok (values, us)
  pub same : bare_groups (groups_from values) ≡ bare_groups gs

no_parameters : (room : ℕ) (p q : Place) (us : List Lexeme) → params_with room (token p (opening "(") ∷ token q (closing ")") ∷ us) ≡ Ok ([], us)
unfolding params_with
no_parameters room p q us = refl

some_parameters : (room : ℕ) (p q : Place) (ls us : List Lexeme) (gs : List Together) → sees_text ")" ls ≡ false → groups_with room (read_inner room) ls ≡ Ok (gs, token q (closing ")") ∷ us) → params_with room (token p (opening "(") ∷ ls) ≡ Ok (gs, us)
unfolding params_with
some_parameters room p q ls us gs h k = rw (h, k) refl

group_open : (gs : Groups) (ls us : List Lexeme) → IsTrue (some_groups gs) → AreWrittenGroups gs → Spelled (groups gs) ls us → sees_text ")" ls ≡ false
group_open no_groups ls us s w g = absurd (cc)
group_open (group [] t c gs) ls us s w g = absurd (w.0)
group_open (group (n ∷ ns) t c gs) ls us s w (next {ls = rest} p g) = no_word p n rest (codes ")") (w.0.0)

parameters_closed : (gs : Groups) (room : ℕ) (p : Place) (ls ms us : List Lexeme) → IsTrue (some_groups gs) → AreWrittenGroups gs → groups_depth gs ≤ room → Spelled (groups gs) ls ms → Spelled (closing ")" ∷ []) ms us → ParametersRead room (token p (opening "(") ∷ ls) us gs
parameters_closed gs room p ls ms us s w d f (next q done) =
    let a = groups_read gs room ls (token q (closing ")") ∷ us) (each_group gs w) s d refl refl refl f in
    record { values = a.values; reads = some_parameters room p q ls us a.values (group_open gs ls _ s w f) a.reads; same = a.same }

parameters_read : (gs : Groups) (room : ℕ) (p : Place) (ls us : List Lexeme) → AreWrittenGroups gs → groups_depth gs ≤ room → Spelled (groups gs ++ closing ")" ∷ []) ls us → ParametersRead room (token p (opening "(") ∷ ls) us gs
parameters_read no_groups room p ls us w d (next q done) = record { values = []; reads = no_parameters room p q us; same = refl }
parameters_read (group ns t c gs) room p ls us w d g =
    let f = split (groups (group ns t c gs)) (closing ")" ∷ []) g in
    parameters_closed (group ns t c gs) room p ls f.middle us refl w d f.first f.second

record ResultsRead (room : ℕ) (ls us : List Lexeme) (gs : Groups) : Type 0 where
  pub values : List Together
  pub reads : results_with room ls ≡ Ok (values, us)
  pub same : bare_groups (groups_from values) ≡ bare_groups gs

no_results : (room : ℕ) (us : List Lexeme) → sees_text "returns" us ≡ false → results_with room us ≡ Ok ([], us)
unfolding results_with
no_results room us h = rw h refl

some_results : (room : ℕ) (p : Place) (ls us : List Lexeme) (gs : List Together) → params_with room ls ≡ Ok (gs, us) → results_with room (token p (word "returns") ∷ ls) ≡ Ok (gs, us)
unfolding results_with
some_results room p ls us gs h = h

results_read : (gs : Groups) (room : ℕ) (ls us : List Lexeme) → AreWrittenGroups gs → groups_depth gs ≤ room → sees_text "returns" us ≡ false → Spelled (returned gs) ls us → ResultsRead room ls us gs
results_read no_groups room ls us w d z done = record { values = []; reads = no_results room us z; same = refl }
results_read (group ns t c gs) room ls us w d z (next p (next {ls = rest} q g)) =
    let a = parameters_read (group ns t c gs) room q rest us w d g in
    record { values = a.values; reads = some_results room p _ us a.values a.reads; same = a.same }

pub record SignatureRead (room : ℕ) (ls us : List Lexeme) (s : Signature) : Type 0 where
  pub value : Signature
  pub reads : sig_with room ls ≡ Ok (value, us)
  pub same : bare_signature value ≡ bare_signature s

signature_ok : (room : ℕ) (ls ms us : List Lexeme) (gs hs : List Together) → params_with room ls ≡ Ok (gs, ms) → results_with room ms ≡ Ok (hs, us) → sig_with room ls ≡ Ok (record { ins = groups_from gs; outs = groups_from hs }, us)
unfolding sig_with
signature_ok room ls ms us gs hs h k = rw (h, k) refl

abbrev pub signature_tokens : Groups → Groups → List Glyph
signature_tokens gs hs = opening "(" ∷ (groups gs ++ closing ")" ∷ returned hs)

append_close : (gs hs : List Glyph) {ls us : List Lexeme} → Spelled (gs ++ closing ")" ∷ hs) ls us → IsSplit (gs ++ closing ")" ∷ []) hs ls us
append_close [] hs (next p g) = record { middle = _; first = next p done; second = g }
append_close (x ∷ gs) hs (next p g) =
    let r = append_close gs hs g in
    record { middle = r.middle; first = next p r.first; second = r.second }

pub signature_reads : (gs hs : Groups) (room : ℕ) (ls us : List Lexeme) → IsWrittenSignature (record { ins = gs; outs = hs }) → signature_depth (record { ins = gs; outs = hs }) ≤ suc room → sees_text "returns" us ≡ false → Spelled (signature_tokens gs hs) ls us → SignatureRead room ls us (record { ins = gs; outs = hs })
signature_reads gs hs room ls us w d z (next {ls = rest} p g) =
    let e = raised_fits (max (groups_depth gs) (groups_depth hs)) room d in
    let f = append_close (groups gs) (returned hs) g in
    let a = parameters_read gs room p rest f.middle w.0 (omega (arith, e)) f.first in
    let b = results_read hs room f.middle us w.1 (omega (arith, e)) z f.second in
    record {
      value = record { ins = groups_from a.values; outs = groups_from b.values };
      reads = signature_ok room _ f.middle us a.values b.values a.reads b.reads;
      same = λ i. record { ins = a.same i; outs = b.same i };
    }

-- specifications

abbrev pub begins_spec : List Lexeme → Bool
begins_spec us = sees_text "free" us || (sees_text "requires" us || (sees_text "ensures" us || sees_text "modifies" us))

record SpecRead (room : ℕ) (ls us : List Lexeme) (s : Spec) : Type 0 where
  pub value : Spec
  pub begins : begins_spec ls ≡ true
  pub reads : spec_with room ls ≡ Ok (value, us)
  pub same : bare_spec value ≡ bare_spec s
  pub shorter : length us < length ls

requires_read : (room : ℕ) (p : Place) (ls us : List Lexeme) (x : Expr) → formula_with (suc room) ls ≡ Ok (x, us) → spec_with room (token p (word "requires") ∷ ls) ≡ Ok (requires p false x, us)
unfolding spec_with clause_with
requires_read room p ls us x h = rw h refl

free_requires_read : (room : ℕ) (p q : Place) (ls us : List Lexeme) (x : Expr) → formula_with (suc room) ls ≡ Ok (x, us) → spec_with room (token p (word "free") ∷ token q (word "requires") ∷ ls) ≡ Ok (requires q true x, us)
unfolding spec_with clause_with
free_requires_read room p q ls us x h = rw h refl

ensures_read : (room : ℕ) (p : Place) (ls us : List Lexeme) (x : Expr) → formula_with (suc room) ls ≡ Ok (x, us) → spec_with room (token p (word "ensures") ∷ ls) ≡ Ok (ensures p false x, us)
unfolding spec_with clause_with
ensures_read room p ls us x h = rw h refl

free_ensures_read : (room : ℕ) (p q : Place) (ls us : List Lexeme) (x : Expr) → formula_with (suc room) ls ≡ Ok (x, us) → spec_with room (token p (word "free") ∷ token q (word "ensures") ∷ ls) ≡ Ok (ensures q true x, us)
unfolding spec_with clause_with
free_ensures_read room p q ls us x h = rw h refl

modifies_none : (room : ℕ) (p q : Place) (us : List Lexeme) → spec_with room (token p (word "modifies") ∷ token q (closing ";") ∷ us) ≡ Ok (modifies p [], us)
unfolding spec_with read_modifies read_some_ids
modifies_none room p q us = refl

modifies_read : (room : ℕ) (p q : Place) (ls us : List Lexeme) (ns : List Name) → sees (kind id) ls ≡ true → read_ids ls ≡ Ok (ns, token q (closing ";") ∷ us) → spec_with room (token p (word "modifies") ∷ ls) ≡ Ok (modifies p ns, us)
unfolding spec_with read_modifies read_some_ids
modifies_read room p q ls us ns h k = rw (h, k) refl

modifies_closed : (room : ℕ) (at p : Place) (n : Name) (ns : List Name) (ls ms us : List Lexeme) → SomeNames (n ∷ ns) → Spelled (names (n ∷ ns)) ls ms → Spelled semicolon ms us → SpecRead room (token p (word "modifies") ∷ ls) us (modifies at (n ∷ ns))
modifies_closed room at p n ns ls ms us w (next {ls = rest} r f) (next q done) =
    let a = names_read (n ∷ ns) (token r (plain n.text) ∷ rest) (token q (closing ";") ∷ us) w refl (next r f) in
    record { value = modifies p a.values; begins = refl; reads = modifies_read room p q _ us a.values (name_seen r n rest w.0) a.reads; same = λ i. modifies start (a.same i); shorter = omega (arith, spelled_length f) }

spec_reads : (s : Spec) (room : ℕ) (ls us : List Lexeme) → IsWrittenSpec s → spec_depth s ≤ suc room → Spelled (spec_tokens s) ls us → SpecRead room ls us s
spec_reads (requires at false x) room ls us w d (next {ls = rest} p g) =
    let a = formula_reads x (suc room) rest us w d g in
    record { value = requires p false a.value; begins = refl; reads = requires_read room p rest us a.value a.reads; same = λ i. requires start false (a.same i); shorter = omega (arith, spelled_length g) }
spec_reads (requires at true x) room ls us w d (next p (next {ls = rest} q g)) =
    let a = formula_reads x (suc room) rest us w d g in
    record { value = requires q true a.value; begins = refl; reads = free_requires_read room p q rest us a.value a.reads; same = λ i. requires start true (a.same i); shorter = omega (arith, spelled_length g) }
spec_reads (ensures at false x) room ls us w d (next {ls = rest} p g) =
    let a = formula_reads x (suc room) rest us w d g in
    record { value = ensures p false a.value; begins = refl; reads = ensures_read room p rest us a.value a.reads; same = λ i. ensures start false (a.same i); shorter = omega (arith, spelled_length g) }
spec_reads (ensures at true x) room ls us w d (next p (next {ls = rest} q g)) =
    let a = formula_reads x (suc room) rest us w d g in
    record { value = ensures q true a.value; begins = refl; reads = free_ensures_read room p q rest us a.value a.reads; same = λ i. ensures start true (a.same i); shorter = omega (arith, spelled_length g) }
spec_reads (modifies at []) room ls us w d (next p (next q done)) = record { value = modifies p []; begins = refl; reads = modifies_none room p q us; same = refl; shorter = omega arith }
spec_reads (modifies at (n ∷ ns)) room ls us w d (next {ls = rest} p g) =
    let f = split (names (n ∷ ns)) semicolon g in
    modifies_closed room at p n ns rest f.middle us w f.first f.second

pub record SpecsRead (room : ℕ) (ls us : List Lexeme) (ss : List Spec) : Type 0 where
  pub values : List Spec
  pub reads : specs_with room ls ≡ Ok (values, us)
  pub same : map bare_spec values ≡ map bare_spec ss

record SpecItems (room : ℕ) (ls us : List Lexeme) (ss : List Spec) : Type 0 where
  pub values : List Spec
  pub reads : Items begins_spec (spec_with room) ls us values
  pub same : map bare_spec values ≡ map bare_spec ss

spec_items : (ss : List Spec) (room : ℕ) (ls us : List Lexeme) → AreWrittenSpecs ss → specs_depth ss ≤ suc room → begins_spec us ≡ false → Spelled (specs_tokens ss) ls us → SpecItems room ls us ss
spec_items [] room ls us w d z done = record { values = []; reads = stop z; same = refl }
spec_items (s ∷ ss) room ls us w d z g =
    let q = split (spec_tokens s) (specs_tokens ss) g in
    let a = spec_reads s room ls q.middle w.0 (omega (arith, d)) q.first in
    let b = spec_items ss room q.middle us w.1 (omega (arith, d)) z q.second in
    record { values = a.value ∷ b.values; reads = step {x = a.value} {xs = b.values} a.begins a.reads a.shorter b.reads; same = λ i. a.same i ∷ b.same i }

specs_ok : (room : ℕ) (ls us : List Lexeme) (ss : List Spec) → repeated begins_spec (spec_with room) ls ≡ Ok (ss, us) → specs_with room ls ≡ Ok (ss, us)
unfolding specs_with
specs_ok room ls us ss h = h

pub specs_read : (ss : List Spec) (room : ℕ) (ls us : List Lexeme) → AreWrittenSpecs ss → specs_depth ss ≤ suc room → begins_spec us ≡ false → Spelled (specs_tokens ss) ls us → SpecsRead room ls us ss
specs_read ss room ls us w d z g =
    let a = spec_items ss room ls us w d z g in
    record { values = a.values; reads = specs_ok room ls us a.values (items_repeated _ _ ls us a.values a.reads); same = a.same }

-- what stands behind a signature is no semicolon, and no results
pub record IsContract (ls : List Lexeme) : Type 0 where
  pub going : sees_text ";" ls ≡ false
  pub alone : sees_text "returns" ls ≡ false

pub is_contract : (ss : List Spec) (q : Place) (ls us : List Lexeme) → Spelled (specs_tokens ss) ls (token q (word "{") ∷ us) → IsContract ls
is_contract [] q ls us done = record { going = refl; alone = refl }
is_contract (requires at false x ∷ ss) q ls us (next p g) = record { going = refl; alone = refl }
is_contract (requires at true x ∷ ss) q ls us (next p g) = record { going = refl; alone = refl }
is_contract (ensures at false x ∷ ss) q ls us (next p g) = record { going = refl; alone = refl }
is_contract (ensures at true x ∷ ss) q ls us (next p g) = record { going = refl; alone = refl }
is_contract (modifies at ns ∷ ss) q ls us (next p g) = record { going = refl; alone = refl }

-- variables

pub record VarRead (room : ℕ) (ls us : List Lexeme) (gs : Groups) : Type 0 where
  pub value : Groups
  pub reads : var_with room ls ≡ Ok (value, us)
  pub same : bare_groups value ≡ bare_groups gs
  pub shorter : length us < length ls

var_read : (room : ℕ) (p q : Place) (ls us : List Lexeme) (gs : List Together) → read_attrs room ls ≡ Ok (tt, ls) → groups_with room (read_inner room) ls ≡ Ok (gs, token q (closing ";") ∷ us) → var_with room (token p (word "var") ∷ ls) ≡ Ok (groups_from gs, us)
unfolding var_with
var_read room p q ls us gs h k = rw (h, k) refl

group_brace : (gs : Groups) (ls us : List Lexeme) → IsTrue (some_groups gs) → AreWrittenGroups gs → Spelled (groups gs) ls us → sees_text "{" ls ≡ false
group_brace no_groups ls us s w g = absurd (cc)
group_brace (group [] t c gs) ls us s w g = absurd (w.0)
group_brace (group (n ∷ ns) t c gs) ls us s w (next {ls = rest} p g) = no_word p n rest (codes "{") (w.0.0)

pub var_reads : (gs : Groups) (room : ℕ) (p : Place) (ls ms us : List Lexeme) → SomeGroups gs → groups_depth gs ≤ room → Spelled (groups gs) ls ms → (q : Place) → ms ≡ token q (closing ";") ∷ us → VarRead room (token p (word "var") ∷ ls) us gs
var_reads gs room p ls ms us w d f q e =
    let k = rw e at f in
    let a = groups_read gs room ls (token q (closing ";") ∷ us) (each_group gs w.1) w.0 d refl refl refl k in
    record { value = groups_from a.values; reads = var_read room p q ls us a.values (no_attrs room ls (group_brace gs ls _ w.0 w.1 k)) a.reads; same = a.same; shorter = omega (arith, spelled_length k) }

record LocalItems (room : ℕ) (ls us : List Lexeme) (gs : List Groups) : Type 0 where
  pub values : List Groups
  pub reads : Items (sees (fixed (codes "var"))) (var_with room) ls us values
  pub same : map bare_groups values ≡ map bare_groups gs

local_items : (gs : List Groups) (room : ℕ) (ls us : List Lexeme) → AreLocals gs → locals_depth gs ≤ room → sees_text "var" us ≡ false → Spelled (locals_tokens gs) ls us → LocalItems room ls us gs
local_items [] room ls us w d z done = record { values = []; reads = stop z; same = refl }
local_items (g ∷ gs) room ls us w d z (next {ls = rest} p h) =
    let q = split (groups g) (semicolon ++ locals_tokens gs) h in
    closed p rest q.middle q.first q.second (local_items gs room)
  where
    closed : (p : Place) (ls ms : List Lexeme) → Spelled (groups g) ls ms → Spelled (semicolon ++ locals_tokens gs) ms us
        → ((ls us : List Lexeme) → AreLocals gs → locals_depth gs ≤ room → sees_text "var" us ≡ false → Spelled (locals_tokens gs) ls us → LocalItems room ls us gs) → LocalItems room (token p (word "var") ∷ ls) us (g ∷ gs)
    closed p ls ms f (next {ls = rest} q h) more =
        let a = var_reads g room p ls (token q (closing ";") ∷ rest) rest w.0 (omega (arith, d)) f q refl in
        let b = more rest us w.1 (omega (arith, d)) z h in
        record { values = a.value ∷ b.values; reads = step {x = a.value} {xs = b.values} refl a.reads a.shorter b.reads; same = λ i. a.same i ∷ b.same i }

-- bodies

pub record BodyRead (room : ℕ) (ls us : List Lexeme) (b : Body) : Type 0 where
  pub value : Body
  pub reads : body_with room ls ≡ Ok (value, us)
  pub same : bare_body value ≡ bare_body b

body_ok : (room : ℕ) (p q : Place) (ls ms us : List Lexeme) (gs : List Groups) (ss : List Stmt) → repeated (sees (fixed (codes "var"))) (var_with room) ls ≡ Ok (gs, ms) → read_stmts (suc room) ms ≡ Ok (ss, token q (word "}") ∷ us)
    → body_with room (token p (word "{") ∷ ls) ≡ Ok (record { locals = gs; stmts = stmts_of ss }, us)
unfolding body_with vars_with
body_ok room p q ls ms us gs ss h k = rw (h, k) refl

pub body_reads : (gs : List Groups) (ss : Stmts) (room : ℕ) (ls us : List Lexeme) → AreLocals gs → EachStmt ss → body_depth (record { locals = gs; stmts = ss }) ≤ suc room → Spelled (body_tokens (record { locals = gs; stmts = ss })) ls us → BodyRead room ls us (record { locals = gs; stmts = ss })
body_reads gs ss room ls us w e d (next {ls = rest} p g) =
    let q = split (locals_tokens gs) (stmts_tokens ss ++ word "}" ∷ []) g in
    let r = split (stmts_tokens ss) (word "}" ∷ []) q.second in
    closed p rest q.middle r.middle q.first r.first r.second
  where
    closed : (p : Place) (ls ms mid : List Lexeme) → Spelled (locals_tokens gs) ls ms → Spelled (stmts_tokens ss) ms mid → Spelled (word "}" ∷ []) mid us → BodyRead room (token p (word "{") ∷ ls) us (record { locals = gs; stmts = ss })
    closed p ls ms mid f h (next q done) =
        let i = raised_fits (max (locals_depth gs) (stmts_depth ss)) room d in
        let b = stmt_items ss room ms (token q (word "}") ∷ us) e (omega (arith, i)) refl refl refl h in
        let a = local_items gs room ls ms w (omega (arith, i)) b.local f in
        record {
          value = record { locals = a.values; stmts = stmts_of b.values };
          reads = body_ok room p q ls ms us a.values b.values (items_repeated _ _ ls ms a.values a.reads) (stmts_ok room ms (token q (word "}") ∷ us) b.values b.reads);
          same = λ i. record { locals = a.same i; stmts = b.same i };
        }
