-- Groups of names, triggers and quantifiers are read back.
use Rattle.std.specs.Prelude.{◌≡◌, ℕ, zero, suc, ◌<◌, ◌≤◌, false, codes, List, [], ◌∷◌, ◌++◌, map, drop, length, IsTrue, Ok, Option, Some, None}
use Rattle.std.proofs.Common.{refl, ap, arith}
use Rattle.bv_base.specs.declared.place.Place.{Place}
use Rattle.bpl_ast.specs.Place.{Name, Params, Ty}
use Rattle.bpl_ast.specs.Tree.{Quantifier, for_all, exists, Expr, expr, Node, quantified, no_exprs, item, Triggers, no_triggers, trigger, Groups, no_groups, group, Clause, no_clause, clause}
use Rattle.canonical_text.specs.declared.level.Level.TheVariants.{Equivalence, Atom}
use Rattle.canonical_text.specs.Glyph.{Glyph, plain, word, opening, closing}
use Rattle.canonical_text.specs.Expression.{names, params, type, quantifier, operand, listed as listed_tokens, groups, more_groups, triggers, where_clause}
use Rattle.bpl_grammar.specs.Lexeme.{Lexeme}
use Rattle.bpl_grammar.specs.Terminal.{fixed, sees}
use Rattle.bpl_grammar.specs.Reading.{read_behind, listed, repeated, read_ids}
use Rattle.bpl_grammar.specs.ReadTypes.{read_params, type_with, read_type}
use Rattle.bpl_grammar.specs.ReadExpressions.{Together, groups_from, Patterns, triggers_from, kept, read_inner, whole, e_with, group_with, groups_with, trig_with, mark_with, marks_with, bound_with, inside_with, enclosed_with, atom_with}
use Rattle.canonical_text.specs.Same.{start, bare_names, bare_type, bare_groups, bare_clause, bare_triggers}
use Rattle.canonical_text.specs.WrittenExpression.{IsName, SomeNames, AreParams, some_exprs, some_groups}
use Rattle.canonical_text.specs.Nestings.{type_depth, operand_depth, groups_depth, clause_depth, triggers_depth}
use Rattle.canonical_text.specs.Spelled.{token, Spelled, done, next}
use Rattle.canonical_text.specs.Ahead.{sees_text, ahead}
use Rattle.canonical_text.proofs.Parts.{split, spelled_length, Items, stop, step, items_repeated}
use Rattle.canonical_text.proofs.Levels.{ReadsAt, is_unbarred}
use Rattle.canonical_text.proofs.Operands.{OperandReads, NodeReads}
use Rattle.canonical_text.proofs.RunReads.{EachReads}
use Rattle.canonical_text.proofs.TypeReads.{NamesRead, names_read, ParamsRead, params_read, TypeRead, TypeReads}
use Rattle.canonical_text.proofs.AtomReads.{list_reads}

-- a where clause

abbrev pub ClauseReads : Clause → Type 0
ClauseReads no_clause = Unit {0}
ClauseReads (clause p x) = OperandReads x

-- names, a type and a clause
abbrev pub GroupReads : List Name → Ty → Clause → Type 0
GroupReads ns t c = SomeNames ns × TypeReads t × ClauseReads c

abbrev pub EachGroup : Groups → Type 0
EachGroup no_groups = Unit {0}
EachGroup (group ns t c gs) = SomeNames ns × TypeReads t × ClauseReads c × EachGroup gs

abbrev bare_together : Together → Groups
bare_together g = group (bare_names g.names) (bare_type g.of) (bare_clause g.condition) no_groups

pub record GroupRead (room : ℕ) (ls us : List Lexeme) (ns : List Name) (t : Ty) (c : Clause) : Type 0 where
  pub value : Together
  pub reads : group_with room (read_inner room) ls ≡ Ok (value, us)
  pub same_names : bare_names value.names ≡ bare_names ns
  pub same_type : bare_type value.of ≡ bare_type t
  pub same_clause : bare_clause value.condition ≡ bare_clause c

plain_read : (room : ℕ) (p : Place) (ls ms us : List Lexeme) (ns : List Name) (t : Ty) → read_ids ls ≡ Ok (ns, token p (closing ":") ∷ ms) → read_type (suc room) ms ≡ Ok (t, us) → sees_text "where" us ≡ false
    → group_with room (read_inner room) ls ≡ Ok (record { names = ns; of = t; condition = no_clause }, us)
unfolding group_with
plain_read room p ls ms us ns t h k z = rw (h, k, z) refl

guarded_read : (room : ℕ) (p q : Place) (ls ms rest us : List Lexeme) (ns : List Name) (t : Ty) (x : Expr) → read_ids ls ≡ Ok (ns, token p (closing ":") ∷ ms) → read_type (suc room) ms ≡ Ok (t, token q (word "where") ∷ rest) → e_with room (read_inner room) rest ≡ Ok (x, us)
    → group_with room (read_inner room) ls ≡ Ok (record { names = ns; of = t; condition = clause q x }, us)
unfolding group_with
guarded_read room p q ls ms rest us ns t x h k l = rw (h, k, l) refl

clause_read : (room : ℕ) (p : Place) (ls ms mid us : List Lexeme) (ns : List Name) (t : Ty) (c : Clause) → NamesRead ls (token p (closing ":") ∷ ms) ns → TypeRead (type_with (read_type room)) ms mid t → ClauseReads c → clause_depth c ≤ room
    → sees_text "where" us ≡ false → IsTrue (ahead None us) → Spelled (where_clause c) mid us → GroupRead room ls us ns t c
clause_read room p ls ms mid us ns t no_clause a b r d z k done = record {
  value = record { names = a.values; of = b.value; condition = no_clause };
  reads = plain_read room p ls ms us a.values b.value a.reads b.reads z;
  same_names = a.same;
  same_type = b.same;
  same_clause = refl;
}
clause_read room p ls ms mid us ns t (clause o x) a b r d z k (next {ls = rest} q g) =
    let e = r Equivalence None room rest us d refl k g in
    record {
      value = record { names = a.values; of = b.value; condition = clause q e.value };
      reads = guarded_read room p q ls ms rest us a.values b.value e.value a.reads b.reads e.reads;
      same_names = a.same;
      same_type = b.same;
      same_clause = λ i. clause start (e.same i);
    }

pub group_reads : (room : ℕ) (ls us : List Lexeme) (ns : List Name) (t : Ty) (c : Clause) (after : List Glyph) → GroupReads ns t c → type_depth t ≤ room → clause_depth c ≤ room → ((mid : List Lexeme) → Spelled after mid us → (sees_text "where" mid ≡ false) × IsTrue (ahead None mid))
    → Spelled (names ns ++ closing ":" ∷ (type t ++ (where_clause c ++ after))) ls us → (mid : List Lexeme) × GroupRead room ls mid ns t c × Spelled after mid us × (length mid < length ls)
group_reads room ls us ns t c after r d e f g =
    let q = split (names ns) (closing ":" ∷ (type t ++ (where_clause c ++ after))) g in
    typed q.middle q.first q.second
  where
    typed : (mid : List Lexeme) → Spelled (names ns) ls mid → Spelled (closing ":" ∷ (type t ++ (where_clause c ++ after))) mid us → (mid : List Lexeme) × GroupRead room ls mid ns t c × Spelled after mid us × (length mid < length ls)
    typed mid fn (next {ls = rest} p g) =
        let w = split (type t) (where_clause c ++ after) g in
        let v = split (where_clause c) after w.second in
        let k = f v.middle v.second in (
          v.middle,
          clause_read room p ls rest w.middle v.middle ns t c (names_read ns ls (token p (closing ":") ∷ rest) r.0 refl fn) (r.1 room rest w.middle d w.first) r.2 e k.0 k.1 v.first,
          v.second,
          omega (arith, spelled_length fn, spelled_length w.first, spelled_length v.first),
        )

pub record GroupItems (room : ℕ) (ls us : List Lexeme) (gs : Groups) : Type 0 where
  pub values : List Together
  pub reads : Items (sees (fixed (codes ","))) (λ vs. group_with room (read_inner room) (drop 1 vs)) ls us values
  pub same : bare_groups (groups_from values) ≡ bare_groups gs

pub record GroupsRead (room : ℕ) (ls us : List Lexeme) (gs : Groups) : Type 0 where
  pub values : List Together
  pub reads : groups_with room (read_inner room) ls ≡ Ok (values, us)
  pub same : bare_groups (groups_from values) ≡ bare_groups gs

behind_group : (gs : Groups) (us : List Lexeme) → sees_text "where" us ≡ false → IsTrue (ahead None us) → (mid : List Lexeme) → Spelled (more_groups gs) mid us → (sees_text "where" mid ≡ false) × IsTrue (ahead None mid)
behind_group no_groups us z k mid done = (z, k)
behind_group (group ns t c gs) us z k mid (next p g) = (refl, refl)

group_items : (gs : Groups) (room : ℕ) (ls us : List Lexeme) → EachGroup gs → groups_depth gs ≤ room → sees_text "," us ≡ false → sees_text "where" us ≡ false → IsTrue (ahead None us) → Spelled (more_groups gs) ls us → GroupItems room ls us gs
group_items no_groups room ls us e d y z k done = record { values = []; reads = stop y; same = refl }
group_items (group ns t c gs) room ls us e d y z k (next {ls = rest} p g) =
    let a = group_reads room rest us ns t c (more_groups gs) (e.0, e.1, e.2) (omega (arith, d)) (omega (arith, d)) (behind_group gs us z k) g in
    let b = group_items gs room a.0 us e.3 (omega (arith, d)) y z k a.2 in
    record {
      values = a.1.value ∷ b.values;
      reads = step {ms = a.0} {x = a.1.value} {xs = b.values} refl a.1.reads (omega (arith, a.3)) b.reads;
      same = λ i. group (a.1.same_names i) (a.1.same_type i) (a.1.same_clause i) (b.same i);
    }

groups_ok : (room : ℕ) (ls ms us : List Lexeme) (x : Together) (zs : List Together) → group_with room (read_inner room) ls ≡ Ok (x, ms) → read_behind (fixed (codes ",")) (group_with room (read_inner room)) ms ≡ Ok (zs, us) → groups_with room (read_inner room) ls ≡ Ok (x ∷ zs, us)
unfolding groups_with
groups_ok room ls ms us x zs h k = rw (h, k) refl

pub groups_read : (gs : Groups) (room : ℕ) (ls us : List Lexeme) → EachGroup gs → IsTrue (some_groups gs) → groups_depth gs ≤ room → sees_text "," us ≡ false → sees_text "where" us ≡ false → IsTrue (ahead None us) → Spelled (groups gs) ls us → GroupsRead room ls us gs
groups_read no_groups room ls us e s d y z k g = absurd (cc)
groups_read (group ns t c gs) room ls us e s d y z k g =
    let a = group_reads room ls us ns t c (more_groups gs) (e.0, e.1, e.2) (omega (arith, d)) (omega (arith, d)) (behind_group gs us z k) g in
    let b = group_items gs room a.0 us e.3 (omega (arith, d)) y z k a.2 in
    record {
      values = a.1.value ∷ b.values;
      reads = groups_ok room ls a.0 us a.1.value b.values a.1.reads (items_repeated _ _ a.0 us b.values b.reads);
      same = λ i. group (a.1.same_names i) (a.1.same_type i) (a.1.same_clause i) (b.same i);
    }

-- triggers

abbrev pub EachTrigger : Triggers → Type 0
EachTrigger no_triggers = Unit {0}
EachTrigger (trigger p xs rs) = IsTrue (some_exprs xs) × EachReads xs × EachTrigger rs

record TriggerItems (room : ℕ) (ls us : List Lexeme) (rs : Triggers) : Type 0 where
  pub values : List Patterns
  pub reads : Items (sees (fixed (codes "{"))) (mark_with room (read_inner room)) ls us (map Some values)
  pub same : bare_triggers (triggers_from values) ≡ bare_triggers rs

mark_read : (room : ℕ) (p q : Place) (ls us : List Lexeme) (xs : List Expr) → sees_text ":" ls ≡ false → listed (read_inner room whole) ls ≡ Ok (xs, token q (word "}") ∷ us) → mark_with room (read_inner room) (token p (word "{") ∷ ls) ≡ Ok (Some (record { at = p; patterns = xs }), us)
unfolding mark_with trig_with
mark_read room p q ls us xs z h = rw (z, h) refl

trigger_items : (rs : Triggers) (room : ℕ) (ls us : List Lexeme) → EachTrigger rs → triggers_depth rs ≤ room → sees_text "{" us ≡ false → Spelled (triggers rs) ls us → TriggerItems room ls us rs
trigger_items no_triggers room ls us e d z done = record { values = []; reads = stop z; same = refl }
trigger_items (trigger p no_exprs rs) room ls us e d z g = absurd (cc (e.0))
trigger_items (trigger o (item x xs) rs) room ls us e d z (next {ls = rest} p g) =
    let q = split (listed_tokens (item x xs)) (word "}" ∷ triggers rs) g in
    closed p rest q.middle q.first q.second (trigger_items rs room)
  where
    closed : (p : Place) (ls mid : List Lexeme) → Spelled (listed_tokens (item x xs)) ls mid → Spelled (word "}" ∷ triggers rs) mid us
        → ((ls us : List Lexeme) → EachTrigger rs → triggers_depth rs ≤ room → sees_text "{" us ≡ false → Spelled (triggers rs) ls us → TriggerItems room ls us rs) → TriggerItems room (token p (word "{") ∷ ls) us (trigger o (item x xs) rs)
    closed p ls mid f (next {ls = rest} q g) more =
        let a = list_reads x xs room ls (token q (word "}") ∷ rest) e.1 (omega (arith, d)) refl refl f in
        let b = more rest us e.2 (omega (arith, d)) z g in
        record {
          values = record { at = p; patterns = a.values } ∷ b.values;
          reads = step {x = Some (record { at = p; patterns = a.values })} {xs = map Some b.values} refl (mark_read room p q ls rest a.values (is_unbarred ls a.unbarred).typed a.reads) (omega (arith, spelled_length f)) b.reads;
          same = λ i. trigger start (a.same i) (b.same i);
        }

all_kept : {A : Type 0} (xs : List A) → kept (map Some xs) ≡ xs
all_kept [] = refl
all_kept (x ∷ xs) = λ i. x ∷ all_kept xs i

pub record TriggersRead (room : ℕ) (ls us : List Lexeme) (rs : Triggers) : Type 0 where
  pub values : List Patterns
  pub reads : marks_with room (read_inner room) ls ≡ Ok (values, us)
  pub same : bare_triggers (triggers_from values) ≡ bare_triggers rs

marks_ok : (room : ℕ) (ls us : List Lexeme) (ts : List Patterns) → repeated (sees (fixed (codes "{"))) (mark_with room (read_inner room)) ls ≡ Ok (map Some ts, us) → marks_with room (read_inner room) ls ≡ Ok (ts, us)
unfolding marks_with
marks_ok room ls us ts h = rw h (ap (λ vs. Ok (vs, us)) (all_kept ts))

triggers_read : (rs : Triggers) (room : ℕ) (ls us : List Lexeme) → EachTrigger rs → triggers_depth rs ≤ room → sees_text "{" us ≡ false → Spelled (triggers rs) ls us → TriggersRead room ls us rs
triggers_read rs room ls us e d z g =
    let b = trigger_items rs room ls us e d z g in
    record { values = b.values; reads = marks_ok room ls us b.values (items_repeated _ _ ls us (map Some b.values) b.reads); same = b.same }

-- quantifiers

bound_read : (room : ℕ) (o : Quantifier) (p z : Place) (ls ms ns body us : List Lexeme) (ps : Option Params) (gs : List Together) (rs : List Patterns) (x : Expr) → read_params ls ≡ Ok (ps, ms) → groups_with room (read_inner room) ms ≡ Ok (gs, token z (word "::") ∷ ns)
    → marks_with room (read_inner room) ns ≡ Ok (rs, body) → e_with room (read_inner room) body ≡ Ok (x, us) → bound_with room (read_inner room) o p ls ≡ Ok (expr p (quantified o p ps (groups_from gs) (triggers_from rs) x), us)
unfolding bound_with
bound_read room o p z ls ms ns body us ps gs rs x h k l m = rw (h, k, l, m) refl

inside_read : (room : ℕ) (o : Quantifier) (p q : Place) (ls : List Lexeme) → inside_with room (read_inner room) p (token q (quantifier o) ∷ ls) ≡ bound_with room (read_inner room) o p ls
unfolding inside_with
inside_read room for_all p q ls = refl
inside_read room exists p q ls = refl

quantified_read : (room : ℕ) (o : Quantifier) (p q z : Place) (ls us : List Lexeme) (n : Node) → bound_with room (read_inner room) o p ls ≡ Ok (expr p n, token z (closing ")") ∷ us) → atom_with (suc room) (read_inner (suc room)) (token p (opening "(") ∷ token q (quantifier o) ∷ ls) ≡ Ok (expr p n, us)
unfolding atom_with enclosed_with
quantified_read room o p q z ls us n h = rw (inside_read room o p q ls, h) refl

record Body (room : ℕ) (ls us : List Lexeme) (gs : Groups) (rs : Triggers) (x : Expr) : Type 0 where
  pub place : Place
  pub marks : List Lexeme
  pub body : List Lexeme
  pub groups : GroupsRead room ls (token place (word "::") ∷ marks) gs
  pub triggers : TriggersRead room marks body rs
  pub range : ReadsAt Equivalence room body us x

quantified_by : (room : ℕ) (o : Quantifier) (at p q z : Place) (ps : Option Params) (gs : Groups) (rs : Triggers) (x : Expr) (ls ms us : List Lexeme) → ParamsRead ls ms ps → Body room ms (token z (closing ")") ∷ us) gs rs x
    → ReadsAt Atom (suc room) (token p (opening "(") ∷ token q (quantifier o) ∷ ls) us (expr start (quantified o at ps gs rs x))
quantified_by room o at p q z ps gs rs x ls ms us a b = record {
  value = expr p (quantified o p a.value (groups_from b.groups.values) (triggers_from b.triggers.values) b.range.value);
  reads = quantified_read room o p q z ls us _ (bound_read room o p b.place ls ms b.marks b.body (token z (closing ")") ∷ us) a.value b.groups.values b.triggers.values b.range.value a.reads b.groups.reads b.triggers.reads b.range.reads);
  same = λ i. expr start (quantified o start (a.same i) (b.groups.same i) (b.triggers.same i) (b.range.same i));
  unsigned = λ h. refl;
  unbarred = refl;
}

module _ (room : ℕ) (gs : Groups) (rs : Triggers) (x : Expr) (eg : EachGroup gs) (sg : IsTrue (some_groups gs)) (er : EachTrigger rs) (rx : OperandReads x) (dg : groups_depth gs ≤ room) (dr : triggers_depth rs ≤ room) (dx : operand_depth Equivalence None x ≤ room) (us : List Lexeme) (z : Place) where
  range_body : (p : Place) (ls ms body : List Lexeme) → Spelled (groups gs) ls (token p (word "::") ∷ ms) → Spelled (triggers rs) ms body → Spelled (operand Equivalence None x) body (token z (closing ")") ∷ us) → Body room ls (token z (closing ")") ∷ us) gs rs x
  range_body p ls ms body fg fr fx =
      let c = rx Equivalence None room body (token z (closing ")") ∷ us) dx refl refl fx in
      record {
        place = p;
        marks = ms;
        body = body;
        groups = groups_read gs room ls (token p (word "::") ∷ ms) eg sg dg refl refl refl fg;
        triggers = triggers_read rs room ms body er dr (is_unbarred body c.unbarred).brace fr;
        range = c;
      }

abbrev rest_tokens : Groups → Triggers → Expr → List Glyph
rest_tokens gs rs x = word "::" ∷ (triggers rs ++ (operand Equivalence None x ++ closing ")" ∷ []))

record Ending (ms us : List Lexeme) (rs : Triggers) (x : Expr) : Type 0 where
  pub middle : List Lexeme
  pub place : Place
  pub triggers : Spelled (triggers rs) ms middle
  pub range : Spelled (operand Equivalence None x) middle (token place (closing ")") ∷ us)

last_token : (x : Expr) (rs : Triggers) (ms middle end us : List Lexeme) → Spelled (triggers rs) ms middle → Spelled (operand Equivalence None x) middle end → Spelled (closing ")" ∷ []) end us → Ending ms us rs x
last_token x rs ms middle end us fr fx (next z done) = record { middle = middle; place = z; triggers = fr; range = fx }

ending : (rs : Triggers) (x : Expr) (ms us : List Lexeme) → Spelled (triggers rs ++ (operand Equivalence None x ++ closing ")" ∷ [])) ms us → Ending ms us rs x
ending rs x ms us g =
    let a = split (triggers rs) (operand Equivalence None x ++ closing ")" ∷ []) g in
    let b = split (operand Equivalence None x) (closing ")" ∷ []) a.second in
    last_token x rs ms a.middle b.middle us a.first b.first b.second

-- behind the type parameters, which end before a name
starts_names : (gs : Groups) (after : List Glyph) (ms us : List Lexeme) → IsTrue (some_groups gs) → EachGroup gs → Spelled (groups gs ++ after) ms us → sees_text "<" ms ≡ false
starts_names no_groups after ms us s e g = absurd (cc)
starts_names (group [] t c gs) after ms us s e g = absurd (e.0)
starts_names (group (n ∷ ns) t c gs) after ms us s e (next {ls = rest} p g) = name_no p n rest (e.0.0)
  where
    name_no : (p : Place) (n : Name) (rest : List Lexeme) → IsName n → sees_text "<" (token p (plain n.text) ∷ rest) ≡ false
    name_no p n rest h = rw h refl

pub quantified_reads : (o : Quantifier) (at : Place) (ps : Option Params) (gs : Groups) (rs : Triggers) (x : Expr) → AreParams ps → IsTrue (some_groups gs) → EachGroup gs → EachTrigger rs → OperandReads x → NodeReads (quantified o at ps gs rs x)
quantified_reads o at ps gs rs x a sg eg er rx s zero ls us d c h k g = absurd (omega arith)
quantified_reads o at ps gs rs x a sg eg er rx s (suc room) ls us d c h k (next p (next {ls = rest} q g)) =
    let f = split (params ps) (groups gs ++ rest_tokens gs rs x) g in
    let w = split (groups gs) (rest_tokens gs rs x) f.second in
    closed p q rest f.middle w.middle f.first (starts_names gs (rest_tokens gs rs x) f.middle us sg eg f.second) w.first w.second
  where
    closed : (p q : Place) (ls ms mid : List Lexeme) → Spelled (params ps) ls ms → sees_text "<" ms ≡ false → Spelled (groups gs) ms mid → Spelled (rest_tokens gs rs x) mid us → ReadsAt Atom (suc room) (token p (opening "(") ∷ token q (quantifier o) ∷ ls) us (expr start (quantified o at ps gs rs x))
    closed p q ls ms mid fp np fg (next {ls = marks} r g) =
        let e = ending rs x marks us g in
        quantified_by room o at p q e.place ps gs rs x ls ms us (params_read ps ls ms a np fp)
        (range_body room gs rs x eg sg er rx (omega (arith, d)) (omega (arith, d)) (omega (arith, d)) us e.place r ms marks e.middle fg e.triggers e.range)
