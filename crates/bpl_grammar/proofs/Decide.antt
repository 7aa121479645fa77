-- Which tokens begin and which spell a part is computed, token by token.
use Rattle.std.specs.Prelude.{◌≡◌, Bool, true, false, ◌&&◌, List, [], ◌∷◌, IsTrue, Option, Some, None}
use Rattle.std.proofs.Common.{refl, inl, inr}
use Rattle.bpl_grammar.proofs.Booleans.{and_both}
use Rattle.bpl_grammar.specs.Lexeme.{Lexeme}
use Rattle.bpl_grammar.specs.Part.{Part, some, spelled, nothing, ◌⨟◌, ◌∣◌, maybe, many, inside, longest, Rule, rule, program, decl, var, groups, group, ids, farg, sig, spec, body, block, stmt, lhs, guard, if_stmt, inv, type, tpar, attr, arg, e, imp, log, rel, sum, prod, un, post, es, atom, trig}
use Rattle.bpl_grammar.specs.Spelling.{Spells, Begins, none}
use Rattle.bpl_grammar.specs.Derivative.{left_of, empties, enough, enough_rule, empties_rule}
use Rattle.bpl_grammar.proofs.Sound.{TakesLeft, BeginsLeft, takes_sound, begins_sound, empty_sound, empty_rule_sound}
use Rattle.bpl_grammar.proofs.Complete.{IsCut, IsBegun, takes_complete, begins_complete}

-- twelve expansions come from every production to a first token
pub ranked : (r : Rule) → IsTrue (enough_rule 12 r)
ranked program = refl
ranked decl = refl
ranked var = refl
ranked groups = refl
ranked group = refl
ranked ids = refl
ranked farg = refl
ranked sig = refl
ranked spec = refl
ranked body = refl
ranked block = refl
ranked stmt = refl
ranked lhs = refl
ranked guard = refl
ranked if_stmt = refl
ranked inv = refl
ranked type = refl
ranked tpar = refl
ranked attr = refl
ranked arg = refl
ranked e = refl
ranked imp = refl
ranked log = refl
ranked rel = refl
ranked sum = refl
ranked prod = refl
ranked un = refl
ranked post = refl
ranked es = refl
ranked atom = refl
ranked trig = refl

enough_then : (a b c : Bool) → IsTrue c → IsTrue b → IsTrue (c && elim a [ true ↦ b | false ↦ true ])
enough_then a b false h k = absurd (cc)
enough_then true b true h k = k
enough_then false b true h k = refl

pub always : (p : Part) → IsTrue (enough 12 p)
always (some k) = refl
always (spelled w) = refl
always nothing = refl
always (p ⨟ q) = enough_then (empties 12 p) (enough 12 q) (enough 12 p) (always p) (always q)
always (p ∣ q) = and_both (enough 12 p) (enough 12 q) (always p) (always q)
always (maybe p) = always p
always (many p) = always p
always (inside p) = always p
always (longest p) = always p
always (rule r) = ranked r

-- whether the tokens begin the part
abbrev pub begins : List Lexeme → Part → Bool
begins [] p = true
begins (t ∷ ts) p = elim (left_of t p) [ Some q ↦ begins ts q | None ↦ false ]

-- whether they spell it
abbrev pub spells : List Lexeme → Part → Bool
spells [] p = empties 12 p
spells (t ∷ ts) p = elim (left_of t p) [ Some q ↦ spells ts q | None ↦ false ]

begun_some : (o : Option Part) (ts : List Lexeme) → ((q : Part) → IsTrue (begins ts q) → Begins q ts) → IsTrue (elim o [ Some q ↦ begins ts q | None ↦ false ]) → BeginsLeft o ts
begun_some None ts ih h = absurd (cc)
begun_some (Some q) ts ih h = ih q h

pub begins_right : (ts : List Lexeme) (p : Part) → IsTrue (begins ts p) → Begins p ts
begins_right [] p h = none
begins_right (t ∷ ts) p h = begins_sound 12 t p ts (begun_some (left_of t p) ts (begins_right ts) h)

some_begun : (o : Option Part) (ts : List Lexeme) → ((q : Part) → Begins q ts → IsTrue (begins ts q)) → BeginsLeft o ts → IsTrue (elim o [ Some q ↦ begins ts q | None ↦ false ])
some_begun None ts ih h = absurd h
some_begun (Some q) ts ih h = ih q h

pub begun_cons : (t : Lexeme) (ts : List Lexeme) (p : Part) → IsBegun 12 p (t ∷ ts) → BeginsLeft (left_of t p) ts
begun_cons t ts p (inl h) = absurd (cc)
begun_cons t ts p (inr h) =
    let same : t ≡ h.0 = cc in
    let rest : ts ≡ h.1 = cc in
    rw (same, rest) h.3

pub begins_found : (ts : List Lexeme) (p : Part) → Begins p ts → IsTrue (begins ts p)
begins_found [] p b = refl
begins_found (t ∷ ts) p b = some_begun (left_of t p) ts (begins_found ts) (begun_cons t ts p (begins_complete 12 b (always p)))

spelt_some : (o : Option Part) (ts : List Lexeme) → ((q : Part) → IsTrue (spells ts q) → Spells q ts) → IsTrue (elim o [ Some q ↦ spells ts q | None ↦ false ]) → TakesLeft o ts []
spelt_some None ts ih h = absurd (cc)
spelt_some (Some q) ts ih h = ih q h

pub spells_right : (ts : List Lexeme) (p : Part) → IsTrue (spells ts p) → Spells p ts
spells_right [] p h = empty_sound (empties_rule 12) (empty_rule_sound 12) p h []
spells_right (t ∷ ts) p h = takes_sound 12 t p ts [] (spelt_some (left_of t p) ts (spells_right ts) h)

some_spelt : (o : Option Part) (ts : List Lexeme) → ((q : Part) → Spells q ts → IsTrue (spells ts q)) → TakesLeft o ts [] → IsTrue (elim o [ Some q ↦ spells ts q | None ↦ false ])
some_spelt None ts ih h = absurd h
some_spelt (Some q) ts ih h = ih q h

pub cut_nil : (p : Part) → IsCut 12 p [] [] → IsTrue (empties 12 p)
cut_nil p (inl h) = h.1
cut_nil p (inr h) = absurd (cc (h.2))

pub cut_cons : (t : Lexeme) (ts : List Lexeme) (p : Part) → IsCut 12 p (t ∷ ts) [] → TakesLeft (left_of t p) ts []
cut_cons t ts p (inl h) = absurd (cc (h.0))
cut_cons t ts p (inr h) =
    let same : t ≡ h.0 = cc (h.2) in
    let rest : ts ≡ h.1 = cc (h.2) in
    rw (same, rest) h.3

pub spells_found : (ts : List Lexeme) (p : Part) → Spells p ts → IsTrue (spells ts p)
spells_found [] p d = cut_nil p (takes_complete 12 d (always p))
spells_found (t ∷ ts) p d = some_spelt (left_of t p) ts (spells_found ts) (cut_cons t ts p (takes_complete 12 d (always p)))
