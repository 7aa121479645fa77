-- Names and types fit the grammar.
use Rattle.std.specs.Prelude.{ℕ, suc, max, List, [], ◌∷◌, ◌++◌, IsTrue, Option, Some, None, codes}
use Rattle.std.proofs.Common.{refl, subst, arith, append_assoc}
use Rattle.bv_base.specs.declared.place.Place.{Place}
use Rattle.bpl_lex.specs.Token.{id}
use Rattle.bpl_ast.specs.Place.{Name, Params, Ty, integer, boolean, named, map_type, Tys, no_tys, ty}
use Rattle.canonical_text.specs.Glyph.{Glyph, plain, word, opening, closing, prefix}
use Rattle.canonical_text.specs.Expression.{more_names, names, params, type, types, more_types}
use Rattle.bpl_grammar.specs.Lexeme.{reads}
use Rattle.bpl_grammar.specs.Part.{Part, some, spelled, ◌⨟◌, maybe, many, inside, rule, ids, tpar, type as type_rule}
use Rattle.bpl_grammar.specs.Grammar.{the, listed, round, square}
use Rattle.canonical_text.specs.WrittenExpression.{IsName, AreNames, SomeNames, AreParams, some_types, IsWrittenType, AreWrittenTypes}
use Rattle.canonical_text.specs.Nestings.{type_depth, types_depth}
use Rattle.canonical_text.specs.Spelled.{token}
use Rattle.canonical_text.proofs.Fitting.{Fit, Slack, slack_none, slack_absent, fit_less, slack_less, fit_left, fit_right, fit_present, fit_inside, fit_by, fit_text, fit_kind, seq, seq_fits, slack_fits, once_more, loosely}

pub fit_name : (n : Name) → IsName n → Fit (some id) (plain n.text ∷ []) 0
fit_name n w = fit_kind (plain n.text) id (λ p. rw w refl)

-- of what is called
pub fit_called : (n : Name) → IsName n → Fit (some id) (prefix n.text ∷ []) 0
fit_called n w = fit_kind (prefix n.text) id (λ p. rw w refl)

pub slack_more_names : (ns : List Name) → AreNames ns → Slack (many (the "," ⨟ some id)) (more_names ns) 0
slack_more_names [] w = slack_none (the "," ⨟ some id)
slack_more_names (n ∷ ns) w = once_more (seq_fits (fit_text (closing ",") (codes ",") (λ p. refl)) (fit_name n w.0)) (slack_more_names ns w.1)

pub fit_names : (ns : List Name) → SomeNames ns → Fit (rule ids) (names ns) 0
fit_names [] w = absurd w
fit_names (n ∷ ns) w = fit_by ids (names (n ∷ ns)) 0 (seq (fit_name n w.0) (slack_more_names ns w.1))

pub slack_params : (ps : Option Params) → AreParams ps → Slack (maybe (rule tpar)) (params ps) 0
slack_params None w = slack_absent (rule tpar)
slack_params (Some ps) w =
    loosely (fit_present (rule tpar) (params (Some ps)) 0 (fit_by tpar (params (Some ps)) 0 (seq_fits (fit_text (word "<") (codes "<") (λ p. refl)) (seq_fits (fit_names ps.names w) (fit_text (word ">") (codes ">") (λ p. refl))))))

-- in brackets

pub fit_bracketed : (o c : Glyph) (w v : List ℕ) → ((q : Place) → IsTrue (reads w (token q o))) → ((q : Place) → IsTrue (reads v (token q c))) → (p : Part) (gs : List Glyph) (d : ℕ) → Fit p gs d → Fit (spelled w ⨟ inside p ⨟ spelled v) (o ∷ (gs ++ c ∷ [])) (suc d)
fit_bracketed o c w v h k p gs d f =
    fit_less (spelled w ⨟ inside p ⨟ spelled v) (o ∷ (gs ++ c ∷ [])) (max 0 (max (suc d) 0)) (suc d) (omega arith)
    (seq_fits (fit_text o w h) (seq_fits (fit_inside p gs d f) (fit_text c v k)))

-- and more behind them
pub bracketed_then : (o c : Glyph) (w v : List ℕ) → ((q : Place) → IsTrue (reads w (token q o))) → ((q : Place) → IsTrue (reads v (token q c))) → (p q : Part) (gs hs : List Glyph) (d b : ℕ) → Fit p gs d → Slack q hs b
    → Fit ((spelled w ⨟ inside p ⨟ spelled v) ⨟ q) (o ∷ (gs ++ c ∷ hs)) (max (suc d) b)
bracketed_then o c w v h k p q gs hs d b f g =
    subst (λ x. Fit ((spelled w ⨟ inside p ⨟ spelled v) ⨟ q) (o ∷ x) (max (suc d) b)) (append_assoc gs (c ∷ []) hs) (seq (fit_bracketed o c w v h k p gs d f) g)

pub fit_round : (p : Part) (gs : List Glyph) (d : ℕ) → Fit p gs d → Fit (round p) (opening "(" ∷ (gs ++ closing ")" ∷ [])) (suc d)
fit_round p gs d f = fit_bracketed (opening "(") (closing ")") (codes "(") (codes ")") (λ q. refl) (λ q. refl) p gs d f

pub round_then : (p q : Part) (gs hs : List Glyph) (d b : ℕ) → Fit p gs d → Slack q hs b → Fit (round p ⨟ q) (opening "(" ∷ (gs ++ closing ")" ∷ hs)) (max (suc d) b)
round_then p q gs hs d b f g = bracketed_then (opening "(") (closing ")") (codes "(") (codes ")") (λ q. refl) (λ q. refl) p q gs hs d b f g

-- types

mutual
  pub fit_type : (t : Ty) → IsWrittenType t → Fit (rule type_rule) (type t) (type_depth t)
  fit_type (integer p) w = fit_by type_rule (word "int" ∷ []) 0 (fit_left (the "int") _ (word "int" ∷ []) 0 (fit_text (word "int") (codes "int") (λ q. refl)))
  fit_type (boolean p) w = fit_by type_rule (word "bool" ∷ []) 0 (fit_right (the "int") _ (word "bool" ∷ []) 0 (fit_left (the "bool") _ (word "bool" ∷ []) 0 (fit_text (word "bool") (codes "bool") (λ q. refl))))
  fit_type (named p n) w = fit_by type_rule (plain n.text ∷ []) 0 (fit_right (the "int") _ _ 0 (fit_right (the "bool") _ _ 0 (fit_left (some id) _ _ 0 (fit_name n w))))
  fit_type (map_type p ps ds r) w =
      fit_by type_rule (type (map_type p ps ds r)) (type_depth (map_type p ps ds r))
      (fit_right (the "int") _ _ _ (fit_right (the "bool") _ _ _ (fit_right (some id) _ _ _ (fit_right (round (rule type_rule)) _ _ _
      (fit_less (maybe (rule tpar) ⨟ square (listed (rule type_rule)) ⨟ inside (rule type_rule)) (type (map_type p ps ds r)) (max 0 (max (suc (types_depth ds)) (suc (type_depth r)))) (suc (max (types_depth ds) (type_depth r))) (omega arith)
      (slack_fits (slack_params ps w.0)
      (bracketed_then (opening "[") (closing "]") (codes "[") (codes "]") (λ q. refl) (λ q. refl) (listed (rule type_rule)) (inside (rule type_rule)) (types ds) (type r) (types_depth ds) (suc (type_depth r))
      (fit_types ds w.1 w.2) (loosely (fit_inside (rule type_rule) (type r) (type_depth r) (fit_type r w.3))))))))))

  fit_types : (ts : Tys) → IsTrue (some_types ts) → AreWrittenTypes ts → Fit (listed (rule type_rule)) (types ts) (types_depth ts)
  fit_types no_tys s w = absurd (cc)
  fit_types (ty t ts) s w = seq (fit_type t w.0) (slack_more_types ts w.1)

  slack_more_types : (ts : Tys) → AreWrittenTypes ts → Slack (many (the "," ⨟ rule type_rule)) (more_types ts) (types_depth ts)
  slack_more_types no_tys w = slack_none (the "," ⨟ rule type_rule)
  slack_more_types (ty t ts) w =
      slack_less (many (the "," ⨟ rule type_rule)) (more_types (ty t ts)) (max (max 0 (type_depth t)) (types_depth ts)) (types_depth (ty t ts)) (omega arith)
      (once_more (seq_fits (fit_text (closing ",") (codes ",") (λ q. refl)) (fit_type t w.0)) (slack_more_types ts w.1))
