-- A term has one value for all values of the variables that neither it nor a definition mentions.
use Rattle.std.proofs.Common.{◌≡◌, ◌∙◌, refl, ℕ, ◌+◌, pos, ℤ, nat_eq, eq-eqb, Bool, true, false, ◌||◌, IsTrue, List, [], ◌∷◌, ◌++◌, reverse}
use Rattle.std.specs.List.{list_any}
use Rattle.logic_core.proofs.Booleans.{or_first, or_second}
use Rattle.logic_core.specs.Tree.{Tree, num, truth, free, bound, linear, mul, read, write, choose, call, negation, all, some, equal, at_most, for_all, exists, Trees, no_trees, tree, Parts, no_parts, part, Patterns}
use Rattle.logic_core.specs.Def.{Def}
use Rattle.logic_core.specs.Value.{Value, whole, holds, at}
use Rattle.logic_core.specs.Meaning.{With, Holds}
use Rattle.logic_core.specs.Valid.{Calls, with_def, calls_from, calls_of}
use Rattle.logic_core.specs.Same.{same_term}
use Rattle.logic_core.specs.Subterm.{has_any, has_part, has_pattern, occurs}
use Rattle.logic_core.proofs.Values.{HasOne, one, chosen, has_value}
use Rattle.logic_core.proofs.Kept.{Keeps, true_stable, keeps_if, keeps}
use Rattle.logic_core.proofs.Replaced.{Same}
use Rattle.logic_core.proofs.Defined.{has_defined, keeps_defined}
use Rattle.logic_laws.specs.VariableLaws.{mentions}
use Rattle.logic_laws.proofs.SameValue.{value_stable}
use Rattle.logic_laws.proofs.Gives.{decided_every, decided_some, if_map, Gives, GivesEach, GivesEvery, GivesAny, GivesSum, same_values}

-- each value that a call has here, it has there
abbrev AllCalls : Calls → Calls → Type 0
AllCalls calls calls' = (f : ℕ) (vs : List Value) (r : Value) → calls f vs (λ v. v ≡ r) → calls' f vs (λ v. v ≡ r)

module _ (frees frees' : List Value) where
  -- the same value for each variable that passes
  abbrev AgreeOn : (ℕ → Bool) → Type 0
  AgreeOn p = (v : ℕ) → p v ≡ true → at frees v ≡ at frees' v

  abbrev AgreeIn : Tree → Type 0
  AgreeIn t = AgreeOn (λ v. occurs (free v) t)

  abbrev AgreeInAny : Trees → Type 0
  AgreeInAny ts = AgreeOn (λ v. has_any (same_term (free v)) ts)

  abbrev AgreeInParts : Parts → Type 0
  AgreeInParts ps = AgreeOn (λ v. has_part (same_term (free v)) ps)

  on_first : (p q : ℕ → Bool) → AgreeOn (λ v. p v || q v) → AgreeOn p
  on_first p q a v e = a v (or_first (p v) (q v) e)

  on_second : (p q : ℕ → Bool) → AgreeOn (λ v. p v || q v) → AgreeOn q
  on_second p q a v e = a v (or_second (p v) (q v) e)

  -- of two and of three parts
  in_first : (x y : Tree) → AgreeOn (λ v. occurs (free v) x || occurs (free v) y) → AgreeIn x
  in_first x y a = on_first (λ v. occurs (free v) x) (λ v. occurs (free v) y) a

  in_second : (x y : Tree) → AgreeOn (λ v. occurs (free v) x || occurs (free v) y) → AgreeIn y
  in_second x y a = on_second (λ v. occurs (free v) x) (λ v. occurs (free v) y) a

  in_one : (x y z : Tree) → AgreeOn (λ v. occurs (free v) x || (occurs (free v) y || occurs (free v) z)) → AgreeIn x
  in_one x y z a = on_first (λ v. occurs (free v) x) (λ v. occurs (free v) y || occurs (free v) z) a

  in_others : (x y z : Tree) → AgreeOn (λ v. occurs (free v) x || (occurs (free v) y || occurs (free v) z)) → AgreeOn (λ v. occurs (free v) y || occurs (free v) z)
  in_others x y z a = on_second (λ v. occurs (free v) x) (λ v. occurs (free v) y || occurs (free v) z) a

  in_head : (t : Tree) (ts : Trees) → AgreeInAny (tree t ts) → AgreeIn t
  in_head t ts a = on_first (λ v. occurs (free v) t) (λ v. has_any (same_term (free v)) ts) a

  in_tail : (t : Tree) (ts : Trees) → AgreeInAny (tree t ts) → AgreeInAny ts
  in_tail t ts a = on_second (λ v. occurs (free v) t) (λ v. has_any (same_term (free v)) ts) a

  in_atom : (k : ℤ) (t : Tree) (ps : Parts) → AgreeInParts (part k t ps) → AgreeIn t
  in_atom k t ps a = on_first (λ v. occurs (free v) t) (λ v. has_part (same_term (free v)) ps) a

  in_other_parts : (k : ℤ) (t : Tree) (ps : Parts) → AgreeInParts (part k t ps) → AgreeInParts ps
  in_other_parts k t ps a = on_second (λ v. occurs (free v) t) (λ v. has_part (same_term (free v)) ps) a

  in_body : (ps : Patterns) (t : Tree) → AgreeOn (λ v. has_pattern (same_term (free v)) ps || occurs (free v) t) → AgreeIn t
  in_body ps t a = on_second (λ v. has_pattern (same_term (free v)) ps) (λ v. occurs (free v) t) a

  module _ (calls : Calls) (has_call : (f : ℕ) (vs : List Value) → HasOne (calls f vs)) (keeps_call : (f : ℕ) (vs : List Value) → Keeps (calls f vs))
      (calls' : Calls) (has_call' : (f : ℕ) (vs : List Value) → HasOne (calls' f vs)) (keeps_call' : (f : ℕ) (vs : List Value) → Keeps (calls' f vs)) (same_calls : AllCalls calls calls') where
    holds_alike : (t : Tree) (b : List Value) → ((r : Value) → Gives frees calls t b r → Gives frees' calls' t b r) → (Holds frees calls t b → Holds frees' calls' t b) × (Holds frees' calls' t b → Holds frees calls t b)
    holds_alike t b f = same_values frees calls has_call keeps_call frees' calls' has_call' keeps_call' t t b b f (λ v. IsTrue (holds v)) (λ v. true_stable (holds v))

    mutual
      pub gives_mentioned : (t : Tree) (b : List Value) (r : Value) → AgreeIn t → Gives frees calls t b r → Gives frees' calls' t b r
      gives_mentioned (num n) b r a g = g
      gives_mentioned (truth x) b r a g = g
      gives_mentioned (free v) b r a g = g ∙ a v (eq-eqb v v refl)
      gives_mentioned (bound v) b r a g = g
      gives_mentioned (linear ps c) b r a g = (g.0, sum_mentioned ps b g.0 a g.1, g.2)
      gives_mentioned (mul x y) b r a g = (g.0, g.1, gives_mentioned x b g.0 (in_first x y a) g.2, gives_mentioned y b g.1 (in_second x y a) g.3, g.4)
      gives_mentioned (read x y) b r a g = (g.0, g.1, gives_mentioned x b g.0 (in_first x y a) g.2, gives_mentioned y b g.1 (in_second x y a) g.3, g.4)
      gives_mentioned (write x y z) b r a g = let o = in_others x y z a in
          (g.0, g.1, g.2, gives_mentioned x b g.0 (in_one x y z a) g.3, gives_mentioned y b g.1 (in_first y z o) g.4, gives_mentioned z b g.2 (in_second y z o) g.5, g.6)
      gives_mentioned (choose x y z) b r a g = let o = in_others x y z a in
          (g.0, gives_mentioned x b g.0 (in_one x y z a) g.1, if_map (holds g.0) (Gives frees calls y b r) (Gives frees calls z b r) (Gives frees' calls' y b r) (Gives frees' calls' z b r) (gives_mentioned y b r (in_first y z o)) (gives_mentioned z b r (in_second y z o)) g.2)
      gives_mentioned (call n ts) b r a g = (g.0, each_mentioned ts b g.0 a g.1, same_calls n g.0 r g.2)
      gives_mentioned (negation x) b r a g = (g.0, gives_mentioned x b g.0 a g.1, g.2)
      gives_mentioned (all ts) b r a g = (g.0, every_mentioned ts b g.0 a g.1, g.2)
      gives_mentioned (some ts) b r a g = (g.0, any_mentioned ts b g.0 a g.1, g.2)
      gives_mentioned (equal x y) b r a g = (g.0, g.1, gives_mentioned x b g.0 (in_first x y a) g.2, gives_mentioned y b g.1 (in_second x y a) g.3, g.4)
      gives_mentioned (at_most x y) b r a g = (g.0, g.1, gives_mentioned x b g.0 (in_first x y a) g.2, gives_mentioned y b g.1 (in_second x y a) g.3, g.4)
      gives_mentioned (for_all ss ps t) b r a g = decided_every ss (λ vs. Holds frees calls t (reverse vs ++ b)) (λ vs. Holds frees' calls' t (reverse vs ++ b)) r
          (λ vs h. holds_alike t (reverse vs ++ b) (λ v w. gives_mentioned t (reverse vs ++ b) v (in_body ps t a) w)) g
      gives_mentioned (exists ss ps t) b r a g = decided_some ss (λ vs. Holds frees calls t (reverse vs ++ b)) (λ vs. Holds frees' calls' t (reverse vs ++ b)) r
          (λ vs h. holds_alike t (reverse vs ++ b) (λ v w. gives_mentioned t (reverse vs ++ b) v (in_body ps t a) w)) g

      each_mentioned : (ts : Trees) (b vs : List Value) → AgreeInAny ts → GivesEach frees calls ts b vs → GivesEach frees' calls' ts b vs
      each_mentioned no_trees b vs a g = g
      each_mentioned (tree t ts) b vs a g = (g.0, g.1, gives_mentioned t b g.0 (in_head t ts a) g.2, each_mentioned ts b g.1 (in_tail t ts a) g.3, g.4)

      every_mentioned : (ts : Trees) (b : List Value) (h : Bool) → AgreeInAny ts → GivesEvery frees calls ts b h → GivesEvery frees' calls' ts b h
      every_mentioned no_trees b h a g = g
      every_mentioned (tree t ts) b h a g = (g.0, g.1, gives_mentioned t b g.0 (in_head t ts a) g.2, every_mentioned ts b g.1 (in_tail t ts a) g.3, g.4)

      any_mentioned : (ts : Trees) (b : List Value) (h : Bool) → AgreeInAny ts → GivesAny frees calls ts b h → GivesAny frees' calls' ts b h
      any_mentioned no_trees b h a g = g
      any_mentioned (tree t ts) b h a g = (g.0, g.1, gives_mentioned t b g.0 (in_head t ts a) g.2, any_mentioned ts b g.1 (in_tail t ts a) g.3, g.4)

      sum_mentioned : (ps : Parts) (b : List Value) (n : ℤ) → AgreeInParts ps → GivesSum frees calls ps b n → GivesSum frees' calls' ps b n
      sum_mentioned no_parts b n a g = g
      sum_mentioned (part k t ps) b n a g = (g.0, g.1, gives_mentioned t b g.0 (in_atom k t ps a) g.2, sum_mentioned ps b g.1 (in_other_parts k t ps a) g.3, g.4)

    pub same_mentioned : (t : Tree) (b : List Value) → AgreeIn t → Same (With frees calls t b) (With frees' calls' t b)
    same_mentioned t b a = same_values frees calls has_call keeps_call frees' calls' has_call' keeps_call' t t b b (λ r g. gives_mentioned t b r a g)

  -- the calls, where the bodies mention only variables on which both agree
  calls_mentioned : (ds : List Def) (n : ℕ) (calls calls' : Calls) → ((f : ℕ) (vs : List Value) → HasOne (calls f vs)) → ((f : ℕ) (vs : List Value) → Keeps (calls f vs)) → ((f : ℕ) (vs : List Value) → HasOne (calls' f vs)) → ((f : ℕ) (vs : List Value) → Keeps (calls' f vs))
      → AgreeOn (λ v. list_any (λ d. occurs (free v) d.body) ds) → AllCalls calls calls' → AllCalls (calls_from frees n ds calls) (calls_from frees' n ds calls')
  calls_mentioned [] n calls calls' has keep has' keep' a same = same
  calls_mentioned (d ∷ ds) n calls calls' has keep has' keep' a same =
      calls_mentioned ds (n + 1) (with_def frees n d calls) (with_def frees' n d calls')
      (λ f vs. chosen (nat_eq f n) (With frees calls d.body (reverse vs)) (calls f vs) (has_value frees calls has d.body (reverse vs)) (has f vs))
      (λ f vs. keeps_if (nat_eq f n) (With frees calls d.body (reverse vs)) (calls f vs) (keeps frees calls keep d.body (reverse vs)) (keep f vs))
      (λ f vs. chosen (nat_eq f n) (With frees' calls' d.body (reverse vs)) (calls' f vs) (has_value frees' calls' has' d.body (reverse vs)) (has' f vs))
      (λ f vs. keeps_if (nat_eq f n) (With frees' calls' d.body (reverse vs)) (calls' f vs) (keeps frees' calls' keep' d.body (reverse vs)) (keep' f vs))
      (on_second (λ v. occurs (free v) d.body) (λ v. list_any (λ c. occurs (free v) c.body) ds) a)
      (λ f vs r. if_map (nat_eq f n) (With frees calls d.body (reverse vs) (λ v. v ≡ r)) (calls f vs (λ v. v ≡ r)) (With frees' calls' d.body (reverse vs) (λ v. v ≡ r)) (calls' f vs (λ v. v ≡ r))
      (same_mentioned calls has keep calls' has' keep' same d.body (reverse vs) (on_first (λ v. occurs (free v) d.body) (λ v. list_any (λ c. occurs (free v) c.body) ds) a) (λ v. v ≡ r) (λ v. value_stable v r)).0
      (same f vs r))

  -- a term says the same where both agree on the variables that it and the definitions mention
  pub same_where_mentioned : (defs : List Def) (t : Tree) (b : List Value) → ((v : ℕ) → mentions defs t v ≡ true → at frees v ≡ at frees' v) → Same (With frees (calls_of frees defs) t b) (With frees' (calls_of frees' defs) t b)
  same_where_mentioned defs t b a = same_mentioned (calls_of frees defs) (has_defined frees defs) (keeps_defined frees defs) (calls_of frees' defs) (has_defined frees' defs) (keeps_defined frees' defs)
      (calls_mentioned defs 0 (λ f args P. P (whole (pos 0))) (λ f args P. P (whole (pos 0))) (λ f vs. one (whole (pos 0))) (λ f vs P s. s (whole (pos 0))) (λ f vs. one (whole (pos 0))) (λ f vs P s. s (whole (pos 0)))
      (on_second (λ v. occurs (free v) t) (λ v. list_any (λ d. occurs (free v) d.body) defs) a) (λ f vs r h. h))
      t b (on_first (λ v. occurs (free v) t) (λ v. list_any (λ d. occurs (free v) d.body) defs) a)
