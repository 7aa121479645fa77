-- Where reading stops before a sign, no production on the way goes on with it.
use Rattle.std.specs.Prelude.{◌≡◌, ℕ, ◌<◌, ◌≤◌, nat_lt, Bool, true, false, not, ◌||◌, List, IsTrue, Option, Some, None}
use Rattle.std.proofs.Common.{refl, ap, subst, arith}
use Rattle.std.proofs.lemmas.Bool.Decides.{nat_tests}
use Rattle.bpl_grammar.proofs.Booleans.{and_both as both_too, neither as either_no, and_parts as both_true, no_not}
use Rattle.bv_base.specs.declared.place.Place.{Place}
use Rattle.bpl_ast.specs.Tree.{expr, Node, number, truth, variable, apply, old, choose, quantified, iffs, implies, ands, ors, related, sums, products, negation, minus, indexed}
use Rattle.canonical_text.specs.declared.level.Level.{Level}
use Rattle.canonical_text.specs.declared.level.Level.TheVariants.{Equivalence, Implication, Junction, Comparison, Sum, Product, Unary, Postfix, Atom}
use Rattle.canonical_text.specs.Level.{rank, is_looser}
use Rattle.canonical_text.specs.Parens.{level, goes_on, chain_of, compared, is_caught, needs_parens}
use Rattle.canonical_text.specs.declared.sign.Sign.{Sign}
use Rattle.canonical_text.specs.declared.sign.Sign.TheVariants.{IffSign, ImpliesSign, AndSign, OrSign, RelationSign, TermSign, FactorSign, IndexSign}
use Rattle.canonical_text.specs.declared.sign.Chain.{Chain}
use Rattle.canonical_text.specs.declared.sign.Chain.TheVariants.{NoChain}
use Rattle.bpl_grammar.specs.Lexeme.{Lexeme}
use Rattle.canonical_text.specs.Ahead.{sign_level, sees_text, sees_sign, is_sign, only, ahead, stops, stops_operand}
use Rattle.canonical_text.proofs.Ranks.{looser, not_looser, is_looser_by}
use Rattle.canonical_text.proofs.Levels.{is_passed}

-- not a sign of this level
abbrev pub Differs : Level → Option Sign → Type 0
Differs k None = Unit {0}
Differs k (Some q) = sign_level q ≡ k → ⊥

-- what is ahead, taken apart
pub record IsAhead (s : Option Sign) (us : List Lexeme) : Type 0 where
  pub iff : IsTrue (only (is_sign IffSign s) (sees_sign IffSign us))
  pub implies : IsTrue (only (is_sign ImpliesSign s) (sees_sign ImpliesSign us))
  pub conjunct : IsTrue (only (is_sign AndSign s) (sees_sign AndSign us))
  pub disjunct : IsTrue (only (is_sign OrSign s) (sees_sign OrSign us))
  pub relation : IsTrue (only (is_sign RelationSign s) (sees_sign RelationSign us))
  pub term : IsTrue (only (is_sign TermSign s) (sees_sign TermSign us))
  pub factor : IsTrue (only (is_sign FactorSign s) (sees_sign FactorSign us))
  pub index : IsTrue (only (is_sign IndexSign s) (sees_sign IndexSign us))
  pub call : IsTrue (not (sees_text "(" us))

pub is_ahead : (s : Option Sign) (us : List Lexeme) → IsTrue (ahead s us) → IsAhead s us
is_ahead s us h =
    let a = both_true _ _ h in
    let b = both_true _ _ a.0 in
    let c = both_true _ _ b.0 in
    let d = both_true _ _ c.0 in
    let e = both_true _ _ d.0 in
    let f = both_true _ _ e.0 in
    let g = both_true _ _ f.0 in
    let i = both_true _ _ g.0 in
    record { iff = i.0; implies = i.1; conjunct = g.1; disjunct = f.1; relation = e.1; term = d.1; factor = c.1; index = b.1; call = a.1 }

pub only_no : (b c : Bool) → b ≡ false → IsTrue (only b c) → IsTrue (not c)
only_no true c e h = absurd (cc)
only_no false c e h = h

pub unseen : (b c : Bool) → b ≡ false → IsTrue (only b c) → c ≡ false
unseen b c e h = no_not c (only_no b c e h)

-- a sign of another level isn't next
no_sign : (q : Sign) (s : Option Sign) → Differs (sign_level q) s → is_sign q s ≡ false
no_sign IffSign (Some IffSign) d = absurd (d refl)
no_sign ImpliesSign (Some ImpliesSign) d = absurd (d refl)
no_sign AndSign (Some AndSign) d = absurd (d refl)
no_sign OrSign (Some OrSign) d = absurd (d refl)
no_sign RelationSign (Some RelationSign) d = absurd (d refl)
no_sign TermSign (Some TermSign) d = absurd (d refl)
no_sign FactorSign (Some FactorSign) d = absurd (d refl)
no_sign IndexSign (Some IndexSign) d = absurd (d refl)
no_sign q s d = refl

-- a production of another level doesn't go on with it
pub passed : (k : Level) (s : Option Sign) (us : List Lexeme) → IsTrue (ahead s us) → Differs k s → IsTrue (is_passed k us)
passed Equivalence s us h d = only_no _ _ (no_sign IffSign s d) (is_ahead s us h).iff
passed Implication s us h d = only_no _ _ (no_sign ImpliesSign s d) (is_ahead s us h).implies
passed Junction s us h d =
    let a = is_ahead s us h in
    both_too _ _ (only_no _ _ (no_sign AndSign s d) a.conjunct) (only_no _ _ (no_sign OrSign s d) a.disjunct)
passed Comparison s us h d = only_no _ _ (no_sign RelationSign s d) (is_ahead s us h).relation
passed Sum s us h d = only_no _ _ (no_sign TermSign s d) (is_ahead s us h).term
passed Product s us h d = only_no _ _ (no_sign FactorSign s d) (is_ahead s us h).factor
passed Unary s us h d = refl
passed Postfix s us h d = only_no _ _ (no_sign IndexSign s d) (is_ahead s us h).index
passed Atom s us h d = refl

pub none_goes : (q : Sign) → goes_on q NoChain false ≡ false → ⊥
none_goes IffSign h = cc
none_goes ImpliesSign h = cc
none_goes AndSign h = cc
none_goes OrSign h = cc
none_goes RelationSign h = cc
none_goes TermSign h = cc
none_goes FactorSign h = cc
none_goes IndexSign h = cc

above_iff : (q : Sign) (c : Chain) (b : Bool) → goes_on q c b ≡ false → rank Junction ≤ rank (sign_level q)
above_iff IffSign c b h = absurd (cc)
above_iff ImpliesSign c b h = absurd (cc)
above_iff AndSign c b h = omega arith
above_iff OrSign c b h = omega arith
above_iff RelationSign c b h = omega arith
above_iff TermSign c b h = omega arith
above_iff FactorSign c b h = omega arith
above_iff IndexSign c b h = omega arith

above_and : (q : Sign) (b : Bool) → goes_on q NoChain b ≡ false → rank Comparison ≤ rank (sign_level q)
above_and IffSign b h = absurd (cc)
above_and ImpliesSign b h = absurd (cc)
above_and AndSign b h = absurd (cc)
above_and OrSign b h = absurd (cc)
above_and RelationSign b h = omega arith
above_and TermSign b h = omega arith
above_and FactorSign b h = omega arith
above_and IndexSign b h = omega arith

-- where a node can't go on with the sign, its own level is no higher than the sign's
level_below : (q : Sign) (n : Node) → goes_on q (chain_of n) (compared n) ≡ false → rank (level n) ≤ rank (sign_level q)
level_below q (number n) h = absurd (none_goes q h)
level_below q (truth b) h = absurd (none_goes q h)
level_below q (variable n) h = absurd (none_goes q h)
level_below q (apply n xs) h = absurd (none_goes q h)
level_below q (old p x) h = absurd (none_goes q h)
level_below q (choose c x y) h = absurd (none_goes q h)
level_below q (quantified o p ps gs rs x) h = absurd (none_goes q h)
level_below q (iffs xs) h = omega arith
level_below q (implies xs) h = omega (arith, above_iff q _ _ h)
level_below q (ands xs) h = above_iff q _ _ h
level_below q (ors xs) h = above_iff q _ _ h
level_below q (related o x y) h = above_and q _ h
level_below q (sums x ts) h = absurd (none_goes q h)
level_below q (products xs) h = absurd (none_goes q h)
level_below q (negation x) h = absurd (none_goes q h)
level_below q (minus x) h = absurd (none_goes q h)
level_below q (indexed x is) h = absurd (none_goes q h)

pub lt_true : (m n : ℕ) → nat_lt m n ≡ true → m < n
lt_true m n h = grind (arith, nat_tests)

pub lt_false : (m n : ℕ) → nat_lt m n ≡ false → n ≤ m
lt_false m n h = grind (arith, nat_tests)

apart : (v w : Level) → rank v < rank w → v ≡ w → ⊥
apart v w h e = omega (arith, h, ap rank e)

apart_too : (v w : Level) → rank w < rank v → v ≡ w → ⊥
apart_too v w h e = omega (arith, h, ap rank e)

sum_differs : (w k l : Level) (q : Sign) (b g : Bool) → is_looser (sign_level q) w ≡ b → (g ≡ false → rank l ≤ rank (sign_level q)) → IsTrue (b || not g) → rank w ≤ rank k → rank k < rank l → sign_level q ≡ k → ⊥
sum_differs w k l q true g e f h a c = apart (sign_level q) k (below (looser (sign_level q) w e))
  where
    below : rank (sign_level q) < rank w → rank (sign_level q) < rank k
    below d = omega arith
sum_differs w k l q false g e f h a c = apart_too (sign_level q) k (higher (f (no_not g h)))
  where
    higher : rank l ≤ rank (sign_level q) → rank k < rank (sign_level q)
    higher d = omega arith

-- no production between the level where the node stands and its own goes on with the sign
pub stops_differs : (w k : Level) (s : Option Sign) (n : Node) → IsTrue (stops w s n) → rank w ≤ rank k → rank k < rank (level n) → Differs k s
stops_differs w k None n h a b = tt
stops_differs w k (Some q) n h a b = sum_differs w k (level n) q (is_looser (sign_level q) w) (goes_on q (chain_of n) (compared n)) refl (level_below q n) h a b

-- an operand in parentheses

no_operand : (w : Level) (q : Sign) (b : Bool) → is_looser (sign_level q) w ≡ b → IsTrue (b || not (goes_on q NoChain false)) → rank (sign_level q) < rank w
no_operand w q true e h = looser (sign_level q) w e
no_operand w q false e h = absurd (none_goes q (no_not _ h))

caught_alone : (w : Level) (q : Sign) (n : Node) → is_caught (Some q) n ≡ true → IsTrue (is_looser (sign_level q) w || not (goes_on q (chain_of n) (compared n))) → rank (sign_level q) < rank w
caught_alone w q (number n) c h = absurd (cc)
caught_alone w q (truth b) c h = absurd (cc)
caught_alone w q (variable n) c h = absurd (cc)
caught_alone w q (apply n xs) c h = absurd (cc)
caught_alone w q (old p x) c h = absurd (cc)
caught_alone w q (choose d x y) c h = no_operand w q (is_looser (sign_level q) w) refl h
caught_alone w q (quantified o p ps gs rs x) c h = absurd (cc)
caught_alone w q (iffs xs) c h = absurd (cc)
caught_alone w q (implies xs) c h = absurd (cc)
caught_alone w q (ands xs) c h = absurd (cc)
caught_alone w q (ors xs) c h = absurd (cc)
caught_alone w q (related o x y) c h = absurd (cc)
caught_alone w q (sums x ts) c h = absurd (cc)
caught_alone w q (products xs) c h = absurd (cc)
caught_alone w q (negation x) c h = absurd (cc)
caught_alone w q (minus x) c h = absurd (cc)
caught_alone w q (indexed x is) c h = absurd (cc)

-- by whether the operand stands in parentheses
abbrev stops_by : Level → Sign → Node → Bool → Bool
stops_by w q n b = is_looser (sign_level q) w || not (goes_on q (elim b [ true ↦ NoChain | false ↦ chain_of n ]) (elim b [ true ↦ false | false ↦ compared n ]))

operand_below : (w : Level) (q : Sign) (p : Place) (n : Node) (b : Bool) → is_looser (level n) w ≡ b → (b || is_caught (Some q) n) ≡ true → IsTrue (stops_operand w (Some q) (expr p n)) → rank (sign_level q) < rank w
operand_below w q p n true e c h = no_operand w q (is_looser (sign_level q) w) refl (subst (λ b. IsTrue (stops_by w q n b)) e h)
operand_below w q p n false e c h = caught_alone w q n c (subst (λ b. IsTrue (stops_by w q n b)) e h)

pub parens_differ : (w k : Level) (s : Option Sign) (p : Place) (n : Node) → needs_parens w s n ≡ true → IsTrue (stops_operand w s (expr p n)) → rank w ≤ rank k → Differs k s
parens_differ w k None p n e h a = tt
parens_differ w k (Some q) p n e h a = apart (sign_level q) k (below (operand_below w q p n (is_looser (level n) w) refl e h))
  where
    below : rank (sign_level q) < rank w → rank (sign_level q) < rank k
    below d = omega arith

-- an operand without them

pub record IsPlain (w : Level) (s : Option Sign) (n : Node) : Type 0 where
  pub within : rank w ≤ rank (level n)
  pub uncaught : is_caught s n ≡ false
  pub halts : IsTrue (stops w s n)
  pub halts_there : IsTrue (stops (level n) s n)

plain_stops : (w : Level) (s : Option Sign) (p : Place) (n : Node) → is_looser (level n) w ≡ false → IsTrue (stops_operand w s (expr p n)) → IsTrue (stops w s n)
plain_stops w None p n e h = refl
plain_stops w (Some q) p n e h = subst (λ b. IsTrue (stops_by w q n b)) e h

wider : (w l : Level) (q : Sign) (b g : Bool) → is_looser (sign_level q) w ≡ b → rank w ≤ rank l → IsTrue (b || g) → IsTrue (is_looser (sign_level q) l || g)
wider w l q true g e a h = rw (is_looser_by (sign_level q) l (below (looser (sign_level q) w e))) refl
  where
    below : rank (sign_level q) < rank w → rank (sign_level q) < rank l
    below d = omega arith
wider w l q false true e a h = or_yes (is_looser (sign_level q) l)
  where
    or_yes : (b : Bool) → IsTrue (b || true)
    or_yes true = refl
    or_yes false = refl
wider w l q false false e a h = absurd (cc)

pub stops_wider : (w l : Level) (s : Option Sign) (n : Node) → rank w ≤ rank l → IsTrue (stops w s n) → IsTrue (stops l s n)
stops_wider w l None n a h = refl
stops_wider w l (Some q) n a h = wider w l q (is_looser (sign_level q) w) (not (goes_on q (chain_of n) (compared n))) refl a h

pub is_plain : (w : Level) (s : Option Sign) (p : Place) (n : Node) → needs_parens w s n ≡ false → IsTrue (stops_operand w s (expr p n)) → IsPlain w s n
is_plain w s p n e h =
    let q = either_no _ _ e in
    let a = not_looser (level n) w q.0 in
    let b = plain_stops w s p n q.0 h in
    record { within = a; uncaught = q.1; halts = b; halts_there = stops_wider w (level n) s n a b }
