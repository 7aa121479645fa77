-- What the marks say of a token: it lies too deep, or is a number that is too wide.
use Rattle.std.specs.Prelude.{◌≡◌, ℕ, ◌^◌, ◌<◌, ◌≤◌, nat_lt, Bool, true, false, not, ◌&&◌, [], ◌∷◌, IsTrue, Option, Some, None}
use Rattle.std.proofs.Common.{refl, arith}
use Rattle.bpl_lex.specs.Token.{number}
use Rattle.bpl_grammar.specs.Lexeme.{Lexeme, is_kind}
use Rattle.bpl_grammar.specs.Part.{Part}
use Rattle.bpl_grammar.specs.Nesting.{IsDeep, IsWide, value}
use Rattle.bpl_grammar.specs.Depth.{depth_of}
use Rattle.bpl_grammar.specs.Judge.{too_deep, too_wide}
use Rattle.bpl_grammar.proofs.DepthSound.{depth_lies}
use Rattle.bpl_grammar.proofs.DepthMost.{Reaches}
use Rattle.bpl_grammar.proofs.First.{lies_depth}

greater : (a n : ℕ) → IsTrue (nat_lt a n) → a < n
greater a n h = grind arith

not_greater : (a n : ℕ) → nat_lt a n ≡ false → n ≤ a
not_greater a n h = grind arith

not_less : (a n : ℕ) → n ≤ a → nat_lt a n ≡ false
not_less a n h = grind arith

pub deep_one : (t : Lexeme) (p : Part) → IsTrue (too_deep (depth_of t p)) → IsDeep p (t ∷ [])
deep_one t p h = found (depth_of t p) refl h
  where
    found : (o : Option ℕ) → depth_of t p ≡ o → IsTrue (too_deep o) → IsDeep p (t ∷ [])
    found None e h = absurd (cc)
    found (Some n) e h = (n, greater 200 n h, depth_lies t p n e)

pub shallow_one : (t : Lexeme) (p : Part) → too_deep (depth_of t p) ≡ false → IsDeep p (t ∷ []) → ⊥
shallow_one t p h d = found (depth_of t p) h (lies_depth t p d.0 d.2)
  where
    found : (o : Option ℕ) → too_deep o ≡ false → Reaches o d.0 → ⊥
    found None e r = r
    found (Some n) e r = omega (arith, r, not_greater 200 n e, d.1)

wide_parts : (a c : Bool) (v n : ℕ) → nat_lt v n ≡ c → IsTrue (a && not c) → IsTrue a × (n ≤ v)
wide_parts true true v n e h = absurd (cc)
wide_parts true false v n e h = (refl, not_greater v n e)
wide_parts false c v n e h = absurd (cc)

narrow_parts : (a : Bool) (v n : ℕ) → (a && not (nat_lt v n)) ≡ false → IsTrue a → n ≤ v → ⊥
narrow_parts true v n h i w =
    let e : nat_lt v n ≡ false = not_less v n w in
    absurd (cc)
narrow_parts false v n h i w = absurd (cc)

pub wide_one : (t : Lexeme) → IsTrue (too_wide t) → IsWide t
wide_one t h =
    let w = wide_parts (is_kind number t) (nat_lt (value t.spelling) (2 ^ 127)) (value t.spelling) (2 ^ 127) refl h in
    record { is_number = w.0; wide = w.1 }

pub narrow_one : (t : Lexeme) → too_wide t ≡ false → IsWide t → ⊥
narrow_one t h w = narrow_parts (is_kind number t) (value t.spelling) (2 ^ 127) h w.is_number w.wide
